use Rattle.std.proofs.Common.{◌∷◌, ◌++◌, List, ℕ, ap, ◌∙◌, append_assoc}
use Rattle.s10_core.specs.Id.{spelling_of}
use Rattle.s10_wire.specs.Datagrams.{u32_bytes}
use Rattle.s10_wire.proofs.encoders.put_drawn.Goals as goal

pub returns-clause-bytes : goal.returns-clause-bytes
returns-clause-bytes c =
    c.put_id.ensures.bytes ∙ ap (λ (t : List ℕ). t ++ spelling_of c.args.id)
    c.put_coded.ensures.bytes
    ∙ append_assoc c.args.frame.now (0 ∷ u32_bytes c.args.day) (spelling_of c.args.id)

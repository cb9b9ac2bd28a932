use Rattle.std.proofs.Common.{◌++◌, List, ℕ, ap, ◌∙◌, append_assoc}
use Rattle.s10_wire.specs.declared.body.Body.TheVariants.{Draw}
use Rattle.s10_wire.specs.Datagrams.{u32_bytes, fields}
use Rattle.s10_wire.proofs.encoders.put_grant.Goals as goal

pub returns-clause-bytes : goal.returns-clause-bytes
returns-clause-bytes c =
    let before : List ℕ = c.args.frame.now in
    let draw : List ℕ = fields (Draw c.args.service c.args.country) in
    let serials : List ℕ = u32_bytes c.args.first ++ u32_bytes c.args.last in
    c.put_serials.ensures.bytes
    ∙ ap (λ (l : List ℕ). l ++ serials) (c.put_draw.ensures.bytes ∙ ap (λ (l : List ℕ). l ++ draw)
    (c.put.ensures.bytes ∙ ap (λ (l : List ℕ). before ++ l) c.to_be_bytes.ensures)
    ∙ append_assoc before (u32_bytes c.args.holder) draw)
    ∙ append_assoc before (u32_bytes c.args.holder ++ draw) serials

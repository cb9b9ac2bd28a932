use Rattle.std.proofs.Common.{◌++◌, ℕ, List, length, ap₂}
use Rattle.std.proofs.lemmas.List.{drop-replicate}
use Rattle.s10_plain.proofs.lines.padded.Goals as goal

pub returns : goal.returns
returns c = ap₂ (λ (l m : List ℕ). l ++ m) c.copy_from_slice.ensures.after
    (drop-replicate (length c.args.text.now) 512 0)

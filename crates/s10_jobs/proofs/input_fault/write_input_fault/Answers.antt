use Rattle.std.proofs.Common.{[], ◌∷◌, refl}
use Rattle.std.specs.Prelude.{codes, decimal}
use Rattle.s10_lines.proofs.Writing.{Appends-then, words_then}
use Rattle.s10_jobs.proofs.input_fault.write_input_fault.Goals as goal

pub returns-in-Line : goal.returns-in-Line
returns-in-Line g c =
    let words = words_then _ _ _ (codes "line" ∷ []) (decimal c.in-Line.number ∷ [])
    c.in_ok-write_word-in-Line.ensures c.in_ok-write_decimal-in-Line.ensures in
    rw c.in-Line.is (
      refl,
      Appends-then _ _ _ _ _ (Appends-then _ _ _ _ _ c.in_ok-write_text-in-Line.ensures words)
          c.in_ok-write_text-in-Line-2.ensures,
    )

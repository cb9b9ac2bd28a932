use Rattle.std.proofs.Common.{[], ◌∷◌}
use Rattle.std.specs.Prelude.{codes, decimal}
use Rattle.s10_lines.proofs.Growing.{words_then}
use Rattle.s10_lines.proofs.lines.write_told.Goals as goal

pub returns-in-Unknown : goal.returns-in-Unknown
returns-in-Unknown c = rw c.in-Unknown.is (words_then _ _ _ (codes "done" ∷ [])
    (codes "unknown" ∷ []) c.add_word.ensures c.add_word-in-Unknown.ensures)

pub returns-in-Never : goal.returns-in-Never
returns-in-Never c = rw c.in-Never.is (words_then _ _ _ (codes "done" ∷ []) (codes "never" ∷ [])
    c.add_word.ensures c.add_word-in-Never.ensures)

pub returns-in-Issued : goal.returns-in-Issued
returns-in-Issued c = rw c.in-Issued.is (words_then _ _ _ (codes "done" ∷ [])
    (codes "issued" ∷ decimal c.in-Issued.day ∷ []) c.add_word.ensures c.write_named.ensures)

pub returns-in-Voided : goal.returns-in-Voided
returns-in-Voided c = rw c.in-Voided.is (words_then _ _ _ (codes "done" ∷ [])
    (codes "voided" ∷ decimal c.in-Voided.day ∷ []) c.add_word.ensures
    c.write_named-in-Voided.ensures)

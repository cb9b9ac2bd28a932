-- The rows of calls rise by arrival, as the statements require it.
use Rattle.std.proofs.Common.{◌≡◌, List, [], ◌∷◌}
use Rattle.std.specs.Ordering.{int_cmp}
use Rattle.std.specs.declared.cmp.Ordering.TheVariants.{Less}
use Rattle.sqlite_trees.specs.Tree.{IsAscending}
use Rattle.s10_history.specs.declared.entry.Entry.{Entry}
use Rattle.s10_replay.specs.Ascending as rows
use Rattle.s10_rows.specs.CallRow.{StoredCall}
use Rattle.s10_rows.specs.Tables.{call_rows}
use Rattle.s10_replay.proofs.Rising as rows_rising

ascending : {X : Type 0} (R : X → X → Type 0) (xs : List X) → rows.IsAscending R xs
    → IsAscending R xs
ascending R [] up = tt
ascending R (x ∷ xs) up = (up.0, ascending R xs up.1)

-- The rows of calls rise by arrival.
pub call_rows_rise : (h : List Entry)
    → IsAscending (λ (a b : StoredCall). int_cmp a.arrival b.arrival ≡ Less) (call_rows h)
call_rows_rise h = ascending _ (call_rows h) (rows_rising.call_rows_rise h)

-- What a book in memory of the same calls says of the rows.
use Rattle.std.proofs.Common.{◌≡◌, Bool, IsTrue, List, subst}
use Rattle.std.specs.Prelude.{◌↔◌}
use Rattle.s10_history.specs.declared.entry.Entry.{Entry}
use Rattle.s10_rows.specs.Tables.{HaveSameRows}

-- What is true of the kept calls is true of the calls of the rows.
pub restored : {R : Type 0} (made : List Entry → List R) (rows : List R) (b : Bool)
    (h kept : List Entry) → h ≡ kept → (IsTrue b ↔ HaveSameRows (made h) rows) → IsTrue b
    ↔ HaveSameRows (made kept) rows
restored made rows b h kept same is = subst (λ l. IsTrue b ↔ HaveSameRows (made l) rows) same is

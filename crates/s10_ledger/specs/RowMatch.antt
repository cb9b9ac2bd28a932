-- Defines when rows of a table match those of a book.
use Rattle.std.specs.Prelude.{◌≡◌, ◌↔◌, ◌+◌, ◌≤◌, List, [], length, All, Contains, Ok, IsTrue, None}
use Rattle.std.specs.List.{last_or}
use Rattle.std.specs.declared.cmp.Ordering.{Ordering}
use Rattle.std.specs.declared.cmp.Ordering.TheVariants.{Less}
use Rattle.s10_history.specs.declared.entry.Entry.{Entry}
use Rattle.s10_replay.specs.Ascending.{IsAscending}
use Rattle.s10_index.specs.declared.indexed_book.IndexedBook.{IndexedBook}
use Rattle.s10_ledger.specs.declared.opening.row_match.RowMatch.{RowMatch}

-- The rows match the made ones if they rise, each is one of these, and there are at most as many.
-- As long as they do, what is left and the last row are known.
pub record IsMatchOf {R : Type 0} (cmp : R → R → Ordering) (made rows : List R) (m : RowMatch R) :
    Type 0 where
  pub verdict : IsTrue m.is_match ↔ (IsAscending (λ a b. cmp a b ≡ Less) rows
      × All (Contains made) rows × (length rows ≤ length made))
  pub left : IsTrue m.is_match → m.left + length rows ≡ length made
  pub last : IsTrue m.is_match → m.last ≡ last_or None rows

-- The second comparison is the first one after it took these rows.
pub record HasTakenRows {R : Type 0} (rows_of : List Entry → List R) (cmp : R → R → Ordering)
    (start : RowMatch R) (rows : List R) (now : RowMatch R) : Type 0 where
  pub made : now.made ≡ start.made
  pub matched : (book : IndexedBook) → start.made.now ≡ Ok book
      → IsMatchOf cmp (rows_of book.index.entries.items) [] start
      → IsMatchOf cmp (rows_of book.index.entries.items) rows now

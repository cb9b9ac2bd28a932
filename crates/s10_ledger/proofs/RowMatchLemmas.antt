-- Whether the rows of a table still match with one more.
use Rattle.std.proofs.Common.{◌≡◌, ◌↔◌, ◌∙◌, ◌+◌, ◌≤◌, ◌<◌, Bool, false, List, [], ◌∷◌, ◌++◌}
use Rattle.std.proofs.Common.{length, Option, Some, None, Result, Ok, Err, IfOk, IsTrue, sym}
use Rattle.std.proofs.Common.{ap, subst, arith, Ordering, is_eq}
use Rattle.std.specs.Cmp.{IsTotalOrder}
use Rattle.std.specs.Prelude.{All, Contains, IfSome}
use Rattle.std.specs.List.{last_or, AllByRecursion}
use Rattle.std.specs.declared.cmp.Ordering.TheVariants.{Less}
use Rattle.std.proofs.lemmas.List.{length_push}
use Rattle.std.proofs.lemmas.Bool.{both_ways}
use Rattle.std.proofs.lemmas.List.Elements.{All-push, recursion_from_All}
use Rattle.std.proofs.lemmas.List.Elements.{All-from_recursion}
use Rattle.s10_history.proofs.Issued.{last_or-push}
use Rattle.s10_replay.proofs.Compared.{same_where_matched}
use Rattle.s10_history.specs.declared.entry.Entry.{Entry}
use Rattle.s10_history.specs.Settings.{Terms}
use Rattle.s10_book.specs.Rules.{IsLegal}
use Rattle.s10_rows.specs.Selected.{IsCall}
use Rattle.s10_ledger.specs.AllRows.{IsVerdictOn}
use Rattle.sqlite_trees.specs.Tree as tree
use Rattle.std.specs.Prelude.{◌≢◌}
use Rattle.std.specs.declared.cmp.Ordering.TheVariants.{Greater}
use Rattle.s10_rows.specs.declared.open_fault.OpenFault.{OpenFault}
use Rattle.s10_replay.specs.Ascending.{IsAscending}
use Rattle.s10_index.specs.declared.indexed_book.IndexedBook.{IndexedBook}
use Rattle.s10_ledger.specs.declared.opening.row_match.RowMatch.{RowMatch}
use Rattle.s10_ledger.specs.RowMatch.{IsMatchOf, HasTakenRows}

module _ {R : Type 0} (cmp : R → R → Ordering) (total : IsTotalOrder cmp) where
  -- Rows that rise, with one more at the end.

  abbrev Rises : List R → Type 0
  Rises = IsAscending (λ a b. cmp a b ≡ Less)

  abbrev Below : R → R → Type 0
  Below row l = cmp l row ≡ Less

  all_below : (row x : R) (xs : List R) → Rises (x ∷ xs)
      → IfSome (last_or (Some x) xs) (Below row) → AllByRecursion (Below row) (x ∷ xs)
  all_below row x [] up last = (last, tt)
  all_below row x (y ∷ ys) up last =
      let rest = all_below row y ys up.1 last in
      (total.trans x y row up.0.0 rest.0, rest)

  below_last : (row : R) (o : Option R) (xs : List R) → IfSome o (Below row)
      → AllByRecursion (Below row) xs → IfSome (last_or o xs) (Below row)
  below_last row o [] first all = first
  below_last row o (x ∷ xs) first all = below_last row (Some x) xs all.0 all.1

  all_pushed : (P : R → Type 0) (xs : List R) (row : R)
      → AllByRecursion P xs → P row → AllByRecursion P (xs ++ row ∷ [])
  all_pushed P [] row all here = (here, tt)
  all_pushed P (x ∷ xs) row all here = (all.0, all_pushed P xs row all.1 here)

  all_before : (P : R → Type 0) (xs : List R) (row : R)
      → AllByRecursion P (xs ++ row ∷ []) → AllByRecursion P xs × P row
  all_before P [] row all = (tt, all.0)
  all_before P (x ∷ xs) row all = let rest = all_before P xs row all.1 in ((all.0, rest.0), rest.1)

  rises_pushed : (xs : List R) (row : R) → Rises xs → AllByRecursion (Below row) xs
      → Rises (xs ++ row ∷ [])
  rises_pushed [] row up below = (tt, tt)
  rises_pushed (x ∷ xs) row up below = (
    all_pushed (λ y. cmp x y ≡ Less) xs row up.0 below.0,
    rises_pushed xs row up.1 below.1,
  )

  rises_before : (xs : List R) (row : R) → Rises (xs ++ row ∷ [])
      → Rises xs × AllByRecursion (Below row) xs
  rises_before [] row up = (tt, tt)
  rises_before (x ∷ xs) row up =
      let here = all_before (λ y. cmp x y ≡ Less) xs row up.0 in
      let rest = rises_before xs row up.1 in
      ((here.0, rest.0), (here.1, rest.1))

  below_from_last : (row : R) (xs : List R) → Rises xs
      → IfSome (last_or None xs) (Below row) → AllByRecursion (Below row) xs
  below_from_last row [] up last = tt
  below_from_last row (x ∷ xs) up last = all_below row x xs up last

  -- The rows match with one more.
  pub next_match : (made rows : List R) (row : R) (old new : RowMatch R)
      → IsMatchOf cmp made rows old → IsTrue old.is_match → 0 < old.left
      → IfSome old.last (λ l. cmp l row ≡ Less) → Contains made row
      → new.is_match ≡ old.is_match → new.left + 1 ≡ old.left → new.last ≡ Some row
      → IsMatchOf cmp made (rows ++ row ∷ []) new
  next_match made rows row old new so_far is some above there same less last =
      let was = so_far.verdict.0 is in
      let more : length (rows ++ row ∷ []) ≡ length rows + 1 = length_push rows row in
      let below = below_from_last row rows was.0
      (subst (λ o. IfSome o (Below row)) (so_far.last is) above) in
      record {
        verdict = (
          λ t. (
            rises_pushed rows row was.0 below,
            All-push (Contains made) rows row was.1 there,
            omega (arith, more, less, so_far.left is),
          ),
          λ all. subst IsTrue (sym same) is,
        );
        left = λ t. omega (arith, more, less, so_far.left is);
        last = λ t. last ∙ sym (last_or-push None rows row);
      }

  -- The rows do not match with one more.
  pub no_match : (made rows : List R) (row : R) (old new : RowMatch R)
      → IsMatchOf cmp made rows old
      → ¬ (IsTrue old.is_match × (0 < old.left) × IfSome old.last (λ l. cmp l row ≡ Less)
      × Contains made row)
      → new.is_match ≡ false → IsMatchOf cmp made (rows ++ row ∷ []) new
  no_match made rows row old new so_far other is = record {
    verdict = (
      λ t. absurd (both_ways new.is_match is t),
      λ all. absurd (other (matched all)),
    );
    left = λ t. absurd (both_ways new.is_match is t);
    last = λ t. absurd (both_ways new.is_match is t);
  }
    where
      more : length (rows ++ row ∷ []) ≡ length rows + 1
      more = length_push rows row

      matched : Rises (rows ++ row ∷ []) × All (Contains made) (rows ++ row ∷ [])
          × (length (rows ++ row ∷ []) ≤ length made)
          → IsTrue old.is_match × (0 < old.left)
          × IfSome old.last (λ l. cmp l row ≡ Less) × Contains made row
      matched all =
          let up = rises_before rows row all.0 in
          let each = all_before (Contains made) rows row
          (recursion_from_All (Contains made) (rows ++ row ∷ []) all.1) in
          let was : IsTrue old.is_match = so_far.verdict.1 (
            up.0,
            All-from_recursion (Contains made) rows each.0,
            omega (arith, more, all.2),
          ) in (
            was,
            omega (arith, more, all.2, so_far.left was),
            subst (λ o. IfSome o (Below row)) (sym (so_far.last was))
                (below_last row None rows tt up.1),
            each.1,
          )

-- A result has one value.
pub one_value : {T E : Type 0} (r : Result T E) (a b : T) → r ≡ Ok a → r ≡ Ok b → a ≡ b
one_value (Ok x) a b first second =
    let one : x ≡ a = cc in
    let two : x ≡ b = cc in
    sym one ∙ two
one_value (Err e) a b first second = absurd cc

-- What one more row does to a comparison, it does to it after any rows.
pub taken_more : {R : Type 0} (rows_of : List Entry → List R) (cmp : R → R → Ordering)
    (start old new : RowMatch R) (rows : List R) (row : R)
    → HasTakenRows rows_of cmp start rows old → new.made ≡ old.made
    → ((book : IndexedBook) → old.made.now ≡ Ok book
    → IsMatchOf cmp (rows_of book.index.entries.items) rows old
    → IsMatchOf cmp (rows_of book.index.entries.items) (rows ++ row ∷ []) new)
    → HasTakenRows rows_of cmp start (rows ++ row ∷ []) new
taken_more rows_of cmp start old new rows row was same more = record {
  made = same ∙ was.made;
  matched = λ book is none. more book (ap (λ r. r.now) was.made ∙ is) (was.matched book is none);
}

risen : {X : Type 0} (R : X → X → Type 0) (xs : List X) → tree.IsAscending R xs → IsAscending R xs
risen R [] up = tt
risen R (x ∷ xs) up = (up.0, risen R xs up.1)

-- The verdict on all rows, in their order.
pub verdict_on : {R : Type 0} (rows_of : List Entry → List R) (cmp : R → R → Ordering)
    (total : IsTotalOrder cmp)
    (apart : (h : List Entry) (t : Terms) → IsLegal h t → All IsCall h
    → IsAscending (λ a b. is_eq (cmp a b) ≡ false) (rows_of h))
    (made : Result IndexedBook OpenFault) (start now : RowMatch R) (rows : List R) (answer : Bool)
    → start.made.now ≡ made
    → IfOk made (λ book. IsMatchOf cmp (rows_of book.index.entries.items) [] start)
    → HasTakenRows rows_of cmp start rows now
    → tree.IsAscending (λ a b. cmp a b ≢ Greater) rows
    → ((derived others : List R) → IsMatchOf cmp derived others now → IsTrue answer
    ↔ (IsAscending (λ a b. cmp a b ≡ Less) others × All (Contains derived) others
    × (length others ≡ length derived)))
    → IsVerdictOn rows_of made rows answer
verdict_on rows_of cmp total apart made start now rows answer is first taken sorted complete =
    go made is first
  where
    go : (made : Result IndexedBook OpenFault) → start.made.now ≡ made
        → IfOk made (λ book. IsMatchOf cmp (rows_of book.index.entries.items) [] start)
        → IsVerdictOn rows_of made rows answer
    go (Ok book) is begun = λ calls.
        let h : List Entry = book.index.entries.items in
        same_where_matched cmp total (rows_of h) rows answer
        (apart h book.settings book.legal calls) (risen _ rows sorted)
        (complete (rows_of h) rows (taken.matched book is begun))
    go (Err fault) is begun = tt

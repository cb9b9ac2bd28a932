-- The derived rows, and whether stored rows are the same.
use Rattle.std.proofs.Common.{◌≡◌, Bool, true, false, cond, List, [], ◌∷◌, map, get_or, ℤ, ◌<ℤ◌}
use Rattle.std.proofs.Common.{refl, sym, subst, Ordering, Less}
use Rattle.std.proofs.Common.{Equal, Greater, is_eq, is_gt, arith}
use Rattle.std.specs.Prelude.{All, Contains, ◌&&◌, ◌↔◌, ◌≢◌, IsTrue, length}
use Rattle.std.specs.List.{list_any, AllByRecursion}
use Rattle.std.specs.Cmp.{IsTotalOrder}
use Rattle.std.specs.Bool.{Decides}
use Rattle.std.specs.Ordering.{int_cmp, int_eq, ordering_then, MatchOrdering}
use Rattle.std.proofs.Math.Logic.{∥∥₁_elim}
use Rattle.std.proofs.Math.Bool.{So-prop}
use Rattle.std.proofs.lemmas.Bool.{both_ways, or_parts, false_from_ne_true}
use Rattle.std.proofs.lemmas.Bool.Decides.{Decides-and, Decides-like, Decides-int_eq}
use Rattle.std.proofs.lemmas.Cmp.{int_ranked, on_total, then_total, int_cmp_total}
use Rattle.std.proofs.lemmas.List.Elements.{All-head, All-tail, All-map, recursion_from_All}
use Rattle.std.proofs.lemmas.List.Elements.{All-contains_itself}
use Rattle.std.proofs.lemmas.List.Sorted.{All-permutation, length_permutation}
use Rattle.s10_replay.specs.Ascending.{IsAscending}
use Rattle.s10_replay.proofs.Sorting.{ordered_rises, rising_part, all_weaker}
use Rattle.s10_core.specs.declared.id.Id.{Id}
use Rattle.s10_history.specs.declared.entry.Entry.{Entry}
use Rattle.s10_history.specs.declared.issuance.Issuance.{Issuance}
use Rattle.s10_history.specs.Issues.{issues_of, is_of, is_issued, last_issues, voided_after}
use Rattle.s10_book.proofs.Spaced.{id_same}
use Rattle.s10_rows.specs.declared.closed_row.ClosedRow.{ClosedRow}
use Rattle.s10_rows.specs.declared.range_row.RangeRow.{RangeRow}
use Rattle.s10_rows.specs.declared.serial_row.SerialRow.{SerialRow}
use Rattle.s10_rows.specs.CallRow.{StoredCall}
use Rattle.s10_core.specs.Pair.{pair_of}
use Rattle.s10_rows.specs.Tables.{HaveSameRows, serial_row, serial_row_cmp, serial_rows}
use Rattle.s10_replay.specs.RightRows.{AreRight, kept_of, entry_of}
use Rattle.s10_history.specs.Settings.{Terms}
use Rattle.s10_rows.specs.Selected.{IsCall, IsIssuance}
use Rattle.s10_core.proofs.Pairs.{one_pair}
use Rattle.s10_replay.proofs.Tests.{one_number}
use Rattle.s10_replay.proofs.LastIssues.{All-last_issues}
use Rattle.s10_replay.proofs.SerialRows.{issues_of_fit}
use Rattle.std.proofs.lemmas.Option.{slice_get-get_or}
use Rattle.std.proofs.lemmas.Grind.{common_steps}

-- The order of rows of serials is total.
pub serial_row_total : IsTotalOrder serial_row_cmp
serial_row_total = then_total (on_total (λ (r : SerialRow). r.pair) int_cmp_total)
    (on_total (λ (r : SerialRow). r.serial) int_cmp_total)

pub ascending_weaker : {X : Type 0} (R Q : X → X → Type 0) → ((x y : X) → R x y → Q x y)
    → (xs : List X) → IsAscending R xs → IsAscending Q xs
ascending_weaker R Q f [] up = tt
ascending_weaker R Q f (x ∷ xs) up = (
  all_weaker (R x) (Q x) (f x) xs up.0,
  ascending_weaker R Q f xs up.1,
)

-- Two rows of serials have different keys.
abbrev pub HaveKeys : SerialRow → SerialRow → Type 0
HaveKeys a b = is_eq (serial_row_cmp a b) ≡ false

equal_parts : (a b : Ordering) → is_eq (ordering_then a b) ≡ true → (a ≡ Equal) × (b ≡ Equal)
equal_parts Equal Equal h = (refl, refl)
equal_parts Equal Less h = absurd (both_ways false refl h)
equal_parts Equal Greater h = absurd (both_ways false refl h)
equal_parts Less b h = absurd (both_ways false refl h)
equal_parts Greater b h = absurd (both_ways false refl h)

pub tied : (x y : ℤ) → int_cmp x y ≡ Equal → x ≡ y
tied x y e = let P : Ordering → Type 0 = λ o. MatchOrdering o (x <ℤ y) (x ≡ y) (y <ℤ x) in
    subst P e (int_ranked x y (int_cmp x y) refl)

-- Identifiers whose rows have the same key are the same.
tied_ids : (u v : Bool) (i j : Issuance) → IsIssuance i → IsIssuance j
    → is_eq (serial_row_cmp (serial_row u i) (serial_row v j)) ≡ true → is_of i.id j ≡ true
tied_ids u v i j here there h =
    let parts = equal_parts _ _ h in
    let pair : pair_of i.id.service i.id.country ≡ pair_of j.id.service j.id.country =
    one_number _ _ (tied _ _ parts.0) in
    let serial : i.id.serial ≡ j.id.serial = one_number _ _ (tied _ _ parts.1) in
    let letters = one_pair i.id.service i.id.country j.id.service j.id.country here.id.service
    here.id.country there.id.service there.id.country pair in
    let same : j.id ≡ i.id = λ k. record {
      service = sym letters.0 k;
      serial = sym serial k;
      country = sym letters.1 k;
    } in
    id_same j.id i.id same

apart_from : (f : Issuance → Bool) (i : Issuance) (js : List Issuance) → IsIssuance i
    → All IsIssuance js → list_any (is_of i.id) js ≡ false
    → AllByRecursion (λ row. is_eq (serial_row_cmp (serial_row (f i) i) row) ≡ false)
    (map (λ j. serial_row (f j) j) js)
apart_from f i [] here all none = tt
apart_from f i (j ∷ js) here all none =
    let both = or_parts (is_of i.id j) (list_any (is_of i.id) js) none in (
      false_from_ne_true _ (λ e. both_ways (is_of i.id j) both.0
          (tied_ids (f i) (f j) i j here (All-head IsIssuance j js all) e)),
      apart_from f i js here (All-tail IsIssuance j js all) both.1,
    )

still_none : (x : Id) (is : List Issuance) → list_any (is_of x) is ≡ false
    → list_any (is_of x) (last_issues is) ≡ false
still_none x [] none = refl
still_none x (i ∷ is) none =
    let both = or_parts (is_of x i) (list_any (is_of x) is) none in
    at (is_issued is i.id) both.0 (still_none x is both.1)
  where
    at : (b : Bool) → is_of x i ≡ false → list_any (is_of x) (last_issues is) ≡ false
        → list_any (is_of x) (cond b (last_issues is) (i ∷ last_issues is)) ≡ false
    at true here rest = rest
    at false here rest = rw here rest

no_ties : (f : Issuance → Bool) (is : List Issuance) → All IsIssuance is
    → IsAscending HaveKeys (map (λ i. serial_row (f i) i) (last_issues is))
no_ties f [] all = tt
no_ties f (i ∷ is) all =
    let here = All-head IsIssuance i is all in
    let rest = All-tail IsIssuance i is all in
    go (is_issued is i.id) refl here rest (no_ties f is rest)
  where
    go : (b : Bool) → is_issued is i.id ≡ b → IsIssuance i → All IsIssuance is
        → IsAscending HaveKeys (map (λ j. serial_row (f j) j) (last_issues is))
        → IsAscending HaveKeys
        (map (λ j. serial_row (f j) j) (cond b (last_issues is) (i ∷ last_issues is)))
    go true e here rest apart = apart
    go false e here rest apart = (
      apart_from f i (last_issues is) here (All-last_issues IsIssuance is rest)
          (still_none i.id is e),
      apart,
    )

at_most : (o : Ordering) → o ≢ Greater → is_gt o ≡ false
at_most Less h = refl
at_most Equal h = refl
at_most Greater h = absurd (h refl)

-- Sorted rows are those of a list without two of one key exactly if they rise, if each is one of
-- the list, and if there are as many.
pub same_where_matched : {X : Type 0} (cmp : X → X → Ordering) → IsTotalOrder cmp
    → (made rows : List X) (b : Bool) → IsAscending (λ x y. is_eq (cmp x y) ≡ false) made
    → IsAscending (λ x y. cmp x y ≢ Greater) rows
    → (IsTrue b ↔ (IsAscending (λ x y. cmp x y ≡ Less) rows × All (Contains made) rows
    × (length rows ≡ length made)))
    → (IsTrue b ↔ HaveSameRows made rows)
same_where_matched cmp total made rows b apart sorted verdict = (
  λ t. let v = verdict.0 t in
      ∣ rising_part cmp total made rows v.0 (recursion_from_All (Contains made) rows v.1) v.2 ∣₁,
  λ h. ∥∥₁_elim h (So-prop b) (λ p. verdict.1 (
    ordered_rises cmp total made rows apart p
        (ascending_weaker _ _ (λ x y. at_most (cmp x y)) rows sorted),
    All-permutation (Contains made) made rows p (All-contains_itself made),
    length_permutation made rows p,
  )),
)

-- No two rows of serials have the same key.
pub serial_rows_apart : (h : List Entry) → All IsCall h → IsAscending HaveKeys (serial_rows h)
serial_rows_apart h calls = no_ties (λ i. voided_after i.arrival h i.id) (issues_of h)
    (issues_of_fit h calls)

-- The calls of right rows have rows: each part is in its bounds.
pub right_calls : (t : Terms) (rows : List StoredCall) → AreRight t rows → All IsCall (kept_of rows)
right_calls t rows right = All-map IsCall entry_of rows (λ k d lt.
    let row = right k (get_or rows k d) (slice_get-get_or rows k d lt) in
    let r = row.replies in
    record { request = r.0; outcome = r.1; fitting = r.2; day = row.day_fits })

both : {A B : Type 0} → A → B → A × B
both a b = (a, b)

-- Whether two rows are the same.
pub range_decides : (a b : RangeRow)
    → Decides (int_eq a.num b.num
    && (int_eq a.holder b.holder
    && (int_eq a.pair b.pair
    && (int_eq a.low b.low && (int_eq a.high b.high && (int_eq a.mark b.mark)))))) (a ≡ b)
range_decides a b =
    Decides-like _ (λ p. λ i. record {
      num = p.0 i;
      holder = p.1.0 i;
      pair = p.1.1.0 i;
      low = p.1.1.1.0 i;
      high = p.1.1.1.1.0 i;
      mark = p.1.1.1.1.1 i;
    })
    (λ e. both (λ i. (e i).num) (both (λ i. (e i).holder) (both (λ i. (e i).pair)
    (both (λ i. (e i).low) (both (λ i. (e i).high) (λ i. (e i).mark))))))
    (Decides-and _ _ (Decides-int_eq a.num b.num)
    (Decides-and _ _ (Decides-int_eq a.holder b.holder)
    (Decides-and _ _ (Decides-int_eq a.pair b.pair)
    (Decides-and _ _ (Decides-int_eq a.low b.low)
    (Decides-and _ _ (Decides-int_eq a.high b.high) (Decides-int_eq a.mark b.mark))))))

pub closed_decides : (a b : ClosedRow)
    → Decides (int_eq a.num b.num && (int_eq a.arrival b.arrival)) (a ≡ b)
closed_decides a b = grind (arith, common_steps)

pub serial_decides : (a b : SerialRow)
    → Decides (int_eq a.pair b.pair
    && (int_eq a.serial b.serial
    && (int_eq a.arrival b.arrival
    && (int_eq a.day b.day
    && (int_eq a.customer b.customer
    && (int_eq a.number b.number && (int_eq a.voided b.voided))))))) (a ≡ b)
serial_decides a b =
    Decides-like _ (λ p. λ i. record {
      pair = p.0 i;
      serial = p.1.0 i;
      arrival = p.1.1.0 i;
      day = p.1.1.1.0 i;
      customer = p.1.1.1.1.0 i;
      number = p.1.1.1.1.1.0 i;
      voided =
          p.1.1.1.1.1.1 i;
    })
    (λ e. both (λ i. (e i).pair) (both (λ i. (e i).serial) (both (λ i. (e i).arrival)
    (both (λ i. (e i).day) (both (λ i. (e i).customer) (both (λ i. (e i).number)
    (λ i. (e i).voided)))))))
    (Decides-and _ _ (Decides-int_eq a.pair b.pair)
    (Decides-and _ _ (Decides-int_eq a.serial b.serial)
    (Decides-and _ _ (Decides-int_eq a.arrival b.arrival)
    (Decides-and _ _ (Decides-int_eq a.day b.day)
    (Decides-and _ _ (Decides-int_eq a.customer b.customer)
    (Decides-and _ _ (Decides-int_eq a.number b.number) (Decides-int_eq a.voided b.voided)))))))

-- The usage of a range, counted row by row.
use Rattle.std.proofs.Common.{zero-add, take_all, length-take, ◌≡◌, ℕ, ◌+◌, ◌-◌, ◌<◌, ◌≤◌, Bool}
use Rattle.std.proofs.Common.{true, false, not, cond, leb, ◌&&◌, pos, List, [], ◌∷◌, map, length}
use Rattle.std.proofs.Common.{get_or, take, Option, Some, None, refl, sym, ap, ap₂, ◌∙◌, arith}
use Rattle.std.specs.Prelude.{filter, All, max, nat_le, option_to_list, is_some, count_by}
use Rattle.std.specs.List.{sum_by}
use Rattle.std.specs.Option.{option_map, unwrap_or}
use Rattle.std.specs.Ordering.{int_eq}
use Rattle.std.specs.Coded.{Coded-set, coded_ℕ}
use Rattle.std.proofs.Math.Logic.{∥∥₁_elim}
use Rattle.std.proofs.lemmas.Bool.{and_parts, and_from}
use Rattle.std.proofs.lemmas.Bool.Decides.{same_from_decides, Decides-int_eq}
use Rattle.std.proofs.lemmas.List.Sums.{sum_by-cons, sum_by_more, count_by-le-length}
use Rattle.std.proofs.lemmas.List.Sorted.{sum_by-IsPermutation, All-permutation}
use Rattle.std.proofs.lemmas.Option.{none-some}
use Rattle.std.proofs.lemmas.List.Elements.{All-nil, All-cons, All-head, All-tail, All-filter}
use Rattle.s10_core.specs.declared.id.Id.{Id}
use Rattle.s10_core.specs.Letters.{AreCapitals, same_letters}
use Rattle.s10_core.specs.Id.{IsId}
use Rattle.s10_history.specs.declared.entry.Entry.{Entry}
use Rattle.s10_history.specs.declared.range.Range.{Range}
use Rattle.s10_history.specs.declared.issue.Issue.{Issue}
use Rattle.s10_history.specs.declared.issuance.Issuance.{Issuance}
use Rattle.s10_history.specs.declared.usage.Usage.{Usage}
use Rattle.s10_history.specs.History.{day_of, lies_in}
use Rattle.s10_history.specs.Issues.{issues_of, is_issued, is_voided, is_free, is_free_since}
use Rattle.s10_history.specs.Issues.{last_issuance_of, last_issues, voided_after, id_at, serials}
use Rattle.s10_history.specs.Usage.{usage_of}
use Rattle.s10_book.proofs.Apart.{letters_equal, letters_same}
use Rattle.s10_history.proofs.Counting.{issued_is, same_usage}
use Rattle.s10_rows.specs.declared.serial_row.SerialRow.{SerialRow}
use Rattle.s10_core.specs.Pair.{pair_of}
use Rattle.s10_rows.specs.Tables.{HaveSameRows, serial_row, serial_rows, flag}
use Rattle.s10_replay.specs.RightRows.{day_in}
use Rattle.s10_rows.specs.Selected.{IsCall, IsRange, IsIssuance, is_within, issue_in_row}
use Rattle.s10_replay.specs.ReadRows.{is_voided_row, is_taken, IsUsageOf}
use Rattle.s10_core.proofs.Pairs.{one_pair}
use Rattle.s10_replay.proofs.Tests.{one_number}
use Rattle.s10_replay.proofs.SameRows.{same_length}
use Rattle.s10_replay.proofs.LastIssues.{last_of, All-last_issues}
use Rattle.s10_replay.proofs.SerialRows.{issues_of_fit, filter_image, last_passes}
use Rattle.s10_replay.proofs.Sums.{sum_same, sum_both, by_serials}
use Rattle.std.proofs.lemmas.List.FromFn.{length-range_with_len}
use Rattle.s10_replay.proofs.RowsAfterCall.{row_in}

abbrev rows_within : Range → SerialRow → Bool
rows_within r row = is_within (pos (pair_of r.service r.country)) (pos r.first) (pos r.last) row

pair_test : (s c t d : ℕ × ℕ) → AreCapitals s → AreCapitals c → AreCapitals t → AreCapitals d
    → int_eq (pos (pair_of s c)) (pos (pair_of t d)) ≡ (same_letters t s && same_letters d c)
pair_test s c t d p q u v =
    let test = Decides-int_eq (pos (pair_of s c)) (pos (pair_of t d)) in
    same_from_decides {P = (t ≡ s) × (d ≡ c)} (int_eq (pos (pair_of s c)) (pos (pair_of t d)))
    (same_letters t s && same_letters d c) (
      λ e. let l = one_pair s c t d p q u v (one_number _ _ (test.0 e)) in (sym l.0, sym l.1),
      λ e. test.1 (ap₂ (λ a b. pos (pair_of a b)) (sym e.0) (sym e.1)),
    ) (
      λ e. let b = and_parts _ _ e in (letters_equal t s b.0, letters_equal d c b.1),
      λ e. and_from _ _ (letters_same t s e.0) (letters_same d c e.1),
    )

within_is : (v : Bool) (i : Issuance) (r : Range) → IsId i.id → IsRange r
    → rows_within r (serial_row v i) ≡ lies_in r i.id
within_is v i r here range =
    ap (λ b. (b && leb r.first i.id.serial) && leb i.id.serial r.last)
    (pair_test i.id.service i.id.country r.service r.country here.service here.country
    range.service range.country)

selected : (h : List Entry) (r : Range) → All IsCall h → IsRange r
    → filter (rows_within r) (serial_rows h)
    ≡ map (row_in h) (filter (λ i. lies_in r i.id) (last_issues (issues_of h)))
selected h r calls range =
    filter_image (rows_within r) (λ i. lies_in r i.id) (row_in h) IsIssuance
    (λ i p. within_is (voided_after i.arrival h i.id) i r p.id range)
    (last_issues (issues_of h))
    (All-last_issues IsIssuance (issues_of h) (issues_of_fit h calls))

sum_of_image : {A B : Type 0} (g : B → ℕ) (f : A → B) (xs : List A) → sum_by g (map f xs)
    ≡ sum_by (λ x. g (f x)) xs
sum_of_image g f [] = refl
sum_of_image g f (x ∷ xs) = sum_by-cons g (f x) (map f xs)
    ∙ ap (λ n. g (f x) + n) (sum_of_image g f xs) ∙ sym (sum_by-cons (λ x. g (f x)) x xs)

pub length_is_sum : {A : Type 0} (xs : List A) → length xs ≡ sum_by (λ x. 1) xs
length_is_sum [] = refl
length_is_sum (x ∷ xs) = omega (arith, length_is_sum xs, sum_by-cons (λ x. 1) x xs)

voided_flag : (v : Bool) → int_eq (pos (flag v)) (pos 1) ≡ v
voided_flag true = refl
voided_flag false = refl

-- A sum over the selected rows, serial by serial.
rows_sum : (g : SerialRow → ℕ) (h : List Entry) (r : Range) → All IsCall h → IsRange r
    → sum_by g (filter (rows_within r) (serial_rows h))
    ≡ sum_by (λ s. sum_by (λ i. g (row_in h i))
    (option_to_list (last_issuance_of (issues_of h) (id_at r s)))) (serials r)
rows_sum g h r calls range =
    ap (sum_by g) (selected h r calls range)
    ∙ sum_of_image g (row_in h) (filter (λ i. lies_in r i.id) (last_issues (issues_of h)))
    ∙ by_serials (λ i. g (row_in h i)) r (last_issues (issues_of h))
    ∙ sum_same _ _ (serials r) (λ s. ap (sum_by (λ i. g (row_in h i)))
    (last_of (issues_of h) (id_at r s)))

one_issued : (o : Option Issuance) (f : Issuance → Issue) (b : Bool) → is_some (option_map f o) ≡ b
    → sum_by (λ i. 1) (option_to_list o) ≡ cond b 1 0
one_issued None f b e = ap (λ t. cond t 1 0) e
one_issued (Some i) f b e = ap (λ t. cond t 1 0) e

one_voided : (h : List Entry) (x : Id) (o : Option Issuance)
    → ((i : Issuance) → o ≡ Some i → i.id ≡ x)
    → sum_by (λ i. cond (is_voided_row (row_in h i)) 1 0) (option_to_list o)
    ≡ cond (unwrap_or (option_map (λ i. voided_after i.arrival h x) o) false) 1 0
one_voided h x None of = refl
one_voided h x (Some i) of = zero-add (cond (is_voided_row (row_in h i)) 1 0)
    ∙ ap (λ (t : Bool). cond t 1 0) (voided_flag (voided_after i.arrival h i.id)
    ∙ ap (voided_after i.arrival h) (of i refl))

one_of_two : (b : Bool) → cond b 1 0 + cond (not b) 1 0 ≡ 1
one_of_two true = refl
one_of_two false = refl

one_free : (h : List Entry) (day interval : ℕ) (o : Option Issuance)
    → cond (is_free_since day interval (option_map (λ (i : Issuance). i.day) o)) 1 0 + sum_by
    (λ i. cond (is_taken day interval (row_in h i)) 1 0) (option_to_list o) ≡ 1
one_free h day interval None = refl
one_free h day interval (Some i) = ap (λ n. cond (nat_le interval (day - i.day)) 1 0 + n)
    (zero-add (cond (not (nat_le interval (day - i.day))) 1 0))
    ∙ one_of_two (nat_le interval (day - i.day))

-- What the rows of a range count.
pub record IsCounted (h : List Entry) (r : Range) (day interval : ℕ) (rows : List SerialRow) :
    Type 0 where
  pub used : length rows ≡ count_by (λ s. is_issued (issues_of h) (id_at r s)) (serials r)
  pub voided : count_by is_voided_row rows ≡ count_by (λ s. is_voided h (id_at r s)) (serials r)
  pub free : count_by (λ s. is_free (issues_of h) (id_at r s) day interval) (serials r) + count_by
      (is_taken day interval) rows ≡ r.last + 1 - r.first
  pub few : length rows ≤ r.last + 1 - r.first

counted : (h : List Entry) (r : Range) (day interval : ℕ) → All IsCall h → IsRange r
    → IsCounted h r day interval (filter (rows_within r) (serial_rows h))
counted h r day interval calls range =
    let rows = filter (rows_within r) (serial_rows h) in
    let is = issues_of h in
    let used : length rows ≡ count_by (λ s. is_issued is (id_at r s)) (serials r) =
    length_is_sum rows ∙ rows_sum (λ row. 1) h r calls range
    ∙ sum_same _ _ (serials r) (λ s. one_issued (last_issuance_of is (id_at r s)) _
    (is_issued is (id_at r s)) (issued_is h (id_at r s))) in
    let all : length (serials r) ≡ r.last + 1 - r.first =
    length-range_with_len r.first (r.last + 1 - r.first) in
    record {
      used = used;
      voided = rows_sum (λ row. cond (is_voided_row row) 1 0) h r calls range
          ∙ sum_same _ _ (serials r)
          (λ s. one_voided h (id_at r s) (last_issuance_of is (id_at r s))
          (λ i last. (last_passes IsIssuance (id_at r s) is i (issues_of_fit h calls) last).1));
      free = ap (λ n. count_by (λ s. is_free is (id_at r s) day interval) (serials r) + n)
          (rows_sum (λ row. cond (is_taken day interval row) 1 0) h r calls range)
          ∙ sym (sum_both (λ s. cond (is_free is (id_at r s) day interval) 1 0)
          (λ s. sum_by (λ i. cond (is_taken day interval (row_in h i)) 1 0)
          (option_to_list (last_issuance_of is (id_at r s)))) (serials r))
          ∙ sum_same _ (λ s. 1) (serials r)
          (λ s. one_free h day interval (last_issuance_of is (id_at r s)))
          ∙ sym (length_is_sum (serials r)) ∙ all;
      few = omega (
        arith,
        used,
        all,
        count_by-le-length (λ s. is_issued is (id_at r s))
            (serials r),
      );
    }

same_sum : (g : SerialRow → ℕ) (xs ys : List SerialRow) → HaveSameRows xs ys
    → sum_by g ys ≡ sum_by g xs
same_sum g xs ys same = ∥∥₁_elim same (Coded-set coded_ℕ (sum_by g ys) (sum_by g xs))
    (sum_by-IsPermutation g xs ys)

pub rows_counted : (h : List Entry) (r : Range) (day interval : ℕ) (rows : List SerialRow)
    → All IsCall h → IsRange r → HaveSameRows (filter (rows_within r) (serial_rows h)) rows
    → IsCounted h r day interval rows
rows_counted h r day interval rows calls range same =
    let c = counted h r day interval calls range in
    let long = same_length _ rows same in
    record {
      used = long ∙ c.used;
      voided = same_sum (λ row. cond (is_voided_row row) 1 0) _ rows same ∙ c.voided;
      free = ap (λ n. count_by (λ s. is_free (issues_of h) (id_at r s) day interval)
          (serials r) + n) (same_sum (λ row. cond (is_taken day interval row) 1 0) _ rows same)
          ∙ c.free;
      few = omega (arith, long, c.few);
    }

-- The usage by the first i rows.
pub record UsedSoFar (rows : List SerialRow) (day interval count i : ℕ) (u : Usage) : Type 0 where
  pub used : u.used ≡ i
  pub voided : u.voided ≡ count_by is_voided_row (take i rows)
  pub free : u.free + count_by (is_taken day interval) (take i rows) ≡ count

pub UsedSoFar-start : (rows : List SerialRow) (day interval count : ℕ)
    → UsedSoFar rows day interval count 0 (record { used = 0; voided = 0; free = count })
UsedSoFar-start rows day interval count = record { used = refl; voided = refl; free = omega arith }

pub UsedSoFar-room : (rows : List SerialRow) (day interval count i : ℕ) (u : Usage)
    → UsedSoFar rows day interval count i u → i < length rows → length rows ≤ count
    → (u.used < count) × (u.voided < count) × (0 < u.free)
UsedSoFar-room rows day interval count i u so lt few =
    let long = length-take i rows in (
      omega (arith, so.used),
      omega (arith, so.voided, long, count_by-le-length is_voided_row (take i rows)),
      omega (arith, so.free, long, count_by-le-length (is_taken day interval) (take i rows)),
    )

abbrev one : Bool → ℕ
one b = cond b 1 0

pub UsedSoFar-step : (rows : List SerialRow) (day interval count i : ℕ) (d : SerialRow)
    (u v : Usage) (issue : Issue) → i < length rows
    → (get_or rows i d).voided ≡ pos (flag issue.voided) → (get_or rows i d).day ≡ pos issue.day
    → v.used ≡ u.used + 1 → v.voided ≡ u.voided + cond issue.voided 1 0
    → v.free + cond (not (nat_le interval (day - issue.day))) 1 0 ≡ u.free
    → UsedSoFar rows day interval count i u → UsedSoFar rows day interval count (i + 1) v
UsedSoFar-step rows day interval count i d u v issue lt void_is day_is e0 e1 e2 so =
    let row = get_or rows i d in
    let more_voided = sum_by_more (λ (r : SerialRow). cond (is_voided_row r) 1 0) rows i d lt in
    let more_taken = sum_by_more (λ (r : SerialRow). cond (is_taken day interval r) 1 0) rows i d
    lt in
    let one_voided : one (is_voided_row row) ≡ one issue.voided =
    ap one (ap (λ z. int_eq z (pos 1)) void_is ∙ voided_flag issue.voided) in
    let one_taken : one (is_taken day interval row)
    ≡ one (not (nat_le interval (day - issue.day))) =
    ap (λ z. one (not (nat_le interval (day - day_in z)))) day_is in
    record {
      used = omega (arith, e0, so.used);
      voided = e1 ∙ ap₂ ◌+◌ so.voided (sym one_voided) ∙ sym more_voided;
      free = omega (arith, e2, so.free, more_taken, one_taken);
    }

-- All rows are counted.
pub UsedSoFar-end : (r : Range) (day interval count i : ℕ) (rows : List SerialRow) (u : Usage)
    → length rows ≤ i → i ≤ length rows
    → count ≡ r.last + 1 - r.first → UsedSoFar rows day interval count i u
    → IsUsageOf rows r day interval u
UsedSoFar-end r day interval count i rows u low high is_count so =
    let whole : take i rows ≡ rows = take_all i rows low in
    let all : i ≡ length rows = omega arith in
    record {
      used = so.used ∙ all;
      voided = so.voided ∙ ap (count_by is_voided_row) whole;
      free = omega (arith, so.free, is_count, ap (count_by (is_taken day interval)) whole);
    }

-- The usage by the rows of a history is the history's.
pub usage_is : (h : List Entry) (r : Range) (asked day interval : ℕ) (rows : List SerialRow)
    (u : Usage)
    → day ≡ max (day_of h) asked → IsCounted h r day interval rows → IsUsageOf rows r day interval u
    → u ≡ usage_of h r asked interval
unfolding usage_of
usage_is h r asked day interval rows u is_day counts is =
    let free : u.free ≡ count_by (λ s. is_free (issues_of h) (id_at r s) day interval) (serials r) =
    omega (arith, is.free, counts.free) in
    same_usage u (usage_of h r asked interval) (is.used ∙ counts.used) (is.voided ∙ counts.voided)
    (free ∙ ap (λ n. count_by (λ s. is_free (issues_of h) (id_at r s) n interval) (serials r))
    is_day)

-- The row is that of an issuance that has a row.
abbrev Reads : SerialRow → Type 0
Reads row = (v : Bool) × ((j : Issuance) × (IsIssuance j × (row ≡ serial_row v j)))

all_read : (h : List Entry) (is : List Issuance) → All IsIssuance is
    → All Reads (map (row_in h) is)
all_read h [] all = All-nil Reads
all_read h (i ∷ is) all =
    All-cons Reads (row_in h i) (map (row_in h) is) (
      voided_after i.arrival h i.id,
      (i, (All-head IsIssuance i is all, refl)),
    ) (all_read h is (All-tail IsIssuance i is all))

-- Each row reads as an issue.
pub never_unread : (h : List Entry) (r : Range) (rows : List SerialRow) (i : ℕ) (d : SerialRow)
    → All IsCall h → HaveSameRows (filter (rows_within r) (serial_rows h)) rows → i < length rows
    → ((v : Bool) (j : Issuance) → IsIssuance j → get_or rows i d ≡ serial_row v j
    → None ≡ Some (issue_in_row v j)) → ⊥
never_unread h r rows i d calls same lt kept =
    let all : All Reads (filter (rows_within r) (serial_rows h)) =
    All-filter (rows_within r) Reads (serial_rows h) (all_read h (last_issues (issues_of h))
    (All-last_issues IsIssuance (issues_of h) (issues_of_fit h calls))) in
    ∥∥₁_elim same (λ x y. absurd x) (λ perm. never (All-permutation Reads _ rows perm all i d lt))
  where
    never : Reads (get_or rows i d) → ⊥
    never (v, (j, told)) = none-some (issue_in_row v j) (kept v j told.0 told.1)

-- Which call adds a row of closed, and that no two rows are of the same range.
use Rattle.std.proofs.Common.{◌≡◌, ◌∙◌, ℕ, zero, suc, ◌+◌, ◌<◌, pos, Bool, true, false, cond, not}
use Rattle.std.proofs.Common.{eqb, List, [], ◌∷◌, ◌++◌, take, Option, Some, None, refl, sym, ap, ap₂}
use Rattle.std.proofs.Common.{subst, arith, true≢false, Ordering, Less, Equal, Greater, is_eq}
use Rattle.std.specs.Prelude.{slice_get, find, is_none, option_to_list, ◌==◌}
use Rattle.std.specs.List.{list_any, AllByRecursion}
use Rattle.std.specs.Ordering.{int_cmp}
use Rattle.std.proofs.lemmas.Bool.{or_left, or_right, false_from_ne_true, eq-eqb}
use Rattle.std.proofs.lemmas.Option.{none-some, same_Some}
use Rattle.s10_wire.specs.declared.body.Body.{Body}
use Rattle.s10_wire.specs.declared.body.Body.TheVariants.{Withdraw}
use Rattle.s10_wire.specs.declared.outcome.Outcome.{Outcome}
use Rattle.s10_wire.specs.declared.outcome.Outcome.TheVariants.{Withdrawn, NotThePost, NoSuchRange}
use Rattle.s10_wire.specs.declared.outcome.Outcome.TheVariants.{Closed}
use Rattle.s10_history.specs.declared.entry.Entry.{Entry}
use Rattle.s10_history.specs.History.{ranges_of, withdraws, is_closed}
use Rattle.s10_history.specs.Settings.{Terms}
use Rattle.s10_book.specs.Rules.{IsLegal, body_answer, withdraw_answer}
use Rattle.s10_rows.specs.declared.closed_row.ClosedRow.{ClosedRow}
use Rattle.s10_rows.specs.Tables.{closing, closed_rows_from, closed_rows}
use Rattle.s10_replay.specs.Ascending.{IsAscending}
use Rattle.s10_replay.proofs.Compared.{tied}
use Rattle.s10_replay.proofs.Tests.{one_number}

-- A call adds a row if it is a Done Withdraw.
pub record Closes (arrival : ℕ) (e : Entry) (row : ClosedRow) : Type 0 where
  pub num : ℕ
  pub row_is : row ≡ record { num = pos num; arrival = pos arrival }
  pub body : e.request.body ≡ Withdraw num
  pub outcome : e.outcome ≡ Withdrawn

pub closes : (arrival : ℕ) (e : Entry) (row : ClosedRow)
    → closing arrival e.request.body e.outcome ≡ Some row → Closes arrival e row
closes arrival e row made = go e.request.body e.outcome refl refl made
  where
    go : (b : Body) (o : Outcome) → e.request.body ≡ b → e.outcome ≡ o → closing arrival b o
        ≡ Some row → Closes arrival e row
    go (Withdraw num) Withdrawn body outcome made' = record {
      num = num;
      row_is = sym (same_Some _ row made');
      body = body;
      outcome = outcome;
    }
    go b o body outcome made' = absurd (none-some row made')

any_taken : {A : Type 0} (p : A → Bool) (xs : List A) (i j : ℕ) (x : A) → i < j
    → slice_get xs i ≡ Some x → p x ≡ true → list_any p (take j xs) ≡ true
any_taken p [] i j x lt at is = absurd (none-some x at)
any_taken p (y ∷ ys) i zero x lt at is = absurd (omega (arith, lt))
any_taken p (y ∷ ys) zero (suc j) x lt at is =
    or_left (p y) (list_any p (take j ys)) (ap p (same_Some y x at) ∙ is)
any_taken p (y ∷ ys) (suc i) (suc j) x lt at is =
    or_right (p y) (list_any p (take j ys)) (any_taken p ys i j x (omega (arith, lt)) at is)

open_before : (post missing closed : Bool)
    → cond (not post) NotThePost (cond missing NoSuchRange (cond closed Closed Withdrawn))
    ≡ Withdrawn → closed ≡ false
open_before false missing closed is = let e : NotThePost ≡ Withdrawn = is in absurd cc
open_before true true closed is = let e : NoSuchRange ≡ Withdrawn = is in absurd cc
open_before true false true is = let e : Closed ≡ Withdrawn = is in absurd cc
open_before true false false is = refl

-- A range is withdrawn once.
withdrawn_once : (h : List Entry) (t : Terms) → IsLegal h t → (i j : ℕ) (d e : Entry) (num : ℕ)
    → i < j → slice_get h i ≡ Some d → slice_get h j ≡ Some e → d.request.body ≡ Withdraw num
    → d.outcome ≡ Withdrawn → e.request.body ≡ Withdraw num → e.outcome ≡ Withdrawn → ⊥
withdrawn_once h t legal i j d e num lt first second db done eb again =
    let answer : withdraw_answer (take j h) e.request.customer num ≡ Withdrawn =
    ap (λ (b : Body). body_answer (take j h) e.request.customer b e.day t.interval) (sym eb)
    ∙ sym (legal.follow j e second).right ∙ again in
    let open_then = open_before (eqb e.request.customer 0)
    (is_none (find (λ r. r.num == num) (ranges_of (take j h)))) (is_closed (take j h) num) answer in
    let closed = any_taken (λ (f : Entry). withdraws num f.request.body f.outcome) h i j d lt first
    (ap₂ (withdraws num) db done ∙ eq-eqb num num refl) in
    true≢false (sym closed ∙ open_then)

is_equal : (o : Ordering) → is_eq o ≡ true → o ≡ Equal
is_equal Less h = absurd (true≢false (sym h))
is_equal Equal h = refl
is_equal Greater h = absurd (true≢false (sym h))

-- Two rows are of different ranges.
abbrev Apart : ClosedRow → ClosedRow → Type 0
Apart a b = is_eq (int_cmp a.num b.num) ≡ false

others_apart : (num n : ℕ) (row : ClosedRow) (es : List Entry) → row.num ≡ pos num
    → ((k : ℕ) (e : Entry) → slice_get es k ≡ Some e → e.request.body ≡ Withdraw num
    → e.outcome ≡ Withdrawn → ⊥) → AllByRecursion (Apart row) (closed_rows_from n es)
others_apart num n row [] is none = tt
others_apart num n row (e ∷ es) is none = at (closing n e.request.body e.outcome) (closes n e)
    (others_apart num (n + 1) row es is (λ k d there. none (suc k) d there))
  where
    at : (o : Option ClosedRow) → ((other : ClosedRow) → o ≡ Some other → Closes n e other)
        → AllByRecursion (Apart row) (closed_rows_from (n + 1) es)
        → AllByRecursion (Apart row) (option_to_list o ++ closed_rows_from (n + 1) es)
    at None made rest = rest
    at (Some other) made rest = (
      false_from_ne_true _ (λ same.
          let it = made other refl in
          let num_is : num ≡ it.num = one_number num it.num (sym is
          ∙ tied row.num other.num (is_equal _ same) ∙ ap (λ (r : ClosedRow). r.num) it.row_is) in
          none 0 e refl (it.body ∙ ap Withdraw (sym num_is)) it.outcome),
      rest,
    )

rows_apart : (h : List Entry) (t : Terms) → IsLegal h t → (m n : ℕ) (es : List Entry)
    → ((k : ℕ) (e : Entry) → slice_get es k ≡ Some e → slice_get h (m + k) ≡ Some e)
    → IsAscending Apart (closed_rows_from n es)
rows_apart h t legal m n [] there = tt
rows_apart h t legal m n (e ∷ es) there = at (closing n e.request.body e.outcome) (closes n e)
    (rows_apart h t legal (m + 1) (n + 1) es (λ k d is.
    let shift : m + suc k ≡ m + 1 + k = omega arith in
    subst (λ i. slice_get h i ≡ Some d) shift (there (suc k) d is)))
  where
    at : (o : Option ClosedRow) → ((row : ClosedRow) → o ≡ Some row → Closes n e row)
        → IsAscending Apart (closed_rows_from (n + 1) es)
        → IsAscending Apart (option_to_list o ++ closed_rows_from (n + 1) es)
    at None made rest = rest
    at (Some row) made rest =
        let it = made row refl in (
          others_apart it.num (n + 1) row es (ap (λ (r : ClosedRow). r.num) it.row_is)
              (λ k d is body outcome. withdrawn_once h t legal (m + 0) (m + suc k) e d it.num
              (omega arith) (there 0 e refl) (there (suc k) d is) it.body it.outcome body outcome),
          rest,
        )

-- No two rows of closed are of the same range.
pub closed_rows_apart : (h : List Entry) (t : Terms) → IsLegal h t
    → IsAscending (λ a b. is_eq (int_cmp a.num b.num) ≡ false) (closed_rows h)
closed_rows_apart h t legal = rows_apart h t legal 0 1 h (λ k e is.
    let same : k ≡ 0 + k = omega arith in subst (λ i. slice_get h i ≡ Some e) same is)

-- The rows of calls that a statement selects, and the call that they stand for.
use Rattle.std.proofs.Common.{◌≡◌, ℕ, zero, suc, ◌+◌, ◌<◌, Bool, true, false, cond, eqb, pos, List}
use Rattle.std.proofs.Common.{[], ◌∷◌, Option, Some, None, refl, sym, ap, ◌∙◌, arith, subst}
use Rattle.std.specs.Prelude.{filter, All, IsTrue, slice_get}
use Rattle.std.proofs.lemmas.Bool.Decides.{nat_tests}
use Rattle.std.proofs.lemmas.List.Elements.{All-head, All-tail}
use Rattle.s10_history.specs.declared.entry.Entry.{Entry}
use Rattle.s10_history.specs.History.{has_key, entry_at}
use Rattle.s10_rows.specs.CallRow.{StoredCall}
use Rattle.s10_rows.specs.Tables.{HaveSameRows, call_row, call_rows_from, call_rows}
use Rattle.s10_rows.specs.Selected.{IsCall, arrives_between}
use Rattle.s10_rows.specs.contracts.call_row.CallRow.{the_row}
use Rattle.s10_replay.proofs.Tests.{between_itself, passed_over}
use Rattle.s10_replay.proofs.SameRows.{no_rows, one_row}

-- The rows are the row of the call, or none.
abbrev pub AreThose : List StoredCall → Option Entry → Type 0
AreThose rows None = rows ≡ []
AreThose rows (Some e) = (n : ℕ) × IsCall e × (rows ≡ call_row n e ∷ [])

same_those : (xs ys : List StoredCall) (o : Option Entry) → HaveSameRows xs ys → AreThose xs o
    → AreThose ys o
same_those xs ys None same are = let P : List StoredCall → Type 0 = λ l. HaveSameRows l ys in
    no_rows ys (subst P are same)
same_those xs ys (Some e) same are =
    let P : List StoredCall → Type 0 = λ l. HaveSameRows l ys in
    (are.0, are.1, one_row the_row.coded (call_row are.0 e) ys (subst P are.2 same))

abbrev Distinct : Entry → Entry → Type 0
Distinct d e = ¬ (IsTrue (has_key d.request.customer d.request.number e))

at_head : (b : Bool) (k : ℕ) (e : Entry) (rest : List StoredCall) (o : Option Entry) → IsCall e
    → (b ≡ true → rest ≡ []) → AreThose rest o
    → AreThose (cond b (call_row k e ∷ rest) rest) (cond b (Some e) o)
at_head true k e rest o call none those = (k, call, ap (λ l. call_row k e ∷ l) (none refl))
at_head false k e rest o call none those = those

differ : (n at : ℕ) → at < n → eqb n at ≡ false
differ n at lt = grind (arith, nat_tests)

differ_above : (n at : ℕ) → n < at → eqb n at ≡ false
differ_above n at lt = grind (arith, nat_tests)

itself : (n at : ℕ) → n ≡ at → eqb n at ≡ true
itself n at e = grind (arith, nat_tests)

none_before : (at k : ℕ) (es : List Entry) → at < k → filter (arrives_between (pos at) (pos at))
    (call_rows_from k es) ≡ []
none_before at k [] lt = refl
none_before at k (e ∷ es) lt =
    passed_over (arrives_between (pos at) (pos at) (call_row k e)) (call_row k e) _
    (between_itself at k ∙ differ k at lt)
    ∙ none_before at (k + 1) es (omega arith)

those_at : (at k j : ℕ) (h : List Entry) → at ≡ k + j → All IsCall h
    → AreThose (filter (arrives_between (pos at) (pos at)) (call_rows_from k h)) (slice_get h j)
those_at at k j [] is calls = refl
those_at at k zero (e ∷ es) is calls =
    let rest : List StoredCall = filter (arrives_between (pos at) (pos at))
    (call_rows_from (k + 1) es) in
    let P : Bool → Type 0 = λ b. AreThose (cond b (call_row k e ∷ rest) rest) (Some e) in
    subst P (sym (between_itself at k ∙ itself k at (omega arith))) (
      k,
      All-head IsCall e es calls,
      ap (λ l. call_row k e ∷ l) (none_before at (k + 1) es (omega arith)),
    )
those_at at k (suc j) (e ∷ es) is calls =
    let rest : List StoredCall = filter (arrives_between (pos at) (pos at))
    (call_rows_from (k + 1) es) in
    let P : Bool → Type 0 = λ b. AreThose (cond b (call_row k e ∷ rest) rest) (slice_get es j) in
    subst P (sym (between_itself at k ∙ differ_above k at (omega arith)))
    (those_at at (k + 1) j es (omega arith) (All-tail IsCall e es calls))

those_placed : (h : List Entry) (at : ℕ) → All IsCall h
    → AreThose (filter (arrives_between (pos at) (pos at)) (call_rows h)) (entry_at h at)
those_placed h zero calls = none_before 0 1 h (omega arith)
those_placed h (suc k) calls = those_at (suc k) 1 k h (omega arith) calls

-- The rows with an arrival are the row of the call with that arrival.
pub selected_by_place : (rows : List StoredCall) (h : List Entry) → All IsCall h → (at : ℕ)
    → HaveSameRows (filter (arrives_between (pos at) (pos at)) (call_rows h)) rows
    → AreThose rows (entry_at h at)
selected_by_place rows h calls at same = same_those _ rows (entry_at h at) same
    (those_placed h at calls)

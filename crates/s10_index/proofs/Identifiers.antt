-- The identifiers that were issued: that they are valid, and how many there are.
use Rattle.std.proofs.Common.{◌≡◌, ◌∙◌, ℕ, ◌+◌, Bool, true, false, cond, List, [], ◌∷◌, ◌++◌}
use Rattle.std.proofs.Common.{Some, None, length, refl, sym, ap, subst, arith, inl, inr}
use Rattle.std.specs.Prelude.{slice_get, is_some, ◌||◌}
use Rattle.std.specs.Option.{option_map}
use Rattle.std.specs.List.{last_or}
use Rattle.std.proofs.lemmas.Bool.{cases_Bool}
use Rattle.std.proofs.lemmas.Bool.Decides.{same_from_decides}
use Rattle.std.proofs.lemmas.List.Elements.{All-push}
use Rattle.std.proofs.lemmas.Option.{slice_get-map}
use Rattle.std.proofs.lemmas.List.Folds.{list_any-append}
use Rattle.s10_core.specs.declared.id.Id.{Id}
use Rattle.s10_core.specs.Id.{IsId}
use Rattle.s10_history.specs.declared.entry.Entry.{Entry}
use Rattle.s10_history.specs.declared.issuance.Issuance.{Issuance}
use Rattle.s10_history.specs.Issues.{issues_at, carried_by, is_of, is_issued, last_issues, last_issuance_of}
use Rattle.s10_history.proofs.Issued.{none_filter}
use Rattle.s10_book.proofs.Carried.{made_by}
use Rattle.s10_book.proofs.Carrying.{issues_upto, upto_next, carried_at}
use Rattle.s10_book.proofs.Free.{id_equal, issued_latest}
use Rattle.s10_book.proofs.Spaced.{id_same}
use Rattle.s10_index.specs.IssueLog.{HaveIds}

-- One more issuance of a call is at the end, with the identifier of this one.
pub one_more : (h : List Entry) (e : Entry) (place : ℕ) (i : Issuance)
    → slice_get (issues_at 0 e) place ≡ Some i → (y : Issuance) × (y.id ≡ i.id)
    × (issues_upto h e (place + 1) ≡ issues_upto h e place ++ y ∷ [])
    × (y.arrival ≡ 1 + length h) × (slice_get (issues_at (1 + length h) e) place ≡ Some y)
one_more h e place i at =
    let found = carried_at e 0 place i at in
    let made : ℕ × Id → Issuance = made_by e (1 + length h) in (
      made found.0,
      ap (λ (j : Issuance). j.id) found.2,
      upto_next h e place found.0 found.1,
      refl,
      slice_get-map made (carried_by e.outcome) place ∙ ap (option_map made) found.1,
    )

-- One more valid identifier.
pub ids_more : (h : List Entry) (e : Entry) (place : ℕ) (i : Issuance)
    → slice_get (issues_at 0 e) place ≡ Some i → IsId i.id → HaveIds (issues_upto h e place)
    → HaveIds (issues_upto h e (place + 1))
ids_more h e place i at fit before =
    let next = one_more h e place i at in
    subst HaveIds (sym next.2) (All-push (λ (j : Issuance). IsId j.id) (issues_upto h e place) next.0
    before (subst IsId (sym next.1) fit))

-- An identifier has a last issuance exactly if it was issued.
pub some_last : (is : List Issuance) (x : Id) → is_some (last_issuance_of is x) ≡ is_issued is x
some_last is x =
    elim (cases_Bool (is_issued is x)) [
      | inl yes' ↦ ap is_some (issued_latest is x yes').1 ∙ sym yes'
      | inr no' ↦ ap (λ (l : List Issuance). is_some (last_or None l)) (none_filter (is_of x) is no')
          ∙ sym no'
    ]

step_count : (here again next : Bool) (i : Issuance) (lasts rest : List Issuance)
    → (here ≡ true → next ≡ again)
    → length rest ≡ length lasts + cond next 0 1
    → length (cond (again || (here || false)) rest (i ∷ rest))
    ≡ length (cond again lasts (i ∷ lasts)) + cond (here || next) 0 1
step_count true true next i lasts rest same e =
    e ∙ ap (λ (b : Bool). length lasts + cond b 0 1) (same refl)
step_count true false next i lasts rest same e =
    e ∙ ap (λ (b : Bool). length lasts + cond b 0 1) (same refl) ∙ omega arith
step_count false true next i lasts rest same e = e
step_count false false next i lasts rest same e = omega (arith, e)

turned : (i y : Issuance) → is_of i.id y ≡ is_of y.id i
turned i y =
    same_from_decides (is_of i.id y) (is_of y.id i) (id_equal y.id i.id, id_same y.id i.id)
    (λ e. sym (id_equal i.id y.id e), λ e. id_same i.id y.id (sym e))

-- One more issuance is of one more identifier, unless that was issued before.
pub lasts_count : (is : List Issuance) (y : Issuance) → length (last_issues (is ++ y ∷ []))
    ≡ length (last_issues is) + cond (is_issued is y.id) 0 1
lasts_count [] y = omega arith
lasts_count (i ∷ is) y =
    ap (λ (b : Bool). length (cond b (last_issues (is ++ y ∷ [])) (i ∷ last_issues (is ++ y ∷ []))))
    (list_any-append (is_of i.id) is (y ∷ [])
    ∙ ap (λ (b : Bool). is_issued is i.id || (b || false)) (turned i y))
    ∙ step_count (is_of y.id i) (is_issued is i.id) (is_issued is y.id) i (last_issues is)
    (last_issues (is ++ y ∷ []))
    (λ here. ap (is_issued is) (sym (id_equal i.id y.id here))) (lasts_count is y)

-- One more call at the end of a legal history.
use Rattle.std.proofs.Common.{◌≡◌, ℕ, zero, suc, Bool, false, List, [], ◌∷◌}
use Rattle.std.proofs.Common.{◌++◌, Some, None, refl, sym, ap, ◌⊎◌, inl, inr, arith, take}
use Rattle.std.proofs.Common.{length-append}
use Rattle.std.specs.Prelude.{find, All, slice_get}
use Rattle.std.proofs.lemmas.Bool.{cases_Bool}
use Rattle.std.proofs.lemmas.Option.{none-some, same_Some}
use Rattle.std.proofs.lemmas.List.Elements.{All-cons, All-nil}
use Rattle.s10_history.specs.declared.entry.Entry.{Entry}
use Rattle.s10_history.specs.Settings.{Terms}
use Rattle.s10_book.specs.Rules.{IsLegal, MayFollow}

-- If nothing is found, nothing passes.
pub none_kept : {A : Type 0} (p : A → Bool) (xs : List A) → find p xs ≡ None
    → All (λ x. p x ≡ false) xs
none_kept p [] none = All-nil (λ x. p x ≡ false)
none_kept p (x ∷ xs) none =
    elim (cases_Bool (p x)) [
      | inl t ↦ absurd (none-some x (sym (rw t at none)))
      | inr f ↦ All-cons (λ y. p y ≡ false) x xs f (none_kept p xs (rw f at none))
    ]

-- The element at an index is one of those before the last, or the last.
pub place_cases : {A : Type 0} (h : List A) (e : A) (k : ℕ) (x : A)
    → slice_get (h ++ e ∷ []) k ≡ Some x
    → ((slice_get h k ≡ Some x) × (take k (h ++ e ∷ []) ≡ take k h))
    ⊎ ((x ≡ e) × (take k (h ++ e ∷ []) ≡ h))
place_cases [] e zero x is = inr (sym (same_Some e x is), refl)
place_cases [] e (suc k) x is = absurd (none-some x is)
place_cases (y ∷ ys) e zero x is = inl (is, refl)
place_cases (y ∷ ys) e (suc k) x is =
    elim (place_cases ys e k x is) [
      | inl w ↦ inl (w.0, ap (λ l. y ∷ l) w.1)
      | inr w ↦ inr (w.0, ap (λ l. y ∷ l) w.1)
    ]

-- A history remains legal after a call that may follow it.
pub IsLegal-push : (h : List Entry) (t : Terms) (e : Entry) → IsLegal h t → MayFollow h t e
    → IsLegal (h ++ e ∷ []) t
IsLegal-push h t e legal may = record {
  few = omega (arith, may.room, length-append h (e ∷ []));
  follow = λ k x is. elim (place_cases h e k x is) [
    | inl w ↦ rw w.1 (legal.follow k x w.0)
    | inr w ↦ rw (w.1, w.0) may
  ];
}

-- An empty history is legal.
pub IsLegal-nil : (t : Terms) → IsLegal [] t
IsLegal-nil t = record { few = omega arith; follow = λ k x is. absurd (none-some x is) }

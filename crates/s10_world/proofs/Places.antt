-- Lemmas about an element at its index.
use Rattle.std.proofs.Common.{◌≡◌, ◌≢◌, ◌∙◌, ◌⊎◌, ◌<◌, inl, inr, sym, ap, refl, ℕ, List, Some, Bor}
use Rattle.std.proofs.Common.{MutBor, length, get_or, arith}
use Rattle.std.specs.Prelude.{slice_get, slice_set}
use Rattle.std.specs.Slice.{IsItemAt}
use Rattle.std.specs.List.{IsItemAtMut}
use Rattle.std.proofs.lemmas.Bool.Decides.{eqb_tells}
use Rattle.std.proofs.lemmas.List.{set-get_or, length-set, get_or-set_same, get_or-set_other}
use Rattle.std.proofs.lemmas.Option.{slice_get_read, slice_get_within, slice_get-get_or}
use Rattle.std.proofs.lemmas.Option.{get_or_from_slice_get}

pub lent : {X : Type 0} (xs : List X) (i : ℕ) (x : Bor X) → IsItemAt xs i (Some x)
    → slice_get xs i ≡ Some x.now
lent xs i x is = slice_get_read xs _ i x.now refl is.3.0 is.1

pub lent_mut : {X : Type 0} (xs : List X) (i : ℕ) (x : MutBor X) → IsItemAtMut xs i (Some x)
    → slice_get xs i ≡ Some x.now
lent_mut xs i x is = slice_get_read xs _ i x.now refl is.3.0 is.1

-- Writing an equal element leaves the list unchanged.
pub set_same : {X : Type 0} (xs : List X) (i : ℕ) (x y : X) → slice_get xs i ≡ Some x → y ≡ x
    → slice_set xs i y ≡ xs
set_same xs i x y is same = ap (slice_set xs i) (same ∙ sym (get_or_from_slice_get xs i x x is))
    ∙ set-get_or xs i x

-- An element of a list after one was written.
pub after_set : {X : Type 0} (xs : List X) (k : ℕ) (y : X) (j : ℕ) (x : X)
    → slice_get (slice_set xs k y) j ≡ Some x → ((j ≡ k) × (x ≡ y))
    ⊎ ((j ≢ k) × (slice_get xs j ≡ Some x))
after_set xs k y j x is =
    let within : j < length (slice_set xs k y) = slice_get_within (slice_set xs k y) j x is in
    let in_old : j < length xs = omega (arith, within, length-set xs k y) in
    let at : get_or (slice_set xs k y) j x ≡ x = get_or_from_slice_get (slice_set xs k y) j x x
    is in
    elim (eqb_tells j k) [
      | inl e ↦ inl (
        e.1,
        sym at ∙ ap (λ i. get_or (slice_set xs k y) i x) e.1
            ∙ get_or-set_same xs k y x (omega (arith, in_old, e.1)),
      )
      | inr e ↦ inr (
        e.1,
        slice_get-get_or xs j x in_old
            ∙ ap Some (sym (get_or-set_other xs k j y x e.1) ∙ at),
      )
    ]

pub set_here : {X : Type 0} (xs : List X) (k : ℕ) (x y : X) → slice_get xs k ≡ Some x
    → slice_get (slice_set xs k y) k ≡ Some y
set_here xs k x y is =
    let within : k < length xs = slice_get_within xs k x is in
    let still : k < length (slice_set xs k y) = omega (arith, within, length-set xs k y) in
    slice_get-get_or (slice_set xs k y) k y still ∙ ap Some (get_or-set_same xs k y y within)

pub set_elsewhere : {X : Type 0} (xs : List X) (k j : ℕ) (x y : X) → j ≢ k → slice_get xs j ≡ Some x
    → slice_get (slice_set xs k y) j ≡ Some x
set_elsewhere xs k j x y other is =
    let within : j < length xs = slice_get_within xs j x is in
    let still : j < length (slice_set xs k y) = omega (arith, within, length-set xs k y) in
    slice_get-get_or (slice_set xs k y) j x still ∙ ap Some (get_or-set_other xs k j y x other
    ∙ get_or_from_slice_get xs j x x is)

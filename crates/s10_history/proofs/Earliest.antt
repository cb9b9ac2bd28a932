-- The serial whose last issuance is the earliest, by the first element of a list.
use Rattle.std.proofs.Common.{◌≡◌, Bool, true, false, cond, not, ◌&&◌, List, ◌∷◌, Some, refl}
use Rattle.std.specs.Prelude.{find}
use Rattle.std.specs.Option.{option_map}
use Rattle.s10_history.specs.declared.range.Range.{Range}
use Rattle.s10_history.specs.declared.issuance.Issuance.{Issuance}
use Rattle.s10_history.specs.History.{lies_in}
use Rattle.s10_history.specs.Issues.{is_issued, last_issues, serial_issued_earliest}

first_at : {A B : Type 0} (f : A → B) (p : A → Bool) (x : A) (rest : List A) (again lies : Bool)
    → lies ≡ p x
    → option_map f (find p (cond again rest (x ∷ rest))) ≡ cond (lies && not again) (Some (f x))
    (option_map f (find p rest))
first_at f p x rest true true is = refl
first_at f p x rest true false is = refl
first_at f p x rest false true is = rw (← is) refl
first_at f p x rest false false is = rw (← is) refl

pub earliest_cons : (r : Range) (i : Issuance) (is : List Issuance)
    → serial_issued_earliest r (i ∷ is) ≡ cond (lies_in r i.id && not (is_issued is i.id))
    (Some i.id.serial) (serial_issued_earliest r is)
earliest_cons r i is = first_at (λ (j : Issuance). j.id.serial) (λ j. lies_in r j.id) i
    (last_issues is) (is_issued is i.id) (lies_in r i.id) refl

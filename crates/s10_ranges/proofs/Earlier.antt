-- The issuances of a call before one of them.
use Rattle.std.proofs.Common.{◌≡◌, ℕ, zero, suc, ◌+◌, ◌<◌, Bool, true, false, List, [], ◌∷◌, take}
use Rattle.std.proofs.Common.{Some, refl, ap, subst, ◌∙◌, arith}
use Rattle.std.specs.Prelude.{◌||◌, slice_get}
use Rattle.std.proofs.Math.Bool.{or-true}
use Rattle.std.proofs.lemmas.Bool.{or_parts}
use Rattle.std.proofs.lemmas.Option.{none-some}
use Rattle.s10_core.specs.declared.id.Id.{Id}
use Rattle.s10_history.specs.declared.issuance.Issuance.{Issuance}
use Rattle.s10_history.specs.Issues.{is_of, is_issued}

pub issued_before : (is : List Issuance) (place k : ℕ) (i : Issuance) (x : Id)
    → slice_get is k ≡ Some i → k < place → is_of x i ≡ true → is_issued (take place is) x ≡ true
issued_before [] place k i x there before same = absurd (none-some i there)
issued_before (j ∷ is) zero k i x there before same = absurd (omega (arith, before))
issued_before (j ∷ is) (suc n) zero i x there before same = let first : is_of x j ≡ true = cc in
    ap (λ (b : Bool). b || is_issued (take n is) x) first
issued_before (j ∷ is) (suc n) (suc k) i x there before same =
    ap (λ (b : Bool). is_of x j || b) (issued_before is n k i x there (omega (arith, before)) same)
    ∙ or-true (is_of x j)

one_more : (is : List Issuance) (k : ℕ) (x : Id) → is_issued (take k is) x ≡ false
    → ((i : Issuance) → slice_get is k ≡ Some i → is_of x i ≡ false) → is_issued (take (suc k) is) x
    ≡ false
one_more [] k x before other = refl
one_more (j ∷ is) zero x before other = rw (other j refl) refl
one_more (j ∷ is) (suc k) x before other = let both = or_parts (is_of x j) (is_issued (take k is) x)
    before in rw both.0 (one_more is k x both.1 other)

pub not_issued_yet : (is : List Issuance) (k : ℕ) (x : Id) → is_issued (take k is) x ≡ false
    → ((i : Issuance) → slice_get is k ≡ Some i → is_of x i ≡ false) → is_issued (take (k + 1) is) x
    ≡ false
not_issued_yet is k x before other = let one : suc k ≡ k + 1 = omega arith in
    subst (λ (n : ℕ). is_issued (take n is) x ≡ false) one (one_more is k x before other)

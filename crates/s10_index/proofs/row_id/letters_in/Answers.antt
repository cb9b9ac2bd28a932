use Rattle.std.proofs.Common.{◌≡◌, ◌∙◌, ℕ, List, [], ◌∷◌, Some, get_or, sym, ap, ap₂}
use Rattle.std.proofs.Common.{subst}
use Rattle.std.specs.Prelude.{All, Option}
use Rattle.std.proofs.lemmas.Bool.{false≢true}
use Rattle.std.proofs.lemmas.List.Elements.{All-nil, All-cons}
use Rattle.s10_core.specs.Letters.{IsCapital, AreCapitals, letters_of}
use Rattle.s10_core.proofs.Pairs.{pair_bytes, pair_from_bytes}
use Rattle.s10_index.proofs.row_id.letters_in.Goals as goal

capitals : (s : ℕ × ℕ) → AreCapitals s → All IsCapital (letters_of s)
capitals s fit = All-cons IsCapital s.0 (s.1 ∷ []) fit.0 (All-cons IsCapital s.1 [] fit.1
    (All-nil IsCapital))

one_letters : (s t : ℕ × ℕ) → letters_of s ≡ letters_of t → s ≡ t
one_letters s t e =
    let p : s.0 ≡ t.0 = ap (λ (l : List ℕ). get_or l 0 0) e in
    let q : s.1 ≡ t.1 = ap (λ (l : List ℕ). get_or l 1 0) e in
    λ i. (p i, q i)

pub returns-in_err-service-clause-kept : goal.returns-in_err-service-clause-kept
returns-in_err-service-clause-kept c s t p q is =
    let bytes = c.to_be_bytes.ensures ∙ pair_bytes c.args.pair s t p q is in
    let first = ap (λ (l : List ℕ). get_or l 0 0 ∷ get_or l 1 0 ∷ []) bytes in
    let some = c.new.ensures.capitals.1 (subst (All IsCapital) (sym first) (capitals s p)) in
    absurd (false≢true (rw c.in_err-service.was at some))

pub returns-in_err-country-clause-kept : goal.returns-in_err-country-clause-kept
returns-in_err-country-clause-kept c s t p q is =
    let bytes = c.to_be_bytes.ensures ∙ pair_bytes c.args.pair s t p q is in
    let second = ap (λ (l : List ℕ). get_or l 2 0 ∷ get_or l 3 0 ∷ []) bytes in
    let some = c.new-2.ensures.capitals.1 (subst (All IsCapital) (sym second) (capitals t q)) in
    absurd (false≢true (rw c.in_err-country.was at some))

pub returns-clause-some : goal.returns-clause-some
returns-clause-some c =
    let s = c.in_ok-service.service in
    let t = c.in_ok-country.country in
    let a = c.in_ok-service.ensures.letters
    ∙ ap (λ (l : List ℕ). get_or l 0 0 ∷ get_or l 1 0 ∷ []) c.to_be_bytes.ensures in
    let b = c.in_ok-country.ensures.letters
    ∙ ap (λ (l : List ℕ). get_or l 2 0 ∷ get_or l 3 0 ∷ []) c.to_be_bytes.ensures in
    pair_from_bytes c.args.pair s t c.ranges.pair.fits
    (sym (ap₂ (λ (l m : List ℕ). get_or l 0 0 ∷ get_or l 1 0 ∷ get_or m 0 0 ∷ get_or m 1 0 ∷ []) a
    b))

pub returns-clause-kept : goal.returns-clause-kept
returns-clause-kept c s t p q is =
    let bytes = c.to_be_bytes.ensures ∙ pair_bytes c.args.pair s t p q is in
    let a = one_letters c.in_ok-service.service s (c.in_ok-service.ensures.letters
    ∙ ap (λ (l : List ℕ). get_or l 0 0 ∷ get_or l 1 0 ∷ []) bytes) in
    let b = one_letters c.in_ok-country.country t (c.in_ok-country.ensures.letters
    ∙ ap (λ (l : List ℕ). get_or l 2 0 ∷ get_or l 3 0 ∷ []) bytes) in
    let made : ℕ × ℕ → ℕ × ℕ → Option ((ℕ × ℕ) × (ℕ × ℕ)) = λ x y. Some (x, y) in
    ap₂ made a b

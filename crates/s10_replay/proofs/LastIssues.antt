-- Each identifier that was issued has one issuance among those that are the last of theirs.
use Rattle.std.proofs.Common.{◌≡◌, Bool, true, false, cond, List, [], ◌∷◌, Some, None, refl}
use Rattle.std.proofs.Common.{sym, ap, ◌∙◌}
use Rattle.std.specs.Prelude.{filter, All, option_to_list}
use Rattle.std.specs.List.{last_or}
use Rattle.std.proofs.lemmas.List.Elements.{All-cons, All-head, All-tail}
use Rattle.s10_core.specs.declared.id.Id.{Id}
use Rattle.s10_history.specs.declared.issuance.Issuance.{Issuance}
use Rattle.s10_history.specs.Issues.{is_of, is_issued, last_issuance_of, last_issues}
use Rattle.s10_book.proofs.Free.{id_equal, issued_latest}
use Rattle.s10_history.proofs.Issued.{none_filter, last_or-more}

-- One more issuance: its identifier is or is not issued again later, and is or is not the given
-- one.
at_first : (again here : Bool) (p : Issuance → Bool) (i : Issuance) (lasts passed : List Issuance)
    → p i ≡ here → filter p lasts ≡ option_to_list (last_or None passed)
    → (here ≡ true → again ≡ true → (l : Issuance) × (last_or None passed ≡ Some l))
    → (here ≡ true → again ≡ false → passed ≡ [])
    → filter p (cond again lasts (i ∷ lasts))
    ≡ option_to_list (last_or None (cond here (i ∷ passed) passed))
at_first true false p i lasts passed e rest more none = rest
at_first false false p i lasts passed e rest more none =
    ap (λ t. cond t (i ∷ filter p lasts) (filter p lasts)) e ∙ rest
at_first true true p i lasts passed e rest more none =
    let l = more refl refl in
    rest ∙ ap option_to_list l.1 ∙ sym (ap option_to_list (last_or-more (Some i) passed l.0 l.1))
at_first false true p i lasts passed e rest more none =
    let empty = none refl refl in
    ap (λ t. cond t (i ∷ filter p lasts) (filter p lasts)) e
    ∙ ap (λ l. i ∷ l) (rest ∙ ap (λ l. option_to_list (last_or None l)) empty)
    ∙ sym (ap (λ l. option_to_list (last_or (Some i) l)) empty)

-- The one that is of the identifier is its last issuance.
pub last_of : (is : List Issuance) (x : Id) → filter (is_of x) (last_issues is)
    ≡ option_to_list (last_issuance_of is x)
last_of [] x = refl
last_of (i ∷ is) x =
    at_first (is_issued is i.id) (is_of x i) (is_of x) i (last_issues is) (filter (is_of x) is) refl
    (last_of is x)
    (λ here again. issued_latest is x (ap (is_issued is) (sym (id_equal i.id x here)) ∙ again))
    (λ here again. none_filter (is_of x) is (ap (is_issued is) (sym (id_equal i.id x here))
    ∙ again))

all_at : (P : Issuance → Type 0) (b : Bool) (i : Issuance) (is : List Issuance) → P i → All P is
    → All P (cond b is (i ∷ is))
all_at P true i is here rest = rest
all_at P false i is here rest = All-cons P i is here rest

-- What is true of each issuance is true of each that is the last of its identifier.
pub All-last_issues : (P : Issuance → Type 0) (is : List Issuance) → All P is
    → All P (last_issues is)
All-last_issues P [] all = all
All-last_issues P (i ∷ is) all = all_at P (is_issued is i.id) i (last_issues is)
    (All-head P i is all) (All-last_issues P is (All-tail P i is all))

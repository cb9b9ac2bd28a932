-- Successive picks, each over the issuances with those before it.
use Rattle.std.proofs.Common.{◌≡◌, ℕ, zero, suc, List, [], ◌∷◌, ◌++◌, Option, Some, None, refl}
use Rattle.std.specs.Prelude.{find}
use Rattle.std.specs.Option.{option_map}
use Rattle.s10_core.specs.declared.id.Id.{Id}
use Rattle.s10_history.specs.declared.range.Range.{Range}
use Rattle.s10_history.specs.declared.issuance.Issuance.{Issuance}
use Rattle.s10_history.specs.Issues.{pick_of, id_at}
use Rattle.s10_book.specs.Rules.{has_free_pick}

-- The result for the range that was found; none if none was.
abbrev pub then_found : Option Range → (Range → Option (List Id)) → Option (List Id)
then_found None next = None
then_found (Some r) next = next r

pub then_same : (o : Option Range) (f g : Range → Option (List Id))
    → ((r : Range) → o ≡ Some r → f r ≡ g r) → then_found o f ≡ then_found o g
then_same None f g same = refl
then_same (Some r) f g same = same r refl

-- The picks of successive Draws from the ranges, each over the issuances with those before it.
abbrev pub picks : (Id → Issuance) → ℕ → ℕ → List Range → List Issuance → ℕ → Option (List Id)
picks made day n rs is zero = Some []
picks made day n rs is (suc k) =
    then_found (find (has_free_pick is day n) rs)
    (λ r. option_map (λ xs. id_at r (pick_of is r) ∷ xs)
    (picks made day n rs (is ++ made (id_at r (pick_of is r)) ∷ []) k))

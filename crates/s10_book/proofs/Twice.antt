-- No identifier occurs twice in one reply.
use Rattle.std.proofs.Common.{◌≡◌, ◌≢◌, ℕ, ◌+◌, ◌≤◌, true, List, [], ◌∷◌, ◌++◌, map, refl, ◌∙◌}
use Rattle.std.proofs.Common.{arith, subst, length}
use Rattle.std.specs.Prelude.{All, AllPairs, Contains}
use Rattle.std.proofs.lemmas.List.Elements.{All-nil, All-cons, All-contains, Contains-append_left}
use Rattle.std.proofs.lemmas.List.Elements.{Contains-append_right}
use Rattle.std.proofs.lemmas.List.Kept.{AllPairs-cons}
use Rattle.s10_core.specs.declared.id.Id.{Id}
use Rattle.s10_wire.specs.declared.outcome.Outcome.{Outcome}
use Rattle.s10_wire.specs.declared.outcome.Outcome.TheVariants.{DrawnMany}
use Rattle.s10_history.specs.declared.entry.Entry.{Entry}
use Rattle.s10_history.specs.declared.range.Range.{Range}
use Rattle.s10_history.specs.declared.issuance.Issuance.{Issuance}
use Rattle.s10_history.specs.Settings.{Terms}
use Rattle.s10_history.specs.History.{day_of, ranges_of}
use Rattle.s10_history.specs.Issues.{issues_of, carried_by, is_of}
use Rattle.s10_book.specs.Rules.{IsLegal, MayFollow}
use Rattle.s10_book.proofs.Carried.{made_by, InTurn, IsPicked, carried_call}
use Rattle.s10_book.proofs.Spaced.{IsSound, sound, sound_more, sound_later, free_since, id_same}

-- The list has an issuance of the identifier on the day.
abbrev Has : List Issuance → Id → ℕ → Type 0
Has is x day = (y : Issuance) × Contains is y × (y.id ≡ x) × (y.day ≡ day)

has_more : (is : List Issuance) (z : Issuance) (x : Id) (day : ℕ) → Has is x day
    → Has (is ++ z ∷ []) x day
has_more is z x day has = (has.0, Contains-append_left is (z ∷ []) has.0 has.1, has.2, has.3)

others : (rs : List Range) (customer day n d : ℕ) (e : Entry) (arrival : ℕ) (x : Id)
    (is : List Issuance) (ids : List Id) → 1 ≤ n → InTurn (IsPicked rs customer day n)
    (made_by e arrival) is (map (λ id. (d, id)) ids) → IsSound is day n → Has is x day
    → All (λ y. x ≢ y) ids
others rs customer day n d e arrival x is [] pos turn known has = All-nil (λ y. x ≢ y)
others rs customer day n d e arrival x is (z ∷ zs) pos turn known has =
    let past : All (λ i. is_of z i ≡ true → i.day + n ≤ day) is =
    free_since is z day n known.days turn.0.free (omega (arith, pos)) in
    let here : x ≢ z = λ same.
    let le : has.0.day + n ≤ day = All-contains (λ i. is_of z i ≡ true → i.day + n ≤ day) is has.0
    past has.1 (id_same has.0.id z (has.2 ∙ same)) in
    absurd (omega (arith, le, has.3, pos)) in
    All-cons (λ y. x ≢ y) z zs here
    (others rs customer day n d e arrival x (is ++ made_by e arrival (d, z) ∷ []) zs pos turn.1
    (sound_more is (made_by e arrival (d, z)) day n turn.0.same_day turn.0.free known)
    (has_more is (made_by e arrival (d, z)) x day has))

apart_ids : (rs : List Range) (customer day n d : ℕ) (e : Entry) (arrival : ℕ) (is : List Issuance)
    (ids : List Id) → 1 ≤ n → InTurn (IsPicked rs customer day n) (made_by e arrival) is
    (map (λ id. (d, id)) ids) → IsSound is day n
    → AllPairs (λ x y. x ≢ y) ids
apart_ids rs customer day n d e arrival is [] pos turn known = λ i j q lt lt'. absurd (omega arith)
apart_ids rs customer day n d e arrival is (z ∷ zs) pos turn known =
    let grown : IsSound (is ++ made_by e arrival (d, z) ∷ []) day n =
    sound_more is (made_by e arrival (d, z)) day n turn.0.same_day turn.0.free known in
    let last : Contains (is ++ made_by e arrival (d, z) ∷ []) (made_by e arrival (d, z)) =
    Contains-append_right is (made_by e arrival (d, z) ∷ []) (made_by e arrival (d, z)) (
      0,
      omega arith,
      refl,
    ) in
    AllPairs-cons (λ x y. x ≢ y) z zs
    (others rs customer day n d e arrival z (is ++ made_by e arrival (d, z) ∷ []) zs pos turn.1
    grown (made_by e arrival (d, z), last, refl, turn.0.same_day))
    (apart_ids rs customer day n d e arrival (is ++ made_by e arrival (d, z) ∷ []) zs pos turn.1
    grown)

-- No identifier occurs twice in a reply.
pub never_twice : (h : List Entry) (t : Terms) (e : Entry) → IsLegal h t → 1 ≤ t.interval
    → MayFollow h t e → (day : ℕ) (ids : List Id) → e.outcome ≡ DrawnMany day ids
    → AllPairs (λ x y. x ≢ y) ids
never_twice h t e legal pos may day ids is =
    let T : Outcome → Type 0 =
    λ o. InTurn (IsPicked (ranges_of h) e.request.customer e.day t.interval)
    (made_by e (1 + length h)) (issues_of h) (carried_by o) in
    apart_ids (ranges_of h) e.request.customer e.day t.interval day e (1 + length h) (issues_of h)
    ids pos (subst T is (carried_call h t e may))
    (sound_later (issues_of h) (day_of h) e.day t.interval may.in_order (sound h t legal))

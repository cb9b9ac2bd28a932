-- Logs of issuances.
use Rattle.std.proofs.Common.{◌≡◌, ◌∙◌, ℕ, zero, suc, ◌+◌, ◌<◌, ◌≤◌, Bool, true, false, cond}
use Rattle.std.proofs.Common.{List, [], ◌∷◌, ◌++◌, Option, Some, None, length, map, take, refl}
use Rattle.std.proofs.Common.{sym, ap, ap₂, subst, arith, take_all}
use Rattle.std.specs.Prelude.{slice_get, All, is_some}
use Rattle.std.specs.Option.{option_and_then}
use Rattle.std.specs.List.{AllZip}
use Rattle.std.proofs.Math.ListN.{set}
use Rattle.std.proofs.lemmas.Bool.{both_ways}
use Rattle.std.proofs.lemmas.List.{length_push, map_push, length-map}
use Rattle.std.proofs.lemmas.List.Elements.{All-contains}
use Rattle.std.proofs.lemmas.Option.{none-some, same_Some, slice_get_within, get_or_from_slice_get}
use Rattle.s10_core.specs.declared.id.Id.{Id}
use Rattle.s10_core.specs.Id.{same_id}
use Rattle.s10_wire.specs.declared.body.Body.{Body}
use Rattle.s10_wire.specs.declared.body.Body.TheVariants.{Void}
use Rattle.s10_wire.specs.declared.outcome.Outcome.{Outcome}
use Rattle.s10_wire.specs.declared.outcome.Outcome.TheVariants.{Voided}
use Rattle.s10_history.specs.declared.entry.Entry.{Entry}
use Rattle.s10_history.specs.declared.issuance.Issuance.{Issuance}
use Rattle.s10_history.specs.Issues.{issues_at, is_of, is_issued, last_issues, last_issuance_of}
use Rattle.s10_history.specs.Issues.{voids, voids_by, voided_after}
use Rattle.s10_history.proofs.Issued.{last_issuance_of-more}
use Rattle.s10_history.proofs.Numbering.{past_end}
use Rattle.s10_history.proofs.Voided.{same_voided, now_voided}
use Rattle.s10_book.proofs.Free.{id_equal}
use Rattle.s10_book.proofs.Spaced.{id_same}
use Rattle.s10_ranges.specs.declared.hash_seed.HashSeed.{HashSeed}
use Rattle.s10_index.specs.declared.issue_place.IssuePlace.{IssuePlace}
use Rattle.s10_index.specs.declared.issue_log.IssueLog.{IssueLog}
use Rattle.s10_index.specs.CallLog.{issuance_at}
use Rattle.s10_index.specs.IssueLog.{ArePlaces, HoldsIssues, HasVoids}
use Rattle.s10_index.specs.KeyHash.{id_hash}
use Rattle.s10_index.specs.LastPlace.{passes_at, last_place}
use Rattle.s10_index.proofs.Identifiers.{some_last, lasts_count}
use Rattle.s10_index.proofs.Keyed.{element_at}
use Rattle.s10_index.proofs.LastPlaces.{at_element, last_push, last_passes_at, before_end}
use Rattle.s10_index.proofs.LastPlaces.{at_end}

-- The last issuance of an identifier is the one at its last place.

step_in : (is : List Issuance) (n : ℕ) (i : Issuance) (b : Bool) (place : Option ℕ)
    (last : Option Issuance) → slice_get is n ≡ Some i
    → option_and_then (slice_get is) place ≡ last
    → option_and_then (slice_get is) (cond b (Some n) place) ≡ cond b (Some i) last
step_in is n i true place last at rest = at
step_in is n i false place last at rest = rest

last_in : (is : List Issuance) (x : Id) (n : ℕ) → n ≤ length is
    → option_and_then (slice_get is) (last_place (is_of x) is n) ≡ last_issuance_of (take n is) x
last_in is x zero few = refl
last_in is x (suc n) few =
    by (slice_get is n) refl (last_in is x n (omega (arith, few)))
  where
    by : (o : Option Issuance) → slice_get is n ≡ o
        → option_and_then (slice_get is) (last_place (is_of x) is n)
        ≡ last_issuance_of (take n is) x
        → option_and_then (slice_get is)
        (cond (passes_at (is_of x) is n) (Some n) (last_place (is_of x) is n))
        ≡ last_issuance_of (take (suc n) is) x
    by None at rest = absurd (omega (arith, few, past_end is n at))
    by (Some i) at rest =
        let next : n + 1 ≡ suc n = omega arith in
        let before : Option Issuance = last_issuance_of (take n is) x in
        ap (λ (b : Bool). option_and_then (slice_get is)
        (cond b (Some n) (last_place (is_of x) is n))) (at_element (is_of x) is n i at)
        ∙ step_in is n i (is_of x i) (last_place (is_of x) is n) before at rest
        ∙ sym (ap (λ (m : ℕ). last_issuance_of (take m is) x) (sym next)
        ∙ last_issuance_of-more is n i x (omega (arith, few))
        ∙ ap (λ (j : Issuance). cond (is_of x j) (Some j) before)
        (get_or_from_slice_get is n i i at))

pub last_place_issue : (is : List Issuance) (x : Id)
    → option_and_then (slice_get is) (last_place (is_of x) is (length is))
    ≡ last_issuance_of is x
last_place_issue is x = last_in is x (length is) (omega arith)
    ∙ ap (λ (l : List Issuance). last_issuance_of l x) (take_all (length is) is (omega arith))

-- The issuance at the last place of an identifier.
pub issue_at_last : (is : List Issuance) (x : Id) (k : ℕ)
    → last_place (is_of x) is (length is) ≡ Some k → (i : Issuance) × (slice_get is k ≡ Some i)
    × (i.id ≡ x) × (last_issuance_of is x ≡ Some i)
issue_at_last is x k last =
    let at = last_passes_at (is_of x) is (length is) k last in
    let i = element_at (is_of x) is k at.1 in (
      i.0,
      i.1,
      id_equal i.0.id x i.2,
      sym (last_place_issue is x) ∙ ap (option_and_then (slice_get is)) last ∙ i.1,
    )

-- There is a last place exactly if the identifier was issued.
some_place : (is : List Issuance) (x : Id)
    → is_some (last_place (is_of x) is (length is)) ≡ is_issued is x
some_place is x = by (last_place (is_of x) is (length is)) refl
  where
    by : (o : Option ℕ) → last_place (is_of x) is (length is) ≡ o
        → is_some (last_place (is_of x) is (length is)) ≡ is_issued is x
    by None last =
        ap is_some last
        ∙ ap is_some (sym (ap (option_and_then (slice_get is)) last) ∙ last_place_issue is x)
        ∙ some_last is x
    by (Some k) last =
        ap is_some last ∙ sym (ap is_some (issue_at_last is x k last).3) ∙ some_last is x

-- Places.

abbrev pub IsPlaceOf : List Entry → IssuePlace → Issuance → Type 0
IsPlaceOf h p i = issuance_at h p.call p.at ≡ Some i

abbrev found_at : List Entry → IssuePlace → Option Issuance
found_at h p = issuance_at h p.call p.at

zipped : (h : List Entry) (ps : List IssuePlace) (is : List Issuance) → ArePlaces h ps is
    → AllZip (IsPlaceOf h) ps is
zipped h [] [] all = tt
zipped h [] (i ∷ is) all = cc
zipped h (p ∷ ps) [] all = cc
zipped h (p ∷ ps) (i ∷ is) all =
    let here : found_at h p ≡ Some i = cc in
    let rest : map (found_at h) ps ≡ map Some is = cc in
    (here, zipped h ps is rest)

unzipped : (h : List Entry) (ps : List IssuePlace) (is : List Issuance)
    → AllZip (IsPlaceOf h) ps is → ArePlaces h ps is
unzipped h [] [] all = refl
unzipped h [] (i ∷ is) all = absurd all
unzipped h (p ∷ ps) [] all = absurd all
unzipped h (p ∷ ps) (i ∷ is) all =
    ap₂ (λ (o : Option Issuance) (l : List (Option Issuance)). o ∷ l) all.0
    (unzipped h ps is all.1)

-- The place of an issuance is the same after one more call.
place_kept : (h : List Entry) (e : Entry) (p : IssuePlace) (i : Issuance) → IsPlaceOf h p i
    → IsPlaceOf (h ++ e ∷ []) p i
place_kept h e p i at = by (slice_get h p.call) refl at
  where
    by : (o : Option Entry) → slice_get h p.call ≡ o
        → option_and_then (λ (d : Entry). slice_get (issues_at (p.call + 1) d) p.at) o ≡ Some i
        → IsPlaceOf (h ++ e ∷ []) p i
    by None there is = absurd (none-some i is)
    by (Some d) there is =
        ap (option_and_then (λ (c : Entry). slice_get (issues_at (p.call + 1) c) p.at))
        (before_end h (e ∷ []) p.call (slice_get_within h p.call d there) ∙ there) ∙ is

zip_kept : (h : List Entry) (e : Entry) (ps : List IssuePlace) (is : List Issuance)
    → AllZip (IsPlaceOf h) ps is → AllZip (IsPlaceOf (h ++ e ∷ [])) ps is
zip_kept h e [] [] all = tt
zip_kept h e [] (i ∷ is) all = absurd all
zip_kept h e (p ∷ ps) [] all = absurd all
zip_kept h e (p ∷ ps) (i ∷ is) all = (place_kept h e p i all.0, zip_kept h e ps is all.1)

pub places_kept : (h : List Entry) (e : Entry) (ps : List IssuePlace) (is : List Issuance)
    → ArePlaces h ps is → ArePlaces (h ++ e ∷ []) ps is
places_kept h e ps is all =
    unzipped (h ++ e ∷ []) ps is (zip_kept h e ps is (zipped h ps is all))

zip_there : (h : List Entry) (ps : List IssuePlace) (is : List Issuance) (k : ℕ)
    (p : IssuePlace) → AllZip (IsPlaceOf h) ps is → slice_get ps k ≡ Some p → (i : Issuance)
    × (slice_get is k ≡ Some i) × (issuance_at h p.call p.at ≡ Some i)
zip_there h [] is k p all at = absurd (none-some p at)
zip_there h (q ∷ ps) [] k p all at = absurd all
zip_there h (q ∷ ps) (i ∷ is) zero p all at =
    let P : IssuePlace → Type 0 = λ r. issuance_at h r.call r.at ≡ Some i in
    (i, refl, subst P (same_Some q p at) all.0)
zip_there h (q ∷ ps) (i ∷ is) (suc k) p all at = zip_there h ps is k p all.1 at

-- The issuance of a place.
pub issue_there : (h : List Entry) (ps : List IssuePlace) (is : List Issuance) (k : ℕ)
    (p : IssuePlace) → ArePlaces h ps is → slice_get ps k ≡ Some p → (i : Issuance)
    × (slice_get is k ≡ Some i) × (issuance_at h p.call p.at ≡ Some i)
issue_there h ps is k p all at = zip_there h ps is k p (zipped h ps is all) at

places_push : (h : List Entry) (ps : List IssuePlace) (is : List Issuance) (p : IssuePlace)
    (i : Issuance) → ArePlaces h ps is → IsPlaceOf h p i
    → ArePlaces h (ps ++ p ∷ []) (is ++ i ∷ [])
places_push h ps is p i all at =
    map_push (found_at h) ps p
    ∙ ap₂ (λ (l : List (Option Issuance)) (o : Option Issuance). l ++ o ∷ []) all at
    ∙ sym (map_push Some is i)

pub places_count : (h : List Entry) (ps : List IssuePlace) (is : List Issuance)
    → ArePlaces h ps is → length ps ≡ length is
places_count h ps is all =
    sym (length-map ps (found_at h)) ∙ ap length all
    ∙ length-map {B = Option Issuance} is Some

-- Issuances of an identifier have the same hash.
pub id_hashes : (seed : HashSeed) (x : Id) (i : Issuance) → is_of x i ≡ true
    → id_hash seed i.id ≡ id_hash seed x
id_hashes seed x i same = ap (id_hash seed) (id_equal i.id x same)

-- The issuance that is recorded at the last call.
pub last_call_issue : (h : List Entry) (e : Entry) (at : ℕ)
    → issuance_at (h ++ e ∷ []) (length h) at ≡ slice_get (issues_at (length h + 1) e) at
last_call_issue h e at =
    ap (option_and_then (λ (d : Entry). slice_get (issues_at (length h + 1) d) at)) (at_end h e)

-- One more issuance.
pub holds_push : (seed : HashSeed) (old new : IssueLog) (h : List Entry) (is : List Issuance)
    (i : Issuance) (place : IssuePlace) (x : Id) (known : Option ℕ)
    → HoldsIssues seed old h is → i.id ≡ x → IsPlaceOf h place i
    → new.places.items ≡ old.places.items ++ place ∷ []
    → new.chains.hashes ≡ old.chains.hashes ++ id_hash seed x ∷ []
    → known ≡ last_place (is_of x) is (length is)
    → new.identifiers ≡ old.identifiers + cond (is_some known) 0 1
    → HoldsIssues seed new h (is ++ i ∷ [])
holds_push seed old new h is i place x known held same at places hashes last count = record {
  places = subst (λ (l : List IssuePlace). ArePlaces h l (is ++ i ∷ [])) (sym places)
      (places_push h old.places.items is place i held.places at);
  hashes = hashes ∙ ap (λ (l : List ℕ). l ++ id_hash seed x ∷ []) held.hashes
      ∙ ap (λ (y : Id). map (λ (j : Issuance). id_hash seed j.id) is ++ id_hash seed y ∷ [])
      (sym same)
      ∙ sym (map_push (λ (j : Issuance). id_hash seed j.id) is i);
  count = count
      ∙ ap (λ (n : ℕ). n + cond (is_some known) 0 1) held.count
      ∙ ap (λ (b : Bool). length (last_issues is) + cond b 0 1)
      (ap is_some last ∙ some_place is x ∙ ap (is_issued is) (sym same))
      ∙ sym (lasts_count is i);
}

pub voids_push : (old new : List IssuePlace) (h : List Entry) (is : List Issuance) (i : Issuance)
    (place : IssuePlace) → length old ≡ length is → place.voided ≡ false
    → voided_after i.arrival h i.id ≡ false → new ≡ old ++ place ∷ []
    → HasVoids old h is → HasVoids new h (is ++ i ∷ [])
voids_push old new h is i place long unvoided none grown before k p j at there last =
    by (is_of j.id i) refl
  where
    more : List Issuance
    more = is ++ i ∷ []

    pushed : last_place (is_of j.id) more (length more)
        ≡ cond (is_of j.id i) (Some (length is)) (last_place (is_of j.id) is (length is))
    pushed = ap (last_place (is_of j.id) more) (length_push is i) ∙ last_push (is_of j.id) is i

    by : (b : Bool) → is_of j.id i ≡ b → p.voided ≡ voided_after j.arrival h j.id
    by true own =
        let e : length is ≡ k = same_Some (length is) k (sym (pushed
        ∙ ap (λ (b : Bool). cond b (Some (length is)) (last_place (is_of j.id) is (length is))) own)
        ∙ last) in
        let new_place : place ≡ p = same_Some place p
        (sym (at_end old place)
        ∙ ap (slice_get (old ++ place ∷ [])) (long ∙ e)
        ∙ ap (λ (l : List IssuePlace). slice_get l k) (sym grown) ∙ at) in
        let new_issue : i ≡ j = same_Some i j
        (sym (at_end is i) ∙ ap (slice_get more) e ∙ there) in
        ap (λ (q : IssuePlace). q.voided) (sym new_place) ∙ unvoided
        ∙ sym none ∙ ap (λ (m : Issuance). voided_after m.arrival h m.id) new_issue
    by false other =
        let was : last_place (is_of j.id) is (length is) ≡ Some k = sym (pushed
        ∙ ap (λ (b : Bool). cond b (Some (length is)) (last_place (is_of j.id) is (length is)))
        other) ∙ last in
        let lt : k < length is = (last_passes_at (is_of j.id) is (length is) k was).0 in
        before k p j
        (sym (before_end old (place ∷ []) k (omega (arith, lt, long)))
        ∙ ap (λ (l : List IssuePlace). slice_get l k) (sym grown) ∙ at)
        (sym (before_end is (i ∷ []) k lt) ∙ there) was

-- A call that voids nothing leaves what is voided.
pub voids_kept : (places : List IssuePlace) (h : List Entry) (e : Entry) (is : List Issuance)
    → ((x : Id) → voids x e ≡ false) → HasVoids places h is → HasVoids places (h ++ e ∷ []) is
voids_kept places h e is none before k p i at there last =
    before k p i at there last ∙ sym (same_voided i.arrival h e i.id (none i.id))

-- One place marked as voided.

zip_set : (h : List Entry) (ps : List IssuePlace) (is : List Issuance) (k : ℕ)
    (p new : IssuePlace) → AllZip (IsPlaceOf h) ps is → slice_get ps k ≡ Some p
    → new.call ≡ p.call → new.at ≡ p.at → AllZip (IsPlaceOf h) (set ps k new) is
zip_set h [] is k p new all there call at = all
zip_set h (q ∷ ps) [] k p new all there call at = absurd all
zip_set h (q ∷ ps) (i ∷ is) zero p new all there call at =
    let P : IssuePlace → Type 0 = λ r. issuance_at h r.call r.at ≡ Some i in (
      ap₂ (issuance_at h) call at ∙ subst P (same_Some q p there) all.0,
      all.1,
    )
zip_set h (q ∷ ps) (i ∷ is) (suc k) p new all there call at =
    (all.0, zip_set h ps is k p new all.1 there call at)

get_set_same : (ps : List IssuePlace) (k : ℕ) (p new : IssuePlace) → slice_get ps k ≡ Some p
    → slice_get (set ps k new) k ≡ Some new
get_set_same [] k p new at = absurd (none-some p at)
get_set_same (q ∷ ps) zero p new at = refl
get_set_same (q ∷ ps) (suc k) p new at = get_set_same ps k p new at

get_set_other : (ps : List IssuePlace) (k j : ℕ) (new : IssuePlace) → (j ≡ k → ⊥)
    → slice_get (set ps k new) j ≡ slice_get ps j
get_set_other [] k j new other = refl
get_set_other (q ∷ ps) zero zero new other = absurd (other refl)
get_set_other (q ∷ ps) zero (suc j) new other = refl
get_set_other (q ∷ ps) (suc k) zero new other = refl
get_set_other (q ∷ ps) (suc k) (suc j) new other =
    get_set_other ps k j new (λ e. other (ap suc e))

pub holds_set : (seed : HashSeed) (old new : IssueLog) (h : List Entry) (is : List Issuance)
    (k : ℕ) (p marked : IssuePlace) → slice_get old.places.items k ≡ Some p
    → marked.call ≡ p.call → marked.at ≡ p.at
    → new.places.items ≡ set old.places.items k marked
    → new.chains.hashes ≡ old.chains.hashes → new.identifiers ≡ old.identifiers
    → HoldsIssues seed old h is → HoldsIssues seed new h is
holds_set seed old new h is k p marked there call at places hashes count held = record {
  places = subst (λ (l : List IssuePlace). ArePlaces h l is) (sym places)
      (unzipped h (set old.places.items k marked) is (zip_set h old.places.items is k p marked
      (zipped h old.places.items is held.places) there call at));
  hashes = hashes ∙ held.hashes;
  count = count ∙ held.count;
}

voids_only : (h : List Entry) (e : Entry) (x y : Id) → e.request.body ≡ Void x
    → e.outcome ≡ Voided → voids y e ≡ same_id x y
voids_only h e x y asks done = ap₂ (λ (b : Body) (o : Outcome). voids_by y b o) asks done

-- A Done Void of an identifier marks its last issuance.
pub voids_set : (old new : List IssuePlace) (h : List Entry) (e : Entry) (is : List Issuance) (x : Id)
    (k : ℕ) (p marked : IssuePlace) → e.request.body ≡ Void x → e.outcome ≡ Voided
    → All (λ i. i.arrival ≤ length h) is → last_place (is_of x) is (length is) ≡ Some k
    → slice_get old k ≡ Some p → marked.voided ≡ true → new ≡ set old k marked
    → HasVoids old h is → HasVoids new (h ++ e ∷ []) is
voids_set old new h e is x k p marked asks done few found there is_marked places before j q i at
    issue last = by (same_id x i.id) refl
  where
    by : (b : Bool) → same_id x i.id ≡ b → q.voided ≡ voided_after i.arrival (h ++ e ∷ []) i.id
    by true own =
        let one : x ≡ i.id = id_equal x i.id own in
        let here : k ≡ j = same_Some k j (sym found
        ∙ ap (λ (y : Id). last_place (is_of y) is (length is)) one ∙ last) in
        let mine : marked ≡ q = same_Some marked q
        (sym (get_set_same old k p marked there)
        ∙ ap (slice_get (set old k marked)) here
        ∙ ap (λ (l : List IssuePlace). slice_get l j) (sym places) ∙ at) in
        let among : i.arrival ≤ length h = All-contains (λ (m : Issuance). m.arrival ≤ length h) is i
        few (j, slice_get_within is j i issue, get_or_from_slice_get is j i i issue) in
        ap (λ (r : IssuePlace). r.voided) (sym mine) ∙ is_marked
        ∙ sym (now_voided i.arrival h e i.id among (voids_only h e x i.id asks done ∙ own))
    by false other =
        let first = issue_at_last is x k found in
        let apart : j ≡ k → ⊥ = λ same. both_ways (same_id x i.id) other
        (id_same x i.id (sym first.2
        ∙ ap (λ (m : Issuance). m.id) (same_Some first.0 i (sym first.1
        ∙ ap (slice_get is) (sym same) ∙ issue)))) in
        before j q i
        (sym (get_set_other old k j marked apart)
        ∙ ap (λ (l : List IssuePlace). slice_get l j) (sym places) ∙ at) issue last
        ∙ sym (same_voided i.arrival h e i.id (voids_only h e x i.id asks done ∙ other))

-- If the identifier was never issued, there is nothing to mark.
pub voids_unset : (places : List IssuePlace) (h : List Entry) (e : Entry) (is : List Issuance) (x : Id)
    → e.request.body ≡ Void x → e.outcome ≡ Voided
    → last_place (is_of x) is (length is) ≡ None
    → HasVoids places h is → HasVoids places (h ++ e ∷ []) is
voids_unset places h e is x asks done none before j q i at issue last = by (same_id x i.id) refl
  where
    by : (b : Bool) → same_id x i.id ≡ b → q.voided ≡ voided_after i.arrival (h ++ e ∷ []) i.id
    by true own =
        absurd (none-some j (sym none
        ∙ ap (λ (y : Id). last_place (is_of y) is (length is)) (id_equal x i.id own) ∙ last))
    by false other =
        before j q i at issue last
        ∙ sym (same_voided i.arrival h e i.id (voids_only h e x i.id asks done ∙ other))

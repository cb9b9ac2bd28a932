-- Lemmas about clients of one customer that have no number in common.
use Rattle.std.proofs.Common.{◌≡◌, ◌≢◌, ◌∙◌, inl, inr, ℕ, zero, suc, ◌+◌, ◌<◌, ◌≤◌, List, [], ◌∷◌}
use Rattle.std.proofs.Common.{◌++◌, length, get_or, Some, refl, sym, ap, subst, arith}
use Rattle.std.specs.Prelude.{All, AllPairs, Contains, slice_get}
use Rattle.std.proofs.lemmas.Bool.{cases_order}
use Rattle.std.proofs.lemmas.Bool.Decides.{eqb_tells}
use Rattle.std.proofs.lemmas.List.Elements.{All-contains, All-get_or, Contains-append_right}
use Rattle.std.proofs.lemmas.Option.{none-some, same_Some, slice_get_within, get_or_from_slice_get}
use Rattle.s10_core.specs.declared.id.Id.{Id}
use Rattle.s10_wire.specs.declared.request.Request.{Request}
use Rattle.s10_history.specs.declared.entry.Entry.{Entry}
use Rattle.s10_history.specs.declared.issuance.Issuance.{Issuance}
use Rattle.s10_history.specs.Issues.{carried_by, issues_at, issues_from}
use Rattle.s10_book.specs.Promises.{IsSpaced}
use Rattle.s10_book.proofs.Carried.{made_by}
use Rattle.s10_ends.specs.Served.{GivesIn}
use Rattle.s10_ends.specs.Client.{ClientState}
use Rattle.s10_ends.proofs.Carried.{carrying, issued_here, issued}
use Rattle.s10_world.specs.World.{Acceptance, WorldState}
use Rattle.s10_world.specs.Agreement.{HaveOwnNumbers, AreOneCallEach, AreDaysApart, IsUnshared}
use Rattle.s10_world.specs.Sound.{IsOfClient, IsSoundWorld}

pairs_head : {X : Type 0} (R : X → X → Type 0) (x : X) (xs : List X) → AllPairs R (x ∷ xs)
    → All (R x) xs
pairs_head R x xs pairs = λ k d within. pairs 0 (suc k) d (omega arith) (omega (arith, within))

pairs_tail : {X : Type 0} (R : X → X → Type 0) (x : X) (xs : List X) → AllPairs R (x ∷ xs)
    → AllPairs R xs
pairs_tail R x xs pairs = λ i j d before within. pairs (suc i) (suc j) d (omega (arith, before))
    (omega (arith, within))

pairs_right : {X : Type 0} (R : X → X → Type 0) (xs ys : List X) → AllPairs R (xs ++ ys)
    → AllPairs R ys
pairs_right R [] ys pairs = pairs
pairs_right R (x ∷ xs) ys pairs = pairs_right R xs ys (pairs_tail R x (xs ++ ys) pairs)

-- An element of a list is related to every element after it.
across : {X : Type 0} (R : X → X → Type 0) (xs ys : List X) (x y : X) (i : ℕ)
    → AllPairs R (xs ++ ys) → i < length xs → get_or xs i x ≡ x → Contains ys y → R x y
across R [] ys x y i pairs within at later = absurd (omega (arith, within))
across R (z ∷ zs) ys x y zero pairs within at later =
    subst (λ v. R v y) at (All-contains (R z) (zs ++ ys) y (pairs_head R z (zs ++ ys) pairs)
    (Contains-append_right zs ys y later))
across R (z ∷ zs) ys x y (suc i) pairs within at later =
    across R zs ys x y i (pairs_tail R z (zs ++ ys) pairs) (omega (arith, within)) at later

abbrev IsSpacedPair : ℕ → Issuance → Issuance → Type 0
IsSpacedPair interval i j = i.id ≡ j.id → i.day + interval ≤ j.day

-- If two calls carry the same identifier, the later day is at least the interval past the earlier.
spaced_calls : (h : List Entry) (arrival interval i j : ℕ) (e f : Entry) (c d : ℕ × Id)
    → AllPairs (IsSpacedPair interval) (issues_from arrival h) → i < j
    → slice_get h i ≡ Some e → slice_get h j ≡ Some f → Contains (carried_by e.outcome) c
    → Contains (carried_by f.outcome) d → c.1 ≡ d.1 → c.0 + interval ≤ d.0
spaced_calls [] arrival interval i j e f c d pairs before at_i at_j carries_i carries_j same =
    absurd (none-some e at_i)
spaced_calls (y ∷ ys) arrival interval i zero e f c d pairs before at_i at_j carries_i carries_j
    same = absurd (omega (arith, before))
spaced_calls (y ∷ ys) arrival interval zero (suc j) e f c d pairs before at_i at_j carries_i
    carries_j same =
    let P : Entry → Type 0 = λ z. Contains (issues_at arrival z) (made_by e arrival c) in
    let first = subst P (sym (same_Some y e at_i)) (issued_here arrival e c carries_i) in
    let second = issued (arrival + 1) ys j f d at_j carries_j in
    across (IsSpacedPair interval) (issues_at arrival y) (issues_from (arrival + 1) ys)
    (made_by e arrival c) (made_by f second.0 d) first.0 pairs first.1 first.2 second.1 same
spaced_calls (y ∷ ys) arrival interval (suc i) (suc j) e f c d pairs before at_i at_j carries_i
    carries_j same =
    spaced_calls ys (arrival + 1) interval i j e f c d (pairs_right (IsSpacedPair interval)
    (issues_at arrival y) (issues_from (arrival + 1) ys) pairs) (omega (arith, before)) at_i
    at_j carries_i carries_j same

-- Clients of one customer at two indices have no number in common.
numbers_apart : (clients : List ClientState) (i j : ℕ) (c d : ClientState) (n : ℕ)
    → HaveOwnNumbers clients → i < j → slice_get clients i ≡ Some c → slice_get clients j ≡ Some d
    → c.customer ≡ d.customer → c.first ≤ n → n ≤ c.last → d.first ≤ n → n ≤ d.last → ⊥
numbers_apart clients i j c d n own before at_i at_j =
    let pair = own i j c before (slice_get_within clients j d at_j) in
    let x : get_or clients i c ≡ c = get_or_from_slice_get clients i c c at_i in
    let y : get_or clients j c ≡ d = get_or_from_slice_get clients j d c at_j in
    let named = rw (x, y) at pair in
    λ same. named same n

-- Two requests of clients at two indices have different keys.
keys_apart : (clients : List ClientState) (s u : ℕ × Request) → HaveOwnNumbers clients
    → IsOfClient clients s → IsOfClient clients u → s.0 ≢ u.0
    → s.1.customer ≡ u.1.customer → s.1.number ≢ u.1.number
keys_apart clients s u own first second places customers numbers =
    let c = first.0 in
    let d = second.0 in
    let n = s.1.number in
    let one : c.customer ≡ d.customer = sym first.2.0 ∙ customers ∙ second.2.0 in
    let low : c.first ≤ n = first.2.1 in
    let high : n ≤ c.last = first.2.3 in
    let low' : d.first ≤ n = omega (arith, second.2.1, numbers) in
    let high' : n ≤ d.last = omega (arith, second.2.3, numbers) in
    elim (cases_order s.0 u.0) [
      | inl same ↦ places same
      | inr other ↦ elim other [
        | inl before ↦ numbers_apart clients s.0 u.0 c d n own before first.1 second.1 one low high
            low' high'
        | inr after ↦ numbers_apart clients u.0 s.0 d c n own after second.1 first.1 (sym one) low'
            high' low high
      ]
    ]

one_call_each : (w : WorldState) → IsSoundWorld w → HaveOwnNumbers w.clients
    → AreOneCallEach w.submitted
one_call_each w sound own i j z before within customers numbers =
    let s = get_or w.submitted i z in
    let u = get_or w.submitted j z in
    elim (eqb_tells s.0 u.0) [
      | inl same ↦ let less : s.1.number < u.1.number = sound.in_turn i j z before within same.1 in
          absurd (omega (arith, less, numbers))
      | inr other ↦ keys_apart w.clients s u own (All-get_or (IsOfClient w.clients) w.submitted i z
          (omega (arith, before, within)) sound.taken)
          (All-get_or (IsOfClient w.clients) w.submitted j z within sound.taken) other.1 customers
          numbers
    ]

of_client : (w : WorldState) (a : Acceptance) → IsSoundWorld w
    → Contains w.submitted (a.client, a.request) → IsOfClient w.clients (a.client, a.request)
of_client w a sound is = All-contains (IsOfClient w.clients) w.submitted (a.client, a.request)
    sound.taken is

-- Two accepted replies are to requests with different keys.
accepted_keys : (w : WorldState) (i j : ℕ) (z : Acceptance) → IsSoundWorld w
    → HaveOwnNumbers w.clients → i < j → j < length w.accepted
    → (get_or w.accepted i z).request ≢ (get_or w.accepted j z).request
accepted_keys w i j z sound own before within same =
    let a = get_or w.accepted i z in
    let b = get_or w.accepted j z in
    let numbers : a.request.number ≡ b.request.number = ap (λ (q : Request). q.number) same in
    elim (eqb_tells a.client b.client) [
      | inl client ↦ let less : a.request.number < b.request.number =
          sound.accepted_in_turn i j z before within client.1 in
          absurd (omega (arith, less, numbers))
      | inr other ↦
          keys_apart w.clients (a.client, a.request) (b.client, b.request) own
          (of_client w a sound (All-get_or (λ y. Contains w.submitted (y.client, y.request))
          w.accepted i z (omega (arith, before, within)) sound.submitted))
          (of_client w b sound (All-get_or (λ y. Contains w.submitted (y.client, y.request))
          w.accepted j z within sound.submitted))
          other.1 (ap (λ (q : Request). q.customer) same) numbers
    ]

days_apart : (w : WorldState) (interval : ℕ) → IsSpaced w.history interval → IsSoundWorld w
    → HaveOwnNumbers w.clients → AllPairs (AreDaysApart interval) w.accepted
days_apart w interval spaced sound own i j z before within x d e first second =
    let a = get_or w.accepted i z in
    let b = get_or w.accepted j z in
    let p = carrying w.history a.request a.outcome (d, x)
    (All-get_or (λ y. GivesIn w.history y.request y.outcome) w.accepted i z
    (omega (arith, before, within)) sound.given) first in
    let q = carrying w.history b.request b.outcome (e, x)
    (All-get_or (λ y. GivesIn w.history y.request y.outcome) w.accepted j z within sound.given)
    second in
    elim (cases_order p.place q.place) [
      | inl same ↦
          let entries : p.entry ≡ q.entry =
          same_Some p.entry q.entry (sym p.there ∙ ap (slice_get w.history) same ∙ q.there) in
          absurd (accepted_keys w i j z sound own before within (sym p.own
          ∙ ap (λ (y : Entry). y.request) entries ∙ q.own))
      | inr other ↦ elim other [
        | inl earlier ↦ inl (spaced_calls w.history 1 interval p.place q.place p.entry q.entry (
          d,
          x,
        ) (e, x) spaced earlier p.there q.there p.carries q.carries refl)
        | inr later ↦ inr (spaced_calls w.history 1 interval q.place p.place q.entry p.entry (e, x)
            (d, x) spaced later q.there p.there q.carries p.carries refl)
      ]
    ]

pub unshared : (w : WorldState) (interval : ℕ) → IsSpaced w.history interval → IsSoundWorld w
    → HaveOwnNumbers w.clients → IsUnshared interval w
unshared w interval spaced sound own = record {
  calls = one_call_each w sound own;
  drawn = days_apart w interval spaced sound own;
}

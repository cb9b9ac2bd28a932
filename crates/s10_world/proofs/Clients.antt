-- A step leaves the customers and the numbers of the clients unchanged.
use Rattle.std.proofs.Common.{◌≡◌, ◌∙◌, inl, inr, ℕ, List, [], ◌∷◌, ◌++◌, cond, get_or, Option}
use Rattle.std.proofs.Common.{Some, None, refl, sym, ap, subst, arith}
use Rattle.std.specs.Prelude.{slice_get, slice_set, is_some, take, Result, Ok, Err, OnOk, IfErr}
use Rattle.std.proofs.lemmas.Option.{slice_get_within, slice_get-get_or, get_or_from_slice_get}
use Rattle.s10_wire.specs.declared.body.Body.{Body}
use Rattle.s10_wire.specs.declared.request.Request.{Request}
use Rattle.s10_history.specs.Settings.{Terms}
use Rattle.s10_ends.specs.declared.client.SubmitFault.{SubmitFault}
use Rattle.s10_ends.specs.Client.{ClientState, next_request, after_submit, submit_fault}
use Rattle.s10_ends.specs.Client.{without_pending}
use Rattle.s10_world.specs.declared.event.Event.{Event}
use Rattle.s10_world.specs.declared.event.Event.TheVariants.{Submit, Resend, GiveUp, ToServer}
use Rattle.s10_world.specs.declared.event.Event.TheVariants.{Strange, ToClient}
use Rattle.s10_world.specs.declared.network.WorldFault.{WorldFault}
use Rattle.s10_world.specs.Parts.{place_of}
use Rattle.s10_world.specs.World.{WorldState, after_submit_by, after_give_up_by, SendsPending}
use Rattle.s10_world.specs.World.{Resends, ServesRequest, ReachesServer, DeliversRequest}
use Rattle.s10_world.specs.World.{DeliversReply, Step, Steps}
use Rattle.s10_world.specs.Agreement.{IsApartFrom, HaveOwnNumbers}
use Rattle.s10_world.proofs.Places.{after_set}

abbrev IsSame : ClientState → ClientState → Type 0
IsSame c d = (d.customer ≡ c.customer) × (d.first ≡ c.first) × (d.last ≡ c.last)

-- Each client has the same customer and numbers as the one at its index before.
abbrev AreSame : List ClientState → List ClientState → Type 0
AreSame cs ds = (j : ℕ) (d : ClientState) → slice_get ds j ≡ Some d → (c : ClientState)
    × (slice_get cs j ≡ Some c) × IsSame c d

same_lists : (cs ds : List ClientState) → ds ≡ cs → AreSame cs ds
same_lists cs ds is = λ j d there. (
  d,
  ap (λ (xs : List ClientState). slice_get xs j) (sym is)
      ∙ there,
  (refl, refl, refl),
)

same_then : (cs ds es : List ClientState) → AreSame cs ds → AreSame ds es → AreSame cs es
same_then cs ds es first second = λ j e there.
    let d = second j e there in
    let c = first j d.0 d.1 in
    (c.0, c.1, (d.2.0 ∙ c.2.0, d.2.1 ∙ c.2.1, d.2.2 ∙ c.2.2))

same_set : (cs : List ClientState) (k : ℕ) (c d : ClientState) → slice_get cs k ≡ Some c
    → IsSame c d → AreSame cs (slice_set cs k d)
same_set cs k c d there same = λ j x is. elim (after_set cs k d j x is) [
  | inl e ↦ (
    c,
    ap (slice_get cs) e.0 ∙ there,
    subst (λ (y : ClientState). IsSame c y) (sym e.1)
        same,
  )
  | inr e ↦ (x, e.1, (refl, refl, refl))
]

submit_at : (w : WorldState) (k : ℕ) (c : ClientState) (body : Body) (fault : Option SubmitFault)
    → slice_get w.clients k ≡ Some c
    → AreSame w.clients
    (cond (is_some fault) w (record w {
      submitted = w.submitted ++ (k, next_request c body)
          ∷ [];
      clients = slice_set w.clients k (after_submit c body);
    })).clients
submit_at w k c body (Some fault) there = same_lists w.clients w.clients refl
submit_at w k c body None there = same_set w.clients k c (after_submit c body) there (
  refl,
  refl,
  refl,
)

submit_same : (w : WorldState) (k : ℕ) (body : Body) (client : Option ClientState)
    → slice_get w.clients k ≡ client → AreSame w.clients (after_submit_by w k body client).clients
submit_same w k body None there = same_lists w.clients w.clients refl
submit_same w k body (Some c) there = submit_at w k c body (submit_fault c) there

give_up_same : (w : WorldState) (k : ℕ) (client : Option ClientState) → slice_get w.clients k
    ≡ client → AreSame w.clients (after_give_up_by w k client).clients
give_up_same w k None there = same_lists w.clients w.clients refl
give_up_same w k (Some c) there = same_set w.clients k c (without_pending c) there (
  refl,
  refl,
  refl,
)

-- A step that leaves the clients unchanged.
left : (w w' v : WorldState) → w' ≡ v → v.clients ≡ w.clients → AreSame w.clients w'.clients
left w w' v is same = same_lists w.clients w'.clients (ap (λ (x : WorldState). x.clients) is ∙ same)

-- A step that changes a client.
made : (w w' v : WorldState) → w' ≡ v → AreSame w.clients v.clients → AreSame w.clients w'.clients
made w w' v is same = subst (λ (x : WorldState). AreSame w.clients x.clients) (sym is) same

sends_same : (w w' : WorldState) (pending : Option Request) → SendsPending w pending w'
    → AreSame w.clients w'.clients
sends_same w w' None is = left w w' w is refl
sends_same w w' (Some q) is = left w w' _ is.2 refl

resends_same : (w w' : WorldState) (client : Option ClientState) → Resends w client w'
    → AreSame w.clients w'.clients
resends_same w w' None is = left w w' w is refl
resends_same w w' (Some c) is = sends_same w w' c.pending is

serves_same : (t : Terms) (w w' : WorldState) (b : List ℕ) (q : Request) (day : ℕ)
    → ServesRequest t w b q day w' → AreSame w.clients w'.clients
serves_same t w w' b q day serves = elim serves [
  | inl fault ↦ left w w' _ fault.1 refl
  | inr other ↦ elim other [
    | inl full ↦ left w w' w full.1 refl
    | inr replied ↦ left w w' _
        replied.3 refl
  ]
]

reaches_same : (t : Terms) (w w' : WorldState) (b : List ℕ) (day : ℕ) → ReachesServer t w b day w'
    → AreSame w.clients w'.clients
reaches_same t w w' b day reaches =
    elim reaches [
      | inl none ↦ left w w' w none.1 refl
      | inr some ↦ serves_same t w w' b some.0 day
          some.2
    ]

request_same : (t : Terms) (w w' : WorldState) (b : Option (List ℕ)) (day : ℕ)
    → DeliversRequest t w b day w' → AreSame w.clients w'.clients
request_same t w w' None day is = left w w' w is refl
request_same t w w' (Some b) day is = reaches_same t w w' b day is

reply_same : (w w' : WorldState) (k : ℕ) (client : Option ClientState) (b : Option (List ℕ))
    → slice_get w.clients k ≡ client → DeliversReply w k client b w' → AreSame w.clients w'.clients
reply_same w w' k None b there is = left w w' w is refl
reply_same w w' k (Some c) None there is = left w w' w is refl
reply_same w w' k (Some c) (Some b) there is = elim is [
  | inl own ↦ made w w' _ own.3 (same_set w.clients k c (without_pending c) there (
    refl,
    refl,
    refl,
  ))
  | inr other ↦ left w w' w other.1 refl
]

step_same : (t : Terms) (w w' : WorldState) (e : Event) → Step t w e w'
    → AreSame w.clients w'.clients
step_same t w w' (Submit k body) is =
    made w w' _ is (submit_same w k body (slice_get w.clients k) refl)
step_same t w w' (Resend k) is = resends_same w w' (slice_get w.clients k) is
step_same t w w' (GiveUp k) is = made w w' _ is (give_up_same w k (slice_get w.clients k) refl)
step_same t w w' (ToServer index day) is = request_same t w w' (slice_get w.asked index) day is
step_same t w w' (Strange packet day) is = reaches_same t w w' packet day is
step_same t w w' (ToClient k index) is = reply_same w w' k (slice_get w.clients k)
    (slice_get w.replied index) refl is

steps_same : (t : Terms) (w w' : WorldState) (es : List Event) → Steps t w es w'
    → AreSame w.clients w'.clients
steps_same t w w' [] is = left w w' w is refl
steps_same t w w' (e ∷ es) is = same_then w.clients is.0.clients w'.clients
    (step_same t w is.0 e is.1) (steps_same t is.0 w' es is.2)

apart_same : (c d e f : ClientState) → IsSame c e → IsSame d f → IsApartFrom c d → IsApartFrom e f
apart_same c d e f first second apart = λ one n low high low' high'.
    apart (sym first.0 ∙ one ∙ second.0) n (omega (arith, low, first.1))
    (omega (arith, high, first.2)) (omega (arith, low', second.1))
    (omega (arith, high', second.2))

own_same : (cs ds : List ClientState) → AreSame cs ds → HaveOwnNumbers cs → HaveOwnNumbers ds
own_same cs ds same own = λ i j z before within.
    let first = same i (get_or ds i z) (slice_get-get_or ds i z (omega (arith, before, within))) in
    let second = same j (get_or ds j z) (slice_get-get_or ds j z within) in
    let a : get_or cs i z ≡ first.0 = get_or_from_slice_get cs i first.0 z first.1 in
    let b : get_or cs j z ≡ second.0 = get_or_from_slice_get cs j second.0 z second.1 in
    let apart = own i j z before (slice_get_within cs j second.0 second.1) in
    apart_same first.0 second.0 (get_or ds i z) (get_or ds j z) first.2 second.2
    (subst (λ (x : ClientState). IsApartFrom first.0 x) b
    (subst (λ (x : ClientState). IsApartFrom x (get_or cs j z)) a apart))

-- Clients that have no number in common have none after the steps.
pub steps_own : (t : Terms) (w w' : WorldState) (es : List Event) → Steps t w es w'
    → HaveOwnNumbers w.clients → HaveOwnNumbers w'.clients
steps_own t w w' es steps own = own_same w.clients w'.clients (steps_same t w w' es steps) own

-- The same after a run that ended, or that stopped before an event.
pub run_own : (t : Terms) (w w' : WorldState) (es : List Event) (r : Result (Unit {0}) WorldFault)
    → OnOk r (Steps t w es w')
    → IfErr r (λ fault. Steps t w (take (place_of fault) es) w') → HaveOwnNumbers w.clients
    → HaveOwnNumbers w'.clients
run_own t w w' es (Ok done) ok stopped own = steps_own t w w' es ok own
run_own t w w' es (Err fault) ok stopped own = steps_own t w w' (take (place_of fault) es) stopped
    own

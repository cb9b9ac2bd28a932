-- Lemmas about what a sound world says of the calls of its clients.
use Rattle.std.proofs.Common.{◌≡◌, ◌≢◌, ◌∙◌, ◌⊎◌, inl, inr, ℕ, ◌<◌, Bool, true, false, cond}
use Rattle.std.proofs.Common.{eqb, List, [], ◌∷◌, get_or, take, Option, Some, None, refl, sym, ap}
use Rattle.std.proofs.Common.{arith}
use Rattle.std.specs.Prelude.{Contains, IsTrue, slice_get}
use Rattle.std.proofs.lemmas.Bool.{cases_order, and_from, and_parts, eq-eqb, eqb-true}
use Rattle.std.proofs.lemmas.List.Elements.{All-weaker}
use Rattle.std.proofs.lemmas.Option.{same_Some, slice_get_within, slice_get-get_or}
use Rattle.std.proofs.lemmas.Option.{get_or_from_slice_get}
use Rattle.s10_core.specs.declared.id.Id.{Id}
use Rattle.s10_wire.specs.declared.body.Body.{Body}
use Rattle.s10_wire.specs.declared.body.Body.TheVariants.{Grant, Draw, Void, Query, DrawMany}
use Rattle.s10_wire.specs.declared.body.Body.TheVariants.{Withdraw}
use Rattle.s10_wire.specs.declared.request.Request.{Request}
use Rattle.s10_wire.specs.declared.outcome.Outcome.{Outcome}
use Rattle.s10_wire.specs.declared.outcome.Outcome.TheVariants.{Granted, Voided, Told, NotThePost}
use Rattle.s10_wire.specs.declared.outcome.Outcome.TheVariants.{BadGrant, Overlap, NotYours}
use Rattle.s10_wire.specs.declared.outcome.Outcome.TheVariants.{AlreadyVoid, NumberReused}
use Rattle.s10_wire.specs.declared.outcome.Outcome.TheVariants.{Withdrawn, NoSuchRange, Closed}
use Rattle.s10_wire.specs.declared.status.Status.{Status}
use Rattle.s10_history.specs.declared.entry.Entry.{Entry}
use Rattle.s10_history.specs.declared.range.Range.{Range}
use Rattle.s10_history.specs.declared.issue.Issue.{Issue}
use Rattle.s10_history.specs.declared.issuance.Issuance.{Issuance}
use Rattle.s10_history.specs.Settings.{Terms}
use Rattle.s10_history.specs.History.{has_key, find_entry}
use Rattle.s10_book.specs.Rules.{IsLegal, answer_of, outcome_of_pick, outcome_of_draws, void_issue}
use Rattle.s10_ends.specs.Served.{GivesOutcome, GivesIn}
use Rattle.s10_world.specs.World.{Acceptance, WorldState}
use Rattle.s10_world.specs.Agreement.{Agrees}
use Rattle.s10_world.specs.Agreement.{IsExecutedAtMostOnce, RevealsExecution, IsAtMostOnce}
use Rattle.s10_world.specs.Sound.{IsSoundWorld}
use Rattle.s10_ends.proofs.Equal.{same_request_or_not}
use Rattle.s10_history.proofs.Numbering.{found_passes, Contains-find}
use Rattle.s10_book.proofs.Legal.{legal_distinct}

-- The history has the request, with that outcome.
abbrev HasOutcome : List Entry → Request → Outcome → Type 0
HasOutcome h q o = (e : Entry) × Contains h e × (e.request ≡ q) × (e.outcome ≡ o)

-- The history has another request with the same key.
abbrev HasOther : List Entry → Request → Type 0
HasOther h q = (e : Entry) × Contains h e × IsTrue (has_key q.customer q.number e) × (e.request ≢ q)

outcome_at : (h : List Entry) (q : Request) (o : Outcome) (kept : Option Entry)
    → find_entry h q.customer q.number ≡ kept → GivesOutcome kept q o
    → HasOutcome h q o ⊎ ((o ≡ NumberReused) × HasOther h q)
outcome_at h q o None is gives = absurd gives
outcome_at h q o (Some e) is gives =
    let key = has_key q.customer q.number in
    let passes = found_passes key h e is in
    let there = Contains-find key h e is in
    elim (same_request_or_not e.request q) [
      | inl same ↦ inl (e, there, same, sym (gives.0 same))
      | inr other ↦ inr (gives.1 other, (e, there, passes, other))
    ]

outcome_in : (h : List Entry) (q : Request) (o : Outcome) → GivesIn h q o → HasOutcome h q o
    ⊎ ((o ≡ NumberReused) × HasOther h q)
outcome_in h q o gives = outcome_at h q o (find_entry h q.customer q.number) refl gives

pub agrees : (w : WorldState) → IsSoundWorld w → Agrees w
agrees w sound =
    record {
      submitted = sound.submitted;
      distinct = λ i j d before within client same. absurd (let less = sound.accepted_in_turn i j d
          before within client in omega arith);
      outcomes = sound.given;
    }

-- Two calls with the same key each have the other's key.
key_shared : (customer number : ℕ) (d e : Entry) → IsTrue (has_key customer number d)
    → IsTrue (has_key customer number e) → IsTrue (has_key d.request.customer d.request.number e)
key_shared customer number d e first second =
    let f = and_parts (eqb d.request.customer customer) (eqb d.request.number number) first in
    let s = and_parts (eqb e.request.customer customer) (eqb e.request.number number) second in
    and_from (eqb e.request.customer d.request.customer) (eqb e.request.number d.request.number)
    (eq-eqb e.request.customer d.request.customer (eqb-true e.request.customer customer s.0
    ∙ sym (eqb-true d.request.customer customer f.0)))
    (eq-eqb e.request.number d.request.number (eqb-true e.request.number number s.1
    ∙ sym (eqb-true d.request.number number f.1)))

own_key : (q : Request) (e : Entry) → e.request ≡ q → IsTrue (has_key q.customer q.number e)
own_key q e same =
    and_from (eqb e.request.customer q.customer) (eqb e.request.number q.number)
    (eq-eqb e.request.customer q.customer (ap (λ (r : Request). r.customer) same))
    (eq-eqb e.request.number q.number (ap (λ (r : Request). r.number) same))

not_before : (h : List Entry) (t : Terms) (customer number i j : ℕ) (d e : Entry) → IsLegal h t
    → slice_get h i ≡ Some d → slice_get h j ≡ Some e
    → IsTrue (has_key customer number d) → IsTrue (has_key customer number e) → ¬ (i < j)
not_before h t customer number i j d e legal at_i at_j first second before =
    let pair = legal_distinct h t legal i j d before (slice_get_within h j e at_j) in
    let x : get_or h i d ≡ d = get_or_from_slice_get h i d d at_i in
    let y : get_or h j d ≡ e = get_or_from_slice_get h j e d at_j in
    pair (rw (x, y) (key_shared customer number d e first second))

-- A key occurs at only one index.
one_place : (h : List Entry) (t : Terms) (customer number i j : ℕ) (d e : Entry) → IsLegal h t
    → slice_get h i ≡ Some d → slice_get h j ≡ Some e
    → IsTrue (has_key customer number d) → IsTrue (has_key customer number e) → i ≡ j
one_place h t customer number i j d e legal at_i at_j first second = elim (cases_order i j) [
  | inl same ↦ same
  | inr other ↦ elim other [
    | inl before ↦ absurd (not_before h t customer number i j d e legal at_i at_j first second
        before)
    | inr after ↦ absurd (not_before h t customer number j i e d legal at_j at_i second first after)
  ]
]

at_most_once : (h : List Entry) (t : Terms) (q : Request) → IsLegal h t → IsExecutedAtMostOnce h q
at_most_once h t q legal i j at_i at_j = one_place h t q.customer q.number i j at_i.0 at_j.0 legal
    at_i.1 at_j.1 (own_key q at_i.0 at_i.2) (own_key q at_j.0 at_j.2)

-- No kept call has the outcome NumberReused.
cond_not : (b : Bool) (x y : Outcome) → x ≢ NumberReused → y ≢ NumberReused
    → cond b x y ≢ NumberReused
cond_not true x y first second = first
cond_not false x y first second = second

pick_not : (is : List Issuance) (day : ℕ) (rs : List Range) (r : Option Range)
    → outcome_of_pick is day rs r ≢ NumberReused
pick_not is day rs (Some r) = λ e. cc
pick_not is day [] None = λ e. cc
pick_not is day (r ∷ rs) None = λ e. cc

row_not : (day : ℕ) (rs : List Range) (row : Option (List Id)) → outcome_of_draws day rs row
    ≢ NumberReused
row_not day [] row = λ e. cc
row_not day (r ∷ rs) None = λ e. cc
row_not day (r ∷ rs) (Some ids) = λ e. cc

void_not : (issue : Option Issue) → void_issue issue ≢ NumberReused
void_not None = λ e. cc
void_not (Some i) = cond_not i.voided AlreadyVoid Voided (λ e. cc) (λ e. cc)

granted_not : (range : ℕ) → Granted range ≢ NumberReused
granted_not range = λ e. cc

told_not : (status : Status) → Told status ≢ NumberReused
told_not status = λ e. cc

answer_not : (h : List Entry) (q : Request) (body : Body) (day interval : ℕ)
    → answer_of h (record { customer = q.customer; number = q.number; body = body }) day interval
    ≢ NumberReused
answer_not h q (Grant holder service country first lst) day interval =
    cond_not _ NotThePost _ (λ e. cc)
    (cond_not _ BadGrant _ (λ e. cc) (cond_not _ Overlap _ (λ e. cc) (granted_not _)))
answer_not h q (Draw service country) day interval = pick_not _ day _ _
answer_not h q (DrawMany service country count) day interval = row_not day _ _
answer_not h q (Withdraw range) day interval =
    cond_not _ NotThePost _ (λ e. cc) (cond_not _ NoSuchRange _ (λ e. cc)
    (cond_not _ Closed Withdrawn (λ e. cc) (λ e. cc)))
answer_not h q (Void x) day interval = cond_not _ _ NotYours (void_not _) (λ e. cc)
answer_not h q (Query x) day interval = cond_not _ _ NotYours (told_not _) (λ e. cc)

kept_not : (h : List Entry) (t : Terms) (i : ℕ) (e : Entry) → IsLegal h t → slice_get h i ≡ Some e
    → e.outcome ≢ NumberReused
kept_not h t i e legal at reused = answer_not (take i h) e.request e.request.body e.day t.interval
    (sym (legal.follow i e at).right ∙ reused)

-- An element of a list has an index.
placed : {X : Type 0} (xs : List X) (x : X) (is : Contains xs x) → slice_get xs is.0 ≡ Some x
placed xs x is = slice_get-get_or xs is.0 x is.1 ∙ ap Some is.2

tells : (h : List Entry) (t : Terms) (a : Acceptance) → IsLegal h t → GivesIn h a.request a.outcome
    → RevealsExecution h a
tells h t a legal gives =
    let outcome = outcome_in h a.request a.outcome gives in
    record {
      executed = λ proper. elim outcome [
        | inl own ↦ (
          (own.1.0, (own.0, placed h own.0 own.1, own.2)),
          at_most_once h t a.request legal,
        )
        | inr other ↦ absurd (proper other.0)
      ];
      reused = λ is executed. elim outcome [
        | inl own ↦ kept_not h t own.1.0 own.0 legal (placed h own.0 own.1) (own.3 ∙ is)
        | inr other ↦
            let e : Entry = executed.1.0 in
            let d : Entry = other.1.0 in
            let place : executed.0 ≡ other.1.1.0 = one_place h t a.request.customer a.request.number
            executed.0 other.1.1.0 e d legal executed.1.1 (placed h d other.1.1)
            (own_key a.request e executed.1.2) other.1.2 in
            let same : e ≡ d = same_Some e d (sym executed.1.1 ∙ ap (slice_get h) place
            ∙ placed h d other.1.1) in
            other.1.3 (ap (λ (x : Entry). x.request) (sym same) ∙ executed.1.2)
      ];
    }

pub once : (w : WorldState) (t : Terms) → IsLegal w.history t → IsSoundWorld w → IsAtMostOnce w
once w t legal sound =
    record {
      submitted = λ i d within. at_most_once w.history t (get_or w.submitted i d).1 legal;
      accepted = All-weaker (λ a. GivesIn w.history a.request a.outcome)
          (RevealsExecution w.history) (λ a. tells w.history t a legal) w.accepted sound.given;
    }

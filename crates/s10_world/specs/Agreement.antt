-- How the replies that the clients accepted agree with the calls that the server executed.
use Rattle.std.specs.Prelude.{◌≡◌, ◌≢◌, ℕ, ◌+◌, ◌≤◌, ◌⊎◌, All, AllPairs, Contains, List}
use Rattle.std.specs.Prelude.{Some, slice_get}
use Rattle.s10_core.specs.declared.id.Id.{Id}
use Rattle.s10_wire.specs.declared.request.Request.{Request}
use Rattle.s10_wire.specs.declared.outcome.Outcome.TheVariants.{NumberReused}
use Rattle.s10_history.specs.declared.entry.Entry.{Entry}
use Rattle.s10_history.specs.Issues.{carried_by}
use Rattle.s10_ends.specs.Served.{GivesIn}
use Rattle.s10_ends.specs.Client.{ClientState}
use Rattle.s10_world.specs.World.{Acceptance, WorldState}

-- The accepted replies agree with the history. Each request was submitted by its client, and no
-- client accepted two replies to one number. Each outcome is the one that the history gives.
pub record Agrees (w : WorldState) : Type 0 where
  pub submitted : All (λ a. Contains w.submitted (a.client, a.request)) w.accepted
  pub distinct : AllPairs (λ a b. a.client ≡ b.client → a.request.number ≢ b.request.number)
      w.accepted
  pub outcomes : All (λ a. GivesIn w.history a.request a.outcome) w.accepted

-- The request is the call at the index, from 0.
abbrev pub IsExecutedAt : List Entry → Request → ℕ → Type 0
IsExecutedAt h q i = (e : Entry) × (slice_get h i ≡ Some e) × (e.request ≡ q)

-- The request is a call of the history.
abbrev pub IsExecuted : List Entry → Request → Type 0
IsExecuted h q = (i : ℕ) × IsExecutedAt h q i

-- The request is at most one call of the history.
abbrev pub IsExecutedAtMostOnce : List Entry → Request → Type 0
IsExecutedAtMostOnce h q = (i j : ℕ) → IsExecutedAt h q i → IsExecutedAt h q j → i ≡ j

-- A reply other than NumberReused means that the request was executed exactly once. NumberReused
-- means that it was not executed.
pub record RevealsExecution (h : List Entry) (a : Acceptance) : Type 0 where
  pub executed : a.outcome ≢ NumberReused → IsExecuted h a.request
      × IsExecutedAtMostOnce h a.request
  pub reused : a.outcome ≡ NumberReused → ¬ (IsExecuted h a.request)

-- The two clients have no number in common if they are of one customer.
abbrev pub IsApartFrom : ClientState → ClientState → Type 0
IsApartFrom c d = c.customer ≡ d.customer → (n : ℕ) → c.first ≤ n → n ≤ c.last → d.first ≤ n
    → ¬ (n ≤ d.last)

-- No two clients of one customer have a number in common.
abbrev pub HaveOwnNumbers : List ClientState → Type 0
HaveOwnNumbers clients = AllPairs IsApartFrom clients

-- No two submitted requests have the same key, so each request is that of one call.
abbrev pub AreOneCallEach : List (ℕ × Request) → Type 0
AreOneCallEach submitted = AllPairs (λ s u. s.1.customer ≡ u.1.customer → s.1.number ≢ u.1.number)
    submitted

-- Two accepted replies that carry the same identifier have days at least the interval apart.
abbrev pub AreDaysApart : ℕ → Acceptance → Acceptance → Type 0
AreDaysApart interval a b = (x : Id) (d e : ℕ) → Contains (carried_by a.outcome) (d, x)
    → Contains (carried_by b.outcome) (e, x) → (d + interval ≤ e) ⊎ (e + interval ≤ d)

-- Each submitted request was executed at most once, even if its client gave it up. Each accepted
-- reply shows whether its request was executed.
pub record IsAtMostOnce (w : WorldState) : Type 0 where
  pub submitted : All (λ s. IsExecutedAtMostOnce w.history s.1) w.submitted
  pub accepted : All (RevealsExecution w.history) w.accepted

-- No two calls share a request, and no identifier is accepted twice within the interval. This holds
-- if no two clients of one customer have a number in common.
pub record IsUnshared (interval : ℕ) (w : WorldState) : Type 0 where
  pub calls : AreOneCallEach w.submitted
  pub drawn : AllPairs (AreDaysApart interval) w.accepted

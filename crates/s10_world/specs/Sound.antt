-- What every step leaves true of a world.
use Rattle.std.specs.Prelude.{◌≡◌, ℕ, ◌+◌, ◌<◌, ◌≤◌, All, AllPairs, Contains, List, [], Some}
use Rattle.std.specs.Prelude.{slice_get}
use Rattle.s10_wire.specs.declared.request.Request.{Request}
use Rattle.s10_ends.specs.Served.{GivesIn, IsReplyIn}
use Rattle.s10_ends.specs.Client.{ClientState, IsNew, next_number}
use Rattle.s10_world.specs.World.{WorldState}

-- The request is of the client's customer, and has a number that the client has used.
abbrev pub IsTakenBy : ClientState → Request → Type 0
IsTakenBy c q = (q.customer ≡ c.customer) × (c.first ≤ q.number) × (q.number < next_number c)
    × (q.number ≤ c.last)

-- The request is one of the client at the index.
abbrev pub IsOfClient : List ClientState → ℕ × Request → Type 0
IsOfClient clients s = (c : ClientState) × (slice_get clients s.0 ≡ Some c) × IsTakenBy c s.1

-- The pending request at the index was submitted last there. No reply to its number or a later one
-- was accepted there.
abbrev pub IsAwaited : WorldState → ℕ → ClientState → Request → Type 0
IsAwaited w k c q = Contains w.submitted (k, q) × (q.number + 1 ≡ next_number c)
    × All (λ a. a.client ≡ k → a.request.number < q.number) w.accepted

-- Nothing was sent yet, and no client has used a number.
pub record IsStart (w : WorldState) : Type 0 where
  pub asked : w.asked ≡ []
  pub replied : w.replied ≡ []
  pub submitted : w.submitted ≡ []
  pub accepted : w.accepted ≡ []
  pub clients : All IsNew w.clients

-- Every reply is one that the history gives, and every submitted request is its client's. The
-- clients submitted and accepted their numbers in order.
pub record IsSoundWorld (w : WorldState) : Type 0 where
  pub replied : All (IsReplyIn w.history) w.replied
  pub taken : All (IsOfClient w.clients) w.submitted
  pub in_turn : AllPairs (λ s u. s.0 ≡ u.0 → s.1.number < u.1.number) w.submitted
  pub awaited : (k : ℕ) (c : ClientState) (q : Request) → slice_get w.clients k ≡ Some c
      → c.pending ≡ Some q → IsAwaited w k c q
  pub submitted : All (λ a. Contains w.submitted (a.client, a.request)) w.accepted
  pub accepted_in_turn : AllPairs (λ a b. a.client ≡ b.client → a.request.number < b.request.number)
      w.accepted
  pub given : All (λ a. GivesIn w.history a.request a.outcome) w.accepted

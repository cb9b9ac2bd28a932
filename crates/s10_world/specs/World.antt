-- A server, its clients and everything that was sent between them, and the steps that they make.
use Rattle.std.specs.Prelude.{◌≡◌, ℕ, ◌<◌, ◌⊎◌, is_some, if◌then◌else◌, IsSome, List, [], ◌∷◌, ◌++◌}
use Rattle.std.specs.Prelude.{length, Option, Some, None, slice_get, slice_set}
use Rattle.s10_wire.specs.declared.body.Body.{Body}
use Rattle.s10_wire.specs.declared.request.Request.{Request}
use Rattle.s10_wire.specs.declared.outcome.Outcome.{Outcome}
use Rattle.s10_wire.specs.Datagrams.{Asks}
use Rattle.s10_history.specs.declared.entry.Entry.{Entry}
use Rattle.s10_history.specs.Settings.{Terms}
use Rattle.s10_history.specs.History.{find_entry}
use Rattle.s10_book.specs.Once.{applied_once}
use Rattle.s10_book.specs.declared.faults.Faults.{Faults}
use Rattle.s10_book.specs.BookFault.{MemoryRises, StoreRises}
use Rattle.s10_ends.specs.Served.{AskNothing, IsOwed, IsFullFor}
use Rattle.s10_ends.specs.Client.{ClientState, next_request, after_submit, submit_fault}
use Rattle.s10_ends.specs.Client.{without_pending, IsOwnReply}
use Rattle.s10_world.specs.declared.event.Event.{Event}
use Rattle.s10_world.specs.declared.event.Event.TheVariants.{Submit, Resend, GiveUp, ToServer}
use Rattle.s10_world.specs.declared.event.Event.TheVariants.{Strange, ToClient}

-- An accepted reply: the index of its client, the request and the outcome.
pub record Acceptance : Type 0 where
  pub client : ℕ
  pub request : Request
  pub outcome : Outcome

-- The state of a world: the server's history and its book's counts of faults, and the clients. Also
-- the bytes of every request and reply that was sent, the submitted requests with the index of
-- their client, and the accepted replies.
pub record WorldState : Type 0 where
  pub history : List Entry
  pub faults : Faults
  pub asked : List (List ℕ)
  pub replied : List (List ℕ)
  pub submitted : List (ℕ × Request)
  pub accepted : List Acceptance
  pub clients : List ClientState

-- Submit: if the client exists, has no pending request and has a number left, the request gets the
-- next number. It is then pending, and is added to the submitted ones.
abbrev pub after_submit_by : WorldState → ℕ → Body → Option ClientState → WorldState
after_submit_by w k body None = w
after_submit_by w k body (Some c) =
    if is_some (submit_fault c) then w
    else record w {
      submitted = w.submitted ++ (k, next_request c body) ∷ [];
      clients = slice_set w.clients k (after_submit c body);
    }

-- Resend: if a request is pending, its bytes are sent.
abbrev pub SendsPending : WorldState → Option Request → WorldState → Type 0
SendsPending w None w' = w' ≡ w
SendsPending w (Some q) w' = (b : List ℕ) × Asks b q × (w' ≡ record w { asked = w.asked ++ b ∷ [] })

-- The same for a client that may not exist.
abbrev pub Resends : WorldState → Option ClientState → WorldState → Type 0
Resends w None w' = w' ≡ w
Resends w (Some c) w' = SendsPending w c.pending w'

-- GiveUp: the pending request is no longer pending.
abbrev pub after_give_up_by : WorldState → ℕ → Option ClientState → WorldState
after_give_up_by w k None = w
after_give_up_by w k (Some c) = record w { clients = slice_set w.clients k (without_pending c) }

-- A fault of the book: one of its counts rises, or stays at the greatest number.
abbrev pub Fails : WorldState → WorldState → Type 0
Fails w w' = (MemoryRises w.faults w'.faults ⊎ StoreRises w.faults w'.faults)
    × (w' ≡ record w { faults = w'.faults })

-- There are fewer calls than the limit, or one has the key of the request.
abbrev pub HasPlaceFor : List Entry → Terms → Request → Type 0
HasPlaceFor h t q = (length h < t.limit) ⊎ IsSome (find_entry h q.customer q.number)

-- The request is executed, unless it was before, and the owed reply is sent.
abbrev pub RepliesTo : Terms → WorldState → List ℕ → Request → ℕ → WorldState → Type 0
RepliesTo t w b q day w' =
    let h = applied_once w.history ((q, day) ∷ []) t.interval in
    HasPlaceFor w.history t q × (f : List ℕ) × IsOwed h b f
    × (w' ≡ record w { history = h; replied = w.replied ++ f ∷ [] })

-- A request reaches the server on a day.
abbrev pub ServesRequest : Terms → WorldState → List ℕ → Request → ℕ → WorldState → Type 0
ServesRequest t w b q day w' = Fails w w' ⊎ ((IsFullFor w.history t q × (w' ≡ w))
    ⊎ RepliesTo t w b q day w')

-- Bytes reach the server on a day.
abbrev pub ReachesServer : Terms → WorldState → List ℕ → ℕ → WorldState → Type 0
ReachesServer t w b day w' = (AskNothing b × (w' ≡ w))
    ⊎ ((q : Request) × Asks b q × ServesRequest t w b q day w')

-- ToServer: a request that was sent reaches the server.
abbrev pub DeliversRequest : Terms → WorldState → Option (List ℕ) → ℕ → WorldState → Type 0
DeliversRequest t w None day w' = w' ≡ w
DeliversRequest t w (Some b) day w' = ReachesServer t w b day w'

-- The bytes are the reply to the pending request. The request is no longer pending, and the reply
-- is added to the accepted ones.
abbrev pub Accepts : WorldState → ℕ → ClientState → List ℕ → WorldState → Type 0
Accepts w k c b w' = (q : Request) × (o : Outcome) × IsOwnReply c b q o
    × (w' ≡ record w {
      accepted = w.accepted ++ record { client = k; request = q; outcome = o }
          ∷ [];
      clients = slice_set w.clients k (without_pending c);
    })

-- ToClient: a reply that was sent reaches a client.
abbrev pub DeliversReply : WorldState → ℕ → Option ClientState → Option (List ℕ) → WorldState
    → Type 0
DeliversReply w k None b w' = w' ≡ w
DeliversReply w k (Some c) None w' = w' ≡ w
DeliversReply w k (Some c) (Some b) w' = Accepts w k c b w'
    ⊎ (((q : Request) (o : Outcome) → ¬ (IsOwnReply c b q o)) × (w' ≡ w))

-- One step, by its event.
abbrev pub Step : Terms → WorldState → Event → WorldState → Type 0
Step t w (Submit k body) w' = w' ≡ after_submit_by w k body (slice_get w.clients k)
Step t w (Resend k) w' = Resends w (slice_get w.clients k) w'
Step t w (GiveUp k) w' = w' ≡ after_give_up_by w k (slice_get w.clients k)
Step t w (ToServer index day) w' = DeliversRequest t w (slice_get w.asked index) day w'
Step t w (Strange packet day) w' = ReachesServer t w packet day w'
Step t w (ToClient k index) w' = DeliversReply w k (slice_get w.clients k)
    (slice_get w.replied index) w'

-- The steps of a world, one event after another.
abbrev pub Steps : Terms → WorldState → List Event → WorldState → Type 0
Steps t w [] w' = w' ≡ w
Steps t w (e ∷ es) w' = (between : WorldState) × Step t w e between × Steps t between es w'

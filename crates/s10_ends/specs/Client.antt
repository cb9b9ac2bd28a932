-- The state of a client, and what each of its methods does to it.
use Rattle.std.specs.Prelude.{◌≡◌, ◌≢◌, ℕ, ◌+◌, ◌≤◌, nat_lt, ⊤, if◌then◌else◌, is_some, IfSome}
use Rattle.std.specs.Prelude.{List, Option, Some, None}
use Rattle.s10_wire.specs.declared.body.Body.{Body}
use Rattle.s10_wire.specs.declared.request.Request.{Request}
use Rattle.s10_wire.specs.declared.outcome.Outcome.{Outcome}
use Rattle.s10_wire.specs.declared.frame.Frame.{Frame}
use Rattle.s10_wire.specs.Datagrams.{Asks, Replies}
use Rattle.s10_wire.specs.WireFault.{IsFirstRefusalOfReply}
use Rattle.s10_wire.specs.Reply.{request_of, outcome_of}
use Rattle.s10_ends.specs.declared.client.SubmitFault.{SubmitFault}
use Rattle.s10_ends.specs.declared.client.SubmitFault.TheVariants.{Busy, NumbersSpent}
use Rattle.s10_ends.specs.declared.received.Received.{Received}
use Rattle.s10_ends.specs.declared.received.Received.TheVariants.{Malformed, Idle, NotMine}
use Rattle.s10_ends.specs.declared.received.Received.TheVariants.{Accepted}

-- A client: its customer, its first and last number, the count of numbers used, and the pending
-- request.
pub record ClientState : Type 0 where
  pub customer : ℕ
  pub first : ℕ
  pub last : ℕ
  pub taken : ℕ
  pub pending : Option Request

-- A new client has used no number, and has no pending request.
abbrev pub new_client : ℕ → ℕ → ℕ → ClientState
new_client customer first lst = record {
  customer = customer;
  first = first;
  last = lst;
  taken = 0;
  pending = None;
}

-- No number was used, and no request is pending.
abbrev pub IsNew : ClientState → Type 0
IsNew c = (c.taken ≡ 0) × (c.pending ≡ None)

-- The number that the next request gets.
abbrev pub next_number : ClientState → ℕ
next_number c = c.first + c.taken

-- The request that submitting the body creates.
abbrev pub next_request : ClientState → Body → Request
next_request c body = record { customer = c.customer; number = next_number c; body = body }

-- The state after a submit: the request is pending, and its number is used.
abbrev pub after_submit : ClientState → Body → ClientState
after_submit c body = record {
  customer = c.customer;
  first = c.first;
  last = c.last;
  taken = c.taken + 1;
  pending = Some (next_request c body);
}

-- Why a submit is refused: a request is pending; otherwise, no number is left.
abbrev pub submit_fault : ClientState → Option SubmitFault
submit_fault c = if is_some c.pending then Some Busy else if nat_lt c.last (next_number c)
    then Some NumbersSpent else None

-- The state after the pending request is dropped. Its number stays used.
abbrev pub without_pending : ClientState → ClientState
without_pending c = record {
  customer = c.customer;
  first = c.first;
  last = c.last;
  taken = c.taken;
  pending = None;
}

-- The request is of the client's customer, and has the number used last.
abbrev pub IsLatest : ClientState → Request → Type 0
IsLatest c q = (q.customer ≡ c.customer) × (c.first ≤ q.number) × (q.number + 1 ≡ next_number c)

-- A client uses its numbers in order, from the first to the last.
pub record IsClient (c : ClientState) : Type 0 where
  pub ordered : c.first ≤ c.last
  pub within : next_number c ≤ c.last + 1
  pub latest : IfSome c.pending (IsLatest c)

-- The frame is the datagram of the pending request. There is no frame if no request is pending.
abbrev pub AsksPending : Option Request → Option Frame → Type 0
AsksPending None None = ⊤
AsksPending None (Some frame) = ⊥
AsksPending (Some q) None = ⊥
AsksPending (Some q) (Some frame) = Asks frame q

-- The bytes are a reply to the pending request, equal in every field.
abbrev pub IsOwnReply : ClientState → List ℕ → Request → Outcome → Type 0
IsOwnReply c b q o = (c.pending ≡ Some q) × Replies b q o

-- The bytes are a reply to some request.
abbrev pub IsReply : List ℕ → Type 0
IsReply b = (q : Request) × (o : Outcome) × Replies b q o

-- The result of receiving bytes, and the state of the client after it.
abbrev pub ClientReceives : ClientState → List ℕ → Received → ClientState → Type 0
ClientReceives c b (Malformed fault) c' = ¬ (IsReply b) × IsFirstRefusalOfReply b fault × (c' ≡ c)
ClientReceives c b Idle c' = IsReply b × (c.pending ≡ None) × (c' ≡ c)
ClientReceives c b NotMine c' = (q p : Request) × (o : Outcome) × Replies b q o
    × (c.pending ≡ Some p) × (p ≢ q) × (c' ≡ c)
ClientReceives c b (Accepted reply) c' = IsOwnReply c b (request_of reply) (outcome_of reply)
    × (c' ≡ without_pending c)

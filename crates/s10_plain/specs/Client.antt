-- A client as a plain state, and what each of its calls makes of it.
use Rattle.std.specs.Prelude.{◌≡◌, ℕ, ◌+◌, ◌<◌, ◌≤◌, ◌==◌, nat_le, if◌then◌else◌}
use Rattle.std.specs.Prelude.{List, [], take, Result, Ok, Err, IfOk, IfErr}
use Rattle.s10_wire.specs.declared.request.Request.{Request}
use Rattle.s10_wire.specs.Datagrams.{datagram, IsRequest}
use Rattle.s10_plain.specs.declared.result_code.ResultCode.{ResultCode}
use Rattle.s10_plain.specs.declared.plain_client.PlainClient.{PlainClient}
use Rattle.s10_plain.specs.declared.plain_outcome.PlainOutcome.{PlainOutcome}
use Rattle.s10_plain.specs.declared.plain_request.PlainRequest.{PlainRequest}
use Rattle.s10_plain.specs.declared.received.Received.{Received}
use Rattle.s10_plain.specs.declared.received.Received.TheVariants as received
use Rattle.s10_plain.specs.declared.submit_fault.SubmitFault.{SubmitFault}
use Rattle.s10_plain.specs.declared.submit_fault.SubmitFault.TheVariants as submit
use Rattle.s10_plain.specs.Identifiers.{success_code}
use Rattle.s10_plain.specs.Requests.{MatchesBody, IsFirstFieldFault, code_of_field_fault, frame_of}
use Rattle.s10_plain.specs.Replies.{ReceivesAs, code_of_received, outcome_after}

-- No request is pending if the pending frame is empty.
abbrev pub IsIdle : PlainClient → Type 0
IsIdle c = c.pending.len ≡ 0

-- The number that the client takes next is the first one after those that it took.
abbrev pub next_number_of : PlainClient → ℕ
next_number_of c = c.first + c.taken

-- The next request has the customer, the next number, which is left, and the body asked for.
abbrev pub IsNextRequest : PlainClient → PlainRequest → Request → Type 0
IsNextRequest c fields q =
    IsIdle c × (next_number_of c ≤ c.«last») × (q.customer ≡ c.customer)
    × (q.number ≡ next_number_of c) × MatchesBody fields q.body

-- The fault applies to the submit, and no fault before it does: pending, numbers, then the fields.
abbrev pub IsFirstSubmitFault : PlainClient → PlainRequest → SubmitFault → Type 0
IsFirstSubmitFault c fields submit.Busy = ¬ (IsIdle c)
IsFirstSubmitFault c fields submit.NumbersSpent = IsIdle c × (c.«last» < next_number_of c)
IsFirstSubmitFault c fields (submit.Field fault) =
    IsIdle c × (next_number_of c ≤ c.«last») × IsFirstFieldFault fields fault

-- The code of a submit says that it is done, or the first fault.
abbrev pub code_of_submit : Result Request SubmitFault → ResultCode
code_of_submit (Ok q) = success_code
code_of_submit (Err submit.Busy) = record { code = 23; at = 0 }
code_of_submit (Err submit.NumbersSpent) = record { code = 24; at = 0 }
code_of_submit (Err (submit.Field fault)) = code_of_field_fault fault

-- A submitted request is pending and its number is taken; a refused submit changes nothing.
abbrev pub client_after_submit : Result Request SubmitFault → PlainClient → PlainClient
client_after_submit (Ok q) c = record {
  taken = c.taken + 1;
  customer = c.customer;
  first = c.first;
  «last» = c.«last»;
  pending = frame_of (datagram 0 q);
}
client_after_submit (Err fault) c = c

-- A submit makes the next request pending, or reports its first fault and changes nothing.
abbrev pub SubmitsRequest : PlainClient → PlainRequest → ResultCode → PlainClient → Type 0
SubmitsRequest c fields result c' =
    (asked : Result Request SubmitFault) × IfOk asked IsRequest
    × IfOk asked (IsNextRequest c fields)
    × IfErr asked (IsFirstSubmitFault c fields)
    × (result ≡ code_of_submit asked) × (c' ≡ client_after_submit asked c)

-- The pending datagram is the bytes of the pending frame, and none if its length exceeds its room.
abbrev pub pending_datagram_of : PlainClient → List ℕ
pending_datagram_of c =
    if nat_le c.pending.len 28 then take c.pending.len c.pending.bytes else []

-- The client has no pending request any more; its numbers stay taken.
abbrev pub without_pending : PlainClient → PlainClient
without_pending c = record {
  taken = c.taken;
  customer = c.customer;
  first = c.first;
  «last» = c.«last»;
  pending = frame_of [];
}

-- An accepted reply ends the wait; anything else changes nothing.
abbrev pub client_after_receive : Received → PlainClient → PlainClient
client_after_receive (received.Accepted o) c = without_pending c
client_after_receive other c = c

-- A datagram is accepted only as the reply to the pending request; otherwise nothing changes.
abbrev pub ClientReceives : PlainClient → List ℕ → ResultCode → PlainOutcome → PlainOutcome
    → PlainClient → Type 0
ClientReceives c datagram result before after c' =
    (received : Received) × ReceivesAs (pending_datagram_of c) datagram received
    × (result ≡ code_of_received received) × (after ≡ outcome_after received before)
    × (c' ≡ client_after_receive received c)

-- Giving up ends the wait for the pending request, and reports that there is none if so.
abbrev pub code_of_give_up : PlainClient → ResultCode
code_of_give_up c = if c.pending.len == 0 then code_of_received received.Idle else success_code

-- The client that gives up has no pending request, and is unchanged if it had none.
abbrev pub client_after_give_up : PlainClient → PlainClient
client_after_give_up c = if c.pending.len == 0 then c else without_pending c

-- Accepting replies: the result and the struct that it writes.
use Rattle.std.specs.Prelude.{◌≡◌, ◌≢◌, ℕ, ◌++◌, List, [], ◌∷◌, map, length, slice_get, Option}
use Rattle.std.specs.Prelude.{Some, None}
use Rattle.s10_core.specs.declared.id.Id.{Id}
use Rattle.s10_core.specs.Id.{spelling_of}
use Rattle.s10_wire.specs.declared.request.Request.{Request}
use Rattle.s10_wire.specs.declared.status.Status.TheVariants.{Unknown, Never, Issued}
use Rattle.s10_wire.specs.declared.status.Status.TheVariants.{Voided as StatusVoided}
use Rattle.s10_wire.specs.declared.outcome.Outcome.{Outcome}
use Rattle.s10_wire.specs.declared.outcome.Outcome.TheVariants.{Granted, Drawn, DrawnMany, Voided}
use Rattle.s10_wire.specs.declared.outcome.Outcome.TheVariants.{Told, Withdrawn, NotThePost}
use Rattle.s10_wire.specs.declared.outcome.Outcome.TheVariants.{BadGrant, Overlap, NoRange}
use Rattle.s10_wire.specs.declared.outcome.Outcome.TheVariants.{NoneFree, NotYours, NotIssued}
use Rattle.s10_wire.specs.declared.outcome.Outcome.TheVariants.{AlreadyVoid, NoSuchRange, Closed}
use Rattle.s10_wire.specs.declared.outcome.Outcome.TheVariants.{NumberReused}
use Rattle.s10_wire.specs.Datagrams.{Asks, Replies}
use Rattle.s10_wire.specs.WireFault.{IsFirstRefusalOfReply}
use Rattle.s10_plain.specs.declared.result_code.ResultCode.{ResultCode}
use Rattle.s10_plain.specs.declared.plain_outcome.PlainOutcome.{PlainOutcome}
use Rattle.s10_plain.specs.declared.received.Received.{Received}
use Rattle.s10_plain.specs.declared.received.Received.TheVariants as received
use Rattle.s10_plain.specs.Identifiers.{success_code}
use Rattle.s10_plain.specs.Requests.{code_of_wire_fault, no_text}

-- The text at a position of a sheet has a closing zero, and is zeros after the last.
abbrev pub text_at : Option Id → List ℕ
text_at None = no_text
text_at (Some id) = spelling_of id ++ 0 ∷ []

-- The texts of identifiers are sixteen, zeros after the last.
abbrev pub texts_of : List Id → List (List ℕ)
texts_of ids = map (λ position. text_at (slice_get ids position)) (0 ∷ 1 ∷ 2 ∷ 3 ∷ 4 ∷ 5 ∷ 6 ∷ 7
    ∷ 8 ∷ 9 ∷ 10 ∷ 11 ∷ 12 ∷ 13 ∷ 14 ∷ 15 ∷ [])

-- The struct of a refusal has its code and nothing else.
abbrev pub refusal_of : ℕ → PlainOutcome
refusal_of code = record {
  day = 0;
  range = 0;
  code = code;
  status = 0;
  count = 0;
  texts = texts_of [];
}

-- The struct of a status has its code and its day.
abbrev pub status_outcome_of : ℕ → ℕ → PlainOutcome
status_outcome_of status day = record {
  day = day;
  range = 0;
  code = 0;
  status = status;
  count = 0;
  texts = texts_of [];
}

-- The struct of an outcome has its fields, and zero for those that it lacks.
abbrev pub plain_outcome_of : Outcome → PlainOutcome
plain_outcome_of (Granted range) = record {
  day = 0;
  range = range;
  code = 0;
  status = 0;
  count = 0;
  texts = texts_of [];
}
plain_outcome_of (Drawn day id) = record {
  day = day;
  range = 0;
  code = 0;
  status = 0;
  count = 1;
  texts = texts_of (id ∷ []);
}
plain_outcome_of (DrawnMany day ids) = record {
  day = day;
  range = 0;
  code = 0;
  status = 0;
  count = length ids;
  texts = texts_of ids;
}
plain_outcome_of Voided = refusal_of 0
plain_outcome_of (Told Unknown) = status_outcome_of 0 0
plain_outcome_of (Told Never) = status_outcome_of 1 0
plain_outcome_of (Told (Issued day)) = status_outcome_of 2 day
plain_outcome_of (Told (StatusVoided day)) = status_outcome_of 3 day
plain_outcome_of Withdrawn = refusal_of 0
plain_outcome_of NotThePost = refusal_of 1
plain_outcome_of BadGrant = refusal_of 2
plain_outcome_of Overlap = refusal_of 3
plain_outcome_of NoRange = refusal_of 4
plain_outcome_of NoneFree = refusal_of 5
plain_outcome_of NotYours = refusal_of 6
plain_outcome_of NotIssued = refusal_of 7
plain_outcome_of AlreadyVoid = refusal_of 8
plain_outcome_of NumberReused = refusal_of 9
plain_outcome_of NoSuchRange = refusal_of 10
plain_outcome_of Closed = refusal_of 11

-- A datagram is accepted if it replies to the request that was sent; the first refusal applies.
abbrev pub ReceivesAs : List ℕ → List ℕ → Received → Type 0
ReceivesAs sent datagram (received.Malformed fault) = IsFirstRefusalOfReply datagram fault
    × ((q : Request) (o : Outcome) → ¬ Replies datagram q o)
ReceivesAs sent datagram received.Idle = ((q : Request) × (o : Outcome) × Replies datagram q o)
    × ((q : Request) → ¬ Asks sent q)
ReceivesAs sent datagram received.NotMine = (q p : Request) × (o : Outcome) × Replies datagram q o
    × Asks sent p × (p ≢ q)
ReceivesAs sent datagram (received.Accepted o) = (q : Request) × Asks sent q × Replies datagram q o

-- The code of a received datagram is success or that of its refusal.
abbrev pub code_of_received : Received → ResultCode
code_of_received (received.Malformed fault) = code_of_wire_fault fault
code_of_received received.Idle = record { code = 21; at = 0 }
code_of_received received.NotMine = record { code = 22; at = 0 }
code_of_received (received.Accepted o) = success_code

-- The struct after a datagram is the outcome of the reply, or as before if refused.
abbrev pub outcome_after : Received → PlainOutcome → PlainOutcome
outcome_after (received.Accepted o) before = plain_outcome_of o
outcome_after other before = before

-- A datagram is accepted with its outcome, or refused with its first refusal.
abbrev pub AcceptsReply : List ℕ → List ℕ → ResultCode → PlainOutcome → PlainOutcome → Type 0
AcceptsReply sent datagram result before after =
    (received : Received) × ReceivesAs sent datagram received × (result ≡ code_of_received received)
    × (after ≡ outcome_after received before)

-- Defines what the bytes of a reply say, by their offsets: if they are the datagram of a reply,
-- these are its request and its outcome.
use Rattle.std.specs.Prelude.{ℕ, zero, suc, ◌+◌, ◌-◌, ◌/◌, ◌==◌, if◌then◌else◌, List, [], ◌∷◌, ◌++◌}
use Rattle.std.specs.Prelude.{length, take, drop}
use Rattle.s10_core.specs.declared.id.Id.{Id}
use Rattle.s10_core.specs.Serial.{number_of}
use Rattle.s10_wire.specs.declared.body.Body.{Body}
use Rattle.s10_wire.specs.declared.body.Body.TheVariants.{Grant, Draw, Void, Query, DrawMany}
use Rattle.s10_wire.specs.declared.body.Body.TheVariants.{Withdraw}
use Rattle.s10_wire.specs.declared.request.Request.{Request}
use Rattle.s10_wire.specs.declared.status.Status.{Status}
use Rattle.s10_wire.specs.declared.status.Status.TheVariants as statuses
use Rattle.s10_wire.specs.declared.outcome.Outcome.{Outcome}
use Rattle.s10_wire.specs.declared.outcome.Outcome.TheVariants.{Granted, Drawn, DrawnMany, Voided}
use Rattle.s10_wire.specs.declared.outcome.Outcome.TheVariants.{Told, Withdrawn, NotThePost}
use Rattle.s10_wire.specs.declared.outcome.Outcome.TheVariants.{BadGrant, Overlap, NoRange}
use Rattle.s10_wire.specs.declared.outcome.Outcome.TheVariants.{NoneFree, NotYours, NotIssued}
use Rattle.s10_wire.specs.declared.outcome.Outcome.TheVariants.{AlreadyVoid, NoSuchRange, Closed}
use Rattle.s10_wire.specs.declared.outcome.Outcome.TheVariants.{NumberReused}
use Rattle.s10_wire.specs.declared.kind.Kind.{Kind}
use Rattle.s10_wire.specs.declared.kind.Kind.TheVariants as kinds
use Rattle.s10_wire.specs.Kind.{kind_of, request_length}
use Rattle.s10_wire.specs.WireFault.{byte, number}
use Rattle.s10_wire.specs.Datagrams.{datagram, outcome_bytes}

-- The two letters at an offset.
abbrev pub pair_in : List ℕ → ℕ → ℕ × ℕ
pair_in b at = (byte b at, byte b (at + 1))

-- The identifier at an offset.
abbrev pub id_in : List ℕ → ℕ → Id
id_in b at = record {
  service = pair_in b at;
  serial = number_of (take 8 (drop (at + 2) b));
  country = pair_in b (at + 11);
}

-- The first n identifiers, of thirteen bytes each.
abbrev pub ids_in : ℕ → List ℕ → List Id
ids_in zero b = []
ids_in (suc count) b = id_in b 0 ∷ ids_in count (drop 13 b)

-- The body, by the code of its kind.
unfoldable pub body_from : ℕ → List ℕ → Body
body_from code b =
    if code == 1 then Grant (number b 12) (pair_in b 16) (pair_in b 18) (number b 20) (number b 24)
    else if code == 2 then Draw (pair_in b 12) (pair_in b 14)
    else if code == 3 then Void (id_in b 12)
    else if code == 5 then DrawMany (pair_in b 12) (pair_in b 14) (byte b 16)
    else if code == 6 then Withdraw (number b 12)
    else Query (id_in b 12)

-- The request in a datagram whose kind byte is the code with this mark added.
abbrev pub request_from : ℕ → List ℕ → Request
request_from mark b = record {
  customer = number b 4;
  number = number b 8;
  body = body_from (byte b 3 - mark) b;
}

-- The request that the bytes reply to.
abbrev pub request_in : List ℕ → Request
request_in b = request_from 0x80 b

-- The status of a Query, by its code.
abbrev pub status_in : ℕ → ℕ → Status
status_in code day =
    if code == 0 then statuses.Unknown else if code == 1 then statuses.Never
    else if code == 2 then statuses.Issued day else statuses.Voided day

-- The outcome of a request of that kind that was done.
abbrev pub done_in : Kind → List ℕ → Outcome
done_in kinds.Grant rest = Granted (number rest 1)
done_in kinds.Draw rest = Drawn (number rest 1) (id_in rest 5)
done_in kinds.DrawMany rest = DrawnMany (number rest 1) (ids_in (length rest / 13) (drop 5 rest))
done_in kinds.Void rest = Voided
done_in kinds.Withdraw rest = Withdrawn
done_in kinds.Query rest = Told (status_in (byte rest 1) (number rest 2))

-- The refusal, by its code.
abbrev pub refusal_in : ℕ → Outcome
refusal_in code =
    if code == 1 then NotThePost else if code == 2 then BadGrant else if code == 3 then Overlap
    else if code == 4 then NoRange else if code == 5 then NoneFree else if code == 6 then NotYours
    else if code == 7 then NotIssued else if code == 8 then AlreadyVoid
    else if code == 10 then NoSuchRange else if code == 11 then Closed else NumberReused

-- The outcome, by the bytes from the outcome byte on.
unfoldable pub outcome_from : Kind → List ℕ → Outcome
outcome_from k rest = if byte rest 0 == 0 then done_in k rest else refusal_in (byte rest 0)

-- The outcome in the bytes of a reply.
abbrev pub outcome_in : List ℕ → Outcome
outcome_in b = let k = kind_of (request_in b).body in outcome_from k (drop (request_length k) b)

-- The datagram of the reply to a request with an outcome.
unfoldable pub reply_bytes : Request → Outcome → List ℕ
reply_bytes q o = datagram 0x80 q ++ outcome_bytes o

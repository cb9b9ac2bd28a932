-- The lengths of datagrams.
use Rattle.std.proofs.Common.{◌≡◌, ℕ, ◌≤◌, true, List, ◌++◌, length, sym, subst, arith}
use Rattle.s10_wire.specs.declared.body.Body.{Body}
use Rattle.s10_wire.specs.declared.body.Body.TheVariants.{Grant, Draw, Void, Query, DrawMany}
use Rattle.s10_wire.specs.declared.body.Body.TheVariants.{Withdraw}
use Rattle.s10_wire.specs.declared.request.Request.{Request}
use Rattle.s10_wire.specs.declared.status.Status.TheVariants as statuses
use Rattle.s10_wire.specs.declared.outcome.Outcome.{Outcome}
use Rattle.s10_wire.specs.declared.outcome.Outcome.TheVariants.{Granted, Drawn, DrawnMany, Voided}
use Rattle.s10_wire.specs.declared.outcome.Outcome.TheVariants.{Told, Withdrawn, NotThePost}
use Rattle.s10_wire.specs.declared.outcome.Outcome.TheVariants.{BadGrant, Overlap, NoRange}
use Rattle.s10_wire.specs.declared.outcome.Outcome.TheVariants.{NoneFree, NotYours, NotIssued}
use Rattle.s10_wire.specs.declared.outcome.Outcome.TheVariants.{AlreadyVoid, NoSuchRange, Closed}
use Rattle.s10_wire.specs.declared.outcome.Outcome.TheVariants.{NumberReused}
use Rattle.s10_wire.specs.Kind.{fits}
use Rattle.s10_wire.specs.Datagrams.{datagram, outcome_bytes, IsOutcome, Asks, Replies}
use Rattle.s10_wire.proofs.Many.{length-spellings}
use Rattle.s10_wire.proofs.Replies.{asked}

short_request : (c n : ℕ) (body : Body) → length (datagram 0 (asked c n body)) ≤ 28
short_request c n (Grant h s t f l) = omega arith
short_request c n (Draw s t) = omega arith
short_request c n (Void x) = omega arith
short_request c n (Query x) = omega arith
short_request c n (DrawMany s t count) = omega arith
short_request c n (Withdraw range) = omega arith

pub request_is_short : (b : List ℕ) (q : Request) → Asks b q → length b ≤ 28
request_is_short b q asks = let P : List ℕ → Type 0 = λ x. length x ≤ 28 in
    subst P (sym asks.1) (short_request q.customer q.number q.body)

short_reply : (c n : ℕ) (body : Body) (o : Outcome) → IsOutcome o → fits body o ≡ true
    → length (datagram 0x80 (asked c n body) ++ outcome_bytes o) ≤ 230
short_reply c n (Grant h s t f l) (Granted range) ok fit = omega arith
short_reply c n (Draw s t) (Drawn day id) ok fit = omega arith
short_reply c n (Void x) Voided ok fit = omega arith
short_reply c n (Query x) (Told statuses.Unknown) ok fit = omega arith
short_reply c n (Query x) (Told statuses.Never) ok fit = omega arith
short_reply c n (Query x) (Told (statuses.Issued day)) ok fit = omega arith
short_reply c n (Query x) (Told (statuses.Voided day)) ok fit = omega arith
short_reply c n (Grant h s t f l) NotThePost ok fit = omega arith
short_reply c n (Grant h s t f l) BadGrant ok fit = omega arith
short_reply c n (Grant h s t f l) Overlap ok fit = omega arith
short_reply c n (Grant h s t f l) NumberReused ok fit = omega arith
short_reply c n (Draw s t) NoRange ok fit = omega arith
short_reply c n (Draw s t) NoneFree ok fit = omega arith
short_reply c n (Draw s t) NumberReused ok fit = omega arith
short_reply c n (Void x) NotYours ok fit = omega arith
short_reply c n (Void x) NotIssued ok fit = omega arith
short_reply c n (Void x) AlreadyVoid ok fit = omega arith
short_reply c n (Void x) NumberReused ok fit = omega arith
short_reply c n (Query x) NotYours ok fit = omega arith
short_reply c n (Query x) NumberReused ok fit = omega arith
short_reply c n (DrawMany s t count) (DrawnMany day ids) ok fit =
    omega (arith, length-spellings ids, ok.1.0.1)
short_reply c n (DrawMany s t count) NoRange ok fit = omega arith
short_reply c n (DrawMany s t count) NoneFree ok fit = omega arith
short_reply c n (DrawMany s t count) NumberReused ok fit = omega arith
short_reply c n (Withdraw range) Withdrawn ok fit = omega arith
short_reply c n (Withdraw range) NotThePost ok fit = omega arith
short_reply c n (Withdraw range) NoSuchRange ok fit = omega arith
short_reply c n (Withdraw range) Closed ok fit = omega arith
short_reply c n (Withdraw range) NumberReused ok fit = omega arith
short_reply c n body o ok fit = absurd cc

pub reply_is_short : (b : List ℕ) (q : Request) (o : Outcome) → Replies b q o → length b ≤ 230
reply_is_short b q o replies = let P : List ℕ → Type 0 = λ x. length x ≤ 230 in
    subst P (sym replies.3) (short_reply q.customer q.number q.body o replies.1 replies.2)

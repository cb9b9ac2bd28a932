use Rattle.std.proofs.Common.{refl, ap, subst, Err}
use Rattle.std.proofs.lemmas.Bool.{false≢true}
use Rattle.s10_wire.specs.declared.request.Request.{Request}
use Rattle.s10_wire.specs.declared.outcome.Outcome.{Outcome}
use Rattle.s10_wire.specs.Datagrams.{Replies}
use Rattle.s10_book.proofs.Calls.{grows_none}
use Rattle.s10_ends.proofs.One.{only_first, not_dropped, reply_not_dropped, faulted_not_dropped}
use Rattle.s10_ends.proofs.One.{Served-dropped, Served-reply, Served-faulted}
use Rattle.s10_ends.proofs.Stops.{stops_none, stops_one}
use Rattle.s10_ends.proofs.server.Server.handle.Goals as goal

pub returns-in-Err-clause-served : goal.returns-in-Err-clause-served
returns-in-Err-clause-served g c = λ h.
    Served-dropped (g.B.Book.history c.args.self.now.book) (g.B.Book.terms c.args.self.now.book)
    c.args.bytes.now c.args.day c.in-Err.fault c.in-Err.ensures.nothing

pub returns-in-Some-clause-served : goal.returns-in-Some-clause-served
returns-in-Some-clause-served g c = λ h.
    let P : Request → Type 0 = λ q. Replies c.encode_reply.result q c.in-Some.reply.outcome in
    let Q : Outcome → Type 0 = λ o. Replies c.encode_reply.result c.in-Ok.request o in
    Served-reply (g.B.Book.history c.args.self.now.book) (g.B.Book.history c.respond.new.book)
    (g.B.Book.terms c.args.self.now.book) c.args.bytes.now c.args.day
    c.in-Ok.request c.in-Ok-respond.outcome c.encode_reply.result c.in-Ok.ensures.found
    (c.in-Ok-respond.ensures.applied h) (c.in-Ok-respond.ensures.owed h)
    (subst Q c.in-Some.ensures.parts.1 (subst P c.in-Some.ensures.parts.0 c.encode_reply.ensures))

pub returns-in-Err-respond-clause-faults : goal.returns-in-Err-respond-clause-faults
returns-in-Err-respond-clause-faults g c = c.in-Err-respond.ensures.faults

pub returns-in-Err-respond-clause-served : goal.returns-in-Err-respond-clause-served
returns-in-Err-respond-clause-served g c = λ h.
    Served-faulted (g.B.Book.history c.args.self.now.book) (g.B.Book.history c.respond.new.book)
    (g.B.Book.terms c.args.self.now.book) c.args.bytes.now c.args.day
    c.in-Ok.request c.in-Err-respond.fault c.in-Ok.ensures.found (c.in-Err-respond.ensures.err h)
    (λ full. c.in-Err-respond.ensures.full h (ap Err full))

pub returns-in-Err-clause-faults : goal.returns-in-Err-clause-faults
returns-in-Err-clause-faults g c = refl

pub returns-in-Err-clause-dropped : goal.returns-in-Err-clause-dropped
returns-in-Err-clause-dropped g c = λ told. only_first c.args.bytes.now c.in-Err.fault told
    c.in-Err.ensures.nothing c.in-Err.ensures.refused

pub returns-in-Err-clause-unasked : goal.returns-in-Err-clause-unasked
returns-in-Err-clause-unasked g c = λ told same. refl

pub returns-in-Err-clause-was_honest : goal.returns-in-Err-clause-was_honest
returns-in-Err-clause-was_honest g c = λ h. h

pub returns-in-Err-clause-same_terms : goal.returns-in-Err-clause-same_terms
returns-in-Err-clause-same_terms g c = λ h. refl

pub returns-in-Err-clause-unchanged : goal.returns-in-Err-clause-unchanged
returns-in-Err-clause-unchanged g c = λ h. refl

pub unreachable-requires : goal.unreachable-requires
unreachable-requires g c =
    absurd (false≢true (c.in-None.ensures.fits.1 c.in-Ok-respond.ensures.fits))

pub unreachable-unreachable : goal.unreachable-unreachable
unreachable-unreachable g c =
    absurd (false≢true (c.in-None.ensures.fits.1 c.in-Ok-respond.ensures.fits))

pub returns-in-Some-clause-faults : goal.returns-in-Some-clause-faults
returns-in-Some-clause-faults g c = c.in-Ok-respond.ensures.faults

pub returns-in-Some-clause-dropped : goal.returns-in-Some-clause-dropped
returns-in-Some-clause-dropped g c = λ told. not_dropped c.args.bytes.now c.in-Ok.request _ told
    c.in-Ok.ensures.found (reply_not_dropped c.encode_reply.result told)

pub returns-in-Some-clause-unasked : goal.returns-in-Some-clause-unasked
returns-in-Some-clause-unasked g c =
    λ told same. absurd (reply_not_dropped c.encode_reply.result told same)

pub returns-in-Some-clause-was_honest : goal.returns-in-Some-clause-was_honest
returns-in-Some-clause-was_honest g c = c.respond.ensures.was_honest

pub returns-in-Some-clause-same_terms : goal.returns-in-Some-clause-same_terms
returns-in-Some-clause-same_terms g c = c.respond.ensures.same_terms

pub returns-in-Some-clause-unchanged : goal.returns-in-Some-clause-unchanged
returns-in-Some-clause-unchanged g c = λ h. tt

pub returns-in-Err-respond-clause-dropped : goal.returns-in-Err-respond-clause-dropped
returns-in-Err-respond-clause-dropped g c = λ told. not_dropped c.args.bytes.now c.in-Ok.request _
    told c.in-Ok.ensures.found (faulted_not_dropped c.in-Err-respond.fault told)

pub returns-in-Err-respond-clause-unasked : goal.returns-in-Err-respond-clause-unasked
returns-in-Err-respond-clause-unasked g c =
    λ told same. absurd (faulted_not_dropped c.in-Err-respond.fault told same)

pub returns-in-Err-respond-clause-was_honest : goal.returns-in-Err-respond-clause-was_honest
returns-in-Err-respond-clause-was_honest g c = c.respond.ensures.was_honest

pub returns-in-Err-respond-clause-same_terms : goal.returns-in-Err-respond-clause-same_terms
returns-in-Err-respond-clause-same_terms g c = c.respond.ensures.same_terms

pub returns-in-Err-respond-clause-unchanged : goal.returns-in-Err-respond-clause-unchanged
returns-in-Err-respond-clause-unchanged g c = c.in-Err-respond.ensures.err

pub returns-in-Err-clause-stays_committed : goal.returns-in-Err-clause-stays_committed
returns-in-Err-clause-stays_committed g c =
    λ h. grows_none (g.B.Book.committed c.args.self.now.book)

pub returns-in-Err-clause-committed : goal.returns-in-Err-clause-committed
returns-in-Err-clause-committed g c = λ lasting h whole. whole

pub returns-in-Some-clause-stays_committed : goal.returns-in-Some-clause-stays_committed
returns-in-Some-clause-stays_committed g c = c.respond.ensures.stays_committed

pub returns-in-Some-clause-committed : goal.returns-in-Some-clause-committed
returns-in-Some-clause-committed g c = c.respond.ensures.committed

pub returns-in-Err-respond-clause-stays_committed :
    goal.returns-in-Err-respond-clause-stays_committed
returns-in-Err-respond-clause-stays_committed g c = c.respond.ensures.stays_committed

pub returns-in-Err-respond-clause-committed : goal.returns-in-Err-respond-clause-committed
returns-in-Err-respond-clause-committed g c = c.respond.ensures.committed

pub returns-in-Err-clause-stop : goal.returns-in-Err-clause-stop
returns-in-Err-clause-stop g c = stops_none g.B.Book.terms g.B.Book.history g.B.Book.committed
    g.B.Book.honest g.B.Book.clean g.B.Book.may_find c.args.self.now.book _

pub returns-in-Some-clause-stop : goal.returns-in-Some-clause-stop
returns-in-Some-clause-stop g c = stops_one g.B.Book.terms g.B.Book.history g.B.Book.committed
    g.B.Book.honest g.B.Book.clean g.B.Book.may_find c.args.self.now.book c.respond.new.book
    c.args.bytes.now c.args.day c.in-Ok.request c.in-Ok.ensures.found c.respond.ensures.stop

pub returns-in-Err-respond-clause-stop : goal.returns-in-Err-respond-clause-stop
returns-in-Err-respond-clause-stop g c = stops_one g.B.Book.terms g.B.Book.history
    g.B.Book.committed g.B.Book.honest g.B.Book.clean g.B.Book.may_find c.args.self.now.book
    c.respond.new.book c.args.bytes.now c.args.day c.in-Ok.request c.in-Ok.ensures.found
    c.respond.ensures.stop

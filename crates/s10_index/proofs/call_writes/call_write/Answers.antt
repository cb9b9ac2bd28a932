use Rattle.std.proofs.Common.{rules, ◌≡◌, IsSome, IsTrue, false, true}
use Rattle.std.proofs.lemmas.Result.{err_from_is_err_and}
use Rattle.s10_wire.specs.Kind.{fits}
use Rattle.s10_book.proofs.Fitting.{answer_fits}
use Rattle.s10_wire.specs.Datagrams.{Replies}
use Rattle.s10_rows.specs.Selected.{IsCall}
use Rattle.s10_wire.proofs.Replies.{reply_replies}
use Rattle.s10_index.proofs.WrittenLemmas.{writes_call}
use Rattle.s10_index.proofs.call_writes.call_write.Goals as goal

pub returns-in_default-clause-done : goal.returns-in_default-clause-done
returns-in_default-clause-done c h t legal follows few indexes moves =
    let e = c.args.entry.now in
    let fitting : IsTrue (fits e.request.body e.outcome) =
    rw (follows.right) (answer_fits h e.request.customer e.request.body e.day t.interval) in
    let some : IsSome c.new.result = c.new.ensures.fits.1 fitting in
    let wrong : false ≡ true = rw c.in_default.is at some in
    absurd (let e = wrong in cc)

pub returns-in_err-made-clause-done : goal.returns-in_err-made-clause-done
returns-in_err-made-clause-done c h t legal follows few indexes moves =
    let p = err_from_is_err_and c.from_residual.result c.from_residual.ensures.1 in
    rw (p.1, p.2) (c.in_err-made.ensures.done h t legal follows few indexes moves)

pub returns-clause-answer : goal.returns-clause-answer
returns-clause-answer c h t legal follows calls indexes moves arrival =
    let e = c.args.entry.now in
    let replies : Replies c.encode_reply.result e.request e.outcome =
    rw (c.in-Some.ensures.parts.0, c.in-Some.ensures.parts.1) at c.encode_reply.ensures in
    let call : IsCall e = record {
      request = replies.0;
      outcome = replies.1;
      fitting = replies.2;
      day = search rules;
    } in (
      call,
      writes_call h t _ arrival (reply_replies e.request e.outcome c.encode_reply.result
          replies) (c.in_ok-made.ensures.answer h t legal follows calls call indexes moves
          arrival),
    )

use Rattle.std.proofs.Common.{◌∙◌, sym}
use Rattle.s10_book.proofs.Fewer.{few_told}
use Rattle.s10_book.proofs.Free.{nothing_free}
use Rattle.s10_book.proofs.rules.decide.Goals as goal

pub returns-in-Draw-clause-none_free : goal.returns-in-Draw-clause-none_free
returns-in-Draw-clause-none_free g c = λ h service country asked is.
    let first = c.decide_draw.ensures.reads.unchanged.was_honest h in
    nothing_free (g.B.Book.history c.args.book.now) (g.B.Book.terms c.args.book.now)
    (g.met.B.Book.legal c.args.book.now first) c.args.request.now.customer c.in-Draw.service
    c.in-Draw.country c.args.day (c.requires first)
    c.decide_draw.result service country (c.decide_draw.ensures.answer h) (sym c.in-Draw.is ∙ asked)
    is

pub returns-in-DrawMany-clause-few_free : goal.returns-in-DrawMany-clause-few_free
returns-in-DrawMany-clause-few_free g c = λ h service country count asked is.
    let first = c.decide_draw_many.ensures.reads.unchanged.was_honest h in
    few_told (g.B.Book.history c.args.book.now) (g.B.Book.terms c.args.book.now)
    (g.met.B.Book.legal c.args.book.now first) c.args.request.now.customer c.in-DrawMany.service
    c.in-DrawMany.country c.in-DrawMany.count c.args.day (c.requires first)
    c.decide_draw_many.result service country count (c.decide_draw_many.ensures.answer h)
    (sym c.in-DrawMany.is ∙ asked) is

pub returns-in-Query-clause-faults : goal.returns-in-Query-clause-faults
returns-in-Query-clause-faults g c = c.decide_query.ensures.reads.faults

pub returns-in-Grant-clause-faults : goal.returns-in-Grant-clause-faults
returns-in-Grant-clause-faults g c = c.decide_grant.ensures.reads.faults

pub returns-in-Grant-clause-unchanged : goal.returns-in-Grant-clause-unchanged
returns-in-Grant-clause-unchanged g c = c.decide_grant.ensures.reads.unchanged

pub returns-in-Grant-clause-answer : goal.returns-in-Grant-clause-answer
returns-in-Grant-clause-answer g c = rw c.in-Grant.is c.decide_grant.ensures.answer

pub returns-in-Grant-clause-fits : goal.returns-in-Grant-clause-fits
returns-in-Grant-clause-fits g c = rw c.in-Grant.is c.decide_grant.ensures.fits

pub returns-in-Draw-clause-faults : goal.returns-in-Draw-clause-faults
returns-in-Draw-clause-faults g c = c.decide_draw.ensures.reads.faults

pub returns-in-Draw-clause-unchanged : goal.returns-in-Draw-clause-unchanged
returns-in-Draw-clause-unchanged g c = c.decide_draw.ensures.reads.unchanged

pub returns-in-Draw-clause-answer : goal.returns-in-Draw-clause-answer
returns-in-Draw-clause-answer g c = rw c.in-Draw.is c.decide_draw.ensures.answer

pub returns-in-Draw-clause-fits : goal.returns-in-Draw-clause-fits
returns-in-Draw-clause-fits g c = rw c.in-Draw.is c.decide_draw.ensures.fits

pub returns-in-DrawMany-clause-faults : goal.returns-in-DrawMany-clause-faults
returns-in-DrawMany-clause-faults g c = c.decide_draw_many.ensures.reads.faults

pub returns-in-DrawMany-clause-unchanged : goal.returns-in-DrawMany-clause-unchanged
returns-in-DrawMany-clause-unchanged g c = c.decide_draw_many.ensures.reads.unchanged

pub returns-in-DrawMany-clause-answer : goal.returns-in-DrawMany-clause-answer
returns-in-DrawMany-clause-answer g c = rw c.in-DrawMany.is c.decide_draw_many.ensures.answer

pub returns-in-DrawMany-clause-fits : goal.returns-in-DrawMany-clause-fits
returns-in-DrawMany-clause-fits g c = rw c.in-DrawMany.is c.decide_draw_many.ensures.fits

pub returns-in-Void-clause-faults : goal.returns-in-Void-clause-faults
returns-in-Void-clause-faults g c = c.decide_void.ensures.reads.faults

pub returns-in-Void-clause-unchanged : goal.returns-in-Void-clause-unchanged
returns-in-Void-clause-unchanged g c = c.decide_void.ensures.reads.unchanged

pub returns-in-Void-clause-answer : goal.returns-in-Void-clause-answer
returns-in-Void-clause-answer g c = rw c.in-Void.is c.decide_void.ensures.answer

pub returns-in-Void-clause-fits : goal.returns-in-Void-clause-fits
returns-in-Void-clause-fits g c = rw c.in-Void.is c.decide_void.ensures.fits

pub returns-in-Query-clause-unchanged : goal.returns-in-Query-clause-unchanged
returns-in-Query-clause-unchanged g c = c.decide_query.ensures.reads.unchanged

pub returns-in-Query-clause-answer : goal.returns-in-Query-clause-answer
returns-in-Query-clause-answer g c = rw c.in-Query.is c.decide_query.ensures.answer

pub returns-in-Query-clause-fits : goal.returns-in-Query-clause-fits
returns-in-Query-clause-fits g c = rw c.in-Query.is c.decide_query.ensures.fits

pub returns-in-Withdraw-clause-faults : goal.returns-in-Withdraw-clause-faults
returns-in-Withdraw-clause-faults g c = c.decide_withdraw.ensures.reads.faults

pub returns-in-Withdraw-clause-unchanged : goal.returns-in-Withdraw-clause-unchanged
returns-in-Withdraw-clause-unchanged g c = c.decide_withdraw.ensures.reads.unchanged

pub returns-in-Withdraw-clause-answer : goal.returns-in-Withdraw-clause-answer
returns-in-Withdraw-clause-answer g c = rw c.in-Withdraw.is c.decide_withdraw.ensures.answer

pub returns-in-Withdraw-clause-fits : goal.returns-in-Withdraw-clause-fits
returns-in-Withdraw-clause-fits g c = rw c.in-Withdraw.is c.decide_withdraw.ensures.fits

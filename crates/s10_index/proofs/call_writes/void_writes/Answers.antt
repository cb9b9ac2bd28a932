use Rattle.std.proofs.Common.{◌++◌, ◌∷◌, [], ◌∙◌, List, sym, ap}
use Rattle.std.proofs.lemmas.Result.{err_from_is_err_and}
use Rattle.s10_rows.specs.declared.serial_write.SerialWrite.{SerialWrite}
use Rattle.s10_wire.specs.declared.body.Body.{Body}
use Rattle.s10_book.specs.Rules.{body_answer}
use Rattle.s10_index.proofs.Voiding.{never_voided}
use Rattle.s10_index.proofs.call_writes.void_writes.Goals as goal

pub returns-in_default-last_issuance-clause-done : goal.returns-in_default-last_issuance-clause-done
returns-in_default-last_issuance-clause-done c h t legal follows few indexes is =
    let e = c.args.entry.now in
    let none = sym (c.last_issuance.ensures h t legal few indexes)
    ∙ c.in_default-last_issuance.is in
    let answer =
    sym (follows.right ∙ ap (λ (b : Body). body_answer h e.request.customer b e.day t.interval)
    c.in-Void.is) ∙ is in
    absurd (never_voided h e.request.customer c.in-Void.id none answer)

pub returns-in_err-add_serial-clause-done : goal.returns-in_err-add_serial-clause-done
returns-in_err-add_serial-clause-done c h t legal follows few indexes is =
    let p = err_from_is_err_and c.from_residual.result c.from_residual.ensures.1 in
    rw (p.1, p.2) c.in_err-add_serial.ensures.memory

pub returns-in_err-add_serial-clause-answer : goal.returns-in_err-add_serial-clause-answer
returns-in_err-add_serial-clause-answer c h t legal follows calls call few indexes is =
    let p = err_from_is_err_and c.from_residual.result c.from_residual.ensures.1 in
    rw p.1 tt

pub returns-clause-answer : goal.returns-clause-answer
returns-clause-answer c h t legal follows calls call few indexes is =
    let last = sym (c.last_issuance.ensures h t legal few indexes) ∙ c.in-Some.is in
    let makes = c.void_write.ensures h t c.args.entry.now c.in-Void.id legal follows calls call
    c.in-Void.is is last in
    rw (
      c.add_serial.ensures.ranges ∙ c.new-made.ensures.ranges,
      c.in_ok-add_serial.ensures.serials
          ∙ ap (λ (l : List SerialWrite). l ++ c.void_write.result ∷ []) c.new-made.ensures.serials,
    )
    makes

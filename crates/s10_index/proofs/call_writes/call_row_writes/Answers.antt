use Rattle.std.proofs.Common.{arith}
use Rattle.s10_index.proofs.call_writes.call_row_writes.Goals as goal

pub returns-in-Granted-clause-done : goal.returns-in-Granted-clause-done
returns-in-Granted-clause-done c h t legal follows few indexes moves =
    c.grant_writes.ensures.done h t c.in-Granted.range follows c.in-Granted.is

pub returns-in-Granted-clause-answer : goal.returns-in-Granted-clause-answer
returns-in-Granted-clause-answer c h t legal follows calls call indexes moves arrival =
    c.grant_writes.ensures.answer h t c.in-Granted.range legal follows c.in-Granted.is

pub returns-in-Voided-clause-done : goal.returns-in-Voided-clause-done
returns-in-Voided-clause-done c h t legal follows few indexes moves = c.void_writes.ensures.done h t legal
    follows few indexes c.in-Voided.is

pub returns-in-Voided-clause-answer : goal.returns-in-Voided-clause-answer
returns-in-Voided-clause-answer c h t legal follows calls call indexes moves arrival =
    c.void_writes.ensures.answer h t legal follows calls call (omega (arith, arrival)) indexes
    c.in-Voided.is

pub returns-in_default-clause-done : goal.returns-in_default-clause-done
returns-in_default-clause-done c h t legal follows few indexes moves =
    c.issue_writes_of.ensures.done h (rw c.moves.ensures moves)

pub returns-in_default-clause-answer : goal.returns-in_default-clause-answer
returns-in_default-clause-answer c h t legal follows calls call indexes moves arrival =
    c.issue_writes_of.ensures.answer h t legal follows calls call (rw c.moves.ensures moves) arrival
    c.in_default.not-Granted c.in_default.not-Voided

use Rattle.std.proofs.Common.{rules, List, subst, sym}
use Rattle.std.specs.Prelude.{Contains}
use Rattle.s10_book.proofs.Calls.{Unchanged-trans}
use Rattle.s10_history.specs.declared.entry.Entry.{Entry}
use Rattle.s10_history.specs.History.{ranges_of}
use Rattle.s10_ledger.proofs.sql_book.SqlBookBook.usage.Goals as goal

pub usage_committed-requires-clause-none_pending : goal.usage_committed-requires-clause-none_pending
usage_committed-requires-clause-none_pending c = search rules

pub usage_committed-requires-clause-there : goal.usage_committed-requires-clause-there
usage_committed-requires-clause-there g c = λ honest.
    let unchanged = c.in_default.ensures.unchanged in
    subst (λ (h : List Entry). Contains (ranges_of h) c.args.range.now)
    (sym (unchanged.same_history honest)) (c.requires (unchanged.was_honest honest))

pub usage_committed-requires-clause-opened : goal.usage_committed-requires-clause-opened
usage_committed-requires-clause-opened g c = λ clean. (c.in_default.ensures.opened clean).is_open

pub returns-in-Err-clause-faults : goal.returns-in-Err-clause-faults
returns-in-Err-clause-faults g c = c.in-Err.ensures.faults

pub returns-in-Err-clause-unchanged : goal.returns-in-Err-clause-unchanged
returns-in-Err-clause-unchanged g c = c.in-Err.ensures.unchanged

pub returns-in-Err-clause-opened : goal.returns-in-Err-clause-opened
returns-in-Err-clause-opened g c = λ clean. tt

pub returns-in-Err-clause-answer : goal.returns-in-Err-clause-answer
returns-in-Err-clause-answer g c = λ honest. tt

pub returns-clause-faults : goal.returns-clause-faults
returns-clause-faults g c = rw c.in_default.ensures.faults at c.usage_committed.ensures.faults

pub returns-clause-unchanged : goal.returns-clause-unchanged
returns-clause-unchanged g c = Unchanged-trans c.in_default.ensures.unchanged
    c.usage_committed.ensures.unchanged

pub returns-clause-opened : goal.returns-clause-opened
returns-clause-opened g c = c.usage_committed.ensures.opened

pub returns-clause-answer : goal.returns-clause-answer
returns-clause-answer g c = λ honest.
    let unchanged = c.in_default.ensures.unchanged in
    let before = c.usage_committed.ensures.unchanged.was_honest honest in
    rw (unchanged.same_history before, unchanged.same_terms before)
    at (c.usage_committed.ensures.answer honest)

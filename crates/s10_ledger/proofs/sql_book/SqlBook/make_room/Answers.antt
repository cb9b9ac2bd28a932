use Rattle.std.proofs.Common.{arith}
use Rattle.std.proofs.lemmas.Grind.{common_steps}
use Rattle.s10_ledger.proofs.sql_book.SqlBook.make_room.Goals as goal

pub returns-clause-room : goal.returns-clause-room
returns-clause-room c = grind (arith, common_steps)

pub returns-then-len-clause-faults :
    goal.returns-then-len-clause-faults
returns-then-len-clause-faults g c = c.commit_all.ensures.faults

pub returns-then-len-clause-unchanged :
    goal.returns-then-len-clause-unchanged
returns-then-len-clause-unchanged g c = c.commit_all.ensures.unchanged

pub returns-then-len-clause-opened :
    goal.returns-then-len-clause-opened
returns-then-len-clause-opened g c = c.commit_all.ensures.opened

pub returns-clause-faults : goal.returns-clause-faults
returns-clause-faults g c = c.ask_again.ensures.faults

pub returns-clause-unchanged : goal.returns-clause-unchanged
returns-clause-unchanged g c = c.ask_again.ensures.unchanged

pub returns-clause-opened : goal.returns-clause-opened
returns-clause-opened g c = c.ask_again.ensures.opened

pub returns-then-len-clause-store : goal.returns-then-len-clause-store
returns-then-len-clause-store g c = λ honest clean few is.
    absurd (grind (arith, common_steps))

pub returns-clause-store : goal.returns-clause-store
returns-clause-store g c = λ honest clean few is. c.ask_again.ensures.store honest clean is

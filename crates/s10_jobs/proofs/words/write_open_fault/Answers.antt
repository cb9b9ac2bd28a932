use Rattle.s10_jobs.proofs.words.write_open_fault.Goals as goal

pub returns-in-NotALedger : goal.returns-in-NotALedger
returns-in-NotALedger g c = rw c.in-NotALedger.is c.write_word.ensures

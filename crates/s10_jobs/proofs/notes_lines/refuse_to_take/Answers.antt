use Rattle.s10_jobs.proofs.notes_lines.refuse_to_take.Goals as goal

pub returns-in-Unanswered : goal.returns-in-Unanswered
returns-in-Unanswered g c = rw c.in-Unanswered.is c.refuse.ensures

pub returns-in-NumbersSpent : goal.returns-in-NumbersSpent
returns-in-NumbersSpent g c = rw c.in-NumbersSpent.is c.refuse-in-NumbersSpent.ensures

use Rattle.s10_lines.proofs.lines.write_outcome.Goals as goal

pub returns-in-Drawn : goal.returns-in-Drawn
returns-in-Drawn c = rw c.in-Drawn.is c.write_drawn.ensures

pub returns-in-NotThePost : goal.returns-in-NotThePost
returns-in-NotThePost c = rw c.in-NotThePost.is c.add_word-in-NotThePost.ensures

pub returns-in-NotIssued : goal.returns-in-NotIssued
returns-in-NotIssued c = rw c.in-NotIssued.is c.add_word-in-NotIssued.ensures

pub returns-in-AlreadyVoid : goal.returns-in-AlreadyVoid
returns-in-AlreadyVoid c = rw c.in-AlreadyVoid.is c.add_word-in-AlreadyVoid.ensures

pub returns-in-NoSuchRange : goal.returns-in-NoSuchRange
returns-in-NoSuchRange c = rw c.in-NoSuchRange.is c.add_word-in-NoSuchRange.ensures

pub returns-in-NoneFree : goal.returns-in-NoneFree
returns-in-NoneFree c = rw c.in-NoneFree.is c.add_word-in-NoneFree.ensures

pub returns-in-NumberReused : goal.returns-in-NumberReused
returns-in-NumberReused c = rw c.in-NumberReused.is c.add_word-in-NumberReused.ensures

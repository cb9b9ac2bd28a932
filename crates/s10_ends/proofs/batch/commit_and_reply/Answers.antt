use Rattle.s10_ends.proofs.batch.commit_and_reply.Goals as goal

pub reply_all-requires-clause-none : goal.reply_all-requires-clause-none
reply_all-requires-clause-none g c = c.requires.none

pub reply_all-requires-clause-room : goal.reply_all-requires-clause-room
reply_all-requires-clause-room g c = c.requires.room

pub returns-clause-answered : goal.returns-clause-answered
returns-clause-answered g c = record {
  commit_result = c.commit_if_pending-commit_result.result;
  commits = c.commit_if_pending-commit_result.ensures;
  answers = c.reply_all.ensures.answers;
  sends = c.reply_all.ensures.sends;
}

pub returns-clause-many : goal.returns-clause-many
returns-clause-many g c = c.reply_all.ensures.many

pub returns-clause-capacity : goal.returns-clause-capacity
returns-clause-capacity g c = c.reply_all.ensures.capacity

use Rattle.std.proofs.Common.{rules}
use Rattle.s10_jobs.proofs.body_words.BodyWords.read.Goals as goal

pub returns-in_ok-read_id-in-Void-clause-ok : goal.returns-in_ok-read_id-in-Void-clause-ok
returns-in_ok-read_id-in-Void-clause-ok c = search rules

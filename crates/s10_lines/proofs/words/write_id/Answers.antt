use Rattle.s10_core.specs.Id.{spelling_of}
use Rattle.s10_lines.proofs.Writing.{same_word}
use Rattle.s10_lines.proofs.words.write_id.Goals as goal

pub returns : goal.returns
returns g c = same_word _ _ c.write.result (spelling_of c.args.id.now) c.write_word.result
    c.write.ensures.spelled c.write_word.ensures

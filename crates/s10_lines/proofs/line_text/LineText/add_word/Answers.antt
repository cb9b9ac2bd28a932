use Rattle.s10_lines.proofs.Growing.{word_added}
use Rattle.s10_lines.proofs.line_text.LineText.add_word.Goals as goal

pub returns : goal.returns
returns c = word_added _ _ _ c.args.word.now c.add.ensures c.add-2.ensures

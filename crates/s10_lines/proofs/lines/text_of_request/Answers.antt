use Rattle.std.specs.Prelude.{codes}
use Rattle.s10_lines.specs.Lines.{request_words}
use Rattle.s10_lines.proofs.Growing.{line_follows}
use Rattle.s10_lines.proofs.lines.text_of_request.Goals as goal

pub returns : goal.returns
returns c = line_follows _ _ _ _ (codes "request") (request_words c.args.request.now)
    c.new-line.ensures c.add.ensures c.write_request.ensures c.add-2.ensures

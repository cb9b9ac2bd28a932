use Rattle.std.proofs.Common.{◌++◌}
use Rattle.std.specs.Prelude.{codes}
use Rattle.s10_wire.specs.Reply.{request_of, outcome_of}
use Rattle.s10_lines.specs.Lines.{request_words, outcome_words}
use Rattle.s10_lines.proofs.Growing.{words_then, line_follows}
use Rattle.s10_lines.proofs.lines.text_of_reply.Goals as goal

pub returns : goal.returns
returns c =
    let asked = request_words (request_of c.args.reply.now) in
    let came = outcome_words (outcome_of c.args.reply.now) in
    line_follows _ _ _ _ (codes "reply") (asked ++ came) c.new-line.ensures c.add.ensures
    (words_then _ _ _ asked came (rw c.request.ensures at c.write_request.ensures)
    (rw c.outcome.ensures.outcome at c.write_outcome.ensures))
    c.add-2.ensures

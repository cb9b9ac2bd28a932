use Rattle.s10_wire.specs.Reply.{request_of, outcome_of}
use Rattle.s10_lines.specs.Lines.{reply_line}
use Rattle.s10_plain.proofs.lines.report_reply.Goals as goal

pub returns-in-Ok : goal.returns-in-Ok
returns-in-Ok c = rw c.in-Ok.is
    (c.report_line.ensures (reply_line (request_of c.in-Ok.reply) (outcome_of c.in-Ok.reply))
    c.text_of_reply.ensures)

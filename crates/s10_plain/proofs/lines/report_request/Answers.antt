use Rattle.s10_lines.specs.Lines.{request_line}
use Rattle.s10_plain.proofs.lines.report_request.Goals as goal

pub returns-in-Ok : goal.returns-in-Ok
returns-in-Ok c = rw c.in-Ok.is
    (c.report_line.ensures (request_line c.in-Ok.request) c.text_of_request.ensures)

use Rattle.std.proofs.Common.{◌∙◌, ap}
use Rattle.s10_cli.proofs.OptionLemmas.{new_reader, new_writer, runs_from}
use Rattle.s10_cli.proofs.command_line.run_buffered.Goals as goal

pub returns-clause-line : goal.returns-clause-line
returns-clause-line g c = (
  _,
  _,
  runs_from _ _ _ _ _ _ _ _
      (new_reader (λ i. g.I.Read.remaining i.reader) c.in_ok-input.input c.new-explained.result
      c.in_ok-input.ensures.inner c.in_ok-input.ensures.empty c.in_ok-input.ensures.capacity
      ∙ ap g.I.Read.remaining c.new-explained.ensures)
      (new_writer g.O.Write.contents c.in_ok-output.output c.args.output
      c.in_ok-output.ensures.inner c.in_ok-output.ensures.empty)
      c.run_line-ended.ensures.line,
  c.in_ok-flush_buffer.ensures,
)

pub returns-clause-asks : goal.returns-clause-asks
returns-clause-asks g c = c.run_line-ended.ensures.asks

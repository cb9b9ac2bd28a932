use Rattle.std.proofs.Common.{◌++◌}
use Rattle.std.specs.Prelude.{codes}
use Rattle.s10_lines.proofs.Writing.{line_follows, words_then}
use Rattle.s10_jobs.specs.TurnLines.{sender_words}
use Rattle.s10_jobs.specs.Words.{wire_fault_words}
use Rattle.s10_jobs.proofs.turn_line.write_dropped.Goals as goal

pub returns : goal.returns
returns g c =
    line_follows _ _ _ _ (codes "dropped")
    (wire_fault_words c.args.fault ++ sender_words c.args.senders c.args.from) c.write_text-2.result
    c.in_ok-write_text.ensures
    (words_then _ _ _ (wire_fault_words c.args.fault) (sender_words c.args.senders c.args.from)
    c.in_ok-write_wire_fault.ensures c.in_ok-write_sender.ensures) c.write_text-2.ensures

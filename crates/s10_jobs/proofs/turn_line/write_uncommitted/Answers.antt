use Rattle.std.proofs.Common.{◌++◌}
use Rattle.std.specs.Prelude.{codes}
use Rattle.s10_lines.proofs.Writing.{line_follows, words_then}
use Rattle.s10_jobs.specs.TurnLines.{sender_words}
use Rattle.s10_jobs.specs.Words.{book_fault_words}
use Rattle.s10_jobs.proofs.turn_line.write_uncommitted.Goals as goal

pub returns : goal.returns
returns g c =
    line_follows _ _ _ _ (codes "uncommitted")
    (book_fault_words c.args.fault ++ sender_words c.args.senders c.args.to) c.write_text-2.result
    c.in_ok-write_text.ensures
    (words_then _ _ _ (book_fault_words c.args.fault) (sender_words c.args.senders c.args.to)
    c.in_ok-write_book_fault.ensures c.in_ok-write_sender.ensures) c.write_text-2.ensures

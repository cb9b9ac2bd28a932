use Rattle.std.proofs.Common.{◌≤◌, ◌+◌, Some, None, arith, subst, sym}
use Rattle.s10_jobs.specs.LineReader.{ReadsByte, ReadsLine}
use Rattle.s10_jobs.specs.declared.job_status.JobStatus.{JobStatus}
use Rattle.s10_jobs.specs.declared.line_reader.NextLine.TheVariants.{End, Whole, Long}
use Rattle.s10_jobs.proofs.PrintedLines.{HasPrinted, at_start, one_more, ends_at_end}
use Rattle.s10_jobs.proofs.PrintedLines.{ends_too_long, ends_stopped, ends_unread, ends_last}
use Rattle.s10_jobs.proofs.PrintedLines.{ends_one_too_many}
use Rattle.s10_jobs.proofs.each_line.print_each.Goals as goal

pub loop-done-init : goal.loop-done-init
loop-done-init g c = at_start c.args.job (g.R.Read.remaining c.args.input.now)
    (g.W.Write.contents c.args.output.now)

pub returns-in_default : goal.returns-in_default
returns-in_default g c = ends_stopped c.args.job (g.R.Read.remaining c.args.input.now)
    (g.R.Read.remaining c.loop-done.input) (g.R.Read.remaining c.read_line.new.input)
    (g.W.Write.contents c.args.output.now) (g.W.Write.contents c.loop-done.output)
    c.loop-done.done c.loop-done.status c.loop-done.invariant c.in_default.ensures.stopped
    (omega arith)

pub returns-in-End : goal.returns-in-End
returns-in-End g c =
    let read : ReadsLine (g.R.Read.remaining c.loop-done.input)
    (g.R.Read.remaining c.read_line.new.input) c.read_line.new.buffer End =
    rw c.in-End.is at c.in-Ok.ensures.line in
    ends_at_end c.args.job (g.R.Read.remaining c.args.input.now)
    (g.R.Read.remaining c.loop-done.input) (g.R.Read.remaining c.read_line.new.input)
    (g.W.Write.contents c.args.output.now) (g.W.Write.contents c.loop-done.output)
    c.read_line.new.buffer c.loop-done.done c.loop-done.status c.loop-done.invariant read

pub returns-in-Long : goal.returns-in-Long
returns-in-Long g c =
    let read : ReadsLine (g.R.Read.remaining c.loop-done.input)
    (g.R.Read.remaining c.read_line.new.input) c.read_line.new.buffer Long =
    rw c.in-Long.is at c.in-Ok.ensures.line in
    ends_too_long c.args.job (g.R.Read.remaining c.args.input.now)
    (g.R.Read.remaining c.loop-done.input) (g.R.Read.remaining c.read_line.new.input)
    (g.W.Write.contents c.args.output.now) (g.W.Write.contents c.loop-done.output)
    c.read_line.new.buffer c.loop-done.done c.loop-done.status c.loop-done.invariant read
    c.in-Ok.ensures.left (omega arith)

pub loop-done-preserved : goal.loop-done-preserved
loop-done-preserved g c =
    let read : ReadsLine (g.R.Read.remaining c.loop-done.input)
    (g.R.Read.remaining c.read_line.new.input) c.read_line.new.buffer (Whole c.in-Whole.len) =
    rw c.in-Whole.is at c.in-Ok.ensures.line in
    let short : c.in-Whole.len ≤ 1036 = rw c.in-Whole.is at c.in-Ok.ensures.fits in
    subst (λ (s : JobStatus). HasPrinted c.args.job (g.R.Read.remaining c.args.input.now)
    (g.R.Read.remaining c.read_line.new.input) (g.W.Write.contents c.args.output.now)
    (g.W.Write.contents c.print.new.out) (c.loop-done.done + 1) s) (sym c.joined-status.ensures)
    (one_more c.args.job (g.R.Read.remaining c.args.input.now)
    (g.R.Read.remaining c.loop-done.input) (g.R.Read.remaining c.read_line.new.input)
    (g.W.Write.contents c.args.output.now) (g.W.Write.contents c.loop-done.output)
    (g.W.Write.contents c.print.new.out) c.read_line.new.buffer c.without_return.result.now
    c.in-Whole.len c.loop-done.done c.loop-done.status c.in-Ok-print.printed
    c.loop-done.invariant read c.read_line.ensures.taken short (omega arith)
    c.without_return.ensures c.in-Ok-print.ensures)

pub returns-in-Ok-None : goal.returns-in-Ok-None
returns-in-Ok-None g c =
    let read : ReadsByte (g.R.Read.remaining c.loop-done.input)
    (g.R.Read.remaining c.next_byte.new.input) None =
    rw c.in-Ok-None.field-0-is at c.in-Ok-None.ensures.read in
    ends_last c.args.job (g.R.Read.remaining c.args.input.now)
    (g.R.Read.remaining c.loop-done.input) (g.R.Read.remaining c.next_byte.new.input)
    (g.W.Write.contents c.args.output.now) (g.W.Write.contents c.loop-done.output)
    c.loop-done.done c.loop-done.status c.loop-done.invariant read

pub returns-in-Ok-Some : goal.returns-in-Ok-Some
returns-in-Ok-Some g c =
    let read : ReadsByte (g.R.Read.remaining c.loop-done.input)
    (g.R.Read.remaining c.next_byte.new.input) (Some c.in-Ok-Some._byte) =
    rw c.in-Ok-Some.field-0-is at c.in-Ok-Some.ensures.read in
    ends_one_too_many c.args.job (g.R.Read.remaining c.args.input.now)
    (g.R.Read.remaining c.loop-done.input) (g.R.Read.remaining c.next_byte.new.input)
    (g.W.Write.contents c.args.output.now) (g.W.Write.contents c.loop-done.output)
    c.in-Ok-Some._byte c.loop-done.done c.loop-done.status c.loop-done.invariant read (omega arith)

pub returns-in-Err : goal.returns-in-Err
returns-in-Err g c = ends_unread c.args.job (g.R.Read.remaining c.args.input.now)
    (g.R.Read.remaining c.loop-done.input) (g.R.Read.remaining c.next_byte.new.input)
    (g.W.Write.contents c.args.output.now) (g.W.Write.contents c.loop-done.output)
    c.loop-done.done c.loop-done.status c.loop-done.invariant c.in-Err.ensures.kept

use Rattle.s10_jobs.proofs.PrintedLines.{HasPrinted}
use Rattle.s10_jobs.proofs.each_line.print_each.Given as goal

-- The lines before this one got their lines, and the remaining lines follow them.
abbrev pub invariant-loop-done : goal.invariant-loop-done
invariant-loop-done g l = HasPrinted l.fn.job (g.R.Read.remaining l.fn.input)
    (g.R.Read.remaining l.input) (g.W.Write.contents l.fn.output) (g.W.Write.contents l.output)
    l.done l.status

use Rattle.std.proofs.Common.{rules, ◌≡◌, ℕ, List, Option, Some, None, subst}
use Rattle.std.specs.Io.Buffered.{writer_contents}
use Rattle.std.specs.Io.KnownBytes.{Keeps}
use Rattle.clap.specs.Words.{Text}
use Rattle.s10_jobs.specs.declared.job.Job.{Job}
use Rattle.s10_cli.specs.declared.line_end.LineEnd.{LineEnd}
use Rattle.s10_cli.specs.declared.line_end.LineEnd.TheVariants.{Ended, Asks}
use Rattle.s10_cli.specs.CommandLine.{RunsLine}
use Rattle.s10_cli.specs.Jobs.{AsksInWords, AsksByWords, status_in}
use Rattle.s10.specs.Ends.{RunsWords}
use Rattle.s10.proofs.Buffers.{new_writer}
use Rattle.s10.proofs.run.Goals as goal

-- The words of a line that asks for a job.
words_ran : (line : LineEnd) (job : Job) (words : List Text) (input old new : Option (List ℕ))
    → line ≡ Asks job
    → ((rest : Option (List ℕ)) × (printed : Option (List ℕ))
    × RunsLine words input rest old printed (status_in line) × Keeps printed new)
    → AsksByWords words line → RunsWords words input old new None × AsksInWords words job
words_ran (Ended status) job words input old new is ran asks = absurd cc
words_ran (Asks found) job words input old new is ran asks =
    let same : found ≡ job = cc in
    (ran, subst (AsksInWords words) same asks)

pub returns-in-Ok-Ok-clause-ended : goal.returns-in-Ok-Ok-clause-ended
returns-in-Ok-Ok-clause-ended g c =
    let (ran, asks) = words_ran c.in-Ok.ran.0 c.in-Asks.job _ _ _ _
    c.in-Asks.is c.in-Ok.ensures.line c.in-Ok.ensures.asks in
    let unwritten : writer_contents g.O.Write.contents c.in-Ok-new.output ≡ g.O.Write.contents
    c.in-Ok.ran.1 =
    new_writer g.O.Write.contents c.in-Ok-new.output c.in-Ok.ran.1 c.in-Ok-new.ensures.inner
    c.in-Ok-new.ensures.empty in (
      g.O.Write.contents c.in-Ok.ran.1,
      ran,
      (
        c.in-Asks.job,
        c.run_job-done.result.done,
        writer_contents g.O.Write.contents c.run_job-done.new.out,
        asks,
        rw (← unwritten) c.run_job-done.ensures,
        c.in-Ok-Ok.ensures,
        rw c.in-Ok-Ok.is-1 (search rules),
      ),
    )

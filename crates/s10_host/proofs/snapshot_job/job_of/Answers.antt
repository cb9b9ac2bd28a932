use Rattle.s10_host.proofs.Ending.{asked_for, no_report}
use Rattle.s10_host.proofs.snapshot_job.job_of.Goals as goal

pub returns-in-Some-clause-asked : goal.returns-in-Some-clause-asked
returns-in-Some-clause-asked g c =
    rw c.in-Report.is
    (asked_for g.D.Days.gives c.in-Report.day c.args.days.now c.new.new.days c.in-Report.kind
    c.new.result c.in-Some.report c.in-Some.is c.new.ensures.issues c.new.ensures.dated)

pub returns-in-None-clause-undated : goal.returns-in-None-clause-undated
returns-in-None-clause-undated g c none =
    rw c.in-Report.is
    (no_report g.D.Days.gives c.in-Report.day c.args.days.now c.new.new.days c.in-Report.kind
    c.new.result c.in-None.is c.new.ensures.issues c.new.ensures.dated)

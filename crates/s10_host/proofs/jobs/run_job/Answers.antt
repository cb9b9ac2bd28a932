use Rattle.s10_host.proofs.Ending.{ended_as}
use Rattle.s10_host.proofs.jobs.run_job.Goals as goal

pub returns-in-Create : goal.returns-in-Create
returns-in-Create g c =
    ended_as g.row.S g.S.Start g.D.Days.gives c.args.job.now _ _ _ _ _ _ c.run_create.result.resources
    c.in-Create.is c.run_create.ensures

pub returns-in-Serve : goal.returns-in-Serve
returns-in-Serve g c =
    ended_as g.row.S g.S.Start g.D.Days.gives c.args.job.now _ _ _ _ _ _ c.run_serve.result.resources
    c.in-Serve.is c.run_serve.ensures

pub returns-in-Ask : goal.returns-in-Ask
returns-in-Ask g c =
    ended_as g.row.S g.S.Start g.D.Days.gives c.args.job.now _ _ _ _ _ _ c.run_question.result.resources
    c.in-Ask.is c.run_question.ensures

pub returns-in-Notes : goal.returns-in-Notes
returns-in-Notes g c =
    ended_as g.row.S g.S.Start g.D.Days.gives c.args.job.now _ _ _ _ _ _ c.run_notes.result.resources
    c.in-Notes.is c.run_notes.ensures.made

pub returns-in-Again : goal.returns-in-Again
returns-in-Again g c =
    ended_as g.row.S g.S.Start g.D.Days.gives c.args.job.now _ _ _ _ _ _ c.run_again.result.resources
    c.in-Again.is c.run_again.ensures

pub returns-in-Report : goal.returns-in-Report
returns-in-Report g c =
    ended_as g.row.S g.S.Start g.D.Days.gives c.args.job.now _ _ _ _ _ _ c.run_report.result.resources
    c.in-Report.is c.run_report.ensures

pub returns-in-Audit : goal.returns-in-Audit
returns-in-Audit g c =
    ended_as g.row.S g.S.Start g.D.Days.gives c.args.job.now _ _ _ _ _ _ c.run_audit_on_file.result.resources
    c.in-Audit.is c.run_audit_on_file.ensures

pub returns-in-Snapshot : goal.returns-in-Snapshot
returns-in-Snapshot g c =
    ended_as g.row.S g.S.Start g.D.Days.gives c.args.job.now _ _ _ _ _ _ c.run_snapshot.result.resources
    c.in-Snapshot.is c.run_snapshot.ensures

pub returns-in-Copy : goal.returns-in-Copy
returns-in-Copy g c =
    ended_as g.row.S g.S.Start g.D.Days.gives c.args.job.now _ _ _ _ _ _ c.run_copy.result.resources
    c.in-Copy.is c.run_copy.ensures

pub returns-in-Loop : goal.returns-in-Loop
returns-in-Loop g c =
    ended_as g.row.S g.S.Start g.D.Days.gives c.args.job.now _ _ _ _ _ _ c.run_loop_on.result.resources
    c.in-Loop.is c.run_loop_on.ensures

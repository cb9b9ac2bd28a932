use Rattle.s10_jobs.proofs.NotesRecords.{asked_and_recorded}
use Rattle.s10_jobs.proofs.notes_asking.ask_request.Goals as goal

pub returns-in-Ok-clause-asked : goal.returns-in-Ok-clause-asked
returns-in-Ok-clause-asked g c =
    asked_and_recorded g.N.Notebook.held g.N.Notebook.may_find c.args.request.now _ _ _ _ _ _ _
    (g.W.Write.contents c.write_call_result.new.out) _ _ c.call_request-called.ensures.calls.0
    c.call_request-called.result c.in-Ok.field-0 c.in_ok-status.status c.in-Ok.is
    c.call_request-called.ensures.calls.1 c.in_ok-status.ensures c.record_reply.ensures.recorded

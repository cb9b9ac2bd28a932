use Rattle.std.proofs.Common.{◌∙◌, subst, refl}
use Rattle.s10_link.specs.declared.trace.Trace.{Trace}
use Rattle.s10_link.proofs.Bound.{still_bound}
use Rattle.s10_notes.specs.Notes.{take_fault}
use Rattle.s10_wire.specs.declared.body.Body.{Body}
use Rattle.s10_jobs.specs.Questioning.{any_address}
use Rattle.s10_jobs.specs.Questions.{IsPeerText, IsQuestionRefusal, WordsAsk}
use Rattle.s10_jobs.specs.NotesAsked.{AsksByNotes}
use Rattle.s10_host.specs.NotesJobs.{held_in, may_find_in}
use Rattle.s10_host.proofs.NotesEnding.{no_text, no_notes, no_socket}
use Rattle.s10_host.proofs.notes.run_by_notes.Goals as goal

pub returns-in-Err : goal.returns-in-Err
returns-in-Err g c =
    let asked = c.args.question.now in
    rw c.none.ensures (record {
      asked = tt;
      unasked = λ _. no_text (IsQuestionRefusal asked.to.now asked.body)
          (IsPeerText asked.to.now × (body : Body) × WordsAsk asked.body body) c.args.file.now
          c.in-Err.refusal _ _ _ c.write_refusal.result refl c.in-Err.ensures.refused
          c.write_refusal.ensures;
    })

pub returns-in-Err-open_notes : goal.returns-in-Err-open_notes
returns-in-Err-open_notes g c =
    let asked = c.args.question.now in
    rw c.none-in-Err-open_notes.ensures (record {
      asked = tt;
      unasked = λ _. no_notes (IsQuestionRefusal asked.to.now asked.body)
          (IsPeerText asked.to.now × (body : Body) × WordsAsk asked.body body) c.args.file.now
          c.in-Err-open_notes.fault _ _ _ c.fail_by_notes.result refl
          ((c.in-Ok.read.0, c.in-Ok.ensures.ok.0), c.in-Ok.read.1, c.in-Ok.ensures.ok.1)
          c.fail_by_notes.ensures;
    })

pub returns-in-Err-bind_client : goal.returns-in-Err-bind_client
returns-in-Err-bind_client g c =
    let asked = c.args.question.now in
    rw c.none-in-Err-bind_client.ensures (record {
      asked = tt;
      unasked = λ _. no_socket (IsQuestionRefusal asked.to.now asked.body)
          (IsPeerText asked.to.now × (body : Body) × WordsAsk asked.body body) c.args.file.now
          c.in-Err-bind_client.fault _ _ _ c.fail_by_link.result c.in-Ok-open_notes.ensures
          ((c.in-Ok.read.0, c.in-Ok.ensures.ok.0), c.in-Ok.read.1, c.in-Ok.ensures.ok.1)
          c.in-Err-bind_client.ensures.refused c.fail_by_link.ensures;
    })

pub returns : goal.returns
returns g c =
    let opened = c.in-Ok-open_notes.notes in
    let left = c.ask_by_notes-done.new.notebook in
    let link = c.ask_by_notes-done.new.link in
    let P : Trace → Type 0 = λ t. AsksByNotes held_in may_find_in (take_fault opened.held)
    c.in-Ok.read.1 opened left t link.trace c.in-Ok.read.0 c.args.question.now.tries
    (g.W.Write.contents c.args.out.now) (g.W.Write.contents c.ask_by_notes-done.new.out)
    c.ask_by_notes-done.result in
    record {
      asked = (
        c.in-Ok.read.1,
        c.in-Ok.ensures.ok.1,
        record {
          at = still_bound any_address _ _ c.ask_by_notes-done.ensures.led
              c.in-Ok-bind_client.ensures.at;
          peer = c.in-Ok.read.0;
          spells = c.in-Ok.ensures.ok.0;
          opened = opened;
          opened_at = c.in-Ok-open_notes.ensures;
          left_at = c.ask_by_notes-done.ensures.at ∙ c.in-Ok-open_notes.ensures.at;
          uses = subst P c.in-Ok-bind_client.ensures.ok c.ask_by_notes-done.ensures.asked;
        },
      );
      unasked = λ none. absurd cc;
    }

use Rattle.std.proofs.Common.{◌∙◌, subst}
use Rattle.s10_link.specs.declared.trace.Trace.{Trace}
use Rattle.s10_link.proofs.Bound.{still_bound}
use Rattle.s10_jobs.specs.Questioning.{any_address}
use Rattle.s10_jobs.specs.NotesAsked.{AsksOpen}
use Rattle.s10_jobs.specs.Questions.{IsPeerText}
use Rattle.s10_host.specs.NotesJobs.{held_in, may_find_in, IsAgainRefusal}
use Rattle.s10_host.proofs.NotesEnding.{no_socket}
use Rattle.s10_host.proofs.notes.run_again.Goals as goal

pub returns-in-Err-bind_client : goal.returns-in-Err-bind_client
returns-in-Err-bind_client g c = rw c.none-in-Err-bind_client.ensures (record {
  asked = tt;
  unasked = λ _. no_socket (IsAgainRefusal c.args.to.now) (IsPeerText c.args.to.now) c.args.path.now
      c.in-Err-bind_client.fault _ _ _ c.fail_by_link.result c.in-Ok.ensures
      (c.in-Some.to, rw c.as_bytes.ensures.value at c.in-Some.ensures.spelled)
      c.in-Err-bind_client.ensures.refused c.fail_by_link.ensures;
})

pub returns : goal.returns
returns g c =
    let opened = c.in-Ok.notes in
    let left = c.ask_again-done.new.notebook in
    let link = c.ask_again-done.new.link in
    let P : Trace → Type 0 = λ t. AsksOpen held_in may_find_in opened.held.request opened left t
    link.trace c.in-Some.to c.args.tries (g.W.Write.contents c.args.out.now)
    (g.W.Write.contents c.ask_again-done.new.out) c.ask_again-done.result in
    record {
      asked = record {
        at = still_bound any_address _ _ c.ask_again-done.ensures.led
            c.in-Ok-bind_client.ensures.at;
        peer = c.in-Some.to;
        spells = rw c.as_bytes.ensures.value at c.in-Some.ensures.spelled;
        opened = opened;
        opened_at = c.in-Ok.ensures;
        left_at = c.ask_again-done.ensures.at ∙ c.in-Ok.ensures.at;
        uses = subst P c.in-Ok-bind_client.ensures.ok c.ask_again-done.ensures.asked;
      };
      unasked = λ none. absurd cc;
    }

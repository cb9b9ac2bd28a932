use Rattle.std.proofs.Common.{◌≡◌, ℕ, Option, sym, ap, ◌∙◌, arith}
use Rattle.s10_history.specs.declared.candidate.Candidate.{Candidate}
use Rattle.s10_history.specs.declared.issue.Issue.{Issue}
use Rattle.s10_history.specs.Issues.{issues_of, pick_of, id_at, serial_after_steps, last_issue_of}
use Rattle.s10_book.proofs.Marks.{all_at_pick}
use Rattle.s10_book.proofs.Rows.{candidate_after_is}
use Rattle.s10_book.proofs.plain_book.candidate_after_in.Goals as goal

pub returns : goal.returns
returns c =
    let h = c.args.entries.now in
    let r = c.args.range.now in
    let at : c.candidate_in-pick.result.serial ≡ pick_of (issues_of c.args.entries.now)
    c.args.range.now = ap (λ (x : Candidate). x.serial) c.candidate_in-pick.ensures in
    let turns = all_at_pick h c.requires.legal.0 c.requires.legal.1 r c.requires.there in
    let s : c.serial_after-serial.result ≡ serial_after_steps r (pick_of (issues_of h) r)
    c.args.issued = c.serial_after-serial.ensures.steps (omega (arith, at, turns.low))
    (omega (arith, at, turns.high)) c.requires.fewer
    ∙ ap (λ m. serial_after_steps r m c.args.issued) at in
    let issue : c.last_issue_in.result ≡ last_issue_of h (id_at r c.serial_after-serial.result) =
    c.last_issue_in.ensures ∙ ap (last_issue_of h) c.id.ensures in
    ap (λ (i : Option Issue). let x : Candidate = record {
      serial = c.serial_after-serial.result;
      issue = i;
    } in x) issue
    ∙ ap (λ (m : ℕ). let x : Candidate = record {
      serial = m;
      issue = last_issue_of h (id_at r m);
    } in x) s
    ∙ sym (candidate_after_is h c.requires.legal.0 r c.args.issued c.requires.legal.1
    c.requires.there)

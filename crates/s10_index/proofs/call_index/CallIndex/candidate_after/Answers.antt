use Rattle.std.proofs.Common.{◌≡◌, ◌∙◌, ℕ, sym, ap, ap₂, arith}
use Rattle.std.specs.Prelude.{Option}
use Rattle.s10_history.specs.declared.candidate.Candidate.{Candidate}
use Rattle.s10_history.specs.declared.issue.Issue.{Issue}
use Rattle.s10_history.specs.Issues.{issues_of, pick_of, id_at, serial_after_steps, last_issue_of}
use Rattle.s10_book.proofs.Marks.{all_at_pick}
use Rattle.s10_book.proofs.Rows.{candidate_after_is}
use Rattle.s10_index.proofs.call_index.CallIndex.candidate_after.Goals as goal

pub returns : goal.returns
returns c h t legal indexes has fewer =
    let r = c.args.range.now in
    let turns = all_at_pick h t legal r has in
    let pick = c.pick.ensures h indexes has in
    let f : ℕ → Option Issue → Candidate = λ s i. record { serial = s; issue = i } in
    let serial : c.serial_after-serial.result ≡ serial_after_steps r (pick_of (issues_of h) r)
    c.args.issued =
    c.serial_after-serial.ensures.steps (omega (arith, pick, turns.low)) (omega (arith, pick, turns.high))
    fewer ∙ ap (λ m. serial_after_steps r m c.args.issued) pick in
    ap₂ f serial (c.last_issue-issue.ensures h indexes ∙ ap (last_issue_of h) c.id.ensures
    ∙ ap (λ s. last_issue_of h (id_at r s)) serial)
    ∙ sym (candidate_after_is h t r c.args.issued legal has)

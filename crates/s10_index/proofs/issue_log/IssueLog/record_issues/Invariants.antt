use Rattle.std.proofs.Common.{◌≡◌, ◌≤◌, ◌+◌, ◌++◌, ◌∷◌, [], List, length}
use Rattle.s10_history.specs.declared.entry.Entry.{Entry}
use Rattle.s10_history.specs.Issues.{issues_of, carried_by}
use Rattle.s10_book.proofs.Carrying.{issues_upto}
use Rattle.s10_index.specs.IssueLog.{HoldsIssues, HasVoids, HaveIds}
use Rattle.s10_index.proofs.issue_log.IssueLog.record_issues.Given as goal

abbrev pub invariant-loop-at : goal.invariant-loop-at
invariant-loop-at l = record {
  places : length (carried_by l.entry.outcome) ≤ l.self.places.room + l.at;
  chains : length (carried_by l.entry.outcome) ≤ l.self.chains.room + l.at;
  held : (h : List Entry) → l.calls.items ≡ h ++ l.entry ∷ [] → l.call ≡ length h
      → HoldsIssues l.seed l.fn.self l.calls.items (issues_of h)
      → HoldsIssues l.seed l.self l.calls.items (issues_upto h l.entry l.at);
  voids : (h : List Entry) → l.calls.items ≡ h ++ l.entry ∷ [] → l.call ≡ length h
      → HoldsIssues l.seed l.fn.self l.calls.items (issues_of h)
      → HasVoids l.fn.self.places.items l.calls.items (issues_of h)
      → HasVoids l.self.places.items l.calls.items (issues_upto h l.entry l.at);
  ids : (h : List Entry) → HaveIds (issues_of h) → HaveIds (issues_upto h l.entry l.at);
}

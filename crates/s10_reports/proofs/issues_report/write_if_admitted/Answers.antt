use Rattle.std.proofs.Common.{◌≡◌, ◌∙◌, [], ◌∷◌, List, Bool, true, false, Option, ap, sym}
use Rattle.s10_history.specs.declared.entry.Entry.{Entry}
use Rattle.s10_history.specs.declared.issuance.Issuance.{Issuance}
use Rattle.s10_history.specs.declared.range.Range.{Range}
use Rattle.s10_history.specs.Issues.{last_issue_of}
use Rattle.s10_reports.specs.declared.issues_report.IssuesReport.{IssuesReport}
use Rattle.s10_reports.specs.Filters.{admits_issue, range_with}
use Rattle.s10_reports.specs.Reports.{issue_lines, issue_text}
use Rattle.s10_reports.proofs.Reporting.{covered, line_written, no_line, nothing_written, one_line}
use Rattle.s10_reports.proofs.issues_report.write_if_admitted.Goals as goal

-- Whether the filter admits an issuance, by its range that was found.
admitted : (report : IssuesReport) (h : List Entry) (i : Issuance) (range : Option Range)
    (b : Bool) → range ≡ range_with h i.id → b ≡ admits_issue report.filter range i
    → admits_issue report.filter (range_with h i.id) i ≡ b
admitted report h i range b is tested =
    ap (λ (o : Option Range). admits_issue report.filter o i) (sym is) ∙ sym tested

one : (report : IssuesReport) (h : List Entry) (i : Issuance)
    → admits_issue report.filter (range_with h i.id) i ≡ true
    → issue_lines report h (i ∷ [])
    ≡ issue_text report.format i (range_with h i.id) (last_issue_of h i.id) ∷ []
one report h i passes =
    one_line (λ (x : Issuance). admits_issue report.filter (range_with h x.id) x)
    (λ (x : Issuance). issue_text report.format x (range_with h x.id) (last_issue_of h x.id)) i passes

none : (report : IssuesReport) (h : List Entry) (i : Issuance)
    → admits_issue report.filter (range_with h i.id) i ≡ false
    → issue_lines report h (i ∷ []) ≡ []
none report h i fails =
    no_line (λ (x : Issuance). admits_issue report.filter (range_with h x.id) x)
    (λ (x : Issuance). issue_text report.format x (range_with h x.id) (last_issue_of h x.id)) i fails

pub returns-then-not-admits-clause-written : goal.returns-then-not-admits-clause-written
returns-then-not-admits-clause-written g c = λ h.
    let first = g.B.Book.history c.args.book.now in
    let i = c.args.issuance.now in
    let report = c.args.report.now in
    let range : c.in_ok-range.range ≡ range_with first i.id =
    (rw c.of.ensures at c.in_ok-range.ensures.answer h) ∙ covered first i.id in
    let fails : c.admits.result ≡ false = cc in
    nothing_written _ (issue_lines report first (i ∷ []))
    (none report first i (admitted report first i c.in_ok-range.range c.admits.result range
    c.admits.ensures ∙ fails))

pub returns-clause-written : goal.returns-clause-written
returns-clause-written g c = λ h.
    let h1 = c.last_issue.ensures.unchanged.was_honest h in
    let first = g.B.Book.history c.args.book.now in
    let i = c.args.issuance.now in
    let report = c.args.report.now in
    let range : c.in_ok-range.range ≡ range_with first i.id =
    (rw c.of.ensures at c.in_ok-range.ensures.answer h1) ∙ covered first i.id in
    let passes : c.admits.result ≡ true = cc in
    let last : c.in_ok-last.last ≡ last_issue_of first i.id =
    c.in_ok-last.ensures.answer h ∙ ap (λ (l : List Entry). last_issue_of l i.id)
    (c.covering.ensures.unchanged.same_history h1) in
    line_written _ _ (issue_lines report first (i ∷ []))
    (issue_text report.format i (range_with first i.id) (last_issue_of first i.id))
    (one report first i (admitted report first i c.in_ok-range.range c.admits.result range
    c.admits.ensures ∙ passes))
    (rw (range, last) at c.in_ok-write_as.ensures)

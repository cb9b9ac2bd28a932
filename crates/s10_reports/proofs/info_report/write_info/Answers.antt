use Rattle.std.proofs.Common.{◌≡◌, ℕ, List, ap, subst, refl, length}
use Rattle.std.specs.Io.KnownBytes.{Appends}
use Rattle.s10_history.specs.History.{day_of, ranges_of}
use Rattle.s10_reports.specs.Info.{call_lines, tally_lines, tally_of, info_report}
use Rattle.s10_reports.specs.Reports.{joined}
use Rattle.s10_reports.proofs.Reporting.{call_written}
use Rattle.s10_reports.proofs.info_report.write_info.Goals as goal

pub returns-clause-written : goal.returns-clause-written
returns-clause-written g c = λ h.
    let h0 = c.tally_ranges.ensures.unchanged.was_honest h in
    let first = g.B.Book.history c.args.book.now in
    let t = g.B.Book.terms c.args.book.now in
    let terms : c.settings-settings.result ≡ t = c.settings-settings.ensures h0 in
    let calls : c.len-calls.result ≡ length first = c.len-calls.ensures.answer h0 in
    let last : c.day-last_day.result ≡ day_of first = c.day-last_day.ensures h0 in
    let tally : c.in_ok-tally.tally ≡ tally_of first c.args.day t.interval (ranges_of first) =
    c.in_ok-tally.ensures.tallied h in
    let front : call_lines c.args.schema c.settings-settings.result c.len-calls.result
    c.day-last_day.result ≡ call_lines c.args.schema t (length first) (day_of first) =
    λ i. call_lines c.args.schema (terms i) (calls i) (last i) in
    call_written _ _ _ (call_lines c.args.schema t (length first) (day_of first))
    (tally_lines (tally_of first c.args.day t.interval (ranges_of first)))
    (info_report c.args.schema first c.args.day t) refl
    (subst (λ (l : List (List ℕ)). Appends (g.W.Write.contents c.args.out.now)
    (g.W.Write.contents c.write_calls.new.out) (joined l)) front c.in_ok-write_calls.ensures)
    (subst (λ (l : List (List ℕ)). Appends (g.W.Write.contents c.write_calls.new.out)
    (g.W.Write.contents c.write_tally.new.out) (joined l)) (ap tally_lines tally)
    c.in_ok-write_tally.ensures)

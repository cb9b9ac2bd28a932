use Rattle.std.proofs.Common.{[], ◌∷◌, ◌++◌, List, ℕ}
use Rattle.std.specs.Prelude.{decimal}
use Rattle.s10_core.specs.Id.{spelling_of}
use Rattle.s10_lines.proofs.Writing.{words_then, line_follows}
use Rattle.s10_reports.specs.Reports.{issue_line}
use Rattle.s10_reports.specs.States.{state_of}
use Rattle.s10_reports.proofs.issues_report.write_issue.Goals as goal

pub returns : goal.returns
unfolding issue_line
returns g c =
    let i = c.args.issuance.now in
    let day : List (List ℕ) = decimal i.day ∷ [] in
    let customer : List (List ℕ) = decimal i.customer ∷ [] in
    let number : List (List ℕ) = decimal i.number ∷ [] in
    let id : List (List ℕ) = spelling_of i.id ∷ [] in
    let state : List (List ℕ) = state_of i c.args.last.now ∷ [] in
    line_follows _ _ _ _ (decimal i.arrival) (day ++ customer ++ number ++ id ++ state)
    c.write_text.result
    c.in_ok-write_first_decimal.ensures
    (words_then _ _ _ (day ++ customer ++ number ++ id) state
    (words_then _ _ _ (day ++ customer ++ number) id
    (words_then _ _ _ (day ++ customer) number
    (words_then _ _ _ day customer c.in_ok-write_decimal.ensures c.in_ok-write_decimal-2.ensures)
    c.in_ok-write_decimal-3.ensures)
    c.in_ok-write_id.ensures)
    (rw c.state.ensures at c.in_ok-write_word.ensures))
    c.write_text.ensures

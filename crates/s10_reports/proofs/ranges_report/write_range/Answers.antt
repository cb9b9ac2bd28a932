use Rattle.std.proofs.Common.{[], ◌∷◌, ◌++◌, List, ℕ}
use Rattle.std.specs.Prelude.{decimal}
use Rattle.s10_core.specs.Letters.{letters_of}
use Rattle.s10_core.specs.Serial.{digits_of}
use Rattle.s10_lines.proofs.Writing.{words_then, line_follows}
use Rattle.s10_reports.specs.Reports.{range_line, closed_words}
use Rattle.s10_reports.proofs.ranges_report.write_range.Goals as goal

pub returns : goal.returns
unfolding range_line
returns g c =
    let r = c.args.range.now in
    let u = c.args.usage.now in
    let holder : List (List ℕ) = decimal r.holder ∷ [] in
    let letters : List (List ℕ) = letters_of r.service ∷ letters_of r.country ∷ [] in
    let serials : List (List ℕ) = digits_of r.first ∷ digits_of r.last ∷ [] in
    let usage : List (List ℕ) = decimal u.used ∷ decimal u.voided ∷ decimal u.free ∷ [] in
    line_follows _ _ _ _ (decimal r.num) ((holder ++ letters ++ serials ++ usage) ++ closed_words
    c.args.closed) c.write_text.result
    c.in_ok-write_first_decimal.ensures
    (words_then _ _ _ (holder ++ letters ++ serials ++ usage) (closed_words c.args.closed)
    (words_then _ _ _ (holder ++ letters ++ serials) usage
    (words_then _ _ _ (holder ++ letters) serials
    (words_then _ _ _ holder letters c.in_ok-write_decimal.ensures c.in_ok-write_letters.ensures)
    c.in_ok-write_serials.ensures)
    c.in_ok-write_usage.ensures)
    c.in_ok-write_closed.ensures)
    c.write_text.ensures

use Rattle.std.proofs.Common.{[], ◌∷◌}
use Rattle.std.specs.Prelude.{decimal}
use Rattle.s10_lines.proofs.Writing.{words_then, words_follow}
use Rattle.s10_reports.proofs.ranges_report.write_usage.Goals as goal

pub returns : goal.returns
returns g c =
    let u = c.args.usage.now in
    words_follow _ _ _ (decimal u.used ∷ decimal u.voided ∷ []) (decimal u.free ∷ [])
    c.write_decimal-3.result
    (words_then _ _ _ (decimal u.used ∷ []) (decimal u.voided ∷ []) c.in_ok-write_decimal.ensures
    c.in_ok-write_decimal-2.ensures)
    c.write_decimal-3.ensures

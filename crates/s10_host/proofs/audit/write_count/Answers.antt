use Rattle.std.proofs.Common.{[], ◌∷◌}
use Rattle.std.specs.Prelude.{codes, decimal}
use Rattle.s10_lines.proofs.Writing.{words_then, line_follows}
use Rattle.s10_host.proofs.audit.write_count.Goals as goal

pub returns : goal.returns
returns g c =
    let words = words_then _ _ _ (codes "ok" ∷ []) (decimal c.args.count ∷ [])
    c.in_ok-write_word.ensures c.in_ok-write_decimal.ensures in
    line_follows _ _ _ _ (codes "ledger") (codes "ok" ∷ decimal c.args.count ∷ [])
    c.write_text-2.result c.in_ok-write_text.ensures words c.write_text-2.ensures

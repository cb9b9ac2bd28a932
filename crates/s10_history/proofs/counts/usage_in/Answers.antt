use Rattle.std.proofs.Common.{rules, ◌∙◌, sym, ap}
use Rattle.std.specs.Prelude.{count_by}
use Rattle.s10_history.specs.Issues.{is_issued, is_free, id_at, serials}
use Rattle.s10_history.proofs.counts.usage_in.Goals as goal

pub returns-clause-used : goal.returns-clause-used
returns-clause-used c =
    let range = c.args.range.now in
    (c.usage_by.ensures c.args.entries.now (λ x found k. search rules)).used
    ∙ ap (λ is. count_by (λ serial. is_issued is (id_at range serial)) (serials range))
    (sym c.requires)

pub returns-clause-voided : goal.returns-clause-voided
returns-clause-voided c =
    (c.usage_by.ensures c.args.entries.now (λ x found k. search rules)).voided

pub returns-clause-free : goal.returns-clause-free
returns-clause-free c =
    let range = c.args.range.now in
    (c.usage_by.ensures c.args.entries.now (λ x found k. search rules)).free
    ∙ ap (λ is. count_by (λ serial. is_free is (id_at range serial) c.args.day c.args.interval)
    (serials range)) (sym c.requires)

use Rattle.std.proofs.Common.{◌∙◌, rules, tests, sym}
use Rattle.std.proofs.lemmas.Iterator.{YieldsList-from_slice}
use Rattle.std.proofs.lemmas.Iterator.Search.{any_from_yields_List}
use Rattle.s10_history.specs.History.{has_key}
use Rattle.s10_rows.specs.declared.call_write.CallWrite.{CallWrite}
use Rattle.s10_ledger.proofs.CommittedLemmas.{any_call}
use Rattle.s10_ledger.proofs.pending.is_pending.Goals as goal

pub returns : goal.returns
returns c =
    any_from_yields_List (λ (w : CallWrite). has_key c.args.customer c.args.number w.entry) _ _
    c.any.result c.any.ensures.ran (YieldsList-from_slice c.args.pending.now cc)
    (λ x b q k. search (rules, tests))
    ∙ sym (any_call (has_key c.args.customer c.args.number) c.args.pending.now)

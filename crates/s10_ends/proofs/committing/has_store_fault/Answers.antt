use Rattle.std.proofs.Common.{rules, tests}
use Rattle.std.proofs.lemmas.Iterator.{YieldsList-from_slice}
use Rattle.std.proofs.lemmas.Iterator.Search.{any_from_yields_List}
use Rattle.s10_ends.specs.declared.exchange.Exchange.{Exchange}
use Rattle.s10_ends.specs.Batch.{is_store_fault}
use Rattle.s10_ends.proofs.committing.has_store_fault.Goals as goal

pub returns : goal.returns
returns c =
    any_from_yields_List (λ (t : Exchange). is_store_fault t.answer) _ _
    c.any.result c.any.ensures.ran (YieldsList-from_slice c.args.taken.now cc)
    (λ x b q k. search (rules, tests))

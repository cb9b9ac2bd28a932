use Rattle.std.proofs.Common.{◌∙◌, rules, tests}
use Rattle.std.proofs.lemmas.Iterator.{YieldsList-from_slice}
use Rattle.std.proofs.lemmas.Iterator.Search.{any_from_yields_List}
use Rattle.s10_rows.specs.declared.call_write.CallWrite.{CallWrite}
use Rattle.s10_statements.specs.LaterMarks.{is_mark_set}
use Rattle.s10_statements.proofs.LaterMarkLemmas.{set_by_calls}
use Rattle.s10_statements.proofs.later_marks.any_call_sets_mark.Goals as goal

pub returns : goal.returns
returns c =
    any_from_yields_List (λ (call : CallWrite). is_mark_set c.args.num call.ranges.items) _ _
    c.any.result c.any.ensures.ran (YieldsList-from_slice c.args.calls.now cc)
    (λ x b q k. search (rules, tests))
    ∙ set_by_calls c.args.num c.args.calls.now

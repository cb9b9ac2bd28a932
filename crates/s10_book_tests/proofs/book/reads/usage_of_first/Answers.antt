use Rattle.std.specs.Prelude.{◌==◌}
use Rattle.s10_history.specs.declared.range.Range.{Range}
use Rattle.s10_history.specs.History.{ranges_of}
use Rattle.s10_history.proofs.Numbering.{Contains-answered}
use Rattle.s10_book_tests.proofs.book.reads.usage_of_first.Goals as goal

pub usage-requires : goal.usage-requires
usage-requires c =
    rw c.range.ensures.same (Contains-answered (λ (r : Range). r.num == 1)
    (ranges_of c.args.book.now.entries.items) c.range.result c.in-Ok-Some.field-0
    c.in-Ok-Some.range c.range.ensures.answer c.in-Ok-Some.is c.in-Ok-Some.field-0-is)

use Rattle.std.proofs.Common.{◌∙◌, ap, Ok}
use Rattle.std.specs.Prelude.{max}
use Rattle.s10_history.proofs.Counting.{usage_is}
use Rattle.s10_book.proofs.plain_book.PlainBookBook.usage.Goals as goal

pub returns-clause-answer : goal.returns-clause-answer
returns-clause-answer c =
    ap Ok (usage_is c.args.self.now.entries.items c.deref.result.now c.deref-2.result.now
    c.args.range.now c.args.day c.max-day.result c.interval-interval.result
    c.args.self.now.settings.interval c.usage_in.result
    c.deref.ensures.value (c.deref-2.ensures.value ∙ c.args.self.now.issued) (c.max-day.ensures
    ∙ ap (λ d. max d c.args.day) (c.day.ensures tt)) c.interval-interval.ensures.value
    c.usage_in.ensures.used c.usage_in.ensures.voided c.usage_in.ensures.free)

use Rattle.std.proofs.Common.{◌∙◌, refl, ap, Ok}
use Rattle.std.specs.Prelude.{max}
use Rattle.s10_history.specs.Issues.{issues_of}
use Rattle.s10_history.proofs.Counting.{usage_is}
use Rattle.s10_index.proofs.indexed_book.IndexedBookBook.usage.Goals as goal

pub returns-clause-answer : goal.returns-clause-answer
returns-clause-answer c =
    let h = c.args.self.now.index.entries.items in
    ap Ok (usage_is h h (issues_of h) c.args.range.now c.args.day c.max-day.result
    c.args.self.now.settings.interval c.args.self.now.settings.interval c.usage_on.result
    refl refl (c.max-day.ensures ∙ ap (λ d. max d c.args.day) (c.day.ensures tt)) refl
    c.usage_on.ensures.used c.usage_on.ensures.voided c.usage_on.ensures.free)

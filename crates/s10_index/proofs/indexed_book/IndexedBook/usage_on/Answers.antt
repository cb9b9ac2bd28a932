use Rattle.std.proofs.Common.{rules, ℕ, subst}
use Rattle.s10_history.specs.Usage.{CountsSerials}
use Rattle.s10_index.proofs.indexed_book.IndexedBook.usage_on.Goals as goal

pub returns : goal.returns
returns c =
    let h = c.args.self.now.index.entries.items in
    let At : ℕ → Type 0 = λ n. CountsSerials h c.args.range.now c.args.day n c.usage_by.result in
    subst At c.interval-interval.ensures.value (c.usage_by.ensures h (λ x found k. search rules))

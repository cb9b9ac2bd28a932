use Rattle.std.proofs.Common.{◌≡◌, ◌∙◌, ◌++◌, ◌∷◌, [], length, ap, arith}
use Rattle.s10_history.specs.History.{ranges_of}
use Rattle.s10_history.proofs.Push.{length-ranges_from, granted-push, issued-push}
use Rattle.s10_book.proofs.Push.{IsLegal-push}
use Rattle.s10_book.proofs.plain_book.PlainBook.add.Goals as goal

pub range_made-made-requires : goal.range_made-made-requires
range_made-made-requires c =
    let count : c.len.result ≡ length (ranges_of c.args.self.now.entries.items) =
    omega (
      arith,
      c.len.ensures,
      c.reserve.new.self.ok.0,
      ap length (c.in_ok-reserve.ensures.items ∙ c.args.self.now.granted),
    ) in
    omega (
      arith,
      count,
      length-ranges_from 1 c.args.self.now.entries.items,
      c.requires.room,
      c.limit-limit.ensures.value,
      c.limit-limit.ensures.range,
    )

pub invariant_of-self-2 : goal.invariant_of-self-2
invariant_of-self-2 c =
    let h = c.args.self.now.entries.items in
    let grown : c.push_made-2.new.list.items ≡ h ++ c.args.entry ∷ [] = c.push_made-2.ensures.items
    ∙ ap (λ l. l ++ c.args.entry ∷ []) c.in_ok-reserve-3.ensures.items in
    let ranges_count : c.len.result ≡ length c.reserve.new.self.items =
    omega (arith, c.len.ensures, c.reserve.new.self.ok.0) in
    let calls_count : c.len-kept.result ≡ length h =
    omega (
      arith,
      c.len-kept.ensures,
      c.reserve-3.new.self.ok.0,
      ap length c.in_ok-reserve-3.ensures.items,
    ) in
    record {
      granted = granted-push h _ c.reserve.new.self.items _ c.range_made-made.result c.len.result
          c.args.entry (c.in_ok-reserve.ensures.items ∙ c.args.self.now.granted) grown ranges_count
          c.range_made-made.ensures c.push_made.ensures.items;
      issued = issued-push h _ c.reserve-2.new.self.items _ c.len-kept.result c.args.entry
          (c.in_ok-reserve-2.ensures.items ∙ c.args.self.now.issued) grown calls_count
          c.push_issues.ensures;
      legal = rw grown (IsLegal-push h c.args.self.now.settings c.args.entry c.args.self.now.legal
          c.requires);
    }

use Rattle.std.proofs.Common.{ap, Ok, arith}
use Rattle.s10_book.proofs.Marks.{all_at_pick}
use Rattle.s10_index.proofs.indexed_book.IndexedBookBook.candidate.Goals as goal

pub returns-clause-answer : goal.returns-clause-answer
returns-clause-answer c =
    let b = c.args.self.now in
    let turns = all_at_pick b.index.entries.items b.settings b.legal c.args.range.now c.requires in
    ap Ok (c.candidate_after.ensures b.index.entries.items b.settings b.legal b.indexed c.requires
    (omega (arith, turns.low, turns.high)))

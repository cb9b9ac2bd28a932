use Rattle.std.proofs.Common.{ap, Ok}
use Rattle.s10_index.proofs.indexed_book.IndexedBookBook.candidate_after.Goals as goal

pub returns-clause-answer : goal.returns-clause-answer
returns-clause-answer c =
    let b = c.args.self.now in
    ap Ok (c.candidate_after.ensures b.index.entries.items b.settings b.legal b.indexed
    c.requires.there c.requires.fewer)

use Rattle.s10_book.proofs.Fitting.{found_fits}
use Rattle.s10_index.proofs.indexed_book.IndexedBookBook.find.Goals as goal

pub returns-clause-fits : goal.returns-clause-fits
returns-clause-fits c = found_fits c.args.self.now.index.entries.items c.args.self.now.settings
    c.args.customer c.args.number c.find.result c.args.self.now.legal
    (c.find.ensures.answer c.args.self.now.index.entries.items c.args.self.now.indexed)

use Rattle.s10_book.proofs.Fitting.{found_fits}
use Rattle.s10_book.proofs.plain_book.PlainBookBook.find.Goals as goal

pub returns-clause-fits : goal.returns-clause-fits
returns-clause-fits c = found_fits c.args.self.now.entries.items c.args.self.now.settings
    c.args.customer c.args.number c.find_in.result c.args.self.now.legal
    (rw c.deref.ensures.value at c.find_in.ensures)

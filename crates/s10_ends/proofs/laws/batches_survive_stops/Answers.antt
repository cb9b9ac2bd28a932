use Rattle.s10_ends.proofs.Stops.{survived}
use Rattle.s10_ends.proofs.laws.batches_survive_stops.Goals as goal

pub returns : goal.returns
returns g c = survived g.B.Book.faults g.B.Book.honest g.B.Book.terms g.B.Book.history
    g.B.Book.committed g.B.Book.clean g.B.Book.may_find g.met.B.Book.legal
    g.met.B.Book.first g.met.B.Book.found

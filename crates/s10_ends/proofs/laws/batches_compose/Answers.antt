use Rattle.s10_ends.proofs.Carrying.{batches_carry}
use Rattle.s10_ends.proofs.Composing.{all_composed}
use Rattle.s10_ends.proofs.laws.batches_compose.Goals as goal

pub returns-clause-compose : goal.returns-clause-compose
returns-clause-compose g c = all_composed g.B.Book.faults g.B.Book.honest g.B.Book.terms g.B.Book.history
    g.B.Book.committed g.B.Book.clean g.B.Book.may_find g.met.B.Book.legal

pub returns-clause-carry : goal.returns-clause-carry
returns-clause-carry g c = batches_carry g.B.Book.faults g.B.Book.honest g.B.Book.terms
    g.B.Book.history g.B.Book.committed g.B.Book.clean g.B.Book.may_find

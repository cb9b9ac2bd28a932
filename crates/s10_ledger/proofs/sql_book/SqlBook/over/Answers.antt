use Rattle.std.proofs.Common.{true}
use Rattle.s10_ledger.proofs.PendingLemmas.{ledger_at_first, sound_at_first}
use Rattle.s10_ledger.proofs.sql_book.SqlBook.over.Goals as goal

pub invariant_of-result : goal.invariant_of-result
invariant_of-result g c =
    sound_at_first g.S.Store c.args.conn c.args.settings c.args.index c.new.result.items true
    c.new.ensures.items c.requires.few c.requires.settled c.requires.opened c.requires.ledger
    c.requires.indexed

pub returns : goal.returns
returns g c = ledger_at_first c.args.conn c.args.settings c.args.index c.new.result.items
    c.none.result c.new.ensures.items c.none.ensures.memory c.none.ensures.store

use Rattle.s10_history.specs.History.{is_open}
use Rattle.s10_history.proofs.Numbering.{found_above}
use Rattle.s10_book.proofs.plain_book.PlainBookBook.next_range.Goals as goal

pub returns-clause-above : goal.returns-clause-above
returns-clause-above c =
    found_above (is_open c.deref.result.now c.args.held.now.holder c.args.held.now.service
    c.args.held.now.country) c.args.after _ _ c.next_range_in.ensures

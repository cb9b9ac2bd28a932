use Rattle.std.proofs.Common.{◌∙◌}
use Rattle.std.proofs.lemmas.List.{length-map}
use Rattle.s10_history.specs.Issues.{issues_of, last_issues}
use Rattle.s10_replay.proofs.RowsAfterCall.{row_in}
use Rattle.std.proofs.Common.{sym}
use Rattle.s10_index.proofs.indexed_book.IndexedBook.serial_count.Goals as goal

pub returns : goal.returns
returns c =
    let h = c.args.self.now.index.entries.items in
    c.args.self.now.indexed.issues.held.count
    ∙ sym (length-map (last_issues (issues_of h)) (row_in h))

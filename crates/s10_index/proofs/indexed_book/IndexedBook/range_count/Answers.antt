use Rattle.std.proofs.Common.{◌∙◌, sym, ap, length}
use Rattle.std.proofs.lemmas.List.{length-map}
use Rattle.s10_history.specs.declared.range.Range.{Range}
use Rattle.s10_history.specs.History.{ranges_of}
use Rattle.s10_history.specs.Issues.{issues_of, pick_of}
use Rattle.s10_ranges.specs.declared.ranges.Ranges.{Ranges}
use Rattle.s10_rows.specs.Tables.{range_row}
use Rattle.s10_index.proofs.indexed_book.IndexedBook.range_count.Goals as goal

pub returns : goal.returns
returns c =
    let h = c.args.self.now.index.entries.items in
    ap length (c.all.ensures ∙ ap (λ (r : Ranges). r.ranges.items) c.ranges-2.ensures
    ∙ c.args.self.now.indexed.ranges.ranges)
    ∙ sym (length-map (ranges_of h) (λ (r : Range). range_row (pick_of (issues_of h) r) r))

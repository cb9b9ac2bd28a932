use Rattle.std.proofs.Common.{◌≡◌, ◌+◌, List, length, All}
use Rattle.s10_history.specs.declared.entry.Entry.{Entry}
use Rattle.s10_history.specs.Settings.{Terms}
use Rattle.s10_book.specs.Rules.{IsLegal, MayFollow}
use Rattle.s10_ranges.specs.Moves.{AreMoves}
use Rattle.s10_rows.specs.Selected.{IsCall}
use Rattle.s10_rows.specs.RowWrites.{IssueWritesMake}
use Rattle.s10_index.proofs.issue_writes.issue_writes_of.Given as goal

abbrev pub invariant-loop-place : goal.invariant-loop-place
invariant-loop-place l =
    (h : List Entry) (t : Terms) → IsLegal h t → MayFollow h t l.entry → All IsCall h
    → IsCall l.entry → AreMoves h l.entry l.moves → l.arrival ≡ length h + 1
    → IssueWritesMake h l.entry l.place l.made.ranges.items l.made.serials.items

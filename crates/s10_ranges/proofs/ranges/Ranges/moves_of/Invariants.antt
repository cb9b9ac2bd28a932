use Rattle.std.proofs.Common.{List}
use Rattle.s10_history.specs.declared.entry.Entry.{Entry}
use Rattle.s10_history.specs.Settings.{Terms}
use Rattle.s10_book.specs.Rules.{IsLegal, MayFollow}
use Rattle.s10_ranges.specs.Mirror.{Mirrors}
use Rattle.s10_ranges.proofs.Moving.{AreMovesTo}
use Rattle.s10_ranges.proofs.ranges.Ranges.moves_of.Given as goal

abbrev pub invariant-loop-place : goal.invariant-loop-place
invariant-loop-place l =
    (h : List Entry) (t : Terms) → IsLegal h t → MayFollow h t l.entry → Mirrors l.self h
    → AreMovesTo h l.entry l.place l.moves.items

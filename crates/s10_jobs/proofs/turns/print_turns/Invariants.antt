use Rattle.std.proofs.Common.{take}
use Rattle.std.specs.List.{flat_map}
use Rattle.std.specs.Io.KnownBytes.{Appends}
use Rattle.s10_jobs.specs.TurnLines.{turn_line}
use Rattle.s10_jobs.proofs.turns.print_turns.Given as goal

-- The lines of n turns were written.
abbrev pub invariant-loop-turn : goal.invariant-loop-turn
invariant-loop-turn g l = Appends (g.W.Write.contents l.fn.out) (g.W.Write.contents l.out)
    (flat_map (turn_line l.fn.senders) (take l.turn-index l.turns))

use Rattle.s10_replay.proofs.Usage.{UsedSoFar}
use Rattle.s10_replay.proofs.usage_reading.usage_among.Given as goal

abbrev pub invariant-loop-row : goal.invariant-loop-row
invariant-loop-row l = UsedSoFar l.rows l.day l.interval l.serials l.row-index l.usage

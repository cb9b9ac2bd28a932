use Rattle.std.proofs.Common.{take, map}
use Rattle.s10_core.specs.Id.{spelling_of}
use Rattle.s10_lines.specs.Lines.{spaced}
use Rattle.s10_lines.specs.LineText.{Grows}
use Rattle.s10_lines.proofs.lines.write_ids.Given as goal

abbrev pub invariant-loop-id : goal.invariant-loop-id
invariant-loop-id l = Grows l.fn.line l.line (spaced (map spelling_of (take l.id-index l.ids)))

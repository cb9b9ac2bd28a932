use Rattle.std.specs.Io.KnownBytes.{Keeps}
use Rattle.s10_jobs.proofs.line_reader.next_byte.Given as goal

-- No byte was read.
abbrev pub invariant-tries : goal.invariant-tries
invariant-tries g l = Keeps (g.R.Read.remaining l.fn.input) (g.R.Read.remaining l.input)

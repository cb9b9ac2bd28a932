use Rattle.std.proofs.Common.{◌≡◌, ◌≢◌, take, length}
use Rattle.std.specs.Prelude.{All}
use Rattle.std.specs.Io.KnownBytes.{Consumes}
use Rattle.s10_jobs.specs.declared.line_reader.TheConstants.{MAX_LINE}
use Rattle.s10_jobs.proofs.line_reader.read_line.Given as goal

-- The bytes before this index are in the buffer, and none of them is a line feed.
abbrev pub invariant-loop-at : goal.invariant-loop-at
invariant-loop-at g l = record {
  read : Consumes (g.R.Read.remaining l.fn.input) (g.R.Read.remaining l.input) (take l.at l.buffer);
  unbroken : All (λ b. b ≢ 10) (take l.at l.buffer);
  room : length l.buffer ≡ MAX_LINE;
}

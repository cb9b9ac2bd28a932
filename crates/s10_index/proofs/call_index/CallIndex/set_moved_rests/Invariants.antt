use Rattle.std.proofs.Common.{◌≡◌, List}
use Rattle.s10_history.specs.declared.entry.Entry.{Entry}
use Rattle.s10_index.specs.CallIndex.{Indexes}
use Rattle.s10_index.proofs.call_index.CallIndex.set_moved_rests.Given as goal

abbrev pub invariant-loop-place : goal.invariant-loop-place
invariant-loop-place l = record {
  calls : l.self.entries ≡ l.fn.self.entries;
  moves : l.self.moves ≡ l.fn.self.moves;
  same : (h : List Entry) → Indexes l.fn.self h → Indexes l.self h;
}

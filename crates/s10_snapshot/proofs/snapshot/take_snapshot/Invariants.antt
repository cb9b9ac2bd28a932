use Rattle.std.proofs.Common.{◌≡◌, length}
use Rattle.s10_snapshot.specs.Readings.{AreOfSeveralLogs, AreReadings, Readings}
use Rattle.s10_snapshot.proofs.snapshot.take_snapshot.Given as goal

-- Each reading so far was of several logs.
abbrev pub invariant-loop-made : goal.invariant-loop-made
invariant-loop-made g l = record {
  changed : (readings : Readings) × AreReadings (g.S.Source.calls l.source) readings
      × (length readings ≡ l._made) × AreOfSeveralLogs readings;
  at : g.S.Source.path l.source ≡ g.S.Source.path l.fn.source;
}

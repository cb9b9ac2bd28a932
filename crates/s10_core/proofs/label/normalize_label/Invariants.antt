use Rattle.std.proofs.Common.{◌≡◌, ◌≤◌, take, length}
use Rattle.s10_core.specs.Id.{normalized}
use Rattle.s10_core.proofs.label.normalize_label.Given as goal

-- What is written is the normalized front of the text.
abbrev pub invariant-loop-character : goal.invariant-loop-character
invariant-loop-character l = record {
  front : take l.count l.strict ≡ normalized (take l.character-index l.text);
  count : l.count ≤ 13;
  room : length l.strict ≡ 13;
}

use Rattle.std.proofs.Common.{◌≡◌, ◌+◌, ◌-◌, ◌*◌, ◌≤◌, ◌++◌, length, take, drop, All}
use Rattle.s10_core.specs.Id.{IsId}
use Rattle.s10_wire.specs.Ids.{spellings_of}
use Rattle.s10_wire.specs.WireFault.{first_refusal, identifier_fields}
use Rattle.s10_wire.proofs.reply_decoder.ids_at.Given as goal

abbrev pub invariant-loop-place : goal.invariant-loop-place
invariant-loop-place l = record {
  some : 1 ≤ l.place;
  upto : l.place ≤ l.count;
  long : length l.room ≡ 16;
  in_range : All IsId (take l.place l.room);
  read : drop 22 l.bytes ≡ spellings_of (take l.place l.room) ++ drop (22 + 13 * l.place) l.bytes;
  passed : first_refusal (identifier_fields 22 l.count l.bytes)
      ≡ first_refusal (identifier_fields (22 + 13 * l.place) (l.count - l.place) l.bytes);
}

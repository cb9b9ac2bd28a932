use Rattle.std.proofs.Common.{◌≡◌, ◌+◌, ◌*◌, ◌++◌, length, take, All}
use Rattle.s10_core.specs.Id.{IsId}
use Rattle.s10_wire.specs.Ids.{spellings_of}
use Rattle.s10_wire.proofs.encoders.put_ids.Given as goal

abbrev pub invariant-loop-id : goal.invariant-loop-id
invariant-loop-id l = record {
  bytes : l.frame ≡ l.fn.frame ++ spellings_of (take l.id-index l.ids);
  len : length l.frame ≡ length l.fn.frame + 13 * l.id-index;
  in_range : All IsId (take l.id-index l.ids);
}

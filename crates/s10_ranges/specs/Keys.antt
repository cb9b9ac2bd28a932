-- Defines the numbers by which ranges are sorted.
use Rattle.std.specs.Prelude.{ℕ, ◌+◌, ◌*◌}
use Rattle.s10_core.specs.Letters.{AreCapitals}
use Rattle.s10_core.specs.Pair.{pair_of}
use Rattle.s10_core.specs.Serial.{IsSerial}
use Rattle.s10_history.specs.declared.range.Range.{Range}
use Rattle.s10_ranges.specs.declared.sort_key.SortKey.{SortKey}
use Rattle.s10_ranges.specs.declared.sort_key.SortKey.TheVariants.{First, Last, Holder}

-- The pair in the upper 32 bits, and the serial in the lower 32 bits.
unfoldable pub serial_key : ℕ × ℕ → ℕ × ℕ → ℕ → ℕ
serial_key service country serial = pair_of service country * 4294967296 + serial

-- The holder, the pair and the range number as digits in base 2^32, in this order.
unfoldable pub holder_key : ℕ → ℕ × ℕ → ℕ × ℕ → ℕ → ℕ
holder_key holder service country num =
    (holder * 4294967296 + pair_of service country) * 4294967296 + num

-- The number by which a range is sorted.
abbrev pub key_by : SortKey → Range → ℕ
key_by First r = serial_key r.service r.country r.first
key_by Last r = serial_key r.service r.country r.last
key_by Holder r = holder_key r.holder r.service r.country r.num

-- A range is fitting if its service and country are capital letters and both serials are in their
-- bounds.
pub record IsFitting (r : Range) : Type 0 where
  pub service : AreCapitals r.service
  pub country : AreCapitals r.country
  pub first : IsSerial r.first
  pub last : IsSerial r.last

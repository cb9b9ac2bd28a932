-- Defines when memory is reserved for one more range.
use Rattle.std.specs.Prelude.{◌<◌, vec_len, vec_capacity}
use Rattle.std.specs.HashSet.{spare}
use Rattle.s10_ranges.specs.BlockList.{HasRoomForIndex}
use Rattle.s10_ranges.specs.declared.ranges.Ranges.{Ranges}

-- Each of the four lists, and the set of closed ranges, has memory for one more element.
pub record HasRoom (r : Ranges) : Type 0 where
  pub ranges : vec_len r.ranges < vec_capacity r.ranges
  pub marks : vec_len r.marks < vec_capacity r.marks
  pub by_serial : HasRoomForIndex r.by_serial
  pub by_holder : HasRoomForIndex r.by_holder
  pub closed : 0 < spare r.closed.numbers

-- Defines what an index of calls holds.
use Rattle.std.specs.Prelude.{◌≡◌, ◌<◌, List, length}
use Rattle.std.specs.HashSet.{hasher_of}
use Rattle.s10_history.specs.declared.entry.Entry.{Entry}
use Rattle.s10_history.specs.Issues.{carried_by, issues_of}
use Rattle.s10_ranges.specs.declared.hash_seed.HashSeed.{HashSeed}
use Rattle.s10_ranges.specs.Mirror.{Mirrors}
use Rattle.s10_ranges.specs.Rests.{AreRests, HasRoomForRest}
use Rattle.s10_ranges.specs.Room.{HasRoom}
use Rattle.s10_index.specs.declared.call_index.CallIndex.{CallIndex}
use Rattle.s10_index.specs.Positions.{HasPositions}
use Rattle.s10_index.specs.IssueLog.{HasIssues, HaveIds, HasRoomForIssues}

-- An index holds a history if it has its calls, found by the hashes of their keys, its ranges with
-- their marks and rests, and its issuances. The identifiers that were issued are valid.
pub record Indexes (index : CallIndex) (h : List Entry) : Type 0 where
  pub calls : index.entries.items ≡ h
  pub ranges : Mirrors index.ranges h
  pub rests : AreRests h index.rests.list.items
  pub positions : HasPositions index.seed index.positions h
  pub issues : HasIssues index.seed index.issues h
  pub ids : HaveIds (issues_of h)

-- Memory is reserved for the call and for all that it records.
pub record HasRoomFor (index : CallIndex) (e : Entry) : Type 0 where
  pub calls : 0 < index.entries.room
  pub ranges : HasRoom index.ranges
  pub rests : HasRoomForRest index.rests
  pub positions : 0 < index.positions.room
  pub issues : HasRoomForIssues index.issues (length (carried_by e.outcome))

-- The chains of the index and its set of closed ranges hash with this seed.
pub record HashesWith (index : CallIndex) (seed : HashSeed) : Type 0 where
  pub chains : index.seed ≡ seed
  pub closed : hasher_of index.ranges.closed.numbers ≡ seed

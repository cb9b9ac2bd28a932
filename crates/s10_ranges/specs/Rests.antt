-- Defines what is known of ranges that give nothing for a while.
use Rattle.std.specs.Prelude.{◌≡◌, ℕ, ◌-◌, ◌==◌, ◌<◌, nat_lt, nat_le, Bool, true, false, not, ◌&&◌}
use Rattle.std.specs.Prelude.{List, length, Option, Some, None, slice_get, slice_index, slice_index_or}
use Rattle.std.specs.Prelude.{vec_len, vec_capacity, if◌then◌else◌}
use Rattle.s10_history.specs.declared.entry.Entry.{Entry}
use Rattle.s10_history.specs.declared.range.Range.{Range}
use Rattle.s10_history.specs.declared.issue.Issue.{Issue}
use Rattle.s10_history.specs.declared.issuance.Issuance.{Issuance}
use Rattle.s10_history.specs.History.{ranges_of, is_closed, is_held}
use Rattle.s10_history.specs.Issues.{issues_of, last_issuance_of, last_issue_of, pick_of, id_at}
use Rattle.s10_ranges.specs.declared.mark.Mark.{Mark}
use Rattle.s10_ranges.specs.declared.rest.Rest.{Rest}
use Rattle.s10_ranges.specs.declared.rest.Rest.TheVariants.{Unknown, Issued, Closed}
use Rattle.s10_ranges.specs.declared.rests.Rests.{Rests}

-- Whether a range with this rest gives nothing on the day, by the serial that it gives next.
abbrev pub is_resting : Rest → ℕ → ℕ → ℕ → Bool
is_resting Unknown pick day interval = false
is_resting (Issued serial last) pick day interval = (serial == pick) && nat_lt (day - last) interval
is_resting Closed pick day interval = true

-- Whether the last issuance was on that day, or later.
abbrev pub is_issued_since : Option Issuance → ℕ → Bool
is_issued_since None day = false
is_issued_since (Some i) day = nat_le day i.day

-- Whether what the rest of a range says is so in the history.
abbrev pub is_rest_of : List Entry → Range → Rest → Bool
is_rest_of h r Unknown = true
is_rest_of h r (Issued serial day) =
    is_issued_since (last_issuance_of (issues_of h) (id_at r serial)) day
is_rest_of h r Closed = is_closed h r.num

-- A rest is one of a range of the history if what it says is so.
abbrev pub IsRestOf : List Entry → Range → Rest → Type 0
IsRestOf h r rest = is_rest_of h r rest ≡ true

-- The rests are those of the history's ranges, in order of their numbers.
pub record AreRests (h : List Entry) (rests : List Rest) : Type 0 where
  pub count : length rests ≡ length (ranges_of h)
  pub each : (k : ℕ) (d : Range) → k < length (ranges_of h)
      → IsRestOf h (slice_index_or (ranges_of h) k d) (slice_index_or rests k Unknown)

-- Memory is reserved for one more rest.
abbrev pub HasRoomForRest : Rests → Type 0
HasRoomForRest rests = vec_len rests.list < vec_capacity rests.list

-- The rest of a range whose pick has that last issue.
abbrev pub rest_by_issue : ℕ → Option Issue → Rest
rest_by_issue pick None = Unknown
rest_by_issue pick (Some i) = Issued pick i.day

-- The rest of a range: closed, or the last issue of its pick.
abbrev pub rest_of : List Entry → Range → Rest
rest_of h r = let pick = pick_of (issues_of h) r in
    if is_closed h r.num then Closed else rest_by_issue pick (last_issue_of h (id_at r pick))

-- Whether a range with this mark and this rest gives nothing on the day.
abbrev pub is_resting_at : Option Mark → Rest → ℕ → ℕ → Bool
is_resting_at None rest day interval = false
is_resting_at (Some mark) rest day interval = is_resting rest mark.serial day interval

-- Whether the range gives nothing on the day, by the marks and rests of all ranges.
abbrev pub rests_on : List Mark → List Rest → ℕ → ℕ → Range → Bool
rests_on marks rests day interval r =
    is_resting_at (slice_get marks (r.num - 1)) (slice_index_or rests (r.num - 1) Unknown) day
    interval

-- Whether the customer holds the range, it has this service and country, and it may give something
-- on the day.
abbrev pub is_awake : List Mark → List Rest → ℕ → ℕ × ℕ → ℕ × ℕ → ℕ → ℕ → Range → Bool
is_awake marks rests customer service country day interval r =
    is_held customer service country r && not (rests_on marks rests day interval r)

-- Whether the range is awake so, and its number is above `after`.
abbrev pub is_awake_after : List Mark → List Rest → ℕ → ℕ → ℕ × ℕ → ℕ × ℕ → ℕ → ℕ → Range → Bool
is_awake_after marks rests after customer service country day interval r =
    nat_lt after r.num && is_awake marks rests customer service country day interval r

-- Whether the range at position k of the indices gives nothing on the day.
abbrev pub rests_along : List Mark → List Rest → List ℕ → ℕ → ℕ → ℕ → Bool
rests_along marks rests places day interval k =
    is_resting_at (slice_get marks (slice_index places k))
    (slice_index_or rests (slice_index places k) Unknown) day interval

-- The first of the indices whose range may give something on the day: none if all of them rest.
abbrev pub IsFirstAwake : List Mark → List Rest → List ℕ → ℕ → ℕ → Option ℕ → Type 0
IsFirstAwake marks rests places day interval None = (k : ℕ) → k < length places
    → rests_along marks rests places day interval k ≡ true
IsFirstAwake marks rests places day interval (Some place) =
    (k : ℕ) × (k < length places) × (slice_index places k ≡ place)
    × (rests_along marks rests places day interval k ≡ false)
    × ((j : ℕ) → j < k → rests_along marks rests places day interval j ≡ true)

-- Which ranges and which issuances a report has.
use Rattle.std.specs.Prelude.{ℕ, ◌==◌, nat_le, Bool, true, false, ◌&&◌, Option, Some, None, find}
use Rattle.std.specs.Prelude.{List}
use Rattle.s10_core.specs.declared.id.Id.{Id}
use Rattle.s10_core.specs.Id.{same_id}
use Rattle.s10_history.specs.declared.entry.Entry.{Entry}
use Rattle.s10_history.specs.declared.range.Range.{Range}
use Rattle.s10_history.specs.declared.issuance.Issuance.{Issuance}
use Rattle.s10_history.specs.History.{lies_in, ranges_of}
use Rattle.s10_reports.specs.declared.range_filter.RangeFilter.{RangeFilter}
use Rattle.s10_reports.specs.declared.issue_filter.IssueFilter.{IssueFilter}

-- Whether a number is the one asked for. Each is, if none is asked for.
abbrev pub agrees : Option ℕ → ℕ → Bool
agrees None found = true
agrees (Some asked) found = asked == found

-- Whether the identifier asked for lies in the range.
abbrev pub holds_asked : Option Id → Range → Bool
holds_asked None r = true
holds_asked (Some x) r = lies_in r x

-- Whether the range agrees with all that is given.
abbrev pub admits_range : RangeFilter → Range → Bool
admits_range f r = agrees f.customer r.holder && agrees f.range r.num && holds_asked f.id r

-- Whether a day is the first one asked for, or after it.
abbrev pub is_from : Option ℕ → ℕ → Bool
is_from None day = true
is_from (Some first) day = nat_le first day

-- Whether a day is the last one asked for, or before it.
abbrev pub is_until : Option ℕ → ℕ → Bool
is_until None day = true
is_until (Some last) day = nat_le day last

-- Whether an identifier is the one asked for.
abbrev pub is_asked : Option Id → Id → Bool
is_asked None x = true
is_asked (Some asked) x = same_id x asked

-- Whether a range has the number asked for.
abbrev pub is_in : Option ℕ → Option Range → Bool
is_in None r = true
is_in (Some asked) None = false
is_in (Some asked) (Some r) = asked == r.num

-- Whether an issuance agrees with all that is given. Its identifier lies in this range.
abbrev pub admits_issue : IssueFilter → Option Range → Issuance → Bool
admits_issue f range i = agrees f.customer i.customer && is_from f.from_day i.day
    && is_until f.to_day i.day && is_asked f.id i.id && is_in f.range range

-- The range in which an identifier lies.
abbrev pub range_with : List Entry → Id → Option Range
range_with h x = find (λ r. lies_in r x) (ranges_of h)

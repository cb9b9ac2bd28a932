-- The promises on every legal history: spaced, own and apart.
use Rattle.std.specs.Prelude.{◌≡◌, ℕ, ◌+◌, ◌-◌, ◌≤◌, List, take, All, AllPairs, IsTrue}
use Rattle.std.specs.List.{list_any}
use Rattle.s10_core.specs.declared.id.Id.{Id}
use Rattle.s10_wire.specs.declared.request.Request.{Request}
use Rattle.s10_history.specs.declared.entry.Entry.{Entry}
use Rattle.s10_history.specs.declared.range.Range.{Range}
use Rattle.s10_history.specs.History.{ranges_of, lies_in, is_own}
use Rattle.s10_history.specs.Issues.{issues_of}

-- A history is spaced if, of any two issuances of one identifier, the later day is at least the
-- interval after the earlier.
abbrev pub IsSpaced : List Entry → ℕ → Type 0
IsSpaced h interval = AllPairs (λ i j. i.id ≡ j.id → i.day + interval ≤ j.day) (issues_of h)

-- A history is own if each issuance lies in a range that its customer holds by an earlier call.
abbrev pub IsOwn : List Entry → Type 0
IsOwn h = All (λ i. IsTrue (list_any (is_own i.customer i.id) (ranges_of (take (i.arrival - 1) h))))
    (issues_of h)

-- A history is apart if no identifier lies in two ranges.
abbrev pub IsApart : List Entry → Type 0
IsApart h = AllPairs (λ r s. (x : Id) → IsTrue (lies_in r x) → ¬ (IsTrue (lies_in s x)))
    (ranges_of h)

-- The request of a call with its day.
abbrev pub request_on_day : Entry → Request × ℕ
request_on_day e = (e.request, e.day)

-- The call with number 0 instead of its own.
abbrev pub without_number : Entry → Entry
without_number e = record {
  request = record {
    customer = e.request.customer;
    number = 0;
    body = e.request.body;
  };
  day = e.day;
  outcome = e.outcome;
}

-- An identifier is common to a range and to `first` to `last` of a service and country if it lies
-- in both.
pub record IsInCommon (r : Range) (service country : ℕ × ℕ) (first last : ℕ) (x : Id) : Type 0 where
  pub in_range : IsTrue (lies_in r x)
  pub same_service : x.service ≡ service
  pub same_country : x.country ≡ country
  pub from : first ≤ x.serial
  pub to : x.serial ≤ last

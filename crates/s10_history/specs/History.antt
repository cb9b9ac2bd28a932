-- The history of a ledger: its kept calls in order of arrival, and the ranges that they grant.
use Rattle.std.specs.Prelude.{ℕ, zero, suc, ◌+◌, ◌==◌, nat_le, nat_lt, Bool, false, not, ◌&&◌, List}
use Rattle.std.specs.Prelude.{[], ◌∷◌, Option, Some, None, find, fold, filter, slice_get}
use Rattle.std.specs.List.{list_any}
use Rattle.s10_core.specs.declared.id.Id.{Id}
use Rattle.s10_core.specs.Letters.{same_letters}
use Rattle.s10_wire.specs.declared.body.Body.{Body}
use Rattle.s10_wire.specs.declared.body.Body.TheVariants.{Grant, Withdraw}
use Rattle.s10_wire.specs.declared.outcome.Outcome.{Outcome}
use Rattle.s10_wire.specs.declared.outcome.Outcome.TheVariants.{Granted, Withdrawn}
use Rattle.s10_history.specs.declared.entry.Entry.{Entry}
use Rattle.s10_history.specs.declared.range.Range.{Range}

-- Whether the entry is the call with this key.
abbrev pub has_key : ℕ → ℕ → Entry → Bool
has_key customer number e = (e.request.customer == customer) && (e.request.number == number)

-- The kept call with this key.
abbrev pub find_entry : List Entry → ℕ → ℕ → Option Entry
find_entry h customer number = find (has_key customer number) h

-- The kept call with this number, from 1.
abbrev pub entry_at : List Entry → ℕ → Option Entry
entry_at h zero = None
entry_at h (suc k) = slice_get h k

-- The day of the last kept call; 0 if there is none.
abbrev pub day_of : List Entry → ℕ
day_of h = fold (λ d e. e.day) 0 h

-- The range with number `num` that a Done Grant creates.
abbrev pub range_of_grant : ℕ → Body → Outcome → Option Range
range_of_grant num (Grant holder service country first last) (Granted n) =
    Some (record {
      num = num;
      holder = holder;
      service = service;
      country = country;
      first = first;
      last = last;
    })
range_of_grant num body outcome = None

-- The range that a call created, before those of the later calls; without one, the later ones keep
-- their numbers.
abbrev pub then_ranges : Option Range → List Range → List Range → List Range
then_ranges None unmoved next = unmoved
then_ranges (Some r) unmoved next = r ∷ next

-- The ranges that the Done Grants create, in order, numbered from `num`.
abbrev pub ranges_from : ℕ → List Entry → List Range
ranges_from num [] = []
ranges_from num (e ∷ es) = then_ranges (range_of_grant num e.request.body e.outcome)
    (ranges_from num es) (ranges_from (num + 1) es)

-- The ranges of a history, numbered from 1.
abbrev pub ranges_of : List Entry → List Range
ranges_of h = ranges_from 1 h

-- Whether an identifier lies in a range.
abbrev pub lies_in : Range → Id → Bool
lies_in r x =
    same_letters r.service x.service && same_letters r.country x.country
    && nat_le r.first x.serial && nat_le x.serial r.last

-- Whether the customer holds the range, and it has this service and country.
abbrev pub is_held : ℕ → ℕ × ℕ → ℕ × ℕ → Range → Bool
is_held customer service country r =
    (r.holder == customer) && same_letters r.service service && same_letters r.country country

-- Whether the range is held so, and its number is above `after`.
abbrev pub is_held_after : ℕ → ℕ → ℕ × ℕ → ℕ × ℕ → Range → Bool
is_held_after after customer service country r = nat_lt after r.num && is_held customer service
    country r

-- Whether a call with this body and this outcome is a Done Withdraw of the range with this number.
abbrev pub withdraws : ℕ → Body → Outcome → Bool
withdraws num (Withdraw range) Withdrawn = range == num
withdraws num body outcome = false

-- Whether the range with this number is closed: the history has a Done Withdraw of it.
abbrev pub is_closed : List Entry → ℕ → Bool
is_closed h num = list_any (λ e. withdraws num e.request.body e.outcome) h

-- Whether the range is held so, and not closed.
abbrev pub is_open : List Entry → ℕ → ℕ × ℕ → ℕ × ℕ → Range → Bool
is_open h customer service country r = is_held customer service country r && not (is_closed h r.num)

-- Whether the range is open so, and its number is above `after`.
abbrev pub is_open_after : List Entry → ℕ → ℕ → ℕ × ℕ → ℕ × ℕ → Range → Bool
is_open_after h after customer service country r = nat_lt after r.num && is_open h customer service
    country r

-- Whether the range has a serial in common with `first` to `last` of this service and country:
-- neither ends before the other begins, and `first` to `last` is not empty. A range of a Grant is
-- never empty.
abbrev pub overlaps : ℕ × ℕ → ℕ × ℕ → ℕ → ℕ → Range → Bool
overlaps service country first last r =
    same_letters r.service service && same_letters r.country country
    && nat_le r.first last && nat_le first r.last && nat_le first last

-- Whether the customer holds the range, and the identifier lies in it.
abbrev pub is_own : ℕ → Id → Range → Bool
is_own customer x r = (r.holder == customer) && lies_in r x

-- The customer's open ranges of this service and country, in order of their numbers.
abbrev pub ranges_open : List Entry → ℕ → ℕ × ℕ → ℕ × ℕ → List Range
ranges_open h customer service country = filter (is_open h customer service country) (ranges_of h)

-- The issuances of identifiers: the last one of each, whether it is voided, and the serial that a
-- range gives next.
use Rattle.std.specs.Prelude.{ℕ, zero, suc, ◌+◌, ◌-◌, ◌==◌, nat_le, nat_lt, Bool, true, false, not}
use Rattle.std.specs.Prelude.{◌&&◌, if◌then◌else◌, List, [], ◌∷◌, ◌++◌, map, drop, Option, Some}
use Rattle.std.specs.Prelude.{None, find, filter}
use Rattle.std.specs.List.{list_any, last_or, range_with_len}
use Rattle.std.specs.Option.{option_map, option_or, unwrap_or}
use Rattle.s10_core.specs.declared.id.Id.{Id}
use Rattle.s10_core.specs.Id.{same_id}
use Rattle.s10_wire.specs.declared.body.Body.{Body}
use Rattle.s10_wire.specs.declared.body.Body.TheVariants.{Void}
use Rattle.s10_wire.specs.declared.outcome.Outcome.{Outcome}
use Rattle.s10_wire.specs.declared.outcome.Outcome.TheVariants.{Drawn, DrawnMany, Voided}
use Rattle.s10_history.specs.declared.entry.Entry.{Entry}
use Rattle.s10_history.specs.declared.range.Range.{Range}
use Rattle.s10_history.specs.declared.issue.Issue.{Issue}
use Rattle.s10_history.specs.declared.issuance.Issuance.{Issuance}
use Rattle.s10_history.specs.declared.candidate.Candidate.{Candidate}
use Rattle.s10_history.specs.History.{lies_in}

-- The identifiers that an outcome issues, each with the day.
abbrev pub carried_by : Outcome → List (ℕ × Id)
carried_by (Drawn day id) = (day, id) ∷ []
carried_by (DrawnMany day ids) = map (λ id. (day, id)) ids
carried_by outcome = []

-- The issuances of one call, which is call number `arrival`.
abbrev pub issues_at : ℕ → Entry → List Issuance
issues_at arrival e = map (λ c. record {
  id = c.1;
  day = c.0;
  customer = e.request.customer;
  number = e.request.number;
  arrival = arrival;
}) (carried_by e.outcome)

-- The issuances of the calls, in order, if the first of them is call number `arrival`.
abbrev pub issues_from : ℕ → List Entry → List Issuance
issues_from arrival [] = []
issues_from arrival (e ∷ es) = issues_at arrival e ++ issues_from (arrival + 1) es

-- The issuances of a history, in order.
abbrev pub issues_of : List Entry → List Issuance
issues_of h = issues_from 1 h

-- Whether this is an issuance of the identifier.
abbrev pub is_of : Id → Issuance → Bool
is_of x i = same_id i.id x

-- The last issuance of an identifier.
abbrev pub last_issuance_of : List Issuance → Id → Option Issuance
last_issuance_of is x = last_or None (filter (is_of x) is)

-- Whether a request with this body and this outcome is a Done Void of the identifier.
abbrev pub voids_by : Id → Body → Outcome → Bool
voids_by x (Void id) Voided = same_id id x
voids_by x body outcome = false

-- Whether the call is a Done Void of the identifier.
abbrev pub voids : Id → Entry → Bool
voids x e = voids_by x e.request.body e.outcome

-- Whether a Done Void of the identifier follows call number `arrival`.
abbrev pub voided_after : ℕ → List Entry → Id → Bool
voided_after arrival h x = list_any (voids x) (drop arrival h)

-- Whether the identifier is voided: a Done Void of it follows its last issuance.
abbrev pub is_voided : List Entry → Id → Bool
is_voided h x =
    unwrap_or (option_map (λ i. voided_after i.arrival h x) (last_issuance_of (issues_of h) x))
    false

-- The last issue of an identifier: its last issuance, and whether it was voided after that.
abbrev pub last_issue_of : List Entry → Id → Option Issue
last_issue_of h x =
    option_map (λ i. record {
      day = i.day;
      voided = is_voided h x;
      customer = i.customer;
      number = i.number;
    })
    (last_issuance_of (issues_of h) x)

-- The identifier of the range with this serial.
abbrev pub id_at : Range → ℕ → Id
id_at r serial = record { service = r.service; serial = serial; country = r.country }

-- Whether an identifier was ever issued.
abbrev pub is_issued : List Issuance → Id → Bool
is_issued is x = list_any (is_of x) is

-- The serials of a range.
abbrev pub serials : Range → List ℕ
serials r = range_with_len r.first (r.last + 1 - r.first)

-- The least serial of the range that was never issued.
abbrev pub least_serial_unissued : Range → List Issuance → Option ℕ
least_serial_unissued r is = find (λ serial. not (is_issued is (id_at r serial))) (serials r)

-- The issuances in order, without those that a later issuance of the same identifier follows.
abbrev pub last_issues : List Issuance → List Issuance
last_issues [] = []
last_issues (i ∷ is) = if is_issued is i.id then last_issues is else i ∷ last_issues is

-- The serial of the range whose last issuance is the earliest.
abbrev pub serial_issued_earliest : Range → List Issuance → Option ℕ
serial_issued_earliest r is =
    option_map (λ i. i.id.serial) (find (λ i. lies_in r i.id) (last_issues is))

-- The pick, which is the serial that the range gives next: the least that was never issued,
-- otherwise the one whose last issuance is the earliest. A range without serials would give its
-- first; no Grant creates one.
abbrev pub pick_of : List Issuance → Range → ℕ
pick_of is r = unwrap_or (option_or (least_serial_unissued r is) (serial_issued_earliest r is))
    r.first

-- The next serial of the range, wrapping from last to first.
abbrev pub serial_after : Range → ℕ → ℕ
serial_after r serial = if serial == r.last then r.first else serial + 1

-- The pick of a range once this identifier is issued: the serial after its own if it lies in the
-- range.
abbrev pub pick_after : Range → ℕ → Id → ℕ
pick_after r pick x = if lies_in r x then serial_after r x.serial else pick

-- Whether an identifier that was last issued on the day `last`, or never, may be issued on `day`.
abbrev pub is_free_since : ℕ → ℕ → Option ℕ → Bool
is_free_since day interval None = true
is_free_since day interval (Some last) = nat_le interval (day - last)

-- Whether an identifier may be issued on the day; no Void changes it.
abbrev pub is_free : List Issuance → Id → ℕ → ℕ → Bool
is_free is x day interval =
    is_free_since day interval (option_map (λ i. i.day) (last_issuance_of is x))

-- An issuance of the identifier; its day, customer, number and arrival do not affect any pick.
abbrev pub issue_of : Id → Issuance
issue_of x = record { id = x; day = 0; customer = 0; number = 0; arrival = 0 }

-- The issuances, followed by those of the range's next `count` picks.
abbrev pub with_picks : Range → List Issuance → ℕ → List Issuance
with_picks r is zero = is
with_picks r is (suc count) = with_picks r (is ++ issue_of (id_at r (pick_of is r)) ∷ []) count

-- The candidate of the range after `issued` further picks: the pick then, with its last issue in
-- the history.
abbrev pub candidate_after_of : List Entry → Range → ℕ → Candidate
candidate_after_of h r issued =
    let serial = pick_of (with_picks r (issues_of h) issued) r in
    record { serial = serial; issue = last_issue_of h (id_at r serial) }

-- The serial after `count` steps, wrapping from last to first.
abbrev pub serial_after_steps : Range → ℕ → ℕ → ℕ
serial_after_steps r serial zero = serial
serial_after_steps r serial (suc count) = serial_after r (serial_after_steps r serial count)

-- The number of serials in the range.
abbrev pub size_of : Range → ℕ
size_of r = r.last + 1 - r.first

-- The identifier that the range gives after `issued` further picks; none if those are all of its
-- serials, or if that identifier is not free on the day.
abbrev pub free_pick_of : List Entry → Range → ℕ → ℕ → ℕ → Option Id
free_pick_of h r issued day interval =
    let c = candidate_after_of h r issued in
    if nat_lt issued (size_of r) && is_free_since day interval (option_map (λ i. i.day) c.issue)
    then Some (id_at r c.serial) else None

-- The candidate of the range: its pick, with the last issue of that serial.
abbrev pub candidate_of : List Entry → Range → Candidate
candidate_of h r = record {
  serial = pick_of (issues_of h) r;
  issue = last_issue_of h (id_at r (pick_of (issues_of h) r));
}

-- The rules: the outcome of each request, and the histories that follow them.
use Rattle.std.specs.Prelude.{◌≡◌, ℕ, zero, suc, ◌+◌, ◌==◌, nat_lt, ◌<◌, ◌≤◌, Bool, not, ◌||◌, ◌&&◌}
use Rattle.std.specs.Prelude.{if◌then◌else◌, List, [], ◌∷◌, ◌++◌, length, Option, Some, None}
use Rattle.std.specs.Prelude.{is_none, find, slice_get, take, All, IsTrue, count_by}
use Rattle.std.specs.List.{list_any}
use Rattle.std.specs.Option.{option_map}
use Rattle.s10_core.specs.declared.id.Id.{Id}
use Rattle.s10_wire.specs.declared.body.Body.{Body}
use Rattle.s10_wire.specs.declared.body.Body.TheVariants.{Grant, Draw, Void, Query, DrawMany}
use Rattle.s10_wire.specs.declared.body.Body.TheVariants.{Withdraw}
use Rattle.s10_wire.specs.declared.request.Request.{Request}
use Rattle.s10_wire.specs.declared.status.Status.{Status}
use Rattle.s10_wire.specs.declared.status.Status.TheVariants.{Unknown, Never, Issued}
use Rattle.s10_wire.specs.declared.status.Status.TheVariants.{Voided as StatusVoided}
use Rattle.s10_wire.specs.declared.outcome.Outcome.{Outcome}
use Rattle.s10_wire.specs.declared.outcome.Outcome.TheVariants.{Granted, Drawn, DrawnMany, Voided}
use Rattle.s10_wire.specs.declared.outcome.Outcome.TheVariants.{Told, Withdrawn, NotThePost}
use Rattle.s10_wire.specs.declared.outcome.Outcome.TheVariants.{BadGrant, Overlap, NoRange}
use Rattle.s10_wire.specs.declared.outcome.Outcome.TheVariants.{NoneFree, NotYours, NotIssued}
use Rattle.s10_wire.specs.declared.outcome.Outcome.TheVariants.{AlreadyVoid, NoSuchRange, Closed}
use Rattle.s10_history.specs.declared.entry.Entry.{Entry}
use Rattle.s10_history.specs.declared.range.Range.{Range}
use Rattle.s10_history.specs.declared.issue.Issue.{Issue}
use Rattle.s10_history.specs.declared.issuance.Issuance.{Issuance}
use Rattle.s10_history.specs.Settings.{Terms}
use Rattle.s10_history.specs.History.{find_entry, day_of, ranges_of, lies_in, is_own}
use Rattle.s10_history.specs.History.{overlaps, is_closed, is_open, ranges_open}
use Rattle.s10_history.specs.Issues.{issues_of, last_issue_of, pick_of, id_at, serials, is_free}

-- The outcome of a Grant: only the post creates ranges, and no two of them have a serial in common.
abbrev pub grant_answer : List Entry → ℕ → ℕ → ℕ × ℕ → ℕ × ℕ → ℕ → ℕ → Outcome
grant_answer h customer holder service country first last =
    if not (customer == 0) then NotThePost
    else if (holder == 0) || nat_lt last first then BadGrant
    else if list_any (overlaps service country first last) (ranges_of h) then Overlap
    else Granted (length (ranges_of h) + 1)

-- Whether the pick of the range is free on the day.
abbrev pub has_free_pick : List Issuance → ℕ → ℕ → Range → Bool
has_free_pick is day interval r = is_free is (id_at r (pick_of is r)) day interval

-- Whether the range is open so, and its pick is free on the day.
abbrev pub is_free_range : List Entry → ℕ → ℕ × ℕ → ℕ × ℕ → ℕ → ℕ → Range → Bool
is_free_range h customer service country day interval r =
    is_open h customer service country r && has_free_pick (issues_of h) day interval r

-- Whether the range is open and free so, and its number is above `after`.
abbrev pub is_free_after : List Entry → ℕ → ℕ → ℕ × ℕ → ℕ × ℕ → ℕ → ℕ → Range → Bool
is_free_after h after customer service country day interval r =
    nat_lt after r.num && is_free_range h customer service country day interval r

-- The pick of the range that was found, or the refusal if none of the ranges was.
abbrev pub outcome_of_pick : List Issuance → ℕ → List Range → Option Range → Outcome
outcome_of_pick is day rs (Some r) = Drawn day (id_at r (pick_of is r))
outcome_of_pick is day [] None = NoRange
outcome_of_pick is day (r ∷ rs) None = NoneFree

-- The outcome of a Draw: the pick of the first of the customer's open ranges whose pick is free.
abbrev pub draw_answer : List Entry → ℕ → ℕ × ℕ → ℕ × ℕ → ℕ → ℕ → Outcome
draw_answer h customer service country day interval =
    let rs = ranges_open h customer service country in
    outcome_of_pick (issues_of h) day rs (find (has_free_pick (issues_of h) day interval) rs)

-- The call of a Draw that issued the identifier on the day. Its number is 0: no rule depends on it.
abbrev pub draw_done : ℕ → ℕ × ℕ → ℕ × ℕ → ℕ → Id → Entry
draw_done customer service country day x =
    record {
      request = record { customer = customer; number = 0; body = Draw service country };
      day = day;
      outcome = Drawn day x;
    }

-- The identifier of a Draw that was done, followed by those of the Draws after it; none if it was
-- not done.
abbrev pub then_drawn : Outcome → (Id → Option (List Id)) → Option (List Id)
then_drawn (Drawn day x) next = option_map (λ xs. x ∷ xs) (next x)
then_drawn outcome next = None

-- The identifiers of `count` single Draws, one after another; none if one of them is not done.
abbrev pub successive_draws : List Entry → ℕ → ℕ × ℕ → ℕ × ℕ → ℕ → ℕ → ℕ → Option (List Id)
successive_draws h customer service country day interval zero = Some []
successive_draws h customer service country day interval (suc count) =
    then_drawn (draw_answer h customer service country day interval)
    (λ x. successive_draws (h ++ draw_done customer service country day x ∷ []) customer service
    country day interval count)

-- The outcome of successive Draws from the customer's open ranges: all their identifiers, or a
-- refusal.
abbrev pub outcome_of_draws : ℕ → List Range → Option (List Id) → Outcome
outcome_of_draws day [] row = NoRange
outcome_of_draws day (r ∷ rs) None = NoneFree
outcome_of_draws day (r ∷ rs) (Some ids) = DrawnMany day ids

-- The outcome of a DrawMany: that of `count` successive Draws.
abbrev pub draw_many_answer : List Entry → ℕ → ℕ × ℕ → ℕ × ℕ → ℕ → ℕ → ℕ → Outcome
draw_many_answer h customer service country count day interval =
    outcome_of_draws day (ranges_open h customer service country)
    (successive_draws h customer service country day interval count)

-- The number of serials of the ranges that are free on the day.
abbrev pub free_serials : List Issuance → ℕ → ℕ → List Range → ℕ
free_serials is day interval [] = 0
free_serials is day interval (r ∷ rs) =
    count_by (λ serial. is_free is (id_at r serial) day interval) (serials r) + free_serials is day
    interval rs

-- Few are free if fewer than `count` serials of the customer's open ranges of that service and
-- country are free on the day.
abbrev pub FewFree : List Entry → ℕ → ℕ × ℕ → ℕ × ℕ → ℕ → ℕ → ℕ → Type 0
FewFree h customer service country count day interval = free_serials (issues_of h) day interval
    (ranges_open h customer service country) < count

-- Nothing is free if no serial of the customer's open ranges of that service and country is free on
-- the day.
abbrev pub NothingFree : List Entry → ℕ → ℕ × ℕ → ℕ × ℕ → ℕ → ℕ → Type 0
NothingFree h customer service country day interval =
    All (λ r. (x : Id) → IsTrue (lies_in r x) → ¬ (IsTrue (is_free (issues_of h) x day interval)))
    (ranges_open h customer service country)

-- The outcome of a Void of an identifier with that last issue.
abbrev pub void_issue : Option Issue → Outcome
void_issue None = NotIssued
void_issue (Some i) = if i.voided then AlreadyVoid else Voided

-- The outcome of a Void: the identifier must lie in the customer's ranges, be issued, and not be
-- voided.
abbrev pub void_answer : List Entry → ℕ → Id → Outcome
void_answer h customer x =
    if list_any (is_own customer x) (ranges_of h) then void_issue (last_issue_of h x) else NotYours

-- The status of an identifier in a range, by its last issue.
abbrev pub status_of_issue : Option Issue → Status
status_of_issue None = Never
status_of_issue (Some i) = if i.voided then StatusVoided i.day else Issued i.day

-- The status of an identifier; `Unknown` if it lies in no range.
abbrev pub status_of : List Entry → Id → Status
status_of h x = if list_any (λ r. lies_in r x) (ranges_of h)
    then status_of_issue (last_issue_of h x) else Unknown

-- The outcome of a Query: the status, for the post and for the customer in whose ranges the
-- identifier lies.
abbrev pub query_answer : List Entry → ℕ → Id → Outcome
query_answer h customer x =
    if (customer == 0) || list_any (is_own customer x) (ranges_of h) then Told (status_of h x)
    else NotYours

-- The outcome of a Withdraw: only the post closes a range, and only once.
abbrev pub withdraw_answer : List Entry → ℕ → ℕ → Outcome
withdraw_answer h customer num =
    if not (customer == 0) then NotThePost
    else if is_none (find (λ r. r.num == num) (ranges_of h)) then NoSuchRange
    else if is_closed h num then Closed else Withdrawn

-- The outcome of a body that a customer sends on a day.
abbrev pub body_answer : List Entry → ℕ → Body → ℕ → ℕ → Outcome
body_answer h customer (Grant holder service country first last) day interval =
    grant_answer h customer holder service country first last
body_answer h customer (Draw service country) day interval = draw_answer h customer service country
    day interval
body_answer h customer (Void x) day interval = void_answer h customer x
body_answer h customer (Query x) day interval = query_answer h customer x
body_answer h customer (DrawMany service country count) day interval =
    draw_many_answer h customer service country count day interval
body_answer h customer (Withdraw range) day interval = withdraw_answer h customer range

-- The answer of the rules: the outcome of a request on a day, over the calls kept before it.
abbrev pub answer_of : List Entry → Request → ℕ → ℕ → Outcome
answer_of h q day interval = body_answer h q.customer q.body day interval

-- A call may follow a history if its key is new and its day is not before the last. The history
-- must be below its limit, and the outcome must be the answer of the rules.
pub record MayFollow (h : List Entry) (t : Terms) (e : Entry) : Type 0 where
  pub new_key : find_entry h e.request.customer e.request.number ≡ None
  pub in_order : day_of h ≤ e.day
  pub room : length h < t.limit
  pub right : e.outcome ≡ answer_of h e.request e.day t.interval

-- A history is legal if it has no more calls than the limit, and each call may follow those before
-- it.
pub record IsLegal (h : List Entry) (t : Terms) : Type 0 where
  pub few : length h ≤ t.limit
  pub follow : (k : ℕ) (e : Entry) → slice_get h k ≡ Some e → MayFollow (take k h) t e

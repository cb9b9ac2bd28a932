-- The row that a call adds is among the rows of closed.
use Rattle.std.proofs.Common.{◌≡◌, ◌∙◌, ◌⊎◌, inl, inr, ℕ, zero, suc, ◌+◌, List, [], ◌∷◌, Option}
use Rattle.std.proofs.Common.{Some, None, ◌<◌, ◌≤◌, pos, length, drop, get_or, refl, sym, ap, subst}
use Rattle.std.proofs.Common.{arith, drop-cons}
use Rattle.std.specs.Prelude.{Contains, slice_get, option_to_list}
use Rattle.std.specs.Option.{option_and_then}
use Rattle.std.proofs.lemmas.Option.{none-some, slice_get_within, slice_get_cases}
use Rattle.std.proofs.lemmas.Option.{get_or_from_slice_get}
use Rattle.std.proofs.lemmas.List.{length-append}
use Rattle.std.proofs.lemmas.List.Elements.{Contains-append_cases, Contains-append_left}
use Rattle.std.proofs.lemmas.List.Elements.{Contains-append_right}
use Rattle.s10_history.specs.declared.entry.Entry.{Entry}
use Rattle.s10_rows.specs.declared.closed_row.ClosedRow.{ClosedRow}
use Rattle.s10_rows.specs.Tables.{closing, closed_rows_from, closed_rows}
use Rattle.s10_replay.proofs.ClosedRows.{closes}
use Rattle.s10_index.specs.RowsFrom.{closed_row_of}

abbrev MadeFrom : ℕ → List Entry → ℕ → ClosedRow → Type 0
MadeFrom n es k row = option_and_then (λ (e : Entry). closing (n + k) e.request.body e.outcome)
    (slice_get es k) ≡ Some row

only : (x y : ClosedRow) → Contains (x ∷ []) y → x ≡ y
only x y (zero, lt, is) = is
only x y (suc k, lt, is) = absurd (omega (arith, lt))

later : (n : ℕ) (d : Entry) (es : List Entry) (k : ℕ) (row : ClosedRow)
    → MadeFrom (n + 1) es k row → MadeFrom n (d ∷ es) (suc k) row
later n d es k row made =
    let shift : n + 1 + k ≡ n + suc k = omega arith in
    subst (λ i. option_and_then (λ (e : Entry). closing i e.request.body e.outcome)
    (slice_get es k) ≡ Some row) shift made

earlier : (n : ℕ) (d : Entry) (es : List Entry) (k : ℕ) (row : ClosedRow)
    → MadeFrom n (d ∷ es) (suc k) row → MadeFrom (n + 1) es k row
earlier n d es k row made =
    let shift : n + suc k ≡ n + 1 + k = omega arith in
    subst (λ i. option_and_then (λ (e : Entry). closing i e.request.body e.outcome)
    (slice_get es k) ≡ Some row) shift made

closed_among : (n : ℕ) (es : List Entry) (row : ClosedRow) → Contains (closed_rows_from n es) row
    → (k : ℕ) × MadeFrom n es k row
closed_among n [] row among = absurd (omega (arith, among.1))
closed_among n (e ∷ es) row among = at (closing n e.request.body e.outcome) refl
    (closed_among (n + 1) es row)
    (Contains-append_cases (option_to_list (closing n e.request.body e.outcome))
    (closed_rows_from (n + 1) es) row among)
  where
    at : (o : Option ClosedRow) → closing n e.request.body e.outcome ≡ o
        → (Contains (closed_rows_from (n + 1) es) row → (k : ℕ) × MadeFrom (n + 1) es k row)
        → Contains (option_to_list o) row ⊎ Contains (closed_rows_from (n + 1) es) row
        → (k : ℕ) × MadeFrom n (e ∷ es) k row
    at o is rest (inr among') = let it = rest among' in (suc it.0, later n e es it.0 row it.1)
    at None is rest (inl here) = absurd (omega (arith, here.1))
    at (Some other) is rest (inl here) =
        let none : n ≡ n + 0 = omega arith in (
          0,
          subst (λ i. closing i e.request.body e.outcome ≡ Some row) none
              (is ∙ ap Some (only other row here)),
        )

closed_from : (n : ℕ) (es : List Entry) (k : ℕ) (row : ClosedRow) → MadeFrom n es k row
    → Contains (closed_rows_from n es) row
closed_from n [] k row made = absurd (none-some row made)
closed_from n (e ∷ es) zero row made =
    let none : n + 0 ≡ n = omega arith in
    let here : closing n e.request.body e.outcome ≡ Some row =
    subst (λ i. closing i e.request.body e.outcome ≡ Some row) none made in
    Contains-append_left (option_to_list (closing n e.request.body e.outcome))
    (closed_rows_from (n + 1) es) row
    (subst (λ (o : Option ClosedRow). Contains (option_to_list o) row) (sym here)
    (0, omega arith, refl))
closed_from n (e ∷ es) (suc k) row made =
    Contains-append_right (option_to_list (closing n e.request.body e.outcome))
    (closed_rows_from (n + 1) es) row
    (closed_from (n + 1) es k row (earlier n e es k row made))

turned : (a b : ℕ) (h : List Entry) (k : ℕ) (row : ClosedRow) → a ≡ b
    → option_and_then (λ (e : Entry). closing a e.request.body e.outcome) (slice_get h k) ≡ Some row
    → option_and_then (λ (e : Entry). closing b e.request.body e.outcome) (slice_get h k) ≡ Some row
turned a b h k row same made =
    subst (λ i. option_and_then (λ (e : Entry). closing i e.request.body e.outcome) (slice_get h k)
    ≡ Some row) same made

-- The row that a call adds is in the table.
pub closed_there : (h : List Entry) (place : ℕ) (row : ClosedRow)
    → closed_row_of h place ≡ Some row → Contains (closed_rows h) row
closed_there h place row made = closed_from 1 h place row
    (turned (place + 1) (1 + place) h place row (omega arith) made)

-- A row of the table is added by a call.
pub closed_found : (h : List Entry) (row : ClosedRow) → Contains (closed_rows h) row
    → (place : ℕ) × (closed_row_of h place ≡ Some row)
closed_found h row among =
    let it = closed_among 1 h row among in
    (it.0, turned (1 + it.0) (it.0 + 1) h it.0 row (omega arith) it.1)

-- A call adds a row with its own arrival.
pub own_arrival : (h : List Entry) (place : ℕ) (row : ClosedRow)
    → closed_row_of h place ≡ Some row → row.arrival ≡ pos (place + 1)
own_arrival h place row made = go (slice_get h place) made
  where
    go : (o : Option Entry)
        → option_and_then (λ (e : Entry). closing (place + 1) e.request.body e.outcome) o
        ≡ Some row → row.arrival ≡ pos (place + 1)
    go None made' = absurd (none-some row made')
    go (Some e) made' = ap (λ (r : ClosedRow). r.arrival) (closes (place + 1) e row made').row_is

-- The rest of a list from an index on begins with the element at this index.
from_place : (h : List Entry) (place : ℕ) (e : Entry) → slice_get h place ≡ Some e
    → drop place h ≡ e ∷ drop (place + 1) h
from_place h place e at =
    let one : place + 1 ≡ suc place = omega arith in
    drop-cons h place e (slice_get_within h place e at) ∙ ap (λ x. x ∷ drop (suc place) h)
    (get_or_from_slice_get h place e e at) ∙ ap (λ n. e ∷ drop n h) (sym one)

-- How many rows the calls from an index on add.
abbrev pub count_from : List Entry → ℕ → ℕ
count_from h place = length (closed_rows_from (place + 1) (drop place h))

-- They are the row of the call at this index, and those of the calls after it.
pub count_next : (h : List Entry) (place : ℕ) → place < length h
    → count_from h place
    ≡ length (option_to_list (closed_row_of h place)) + count_from h (place + 1)
count_next h place lt = go (slice_get_cases h place).1
  where
    rows_of : Option Entry → ℕ
    rows_of o = length (option_to_list
        (option_and_then (λ (e : Entry). closing (place + 1) e.request.body e.outcome) o))

    go : ((e : Entry) × (place < length h) × (slice_get h place ≡ Some e)
        × (get_or h place e ≡ e)) ⊎ ((length h ≤ place) × (slice_get h place ≡ None))
        → count_from h place ≡ rows_of (slice_get h place) + count_from h (place + 1)
    go (inl (e, within, at, is)) =
        ap (λ (l : List Entry). length (closed_rows_from (place + 1) l)) (from_place h place e at)
        ∙ length-append (option_to_list (closing (place + 1) e.request.body e.outcome))
        (closed_rows_from (place + 1 + 1) (drop (place + 1) h))
        ∙ ap (λ (o : Option Entry). rows_of o + count_from h (place + 1)) (sym at)
    go (inr (past, none)) = absurd (omega (arith, lt, past))

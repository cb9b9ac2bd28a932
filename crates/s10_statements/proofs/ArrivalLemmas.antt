-- All rows of calls come in order of arrival, those of ranges and closed in order of number, and
-- those of serials in order of pair and serial.
use Rattle.std.proofs.Common.{◌≡◌, ◌≢◌, ℤ, suc, true, false, List, [], ◌∷◌, map, filter, refl, sym}
use Rattle.std.proofs.Common.{ap, IsPermutation}
use Rattle.std.proofs.Common.{subst, ◌∙◌, arith, int_cmp, Ordering, Less, Equal, Greater, is_lt}
use Rattle.std.proofs.Common.{is_gt, true≢false, IsSorted}
use Rattle.std.specs.List.{AllByRecursion, AllZip}
use Rattle.std.specs.Cmp.{IsTotalOrder}
use Rattle.std.specs.Ordering.{ordering_reverse, ordering_then}
use Rattle.std.proofs.lemmas.Cmp.{upto}
use Rattle.sqlite_value.specs.declared.value.Value.TheVariants.{Int}
use Rattle.sqlite_value.specs.Order.{Row, column, value_cmp}
use Rattle.sqlite_value.proofs.OrderLemmas.{value_cmp-Int}
use Rattle.sqlite_trees.specs.Tree.{IsAscending}
use Rattle.sqlite_keyed.proofs.ListLemmas.{all_weaker, map-map, ascending_from_map}
use Rattle.sqlite_keyed.proofs.ListLemmas.{ascending_weaker, all-map}
use Rattle.sqlite_sql.specs.Query.{Query, Output, output_cmp}
use Rattle.sqlite_sql.proofs.QueryLemmas.{output_cmp_total}
use Rattle.sqlite.specs.State.{State, Shown}
use Rattle.s10_rows.specs.CallRow.{StoredCall}
use Rattle.s10_rows.specs.declared.closed_row.ClosedRow.{ClosedRow}
use Rattle.s10_rows.specs.declared.range_row.RangeRow.{RangeRow}
use Rattle.s10_rows.specs.declared.serial_row.SerialRow.{SerialRow}
use Rattle.s10_rows.specs.Tables.{serial_row_cmp}
use Rattle.s10_schema.specs.Schema.{IsLedgerSchema, IsClosedSchema}
use Rattle.s10_statements.specs.Shown.{shown_call, shown_range, shown_closed, ShowsSerial}
use Rattle.s10_statements.specs.Shown.{call_columns, range_columns, closed_columns}
use Rattle.s10_statements.specs.Statements.{select_calls_sql, select_ranges_sql}
use Rattle.s10_statements.specs.Statements.{select_serials_sql, select_closed_sql}
use Rattle.s10_statements.proofs.Texts.{calls_query, ranges_query, serials_query, closed_query}
use Rattle.s10_statements.proofs.ReadLemmas.{kept_are}
use Rattle.s10_statements.proofs.GoneLemmas.{all_moved}
use Rattle.s10_statements.proofs.AnswerLemmas.{first_key, pair_key, wide_columns, always}
use Rattle.s10_statements.proofs.AnswerLemmas.{calls_answers, ranges_answers, serials_answers}
use Rattle.s10_statements.proofs.AnswerLemmas.{closed_answers}

module _ {X : Type 0} (cmp : X → X → Ordering) (total : IsTotalOrder cmp) where
  abbrev pub AtMost : X → X → Type 0
  AtMost a b = is_gt (cmp a b) ≡ false

  turned : (o : Ordering) → is_lt o ≡ false → is_gt (ordering_reverse o) ≡ false
  turned Less h = h
  turned Equal h = refl
  turned Greater h = refl

  below_all : (x : X) (ys : List X) → IsSorted cmp (x ∷ ys) → IsAscending AtMost ys
      → AllByRecursion (AtMost x) ys
  below_all x [] sorted up = tt
  below_all x (y ∷ ys) sorted up =
      let first : AtMost x y = ap is_gt (total.antisymm x y)
      ∙ turned _ (sorted 0 x (omega arith) (omega arith)) in
      (first, all_weaker _ (AtMost x) (λ z. upto total x y z first) ys up.0)

  -- In a sorted list no element is above a later one.
  pub ascending_from_sorted : (xs : List X) → IsSorted cmp xs → IsAscending AtMost xs
  ascending_from_sorted [] sorted = tt
  ascending_from_sorted (x ∷ xs) sorted =
      let tail : IsSorted cmp xs = λ k d p q. rw Rattle.std.proofs.Common.add-one
      (rw Rattle.std.proofs.Common.add-one at (sorted (suc k) d (omega arith) (omega arith))) in
      let up = ascending_from_sorted xs tail in
      (below_all x xs sorted up, up)

-- Outputs with this key of their rows.
module _ (key : Row → Row) where
  abbrev out : Row → Output
  out v = (key v, v)

  -- Outputs with their keys, from their rows.
  keyed : (os : List Output) → AllByRecursion (λ (o : Output). o ≡ out o.1) os
      → os ≡ map out (map (λ (o : Output). o.1) os)
  keyed [] each = refl
  keyed (o ∷ os) each = ap (λ x. x ∷ os) each.0 ∙ ap (λ l. out o.1 ∷ l) (keyed os each.1)

-- Typed rows that a query shows in the order of their first column rise.
module _ {X : Type 0} (query : Query) (shown : X → Row) (NotAbove : X → X → Type 0)
    (not_above : (a b : X)
    → is_gt (output_cmp query (out first_key (shown a)) (out first_key (shown b))) ≡ false
    → NotAbove a b) where
  sorted_rise : (columns rows : List Row) (kept ordered : List Output) (found : List X)
      → kept ≡ map (out first_key) columns → IsPermutation kept ordered
      → IsSorted (output_cmp query) ordered → rows ≡ map (λ (o : Output). o.1) ordered
      → map shown found ≡ rows → IsAscending NotAbove found
  sorted_rise columns rows kept ordered found are same sorted given typed =
      let each : AllByRecursion (λ (o : Output). o ≡ out first_key o.1) ordered =
      all_moved (λ (o : Output). o ≡ out first_key o.1) kept ordered same
      (subst (AllByRecursion (λ (o : Output). o ≡ out first_key o.1)) (sym are)
      (all-map (λ (o : Output). o ≡ out first_key o.1) (out first_key) (λ v. refl) columns)) in
      let in_order : ordered ≡ map (λ x. out first_key (shown x)) found =
      keyed first_key ordered each ∙ ap (map (out first_key)) (sym (typed ∙ given))
      ∙ map-map (out first_key) shown found in
      ascending_weaker _ NotAbove not_above found
      (ascending_from_map (AtMost (output_cmp query) (output_cmp_total query))
      (λ x. out first_key (shown x)) found
      (ascending_from_sorted (output_cmp query) (output_cmp_total query)
      (map (λ x. out first_key (shown x)) found)
      (subst (IsSorted (output_cmp query)) in_order sorted)))

-- One number is above another if its value is.
value_above : (a b : ℤ) → int_cmp a b ≡ Greater → value_cmp (Int a) (Int b) ≡ Greater
value_above a b above = value_cmp-Int a b ∙ above

abbrev CallNotAbove : StoredCall → StoredCall → Type 0
CallNotAbove a b = int_cmp a.arrival b.arrival ≢ Greater

call_not_above : (a b : StoredCall)
    → is_gt (output_cmp calls_query (out first_key (shown_call a)) (out first_key (shown_call b)))
    ≡ false → CallNotAbove a b
call_not_above a b h above = true≢false (rw (value_above a.arrival b.arrival above) at h)

abbrev RangeNotAbove : RangeRow → RangeRow → Type 0
RangeNotAbove a b = int_cmp a.num b.num ≢ Greater

range_not_above : (a b : RangeRow)
    → is_gt (output_cmp ranges_query (out first_key (shown_range a))
    (out first_key (shown_range b))) ≡ false → RangeNotAbove a b
range_not_above a b h above = true≢false (rw (value_above a.num b.num above) at h)

abbrev ClosedNotAbove : ClosedRow → ClosedRow → Type 0
ClosedNotAbove a b = int_cmp a.num b.num ≢ Greater

closed_not_above : (a b : ClosedRow)
    → is_gt (output_cmp closed_query (out first_key (shown_closed a))
    (out first_key (shown_closed b))) ≡ false → ClosedNotAbove a b
closed_not_above a b h above = true≢false (rw (value_above a.num b.num above) at h)

-- Typed rows rise as the rows that show them.
module _ {A B : Type 0} (R : A → B → Type 0) (Q : A → A → Type 0) (P : B → B → Type 0)
    (weaker : (x y : A) (v w : B) → R x v → R y w → P v w → Q x y) where
  zip_all : (x : A) (v : B) (xs : List A) (vs : List B) → R x v → AllZip R xs vs
      → AllByRecursion (P v) vs → AllByRecursion (Q x) xs
  zip_all x v [] [] is each all = tt
  zip_all x v [] (w ∷ vs) is each all = absurd each
  zip_all x v (y ∷ xs) [] is each all = absurd each
  zip_all x v (y ∷ xs) (w ∷ vs) is each all =
      (weaker x y v w is each.0 all.0, zip_all x v xs vs is each.1 all.1)

  zip_ascending : (xs : List A) (vs : List B) → AllZip R xs vs → IsAscending P vs
      → IsAscending Q xs
  zip_ascending [] [] each up = tt
  zip_ascending [] (w ∷ vs) each up = absurd each
  zip_ascending (y ∷ xs) [] each up = absurd each
  zip_ascending (y ∷ xs) (w ∷ vs) each up =
      (zip_all y w xs vs each.0 each.1 up.0, zip_ascending xs vs each.1 up.1)

abbrev SerialNotAbove : SerialRow → SerialRow → Type 0
SerialNotAbove a b = serial_row_cmp a b ≢ Greater

abbrev RowNotAbove : Row → Row → Type 0
RowNotAbove v w = is_gt (output_cmp serials_query (out pair_key v) (out pair_key w)) ≡ false

-- The first two columns of a row that shows a row of serials.
shown_pair : (x : SerialRow) (v : Row) → ShowsSerial x v → pair_key v ≡ Int x.pair ∷ Int x.serial
    ∷ []
shown_pair x v shows = ap (λ (l : Row). column l 0 ∷ column l 1 ∷ []) (sym shows.0)

serial_not_above : (x y : SerialRow) (v w : Row) → ShowsSerial x v → ShowsSerial y w
    → RowNotAbove v w → SerialNotAbove x y
serial_not_above x y v w first second h above =
    let first_keyed : Row → Type 0 = λ k. is_gt (output_cmp serials_query (k, v) (out pair_key w))
    ≡ false in
    let second_keyed : Row → Type 0 = λ k. is_gt (output_cmp serials_query
    (Int x.pair ∷ Int x.serial ∷ [], v) (k, w)) ≡ false in
    let known = subst second_keyed (shown_pair y w second) (subst first_keyed
    (shown_pair x v first) h) in
    go (int_cmp x.pair y.pair) (int_cmp x.serial y.serial) refl refl above known
  where
    go : (a b : Ordering) → int_cmp x.pair y.pair ≡ a → int_cmp x.serial y.serial ≡ b
        → ordering_then a b ≡ Greater
        → is_gt (output_cmp serials_query (Int x.pair ∷ Int x.serial ∷ [], v)
        (Int y.pair ∷ Int y.serial ∷ [], w)) ≡ false → ⊥
    go Less b pair serial above known = cc
    go Equal Less pair serial above known = cc
    go Equal Equal pair serial above known = cc
    go Equal Greater pair serial above known =
        let p : value_cmp (Int x.pair) (Int y.pair) ≡ Equal = value_cmp-Int x.pair y.pair ∙ pair in
        let s : value_cmp (Int x.serial) (Int y.serial) ≡ Greater =
        value_cmp-Int x.serial y.serial ∙ serial in
        true≢false (rw (p, s) at known)
    go Greater b pair serial above known =
        let p : value_cmp (Int x.pair) (Int y.pair) ≡ Greater =
        value_cmp-Int x.pair y.pair ∙ pair in
        true≢false (rw p at known)

module _ (params : Row) (old new : State) (rows : List Row)
    (has : IsLedgerSchema old.now.schema) where
  pub calls_sorted : (found : List StoredCall) → Shown select_calls_sql params old new rows
      → map shown_call found ≡ rows → IsAscending CallNotAbove found
  calls_sorted found h typed =
      let a = calls_answers params old new rows has h in
      sorted_rise calls_query shown_call CallNotAbove call_not_above
      (filter always (map call_columns (old.now.trees 1))) rows a.kept a.ordered found
      (kept_are params calls_query (old.now.trees 1) call_columns first_key always (λ r. refl)
      (λ r. refl) a.staged a.kept a.grouped a.distinct) a.same a.sorted a.shown typed

  pub ranges_sorted : (found : List RangeRow) → Shown select_ranges_sql params old new rows
      → map shown_range found ≡ rows → IsAscending RangeNotAbove found
  ranges_sorted found h typed =
      let a = ranges_answers params old new rows has h in
      sorted_rise ranges_query shown_range RangeNotAbove range_not_above
      (filter always (map range_columns (old.now.trees 3))) rows a.kept a.ordered found
      (kept_are params ranges_query (old.now.trees 3) range_columns first_key always (λ r. refl)
      (λ r. refl) a.staged a.kept a.grouped a.distinct) a.same a.sorted a.shown typed

  pub serials_sorted : (found : List SerialRow) → Shown select_serials_sql params old new rows
      → AllZip ShowsSerial found rows → IsAscending SerialNotAbove found
  serials_sorted found h typed =
      let a = serials_answers params old new rows has h in
      let columns : List Row = filter always (map wide_columns (old.now.trees 4)) in
      let kept : a.kept ≡ map (out pair_key) columns =
      kept_are params serials_query (old.now.trees 4) wide_columns pair_key always (λ r. refl)
      (λ r. refl) a.staged a.kept a.grouped a.distinct in
      let each : AllByRecursion (λ (o : Output). o ≡ out pair_key o.1) a.ordered =
      all_moved (λ (o : Output). o ≡ out pair_key o.1) a.kept a.ordered a.same
      (subst (AllByRecursion (λ (o : Output). o ≡ out pair_key o.1)) (sym kept)
      (all-map (λ (o : Output). o ≡ out pair_key o.1) (out pair_key) (λ v. refl) columns)) in
      let in_order : a.ordered ≡ map (out pair_key) rows =
      keyed pair_key a.ordered each ∙ ap (map (out pair_key)) (sym a.shown) in
      let sorted : IsSorted (output_cmp serials_query) (map (out pair_key) rows) =
      subst (IsSorted (output_cmp serials_query)) in_order a.sorted in
      zip_ascending ShowsSerial SerialNotAbove RowNotAbove serial_not_above found rows typed
      (ascending_from_map (AtMost (output_cmp serials_query) (output_cmp_total serials_query))
      (out pair_key) rows
      (ascending_from_sorted (output_cmp serials_query) (output_cmp_total serials_query)
      (map (out pair_key) rows) sorted))

module _ (params : Row) (old new : State) (rows : List Row)
    (has : IsClosedSchema old.now.schema) where
  pub closed_sorted : (found : List ClosedRow) → Shown select_closed_sql params old new rows
      → map shown_closed found ≡ rows → IsAscending ClosedNotAbove found
  closed_sorted found h typed =
      let a = closed_answers params old new rows has h in
      sorted_rise closed_query shown_closed ClosedNotAbove closed_not_above
      (filter always (map closed_columns (old.now.trees 6))) rows a.kept a.ordered found
      (kept_are params closed_query (old.now.trees 6) closed_columns first_key always (λ r. refl)
      (λ r. refl) a.staged a.kept a.grouped a.distinct) a.same a.sorted a.shown typed

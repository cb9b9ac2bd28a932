-- Tables in which marks that later writes set are still to come.
use Rattle.std.proofs.Common.{◌≡◌, ℤ, true, false, List, [], ◌∷◌, ◌++◌, map, refl, sym, inl}
use Rattle.std.proofs.Common.{ap, subst, ◌∙◌, inr, ◌||◌, ℕ, ◌+◌, ◌-◌, ◌<◌, ◌≤◌, length, take, drop}
use Rattle.std.proofs.Common.{get_or, take_all}
use Rattle.std.specs.List.{list_any}
use Rattle.std.proofs.Math.Logic.{∥∥₁_map, ∥∥₁_elim, ∥∥₁_prop}
use Rattle.std.proofs.lemmas.Bool.{cases_Bool}
use Rattle.std.proofs.lemmas.List.{map-append, map-id, take_rest, drop_more, drop_all}
use Rattle.std.proofs.lemmas.List.Folds.{list_any-append}
use Rattle.std.proofs.lemmas.List.Sorted.{IsPermutation-map, IsPermutation-trans, IsPermutation-sym}
use Rattle.std.proofs.lemmas.List.Sorted.{IsPermutation-append_left}
use Rattle.sqlite.specs.Effect.{Database}
use Rattle.s10_rows.specs.declared.call_write.CallWrite.{CallWrite}
use Rattle.s10_rows.specs.declared.range_row.RangeRow.{RangeRow}
use Rattle.s10_rows.specs.declared.range_write.RangeWrite.{RangeWrite}
use Rattle.s10_rows.specs.declared.range_write.RangeWrite.TheVariants.{New, Mark}
use Rattle.s10_rows.specs.Tables.{Tables, HaveSameRows}
use Rattle.s10_rows.specs.RowWrites.{has_num, marked, with_range}
use Rattle.s10_rows.proofs.Replaced.{map_twice, same_images, same_rows}
use Rattle.s10_statements.specs.Shown.{HasTables, shown_range}
use Rattle.s10_statements.specs.LaterMarks.{HasTablesBut, unmarked, is_mark_set, sets_mark_of}
use Rattle.s10_statements.specs.LaterMarks.{is_set_again, range_writes}
use Rattle.s10_statements.proofs.GoneLemmas.{same_int}
use Rattle.s10_statements.proofs.WriteLemmas.{ranges_more, with_ranges_in}

-- Whether a call sets a mark, call by call.
pub set_by_calls : (num : ℤ) (calls : List CallWrite)
    → list_any (λ call. is_mark_set num call.ranges.items) calls
    ≡ is_mark_set num (range_writes calls)
set_by_calls num [] = refl
set_by_calls num (w ∷ ws) =
    ap (λ b. is_mark_set num w.ranges.items || b) (set_by_calls num ws)
    ∙ sym (list_any-append (sets_mark_of num) w.ranges.items (range_writes ws))

pub shown_same : {X Y : Type 0} (shown : X → Y) (xs ys : List X) (vs : List Y)
    → HaveSameRows (map shown xs) vs → HaveSameRows xs ys → HaveSameRows (map shown ys) vs
shown_same shown xs ys vs p q =
    ∥∥₁_elim p ∥∥₁_prop
    (λ a. ∥∥₁_map q
    (λ b. IsPermutation-trans _ _ _ (IsPermutation-sym _ _ (IsPermutation-map shown xs ys b)) a))

-- Tables of which nothing is to come are there.
pub whole : (db : Database) (tables : Tables) → HasTablesBut [] db tables → HasTables db tables
whole db tables it =
    let same : HaveSameRows it.ranges tables.ranges =
    subst (λ rows. HaveSameRows rows tables.ranges) (map-id it.ranges)
    (subst (λ rows. HaveSameRows (map (λ r. r) it.ranges) rows) (map-id tables.ranges) it.same) in
    record {
      schema = it.held.schema;
      heads = it.held.heads;
      calls = it.held.calls;
      ranges = shown_same shown_range it.ranges tables.ranges _ it.held.ranges same;
      serials = it.held.serials;
      numbered = it.held.numbered;
      closed = it.held.closed;
    }

-- Tables are there, whatever is to come.
pub but_nothing : (later : List RangeWrite) (db : Database) (tables : Tables) → HasTables db tables
    → HasTablesBut later db tables
but_nothing later db tables held =
    record { ranges = tables.ranges; held = held; same = same_rows _ _ refl }

-- The row of a range whose mark is set again, without its mark.
again_unmarked : (num mark : ℤ) (later : List RangeWrite) (r : RangeRow)
    → is_mark_set num later ≡ true → unmarked (Mark num mark ∷ later) r ≡ unmarked later r
again_unmarked num mark later r again =
    elim (cases_Bool (has_num num r)) [
      | inl t ↦ let here : is_mark_set r.num later ≡ true =
          ap (λ n. is_mark_set n later) (same_int r.num num t) ∙ again in
          rw (t, here) refl
      | inr f ↦ rw f refl
    ]

-- The same, if the mark is set before.
again_marked : (num mark : ℤ) (later : List RangeWrite) (r : RangeRow)
    → is_mark_set num later ≡ true → unmarked (Mark num mark ∷ later) r
    ≡ unmarked later (marked num mark r)
again_marked num mark later r again =
    elim (cases_Bool (has_num num r)) [
      | inl t ↦ let here : is_mark_set r.num later ≡ true =
          ap (λ n. is_mark_set n later) (same_int r.num num t) ∙ again in
          rw (t, here) refl
      | inr f ↦ rw f refl
    ]

-- The row of a range whose mark is set and not set again.
last_marked : (num mark : ℤ) (later : List RangeWrite) (r : RangeRow)
    → is_mark_set num later ≡ false → marked num mark (unmarked (Mark num mark ∷ later) r)
    ≡ unmarked later (marked num mark r)
last_marked num mark later r last =
    elim (cases_Bool (has_num num r)) [
      | inl t ↦ let here : is_mark_set r.num later ≡ false =
          ap (λ n. is_mark_set n later) (same_int r.num num t) ∙ last in
          rw (t, here) (rw t refl)
      | inr f ↦ elim (cases_Bool (is_mark_set r.num later)) [
        | inl t ↦ rw (f, t) (rw f refl)
        | inr e ↦ rw (f, e) (rw f refl)
      ]
    ]

-- A mark that is set again is left out.
pub left_out : (w : RangeWrite) (later : List RangeWrite) (db : Database) (tables : Tables)
    → is_set_again w later ≡ true → HasTablesBut (w ∷ later) db tables
    → HasTablesBut later db (record tables { ranges = with_range w tables.ranges })
left_out (New row) later db tables again it = absurd (let e = again in cc)
left_out (Mark num mark) later db tables again it = record {
  ranges = it.ranges;
  held = it.held;
  same =
      let f = unmarked (Mark num mark ∷ later) in
      let left : map f it.ranges ≡ map (unmarked later) it.ranges =
      same_images f (unmarked later) (λ r. again_unmarked num mark later r again) it.ranges in
      let right : map f tables.ranges
      ≡ map (unmarked later) (map (marked num mark) tables.ranges) =
      same_images f (λ r. unmarked later (marked num mark r))
      (λ r. again_marked num mark later r again) tables.ranges
      ∙ sym (map_twice (unmarked later) (marked num mark) tables.ranges) in
      subst (λ rows. HaveSameRows rows
      (map (unmarked later) (map (marked num mark) tables.ranges))) left
      (subst (λ rows. HaveSameRows (map f it.ranges) rows) right it.same);
}

-- A write that is not set again is written.
pub written_out : (w : RangeWrite) (later : List RangeWrite) (old new : Database) (tables : Tables)
    → is_set_again w later ≡ false
    → ((t : Tables) → HasTables old t
    → HasTables new (record t { ranges = with_range w t.ranges }))
    → HasTablesBut (w ∷ later) old tables
    → HasTablesBut later new (record tables { ranges = with_range w tables.ranges })
written_out (New row) later old new tables last writes it = record {
  ranges = with_range (New row) it.ranges;
  held = writes (record tables { ranges = it.ranges }) it.held;
  same =
      let f = unmarked later in
      subst (λ rows. HaveSameRows rows (map f (tables.ranges ++ row ∷ [])))
      (sym (map-append f it.ranges (row ∷ [])))
      (subst (λ rows. HaveSameRows (map f it.ranges ++ f row ∷ []) rows)
      (sym (map-append f tables.ranges (row ∷ [])))
      (∥∥₁_map it.same (λ p. IsPermutation-append_left (f row ∷ []) _ _ p)));
}
written_out (Mark num mark) later old new tables last writes it = record {
  ranges = with_range (Mark num mark) it.ranges;
  held = writes (record tables { ranges = it.ranges }) it.held;
  same =
      let f = unmarked (Mark num mark ∷ later) in
      let both : (rows : List RangeRow) → map (marked num mark) (map f rows)
      ≡ map (unmarked later) (map (marked num mark) rows) =
      λ rows. map_twice (marked num mark) f rows
      ∙ same_images (λ r. marked num mark (f r)) (λ r. unmarked later (marked num mark r))
      (λ r. last_marked num mark later r last) rows
      ∙ sym (map_twice (unmarked later) (marked num mark) rows) in
      subst (λ rows. HaveSameRows rows
      (map (unmarked later) (map (marked num mark) tables.ranges))) (both it.ranges)
      (subst (λ rows. HaveSameRows (map (marked num mark) (map f it.ranges)) rows)
      (both tables.ranges) (∥∥₁_map it.same (λ p. IsPermutation-map (marked num mark) _ _ p)));
}

-- One more write of a list is applied, or left out.
pub range_written : (ws : List RangeWrite) (i : ℕ) (d : RangeWrite) (later : List RangeWrite)
    (old new : Database) (tables : Tables) → i < length ws
    → ((t : Tables)
    → HasTablesBut (get_or ws i d ∷ (take (length ws - (i + 1)) (drop (i + 1) ws) ++ later)) old t
    → HasTablesBut (take (length ws - (i + 1)) (drop (i + 1) ws) ++ later) new
    (record t { ranges = with_range (get_or ws i d) t.ranges }))
    → HasTablesBut (drop i ws ++ later) old (with_ranges_in (take i ws) tables)
    → HasTablesBut (drop (i + 1) ws ++ later) new (with_ranges_in (take (i + 1) ws) tables)
range_written ws i d later old new tables within one held =
    let done = (rw (take_rest ws (i + 1)) at one) (with_ranges_in (take i ws) tables)
    (rw (drop_more ws i d within) at held) in
    subst (λ rows. HasTablesBut (drop (i + 1) ws ++ later) new (record tables { ranges = rows }))
    (sym (ranges_more ws i d tables.ranges within)) done

-- All writes of a list are applied, or left out.
pub all_written : (ws : List RangeWrite) (i : ℕ) (later : List RangeWrite) (db : Database)
    (tables : Tables) → length ws ≤ i
    → HasTablesBut (drop i ws ++ later) db (with_ranges_in (take i ws) tables)
    → HasTablesBut later db (with_ranges_in ws tables)
all_written ws i later db tables past held = rw (drop_all i ws past, take_all i ws past) at held

-- An edit that leaves the ranges, whatever their marks are.
pub edited : (later : List RangeWrite) (old new : Database) (tables after : Tables)
    → after.ranges ≡ tables.ranges
    → ((rows : List RangeRow) → HasTables old (record tables { ranges = rows })
    → HasTables new (record after { ranges = rows }))
    → HasTablesBut later old tables → HasTablesBut later new after
edited later old new tables after same edit it = record {
  ranges = it.ranges;
  held = edit it.ranges it.held;
  same = rw same it.same;
}

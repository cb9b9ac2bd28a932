use Rattle.std.proofs.Common.{◌≡◌, ◌∙◌, ◌≤◌, ◌<◌, ◌+◌, true, false, Option, Some, None, length}
use Rattle.std.proofs.Common.{refl, sym, ap, arith, true≢false}
use Rattle.std.specs.Prelude.{is_some, option_to_list}
use Rattle.std.proofs.lemmas.List.{drop_all}
use Rattle.s10_rows.specs.declared.closed_row.ClosedRow.{ClosedRow}
use Rattle.s10_rows.specs.Tables.{closed_rows_from}
use Rattle.s10_index.specs.RowsFrom.{closed_row_of}
use Rattle.s10_index.proofs.ClosedLookups.{count_from, count_next}
use Rattle.s10_index.proofs.indexed_book.IndexedBook.closed_count.Goals as goal
use Rattle.s10_index.proofs.indexed_book.IndexedBook.closed_count.Goals.{then-is_some, else-is_some}

one_more : (o : Option ClosedRow) → is_some o ≡ true → length (option_to_list o) ≡ 1
one_more None is = absurd (true≢false (sym is))
one_more (Some row) is = refl

no_more : (o : Option ClosedRow) → is_some o ≡ false → length (option_to_list o) ≡ 0
no_more None is = refl
no_more (Some row) is = absurd (true≢false is)

pub loop-place-init : goal.loop-place-init
loop-place-init c = record { few = omega arith; whole = omega arith }

pub overflow_add-count : goal.overflow_add-count
overflow_add-count c = omega (
  arith,
  c.loop-place.invariant.few,
  c.loop-place-test.true,
  c.len-len.type_inv,
)

pub loop-place-preserved : goal.loop-place-preserved
loop-place-preserved c =
    let h = c.args.self.now.index.entries.items in
    let k = c.loop-place.place in
    let within : k < length h = omega (
      arith,
      c.loop-place-test.true,
      c.len-len.ensures.answer tt,
    ) in
    let next = count_next h k within in
    let made = closed_row_of h k in
    elim c.if-is_some.branch [
      | then-is_some w ↦
          let one = one_more made (ap is_some (sym c.closed_row.ensures)
          ∙ sym c.is_some.ensures ∙ w.if-is_some.true) in
          record {
            few = omega (arith, c.loop-place.invariant.few, w.count-is);
            whole = omega (arith, c.loop-place.invariant.whole, w.count-is, next, one);
          }
      | else-is_some w ↦
          let none = no_more made (ap is_some (sym c.closed_row.ensures)
          ∙ sym c.is_some.ensures ∙ w.if-is_some.false) in
          record {
            few = omega (arith, c.loop-place.invariant.few, w.count-is);
            whole = omega (arith, c.loop-place.invariant.whole, w.count-is, next, none);
          }
    ]

pub returns : goal.returns
returns c =
    let h = c.args.self.now.index.entries.items in
    let k = c.loop-place.place in
    let past : length h ≤ k = omega (arith, c.loop-place-test.false, c.len-len.ensures.answer tt) in
    let none : count_from h k ≡ 0 =
    ap (λ l. length (closed_rows_from (k + 1) l)) (drop_all k h past) in
    omega (arith, c.loop-place.invariant.whole, none)

use Rattle.std.proofs.Common.{◌≡◌, ◌<◌, ◌∙◌, sym, ap, Some, None, arith}
use Rattle.std.specs.Prelude.{find}
use Rattle.s10_history.specs.History.{ranges_of, is_held}
use Rattle.s10_history.proofs.Numbering.{above, found_above}
use Rattle.s10_ranges.proofs.Opening.{next_open, this_open, none_open}
use Rattle.s10_ranges.proofs.ranges.Ranges.next_open_range.Goals as goal

pub returns-then-not-is_closed-clause-above : goal.returns-then-not-is_closed-clause-above
returns-then-not-is_closed-clause-above c =
    let past : c.loop-range.past < c.in-Some.range.num =
    found_above (is_held c.args.customer c.args.service c.args.country) c.loop-range.past
    c.args.self.now.ranges.items (Some c.in-Some.range) (sym c.in-Some.is
    ∙ (rw c.deref.ensures.value at c.next_held_in.ensures)) in
    omega (arith, past, c.loop-range.invariant.from)

pub returns-then-not-is_closed-clause-open : goal.returns-then-not-is_closed-clause-open
returns-then-not-is_closed-clause-open c = λ h m.
    let found : find (above (is_held c.args.customer c.args.service c.args.country)
    c.loop-range.past) (ranges_of h) ≡ Some c.in-Some.range =
    ap (find (above (is_held c.args.customer c.args.service c.args.country) c.loop-range.past))
    (sym m.ranges) ∙ sym (rw c.deref.ensures.value at c.next_held_in.ensures) ∙ c.in-Some.is in
    sym (c.loop-range.invariant.open_since h m ∙ this_open h c.loop-range.past c.args.customer
    c.args.service c.args.country c.in-Some.range found (sym (c.is_closed.ensures h m)
    ∙ c.if-not-is_closed.true))

pub loop-range-smaller : goal.loop-range-smaller
loop-range-smaller c =
    let past : c.loop-range.past < c.in-Some.range.num =
    found_above (is_held c.args.customer c.args.service c.args.country) c.loop-range.past
    c.args.self.now.ranges.items (Some c.in-Some.range) (sym c.in-Some.is
    ∙ (rw c.deref.ensures.value at c.next_held_in.ensures)) in
    omega (arith, past)

pub loop-range-preserved : goal.loop-range-preserved
loop-range-preserved c = record {
  from =
      let past : c.loop-range.past < c.in-Some.range.num =
      found_above (is_held c.args.customer c.args.service c.args.country) c.loop-range.past
      c.args.self.now.ranges.items (Some c.in-Some.range) (sym c.in-Some.is
      ∙ (rw c.deref.ensures.value at c.next_held_in.ensures)) in
      omega (arith, past, c.loop-range.invariant.from);
  open_since = λ h m.
      let found : find (above (is_held c.args.customer c.args.service c.args.country)
      c.loop-range.past) (ranges_of h) ≡ Some c.in-Some.range =
      ap (find (above (is_held c.args.customer c.args.service c.args.country) c.loop-range.past))
      (sym m.ranges) ∙ sym (rw c.deref.ensures.value at c.next_held_in.ensures)
      ∙ c.in-Some.is in
      c.loop-range.invariant.open_since h m ∙ next_open h c.loop-range.past c.args.customer
      c.args.service c.args.country c.in-Some.range found (sym (c.is_closed.ensures h m)
      ∙ c.if-not-is_closed.false);
}

pub returns-clause-open : goal.returns-clause-open
returns-clause-open c = λ h m.
    let none : find (above (is_held c.args.customer c.args.service c.args.country)
    c.loop-range.past) (ranges_of h) ≡ None =
    ap (find (above (is_held c.args.customer c.args.service c.args.country) c.loop-range.past))
    (sym m.ranges) ∙ sym (rw c.deref.ensures.value at c.next_held_in.ensures)
    ∙ c.in_default.is in
    sym (c.loop-range.invariant.open_since h m ∙ none_open h c.loop-range.past c.args.customer
    c.args.service c.args.country none)

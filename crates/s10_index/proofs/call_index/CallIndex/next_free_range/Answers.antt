use Rattle.std.proofs.Common.{◌≡◌, ◌<◌, ◌∙◌, Some, None, sym, ap, arith}
use Rattle.std.specs.Prelude.{find}
use Rattle.s10_history.specs.History.{ranges_of}
use Rattle.s10_history.proofs.Numbering.{Contains-find}
use Rattle.s10_ranges.specs.Rests.{is_awake_after}
use Rattle.s10_index.proofs.Rested.{awake_found, awake_free, awake_used, awake_none}
use Rattle.s10_index.proofs.call_index.CallIndex.next_free_range.Goals as goal

pub returns-then-is_free : goal.returns-then-is_free
returns-then-is_free c h indexes =
    let found : find (is_awake_after c.args.self.now.ranges.marks.items
    c.args.self.now.rests.list.items c.loop-range.past c.args.held.now.holder
    c.args.held.now.service c.args.held.now.country c.args.day c.args.interval) (ranges_of h)
    ≡ Some c.in-Some.range =
    ap (find (is_awake_after c.args.self.now.ranges.marks.items c.args.self.now.rests.list.items
    c.loop-range.past c.args.held.now.holder c.args.held.now.service c.args.held.now.country
    c.args.day c.args.interval)) (sym indexes.ranges.ranges) ∙ sym c.next_awake_range.ensures
    ∙ c.in-Some.is in
    sym (c.loop-range.invariant h indexes ∙ awake_free h c.args.self.now c.loop-range.past _ _ _ _ _
    c.in-Some.range indexes found (sym (c.is_free.ensures h indexes (Contains-find _ _ _ found))
    ∙ c.if-is_free.true))

pub loop-range-smaller : goal.loop-range-smaller
loop-range-smaller c =
    let past : c.loop-range.past < c.in-Some.range.num =
    (awake_found _ _ _ _ _ _ _ _ c.args.self.now.ranges.ranges.items c.in-Some.range
    (sym c.next_awake_range.ensures ∙ c.in-Some.is)).0 in
    omega (arith, past)

pub loop-range-preserved : goal.loop-range-preserved
loop-range-preserved c h indexes =
    let found : find (is_awake_after c.args.self.now.ranges.marks.items
    c.args.self.now.rests.list.items c.loop-range.past c.args.held.now.holder
    c.args.held.now.service c.args.held.now.country c.args.day c.args.interval) (ranges_of h)
    ≡ Some c.in-Some.range =
    ap (find (is_awake_after c.args.self.now.ranges.marks.items c.args.self.now.rests.list.items
    c.loop-range.past c.args.held.now.holder c.args.held.now.service c.args.held.now.country
    c.args.day c.args.interval)) (sym indexes.ranges.ranges) ∙ sym c.next_awake_range.ensures
    ∙ c.in-Some.is in
    c.loop-range.invariant h indexes ∙ awake_used h c.args.self.now c.loop-range.past _ _ _ _ _
    c.in-Some.range indexes found (sym (c.is_free.ensures h indexes (Contains-find _ _ _ found))
    ∙ c.if-is_free.false)

pub returns : goal.returns
returns c h indexes =
    let found : find (is_awake_after c.args.self.now.ranges.marks.items
    c.args.self.now.rests.list.items c.loop-range.past c.args.held.now.holder
    c.args.held.now.service c.args.held.now.country c.args.day c.args.interval) (ranges_of h)
    ≡ None =
    ap (find (is_awake_after c.args.self.now.ranges.marks.items c.args.self.now.rests.list.items
    c.loop-range.past c.args.held.now.holder c.args.held.now.service c.args.held.now.country
    c.args.day c.args.interval)) (sym indexes.ranges.ranges) ∙ sym c.next_awake_range.ensures
    ∙ c.in_default.is in
    sym (c.loop-range.invariant h indexes ∙ awake_none h c.args.self.now c.loop-range.past _ _ _ _ _
    indexes found)

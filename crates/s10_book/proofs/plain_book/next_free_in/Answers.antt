use Rattle.std.proofs.Common.{◌≡◌, ◌<◌, ◌∙◌, List, sym, ap, Some, true, false, arith}
use Rattle.std.specs.Prelude.{find}
use Rattle.s10_history.specs.declared.entry.Entry.{Entry}
use Rattle.s10_history.specs.History.{ranges_of, is_open}
use Rattle.s10_history.specs.Issues.{candidate_of}
use Rattle.s10_book.specs.Rules.{is_free_after}
use Rattle.s10_history.proofs.Numbering.{above, found_above}
use Rattle.s10_book.proofs.Drawing.{free_further, free_here, free_nowhere, passes_is}
use Rattle.s10_book.proofs.plain_book.next_free_in.Goals as goal

pub returns-then-is_free : goal.returns-then-is_free
returns-then-is_free c =
    let h = c.args.book.now.entries.items in
    let next : c.next_range_in.result
    ≡ find (above (is_open h c.args.held.now.holder c.args.held.now.service
    c.args.held.now.country) c.loop-range.past) (ranges_of h) =
    c.next_range_in.ensures
    ∙ ap (λ (es : List Entry). find (above (is_open es c.args.held.now.holder
    c.args.held.now.service c.args.held.now.country) c.loop-range.past)
    c.deref-in-loop-range.result.now) c.deref.ensures.value
    ∙ ap (find (above (is_open h c.args.held.now.holder c.args.held.now.service
    c.args.held.now.country) c.loop-range.past)) (c.deref-in-loop-range.ensures.value
    ∙ c.args.book.now.granted) in
    sym (c.loop-range.invariant ∙ free_here h _ _ _ _ _ _ _ (sym next ∙ c.in-Some.is)
    (passes_is h c.in-Some.range _ _ _ true
    (c.candidate_in-candidate.ensures ∙ ap (λ (es : List Entry). candidate_of es c.in-Some.range)
    c.deref-in-Some.ensures.value) c.if-is_free.ensures))
    ∙ ap (λ n. find (is_free_after h c.args.after c.args.held.now.holder c.args.held.now.service
    c.args.held.now.country c.args.day n) (ranges_of h)) c.interval-interval.ensures.value

pub loop-range-smaller : goal.loop-range-smaller
loop-range-smaller c =
    let past : c.loop-range.past < c.in-Some.range.num =
    found_above (is_open c.deref.result.now c.args.held.now.holder c.args.held.now.service
    c.args.held.now.country) c.loop-range.past c.deref-in-loop-range.result.now
    (Some c.in-Some.range) (sym c.in-Some.is ∙ c.next_range_in.ensures) in
    omega (arith, past)

pub loop-range-preserved : goal.loop-range-preserved
loop-range-preserved c =
    let h = c.args.book.now.entries.items in
    let next : c.next_range_in.result
    ≡ find (above (is_open h c.args.held.now.holder c.args.held.now.service
    c.args.held.now.country) c.loop-range.past) (ranges_of h) =
    c.next_range_in.ensures
    ∙ ap (λ (es : List Entry). find (above (is_open es c.args.held.now.holder
    c.args.held.now.service c.args.held.now.country) c.loop-range.past)
    c.deref-in-loop-range.result.now) c.deref.ensures.value
    ∙ ap (find (above (is_open h c.args.held.now.holder c.args.held.now.service
    c.args.held.now.country) c.loop-range.past)) (c.deref-in-loop-range.ensures.value
    ∙ c.args.book.now.granted) in
    c.loop-range.invariant ∙ free_further h _ _ _ _ _ _ _ (sym next ∙ c.in-Some.is)
    (passes_is h c.in-Some.range _ _ _ false
    (c.candidate_in-candidate.ensures ∙ ap (λ (es : List Entry). candidate_of es c.in-Some.range)
    c.deref-in-Some.ensures.value) c.if-is_free.ensures)

pub returns : goal.returns
returns c =
    let h = c.args.book.now.entries.items in
    let next : c.next_range_in.result
    ≡ find (above (is_open h c.args.held.now.holder c.args.held.now.service
    c.args.held.now.country) c.loop-range.past) (ranges_of h) =
    c.next_range_in.ensures
    ∙ ap (λ (es : List Entry). find (above (is_open es c.args.held.now.holder
    c.args.held.now.service c.args.held.now.country) c.loop-range.past)
    c.deref-in-loop-range.result.now) c.deref.ensures.value
    ∙ ap (find (above (is_open h c.args.held.now.holder c.args.held.now.service
    c.args.held.now.country) c.loop-range.past)) (c.deref-in-loop-range.ensures.value
    ∙ c.args.book.now.granted) in
    sym (c.loop-range.invariant ∙ free_nowhere h _ _ _ _ _ _ (sym next ∙ c.in_default.is))
    ∙ ap (λ n. find (is_free_after h c.args.after c.args.held.now.holder c.args.held.now.service
    c.args.held.now.country c.args.day n) (ranges_of h)) c.interval-interval.ensures.value

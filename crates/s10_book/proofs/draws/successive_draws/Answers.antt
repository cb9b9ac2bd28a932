use Rattle.std.proofs.Common.{◌≡◌, ℕ, suc, ◌+◌, ◌<◌, List, [], ◌∷◌, ◌++◌, length, length-append}
use Rattle.std.proofs.Common.{sym, ap, ap₂, ◌∙◌, subst, arith, Option, Some}
use Rattle.std.specs.Prelude.{find}
use Rattle.s10_core.specs.declared.id.Id.{Id}
use Rattle.s10_history.specs.declared.entry.Entry.{Entry}
use Rattle.s10_history.specs.declared.range.Range.{Range}
use Rattle.s10_history.specs.History.{ranges_of}
use Rattle.s10_history.specs.Issues.{issues_of, free_pick_of}
use Rattle.s10_book.specs.Rules.{successive_draws, is_free_range, is_free_after}
use Rattle.s10_history.specs.Settings.{Terms}
use Rattle.s10_book.proofs.Calls.{Unchanged-trans}
use Rattle.s10_history.proofs.Numbering.{above}
use Rattle.s10_book.proofs.Taking.{IsAt, drawn_on, given_legal, at_first, at_given, at_next}
use Rattle.s10_book.proofs.Taking.{at_none_given, walked, walked_out, walked_nowhere}
use Rattle.s10_book.proofs.Failing.{untold}
use Rattle.s10_book.proofs.draws.successive_draws.Goals as goal

-- What the book finds is found in the history before the sheet.
next_is : (first h : List Entry) (t u : Terms) (customer : ℕ) (s c : ℕ × ℕ) (day n after : ℕ)
    (o : Option Range) → h ≡ first → u ≡ t → n ≡ t.interval
    → o ≡ find (is_free_after h after customer s c day u.interval) (ranges_of h)
    → find (above (is_free_range first customer s c day n) after) (ranges_of first) ≡ o
next_is first h t u customer s c day n after o history terms interval answer =
    sym (answer
    ∙ ap₂ (λ (l : List Entry) m. find (is_free_after l after customer s c day m) (ranges_of l))
    history (ap (λ (x : Terms). x.interval) terms ∙ sym interval))

pub returns-in_default-clause-answer : goal.returns-in_default-clause-answer
returns-in_default-clause-answer g c = λ h.
    let first = g.B.Book.history c.args.book.now in
    let t = g.B.Book.terms c.args.book.now in
    let h0 = c.next_free_after.ensures.reads.unchanged.was_honest h in
    let e : c.in_ok-range.field-0
    ≡ find (is_free_after first 0 c.args.customer c.args.service c.args.country c.args.day t.interval)
    (ranges_of first) = c.in_ok-range.ensures.answer h in
    walked_nowhere first t c.args.customer c.args.service c.args.country c.args.day t.interval
    c.args.count (g.met.B.Book.legal c.args.book.now h0)
    (omega (arith, c.value-wanted.ensures.value, c.value-wanted.ensures.in_range.0))
    (sym e ∙ c.in_default.is)

pub loop-held-init : goal.loop-held-init
loop-held-init g c =
    let first = g.B.Book.history c.args.book.now in
    let p = is_free_range first c.args.customer c.args.service c.args.country c.args.day
    c.interval-interval.result in
    record {
      faults = c.in_ok-range.ensures.reads.faults;
      unchanged = c.next_free_after.ensures.reads.unchanged;
      interval = λ h. c.interval-interval.ensures.value ∙ ap (λ (t : Terms). t.interval)
          (c.settings.ensures (c.next_free_after.ensures.reads.unchanged.was_honest h));
      few = omega (arith, ap length c.new-picks.ensures);
      fewer = omega arith;
      walk = λ h.
          let h0 = c.next_free_after.ensures.reads.unchanged.was_honest h in
          let t = g.B.Book.terms c.args.book.now in
          let e : c.in_ok-range.field-0
          ≡ find (is_free_after first 0 c.args.customer c.args.service c.args.country c.args.day
          t.interval) (ranges_of first) = c.in_ok-range.ensures.answer h in
          let interval : c.interval-interval.result ≡ t.interval = c.interval-interval.ensures.value
          ∙ ap (λ (t : Terms). t.interval) (c.settings.ensures h0) in
          let found : find (above p 0) (ranges_of first) ≡ Some c.in-Some.range =
          ap (λ n. find (is_free_after first 0 c.args.customer c.args.service c.args.country
          c.args.day n) (ranges_of first)) interval ∙ sym e ∙ c.in-Some.is in
          let P : List Id → Type 0 = λ l. IsAt (ranges_of first) p (drawn_on c.args.day) c.args.day
          c.interval-interval.result (issues_of first) c.value-wanted.result c.in-Some.range 0
          l in
          subst P (sym c.new-picks.ensures)
          (at_first (ranges_of first) p (drawn_on c.args.day) c.args.day c.interval-interval.result
          (issues_of first) c.value-wanted.result c.in-Some.range
          (given_legal first (g.B.Book.terms c.args.book.now) c.args.day c.interval-interval.result
          (g.met.B.Book.legal c.args.book.now h0) c.interval-interval.ensures.range.0) found);
    }

pub loop-held-preserved-in-Some-2 : goal.loop-held-preserved-in-Some-2
loop-held-preserved-in-Some-2 g c =
    let first = g.B.Book.history c.args.book.now in
    let p = is_free_range first c.args.customer c.args.service c.args.country c.args.day
    c.interval-interval.result in
    let few : length c.loop-held.picks < c.value-wanted.result =
    omega (arith, c.len.ensures, c.loop-held-test.true) in
    let one : length c.push.new.self ≡ length c.loop-held.picks + 1 = ap length c.push.ensures
    ∙ length-append c.loop-held.picks (c.in-Some-2.id ∷ []) in
    record {
      faults = c.in_ok-id.ensures.reads.faults ∙ c.loop-held.invariant.faults;
      unchanged = Unchanged-trans c.loop-held.invariant.unchanged c.free_pick.ensures.reads.unchanged;
      interval = λ h. c.loop-held.invariant.interval (c.free_pick.ensures.reads.unchanged.was_honest h);
      few = omega (arith, one, few);
      fewer = omega (arith, one, c.loop-held.invariant.fewer);
      walk = λ h.
          let h0 = c.free_pick.ensures.reads.unchanged.was_honest h in
          let same : g.B.Book.history c.loop-held.book ≡ first =
          c.loop-held.invariant.unchanged.same_history h0 in
          let legal = g.met.B.Book.legal c.args.book.now (c.loop-held.invariant.unchanged.was_honest
          h0) in
          let e : c.in_ok-id.field-0 ≡ free_pick_of first c.loop-held.range c.loop-held.issued
          c.args.day c.interval-interval.result =
          c.in_ok-id.ensures.answer h ∙ ap (λ l. free_pick_of l c.loop-held.range c.loop-held.issued
          c.args.day c.interval-interval.result) same in
          let next : suc c.loop-held.issued ≡ c.loop-held.issued + 1 = omega arith in
          let P : List Id → Type 0 = λ l. IsAt (ranges_of first) p (drawn_on c.args.day) c.args.day
          c.interval-interval.result (issues_of first) c.value-wanted.result c.loop-held.range
          (c.loop-held.issued + 1) l in
          let Q : ℕ → Type 0 = λ k. IsAt (ranges_of first) p (drawn_on c.args.day) c.args.day
          c.interval-interval.result (issues_of first) c.value-wanted.result c.loop-held.range k
          (c.loop-held.picks ++ c.in-Some-2.id ∷ []) in
          subst P (sym c.push.ensures)
          (subst Q next
          (at_given first (g.B.Book.terms c.args.book.now) p c.args.day c.interval-interval.result
          c.value-wanted.result c.loop-held.range c.loop-held.issued c.loop-held.picks
          c.in_ok-id.field-0 c.in-Some-2.id
          legal c.interval-interval.ensures.range.0 few e c.in-Some-2.is
          (c.loop-held.invariant.walk h0)));
    }

pub returns-in_default-3-clause-answer : goal.returns-in_default-3-clause-answer
returns-in_default-3-clause-answer g c = λ h.
    let first = g.B.Book.history c.args.book.now in
    let t = g.B.Book.terms c.args.book.now in
    let p = is_free_range first c.args.customer c.args.service c.args.country c.args.day
    c.interval-interval.result in
    let r = c.loop-held.range in
    let h1 = c.next_free_after-in-loop-held.ensures.reads.unchanged.was_honest h in
    let h0 = c.free_pick.ensures.reads.unchanged.was_honest h1 in
    let same : g.B.Book.history c.loop-held.book ≡ first =
    c.loop-held.invariant.unchanged.same_history h0 in
    let legal = g.met.B.Book.legal c.args.book.now (c.loop-held.invariant.unchanged.was_honest
    h0) in
    let few : length c.loop-held.picks < c.value-wanted.result =
    omega (arith, c.len.ensures, c.loop-held-test.true) in
    let e : c.in_ok-id.field-0 ≡ free_pick_of first c.loop-held.range c.loop-held.issued c.args.day
    c.interval-interval.result =
    c.in_ok-id.ensures.answer h1 ∙ ap (λ l. free_pick_of l c.loop-held.range c.loop-held.issued
    c.args.day c.interval-interval.result) same in
    let walk = c.loop-held.invariant.walk h0 in
    let spent = at_none_given first t p c.args.day c.interval-interval.result c.value-wanted.result
    r c.loop-held.issued c.loop-held.picks c.in_ok-id.field-0 legal
    c.interval-interval.ensures.range.0 e c.in_default-2.is walk in
    let none = next_is first (g.B.Book.history c.free_pick.new.book) t
    (g.B.Book.terms c.free_pick.new.book) c.args.customer c.args.service c.args.country c.args.day
    c.interval-interval.result c.loop-held.range.num c.in_ok-next.field-0
    (c.free_pick.ensures.reads.unchanged.same_history h1 ∙ same)
    (c.free_pick.ensures.reads.unchanged.same_terms h1
    ∙ c.loop-held.invariant.unchanged.same_terms h0) (c.loop-held.invariant.interval h0)
    (c.in_ok-next.ensures.answer h) ∙ c.in_default-3.is in
    walked_out first t c.args.customer c.args.service c.args.country c.args.day
    c.interval-interval.result c.value-wanted.result r c.loop-held.issued c.loop-held.picks
    legal c.interval-interval.ensures.range.0 few spent none walk
    ∙ ap (λ k. successive_draws first c.args.customer c.args.service c.args.country c.args.day
    c.interval-interval.result k) c.value-wanted.ensures.value
    ∙ ap (λ k. successive_draws first c.args.customer c.args.service c.args.country c.args.day k
    c.args.count) (c.loop-held.invariant.interval h0)

pub returns-in_default-3-clause-all : goal.returns-in_default-3-clause-all
returns-in_default-3-clause-all g c = tt

pub loop-held-preserved : goal.loop-held-preserved
loop-held-preserved g c =
    let first = g.B.Book.history c.args.book.now in
    let t = g.B.Book.terms c.args.book.now in
    let p = is_free_range first c.args.customer c.args.service c.args.country c.args.day
    c.interval-interval.result in
    let r = c.loop-held.range in
    record {
      faults = c.in_ok-next.ensures.reads.faults ∙ c.in_ok-id.ensures.reads.faults
          ∙ c.loop-held.invariant.faults;
      unchanged = Unchanged-trans c.loop-held.invariant.unchanged
          (Unchanged-trans c.free_pick.ensures.reads.unchanged
          c.next_free_after-in-loop-held.ensures.reads.unchanged);
      interval = λ h. c.loop-held.invariant.interval (c.free_pick.ensures.reads.unchanged.was_honest
          (c.next_free_after-in-loop-held.ensures.reads.unchanged.was_honest h));
      few = c.loop-held.invariant.few;
      fewer = omega arith;
      walk = λ h.
          let h1 = c.next_free_after-in-loop-held.ensures.reads.unchanged.was_honest h in
          let h0 = c.free_pick.ensures.reads.unchanged.was_honest h1 in
          let same : g.B.Book.history c.loop-held.book ≡ first =
          c.loop-held.invariant.unchanged.same_history h0 in
          let legal = g.met.B.Book.legal c.args.book.now (c.loop-held.invariant.unchanged.was_honest
          h0) in
          let e : c.in_ok-id.field-0 ≡ free_pick_of first c.loop-held.range c.loop-held.issued
          c.args.day c.interval-interval.result =
          c.in_ok-id.ensures.answer h1
          ∙ ap (λ l. free_pick_of l c.loop-held.range c.loop-held.issued c.args.day
          c.interval-interval.result) same in
          let walk = c.loop-held.invariant.walk h0 in
          let spent = at_none_given first t p c.args.day c.interval-interval.result
          c.value-wanted.result r c.loop-held.issued c.loop-held.picks c.in_ok-id.field-0 legal
          c.interval-interval.ensures.range.0 e c.in_default-2.is walk in
          let found = next_is first (g.B.Book.history c.free_pick.new.book) t
          (g.B.Book.terms c.free_pick.new.book) c.args.customer c.args.service c.args.country
          c.args.day c.interval-interval.result c.loop-held.range.num c.in_ok-next.field-0
          (c.free_pick.ensures.reads.unchanged.same_history h1 ∙ same)
          (c.free_pick.ensures.reads.unchanged.same_terms h1
          ∙ c.loop-held.invariant.unchanged.same_terms h0) (c.loop-held.invariant.interval h0)
          (c.in_ok-next.ensures.answer h) ∙ c.in-Some-3.is in
          at_next (ranges_of first) p (drawn_on c.args.day) c.args.day c.interval-interval.result
          (issues_of first) c.value-wanted.result r c.loop-held.issued c.loop-held.picks
          c.in-Some-3.next
          (given_legal first t c.args.day c.interval-interval.result legal
          c.interval-interval.ensures.range.0) spent found walk;
    }

pub ids-requires : goal.ids-requires
ids-requires g c = omega (
  arith,
  c.len.ensures,
  c.loop-held-test.false,
  c.value-wanted.ensures.value,
  c.value-wanted.ensures.in_range.0,
)

pub returns-clause-answer : goal.returns-clause-answer
returns-clause-answer g c = λ h.
    let first = g.B.Book.history c.args.book.now in
    ap Some c.ids.ensures
    ∙ walked first (g.B.Book.terms c.args.book.now) c.args.customer c.args.service c.args.country c.args.day
    c.interval-interval.result c.value-wanted.result c.loop-held.range c.loop-held.issued
    c.loop-held.picks
    (g.met.B.Book.legal c.args.book.now (c.loop-held.invariant.unchanged.was_honest h))
    (omega (arith, c.len.ensures, c.loop-held-test.false)) (c.loop-held.invariant.walk h)
    ∙ ap (λ k. successive_draws first c.args.customer c.args.service c.args.country c.args.day
    c.interval-interval.result k) c.value-wanted.ensures.value
    ∙ ap (λ k. successive_draws first c.args.customer c.args.service c.args.country c.args.day k
    c.args.count) (c.loop-held.invariant.interval h)

pub returns-in_err-range-clause-unchanged : goal.returns-in_err-range-clause-unchanged
returns-in_err-range-clause-unchanged g c = c.next_free_after.ensures.reads.unchanged

pub returns-in_err-range-clause-answer : goal.returns-in_err-range-clause-answer
returns-in_err-range-clause-answer g c = λ h. untold _ _ c.from_residual.result
    c.from_residual.ensures.1

pub returns-in_err-range-clause-all : goal.returns-in_err-range-clause-all
returns-in_err-range-clause-all g c = untold _ _ c.from_residual.result c.from_residual.ensures.1

pub returns-in_default-clause-faults : goal.returns-in_default-clause-faults
returns-in_default-clause-faults g c = c.in_ok-range.ensures.reads.faults

pub returns-in_default-clause-unchanged : goal.returns-in_default-clause-unchanged
returns-in_default-clause-unchanged g c = c.next_free_after.ensures.reads.unchanged

pub returns-in_default-clause-all : goal.returns-in_default-clause-all
returns-in_default-clause-all g c = tt

pub free_pick-requires : goal.free_pick-requires
free_pick-requires g c = λ h. rw (c.loop-held.invariant.unchanged.same_history h)
    ((c.loop-held.invariant.walk h).there)

pub returns-in_err-id-clause-unchanged : goal.returns-in_err-id-clause-unchanged
returns-in_err-id-clause-unchanged g c = Unchanged-trans c.loop-held.invariant.unchanged
    c.free_pick.ensures.reads.unchanged

pub returns-in_err-id-clause-answer : goal.returns-in_err-id-clause-answer
returns-in_err-id-clause-answer g c = λ h. untold _ _ c.from_residual-in_err-id.result
    c.from_residual-in_err-id.ensures.1

pub returns-in_err-id-clause-all : goal.returns-in_err-id-clause-all
returns-in_err-id-clause-all g c = untold _ _ c.from_residual-in_err-id.result
    c.from_residual-in_err-id.ensures.1

pub returns-in_err-next-clause-unchanged : goal.returns-in_err-next-clause-unchanged
returns-in_err-next-clause-unchanged g c = Unchanged-trans c.loop-held.invariant.unchanged
    (Unchanged-trans c.free_pick.ensures.reads.unchanged c.next_free_after-in-loop-held.ensures.reads.unchanged)

pub returns-in_err-next-clause-answer : goal.returns-in_err-next-clause-answer
returns-in_err-next-clause-answer g c = λ h. untold _ _ c.from_residual-in_err-next.result
    c.from_residual-in_err-next.ensures.1

pub returns-in_err-next-clause-all : goal.returns-in_err-next-clause-all
returns-in_err-next-clause-all g c = untold _ _ c.from_residual-in_err-next.result
    c.from_residual-in_err-next.ensures.1

pub returns-in_default-3-clause-faults : goal.returns-in_default-3-clause-faults
returns-in_default-3-clause-faults g c = c.in_ok-next.ensures.reads.faults ∙ c.in_ok-id.ensures.reads.faults
    ∙ c.loop-held.invariant.faults

pub returns-in_default-3-clause-unchanged : goal.returns-in_default-3-clause-unchanged
returns-in_default-3-clause-unchanged g c = Unchanged-trans c.loop-held.invariant.unchanged
    (Unchanged-trans c.free_pick.ensures.reads.unchanged c.next_free_after-in-loop-held.ensures.reads.unchanged)

pub returns-clause-faults : goal.returns-clause-faults
returns-clause-faults g c = c.loop-held.invariant.faults

pub returns-clause-unchanged : goal.returns-clause-unchanged
returns-clause-unchanged g c = c.loop-held.invariant.unchanged

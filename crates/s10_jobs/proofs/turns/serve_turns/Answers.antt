use Rattle.std.proofs.Common.{rules, ◌≡◌, ◌≤◌, ◌<◌, ◌+◌, ℕ, [], ◌∷◌, length, arith, subst, Some, None}
use Rattle.std.specs.Prelude.{Bool}
use Rattle.s10_link.specs.Link.LeadsTo.{none}
use Rattle.s10_link.proofs.Led.{led_on}
use Rattle.s10_ends.specs.Composed.{IsBatch}
use Rattle.s10_jobs.proofs.Turning.{none_served, batch_served, batch_unprinted, next_as}
use Rattle.s10_jobs.proofs.Turning.{all_served, served_to_end, served_to_no_day, none_is_none, as_one}
use Rattle.s10_jobs.proofs.Turning.{served_link}
use Rattle.s10_jobs.proofs.turns.serve_turns.Goals.{in-Ok+in_ok-print_turns-in-Ok, in-Err+in_ok-print_turns-in-Err}
use Rattle.s10_jobs.proofs.turns.serve_turns.Goals as goal

pub loop-done-init : goal.loop-done-init
loop-done-init g c = record {
  few = omega arith;
  served = none_served _ _ g.D.Days.gives c.args.options.day g.E.Ending.says
      (g.L.Link.trace_of c.args.link.now, c.args.server.now.book) c.args.days.now c.args.ends.now c.args.options.senders
      (g.W.Write.contents c.args.out.now);
  led = none;
}

-- What begins in a state begins in the same state.
begun_alike : {T B : Type 0} (Is : T × B → Type 0) (t u : T) (b d : B) → u ≡ t → d ≡ b → Is (u, d)
    → Is (t, b)
begun_alike Is t u b d first second is =
    subst (λ x. Is (x, b)) first (subst (λ x. Is (u, x)) second is)

one_fits : (done count : ℕ) → done < count → done + 1 ≤ count
one_fits done count more = omega (arith, more)

fits_in : (done count most turns : ℕ) → done + most ≤ count → turns ≤ most → done + turns ≤ count
fits_in done count most turns room few = omega (arith, room, few)

pub returns-in_err-print_turns-in-Ok-clause-turns : goal.returns-in_err-print_turns-in-Ok-clause-turns
returns-in_err-print_turns-in-Ok-clause-turns g c =
    let next = next_as g.B.Book.honest g.B.Book.history g.D.Days.gives c.args.options
    c.book.result.now c.loop-done.server.book c.day_of_batch.result (Some c.in-Some.today)
    c.loop-done.days c.day_of_batch.new.days c.book.ensures c.in-Some.is c.day_of_batch.ensures.next in
    as_one _ _ _ _ _ _ _ g.met.B.Book.legal g.met.B.Book.first g.met.B.Book.found g.D.Days.gives
    c.args.options g.E.Ending.says _ _ _ _ _ _ _ _ _
    (batch_unprinted _ _ _ g.D.Days.gives c.args.options.day g.E.Ending.says _ _ _ _ _ _ _ _ _ _ _ _ _
    c.loop-done.done c.args.options.count
    c.loop-done.invariant.served
    (record {
      day = c.in-Some.today;
      taken = c.serve_batch.new.room.taken.items;
      turns = c.serve_batch.new.room.turns.items;
    }) c.from_residual.result _
    c.from_residual.ensures.1
    (subst (λ (b : Bool). g.E.Ending.says c.loop-done.ends b c.is_due.new.self) c.if-is_due.false
    c.is_due.ensures)
    (c.min-most.result, c.in-Ok.ensures.served)
    next.0 next.1
    (fits_in c.loop-done.done c.args.options.count c.min-most.result (length c.serve_batch.new.room.turns.items)
    (let few = c.min-most.ensures in let test = c.loop-done-test.true in grind arith)
    c.in-Ok.ensures.few))

pub returns-in_err-print_turns-in-Err-clause-turns : goal.returns-in_err-print_turns-in-Err-clause-turns
returns-in_err-print_turns-in-Err-clause-turns g c =
    let next = next_as g.B.Book.honest g.B.Book.history g.D.Days.gives c.args.options
    c.book.result.now c.loop-done.server.book c.day_of_batch.result (Some c.in-Some.today)
    c.loop-done.days c.day_of_batch.new.days c.book.ensures c.in-Some.is c.day_of_batch.ensures.next in
    as_one _ _ _ _ _ _ _ g.met.B.Book.legal g.met.B.Book.first g.met.B.Book.found g.D.Days.gives
    c.args.options g.E.Ending.says _ _ _ _ _ _ _ _ _
    (batch_unprinted _ _ _ g.D.Days.gives c.args.options.day g.E.Ending.says _ _ _ _ _ _ _ _ _ _ _ _ _
    c.loop-done.done c.args.options.count
    c.loop-done.invariant.served
    (record {
      day = c.in-Some.today;
      taken = c.serve_batch_of_one-turn.ensures.served.0;
      turns = c.serve_batch_of_one-turn.result ∷ [];
    })
    c.from_residual-in_err-print_turns-in-Err.result _
    c.from_residual-in_err-print_turns-in-Err.ensures.1
    (subst (λ (b : Bool). g.E.Ending.says c.loop-done.ends b c.is_due.new.self) c.if-is_due.false
    c.is_due.ensures)
    (begun_alike (λ at. IsBatch g.B.Book.faults g.B.Book.honest g.B.Book.terms g.B.Book.history
    g.B.Book.committed g.B.Book.clean g.B.Book.may_find at
    (record {
      day = c.in-Some.today;
      taken = c.serve_batch_of_one-turn.ensures.served.0;
      turns = c.serve_batch_of_one-turn.result ∷ [];
    }) (
      g.L.Link.trace_of c.serve_batch_of_one-turn.new.link,
      c.serve_batch_of_one-turn.new.server.book,
    )) _ _ _ _ c.in-Err.ensures.refused.0 c.in-Err.ensures.refused.1
    (1, c.serve_batch_of_one-turn.ensures.served.1))
    next.0 next.1
    (one_fits c.loop-done.done c.args.options.count c.loop-done-test.true))

pub returns-in_err-print_turns-in-Ok-clause-led : goal.returns-in_err-print_turns-in-Ok-clause-led
returns-in_err-print_turns-in-Ok-clause-led g c =
    led_on c.loop-done.invariant.led c.in-Ok.ensures.led

pub returns-in_err-print_turns-in-Err-clause-led : goal.returns-in_err-print_turns-in-Err-clause-led
returns-in_err-print_turns-in-Err-clause-led g c =
    led_on c.loop-done.invariant.led (led_on c.in-Err.ensures.led c.serve_batch_of_one-turn.ensures.led)

pub loop-done-preserved : goal.loop-done-preserved
loop-done-preserved g c =
    let next = next_as g.B.Book.honest g.B.Book.history g.D.Days.gives c.args.options
    c.book.result.now c.loop-done.server.book c.day_of_batch.result (Some c.in-Some.today)
    c.loop-done.days c.day_of_batch.new.days c.book.ensures c.in-Some.is c.day_of_batch.ensures.next in
    elim c.match-serve_batch.branch [
      | in-Ok+in_ok-print_turns-in-Ok w ↦
          let turns = c.serve_batch.new.room.turns.items in
          rw (w.done-is, w.out-is, w.link-is, w.server-is, w.turns-turns.ensures) (record {
            few = fits_in c.loop-done.done c.args.options.count c.min-most.result (length turns)
                (let few = c.min-most.ensures in let test = c.loop-done-test.true in grind arith)
                w.in-Ok.ensures.few;
            served = batch_served _ _ (λ s day. ⊥) g.D.Days.gives c.args.options.day g.E.Ending.says _ _ _ _ _ _ _ _ _ _ _ _ _
                c.loop-done.done c.args.options.count c.loop-done.invariant.served
                (record {
                  day = c.in-Some.today;
                  taken = c.serve_batch.new.room.taken.items;
                  turns = turns;
                })
                (subst (λ (b : Bool). g.E.Ending.says c.loop-done.ends b c.is_due.new.self) c.if-is_due.false
                c.is_due.ensures)
                (c.min-most.result, w.in-Ok.ensures.served)
                next.0 next.1
                (rw w.turns-turns.ensures at w.in_ok-print_turns-in-Ok.ensures);
            led = led_on c.loop-done.invariant.led w.in-Ok.ensures.led;
          })
      | in-Err+in_ok-print_turns-in-Err w ↦
          rw (w.done-is, w.out-is, w.link-is, w.server-is) (record {
            few = one_fits c.loop-done.done c.args.options.count c.loop-done-test.true;
            served = batch_served _ _ (λ s day. ⊥) g.D.Days.gives c.args.options.day g.E.Ending.says _ _ _ _ _ _ _ _ _ _ _ _ _
                c.loop-done.done c.args.options.count c.loop-done.invariant.served
                (record {
                  day = c.in-Some.today;
                  taken = w.serve_batch_of_one-turn.ensures.served.0;
                  turns = w.serve_batch_of_one-turn.result ∷ [];
                })
                (subst (λ (b : Bool). g.E.Ending.says c.loop-done.ends b c.is_due.new.self) c.if-is_due.false
                c.is_due.ensures)
                (begun_alike (λ at. IsBatch g.B.Book.faults g.B.Book.honest g.B.Book.terms
                g.B.Book.history g.B.Book.committed g.B.Book.clean g.B.Book.may_find at
                (record {
                  day = c.in-Some.today;
                  taken = w.serve_batch_of_one-turn.ensures.served.0;
                  turns = w.serve_batch_of_one-turn.result ∷ [];
                }) (
                  g.L.Link.trace_of w.serve_batch_of_one-turn.new.link,
                  w.serve_batch_of_one-turn.new.server.book,
                )) _ _ _ _ w.in-Err.ensures.refused.0 w.in-Err.ensures.refused.1
                (1, w.serve_batch_of_one-turn.ensures.served.1))
                next.0 next.1
                w.in_ok-print_turns-in-Err.ensures;
            led = led_on c.loop-done.invariant.led (led_on w.in-Err.ensures.led
                w.serve_batch_of_one-turn.ensures.led);
          })
    ]

pub overflow_add-done : goal.overflow_add-done
overflow_add-done c = search rules

all_done : (done count : ℕ) → done ≤ count → count ≤ done → done ≡ count
all_done done count few past = omega (arith, few, past)

pub returns-clause-turns : goal.returns-clause-turns
returns-clause-turns g c =
    as_one _ _ _ _ _ _ _ g.met.B.Book.legal g.met.B.Book.first g.met.B.Book.found g.D.Days.gives
    c.args.options g.E.Ending.says _ _ _ _ _ _ _ _ _
    (all_served _ _ _ g.D.Days.gives c.args.options.day g.E.Ending.says _ _
    (g.L.Link.trace_of c.loop-done.link, c.loop-done.server.book) _ _ c.loop-done.days _ _
    c.loop-done.ends _ _ _ (g.W.Write.contents c.loop-done.out) c.loop-done.done c.args.options.count
    c.loop-done.invariant.served
    (all_done c.loop-done.done c.args.options.count c.loop-done.invariant.few c.loop-done-test.false))

pub returns-then-is_due-clause-turns : goal.returns-then-is_due-clause-turns
returns-then-is_due-clause-turns g c =
    as_one _ _ _ _ _ _ _ g.met.B.Book.legal g.met.B.Book.first g.met.B.Book.found g.D.Days.gives
    c.args.options g.E.Ending.says _ _ _ _ _ _ _ _ _
    (served_to_end _ _ _ g.D.Days.gives c.args.options.day g.E.Ending.says _ _
    (g.L.Link.trace_of c.loop-done.link, c.loop-done.server.book) _ _ c.loop-done.days _ _ _ _ _ _
    (g.W.Write.contents c.loop-done.out) c.loop-done.done c.args.options.count
    c.loop-done.invariant.served c.loop-done-test.true
    (subst (λ (b : Bool). g.E.Ending.says c.loop-done.ends b c.is_due.new.self) c.if-is_due.true
    c.is_due.ensures))

pub returns-in_default-clause-turns : goal.returns-in_default-clause-turns
returns-in_default-clause-turns g c =
    as_one _ _ _ _ _ _ _ g.met.B.Book.legal g.met.B.Book.first g.met.B.Book.found g.D.Days.gives
    c.args.options g.E.Ending.says _ _ _ _ _ _ _ _ _
    (served_to_no_day _ _ _ g.D.Days.gives c.args.options.day g.E.Ending.says _ _
    (g.L.Link.trace_of c.loop-done.link, c.loop-done.server.book) _ _ _ _ _ _ _ _ _ _
    c.loop-done.done c.args.options.count
    c.loop-done.invariant.served c.fail_by_clock.result c.loop-done-test.true
    (subst (λ (b : Bool). g.E.Ending.says c.loop-done.ends b c.is_due.new.self) c.if-is_due.false
    c.is_due.ensures)
    (λ day. none_is_none c.day_of_batch.result c.in_default.is (c.day_of_batch.ensures.given day))
    (next_as g.B.Book.honest g.B.Book.history g.D.Days.gives c.args.options c.book.result.now
    c.loop-done.server.book c.day_of_batch.result None c.loop-done.days c.day_of_batch.new.days
    c.book.ensures c.in_default.is c.day_of_batch.ensures.next)
    c.fail_by_clock.ensures)

pub returns-in_err-print_turns-in-Ok-clause-served : goal.returns-in_err-print_turns-in-Ok-clause-served
returns-in_err-print_turns-in-Ok-clause-served g c =
    served_link _ _ _ _ _ _ _ g.met.B.Book.legal _ _ _ _ _ _ _ _ _ _ _ _ (returns-in_err-print_turns-in-Ok-clause-turns g c)

pub returns-in_err-print_turns-in-Err-clause-served : goal.returns-in_err-print_turns-in-Err-clause-served
returns-in_err-print_turns-in-Err-clause-served g c =
    served_link _ _ _ _ _ _ _ g.met.B.Book.legal _ _ _ _ _ _ _ _ _ _ _ _ (returns-in_err-print_turns-in-Err-clause-turns g c)

pub returns-clause-served : goal.returns-clause-served
returns-clause-served g c =
    served_link _ _ _ _ _ _ _ g.met.B.Book.legal _ _ _ _ _ _ _ _ _ _ _ _ (returns-clause-turns g c)

pub returns-then-is_due-clause-served : goal.returns-then-is_due-clause-served
returns-then-is_due-clause-served g c =
    served_link _ _ _ _ _ _ _ g.met.B.Book.legal _ _ _ _ _ _ _ _ _ _ _ _ (returns-then-is_due-clause-turns g c)

pub returns-in_default-clause-served : goal.returns-in_default-clause-served
returns-in_default-clause-served g c =
    served_link _ _ _ _ _ _ _ g.met.B.Book.legal _ _ _ _ _ _ _ _ _ _ _ _ (returns-in_default-clause-turns g c)

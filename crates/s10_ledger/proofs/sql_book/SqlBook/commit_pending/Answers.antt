use Rattle.std.proofs.Common.{◌++◌, arith, refl}
use Rattle.sqlite.specs.State.{HasCleanDisk}
use Rattle.sqlite.specs.Held.{state}
use Rattle.s10_ledger.specs.Ledger.{history_in}
use Rattle.s10_ledger.specs.Pending.{calls_of}
use Rattle.s10_ledger.proofs.BookLemmas.{if_answered, may_find_also}
use Rattle.s10_ledger.proofs.PendingLemmas.{sound_after_write, same_after_write, sound_is_honest}
use Rattle.s10_ledger.proofs.PendingLemmas.{calls_if_emptied, unwritten_history, written_in}
use Rattle.s10_ledger.proofs.PendingLemmas.{grows_after_write, honest_if_ok, ledger_of}
use Rattle.s10_statements.proofs.CrashLemmas.{either}
use Rattle.s10_ledger.proofs.sql_book.SqlBook.commit_pending.Goals as goal

pub invariant_of-self : goal.invariant_of-self
invariant_of-self g c =
    let w = c.commit_calls-written.ensures in
    sound_after_write g.S.Store c.self.inside.conn c.commit_calls-written.new.conn
    c.self.inside.settings c.self.inside.index c.self.inside.pending.items
    c.commit_calls-written.new.pending.items c.self.inside.answered c.is_ok-answered.result
    c.self.invariant w.settled w.clean w.was_open
    (λ so clean. if_answered c.commit_calls-written.result _ c.is_ok-answered.result
    c.is_ok-answered.ensures.value (w.opened clean) so)
    c.commit_calls-written.result w.ok w.err w.emptied w.left

pub returns-clause-unchanged : goal.returns-clause-unchanged
returns-clause-unchanged g c =
    let w = c.commit_calls-written.ensures in
    rw (← c.self.view_is) (record {
      was_honest = λ h. sound_is_honest g.S.Store c.self.inside.conn c.self.inside.settings
          c.self.inside.index c.self.inside.pending.items c.self.inside.answered
          c.self.inside.faults c.self.invariant
          (omega (arith, w.clean, h.clean)) (w.was_open h.clean h.is_open);
      same_history = λ h. same_after_write g.S.Store c.self.inside.conn
          c.commit_calls-written.new.conn c.self.inside.settings c.self.inside.index
          c.self.inside.pending.items c.commit_calls-written.new.pending.items
          c.self.inside.answered c.is_ok-answered.result
          c.self.invariant w.settled w.clean w.was_open
          (λ so clean. if_answered c.commit_calls-written.result _ c.is_ok-answered.result
          c.is_ok-answered.ensures.value (w.opened clean) so)
          c.commit_calls-written.result w.ok w.err w.emptied w.left h.clean h.is_open;
      same_terms = λ h. refl;
      stays_committed = λ h. grows_after_write g.S.Store c.self.inside.conn
          c.commit_calls-written.new.conn c.self.inside.settings c.self.inside.index
          c.self.inside.pending.items c.commit_calls-written.new.pending.items
          c.self.inside.answered c.is_ok-answered.result
          c.self.invariant w.settled w.clean w.was_open
          (λ so clean. if_answered c.commit_calls-written.result _ c.is_ok-answered.result
          c.is_ok-answered.ensures.value (w.opened clean) so)
          c.commit_calls-written.result w.ok w.err h.clean h.is_open;
      stop = may_find_also g.S.Store (ledger_of c.self.inside.conn c.self.inside.settings
          c.self.inside.index c.self.inside.pending.items c.self.inside.faults)
          (ledger_of c.commit_calls-written.new.conn c.self.inside.settings c.self.inside.index
          c.commit_calls-written.new.pending.items c.counted.new.faults)
          (history_in (state g.S.Store c.self.inside.conn).now
          ++ calls_of c.self.inside.pending.items) w.clean refl
          (λ clean db left.
          let was_clean : HasCleanDisk (state g.S.Store c.self.inside.conn) =
          omega (arith, w.clean, clean) in
          let was_open = (rw (← c.self.view_is) at c.requires) was_clean in
          either (w.crash clean db left) (λ left. left) (λ made. (
            sound_is_honest g.S.Store c.self.inside.conn c.self.inside.settings
                c.self.inside.index c.self.inside.pending.items c.self.inside.answered
                c.self.inside.faults c.self.invariant was_clean was_open,
            written_in g.S.Store c.self.inside.conn c.self.inside.settings c.self.inside.index
                c.self.inside.pending.items c.self.inside.answered db c.self.invariant was_clean
                was_open made,
          )));
    })

pub returns-clause-left : goal.returns-clause-left
returns-clause-left g c = rw (c.counted.ensures.same, ← c.self.view_is)
    (λ h. unwritten_history (state g.S.Store c.self.inside.conn).now
    (state g.S.Store c.commit_calls-written.new.conn).now c.commit_calls-written.result
    (c.commit_calls-written.ensures.err h.clean h.is_open))

pub returns-clause-none_pending : goal.returns-clause-none_pending
returns-clause-none_pending g c =
    rw c.counted.ensures.same (calls_if_emptied c.commit_calls-written.result
    c.commit_calls-written.new.pending.items c.commit_calls-written.ensures.emptied)

pub returns-clause-opened : goal.returns-clause-opened
returns-clause-opened g c = rw c.counted.ensures.same (honest_if_ok g.S.Store
    c.commit_calls-written.new.conn c.self.inside.settings c.self.inside.index
    c.commit_calls-written.new.pending.items c.is_ok-answered.result c.counted.new.faults
    c.commit_calls-written.result (invariant_of-self g c) c.commit_calls-written.ensures.opened)

use Rattle.std.proofs.Common.{◌≡◌, ◌∙◌, ℕ, OnOk, length, min, drop, ap, subst, arith}
use Rattle.std.proofs.lemmas.List.{length-map}
use Rattle.s10_rows.specs.declared.call_write.CallWrite.{CallWrite}
use Rattle.s10_ledger.specs.Pending.{calls_of}
use Rattle.s10_ledger.proofs.BookLemmas.{if_answered}
use Rattle.s10_ledger.proofs.PendingLemmas.{honest_if_ok, calls_if_left}
use Rattle.s10_ledger.proofs.PortionLemmas.{sound_after_first, first_commits, calls_dropped}
use Rattle.s10_ledger.proofs.sql_book.SqlBook.write_first.Goals as goal

pub invariant_of-self : goal.invariant_of-self
invariant_of-self g c =
    let w = c.commit_first-written.ensures in
    sound_after_first g.S.Store c.self.inside.conn c.commit_first-written.new.conn
    c.self.inside.settings c.self.inside.index c.self.inside.pending.items
    c.commit_first-written.new.pending.items c.min-count.result c.self.inside.answered
    c.is_ok-answered.result c.commit_first-written.result c.self.invariant w.settled w.clean
    w.was_open
    (λ so clean. if_answered c.commit_first-written.result _ c.is_ok-answered.result
    c.is_ok-answered.ensures.value (w.opened clean) so)
    w.ok w.err w.rest w.left

pub returns-clause-commits_some : goal.returns-clause-commits_some
returns-clause-commits_some g c =
    let w = c.commit_first-written.ensures in
    rw (← c.self.view_is) (first_commits g.S.Store c.self.inside.conn
    c.commit_first-written.new.conn c.self.inside.settings c.self.inside.index
    c.self.inside.pending.items c.commit_first-written.new.pending.items c.min-count.result
    c.self.inside.answered c.is_ok-answered.result c.commit_first-written.result c.self.invariant
    w.settled w.clean w.was_open
    (λ so clean. if_answered c.commit_first-written.result _ c.is_ok-answered.result
    c.is_ok-answered.ensures.value (w.opened clean) so)
    w.ok w.err w.rest w.left c.self.inside.faults c.self.inside.faults
    (rw (← c.self.view_is) at c.requires) w.crash)

pub returns-clause-opened : goal.returns-clause-opened
returns-clause-opened g c = honest_if_ok g.S.Store c.commit_first-written.new.conn
    c.self.inside.settings c.self.inside.index c.commit_first-written.new.pending.items
    c.is_ok-answered.result c.self.inside.faults c.commit_first-written.result
    (invariant_of-self g c) c.commit_first-written.ensures.opened

pub returns-clause-rest : goal.returns-clause-rest
returns-clause-rest g c =
    let old = calls_of c.self.inside.pending.items in
    let len : c.len.result ≡ length old =
    omega (
      arith,
      c.len.ensures,
      c.self.inside.pending.ok.0,
      length-map c.self.inside.pending.items (λ (w : CallWrite). w.entry),
    ) in
    rw (← c.self.view_is) (subst (λ (k : ℕ). OnOk c.commit_first-written.result
    (calls_of c.commit_first-written.new.pending.items ≡ drop k old))
    (c.min-count.ensures ∙ ap (λ (k : ℕ). min c.args.most k) len)
    (calls_dropped c.commit_first-written.result c.min-count.result c.self.inside.pending.items
    c.commit_first-written.new.pending.items c.commit_first-written.ensures.rest))

pub returns-clause-left : goal.returns-clause-left
returns-clause-left g c = rw (← c.self.view_is) (calls_if_left c.commit_first-written.result
    c.self.inside.pending.items c.commit_first-written.new.pending.items
    c.commit_first-written.ensures.left)

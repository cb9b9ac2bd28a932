use Rattle.std.proofs.Common.{rules, sym, subst, ◌∙◌}
use Rattle.std.proofs.lemmas.Result.{on_ok_weaker}
use Rattle.sqlite.specs.Effect.{Database}
use Rattle.sqlite.specs.Held.{state}
use Rattle.s10_statements.specs.Shown.{HasTables}
use Rattle.s10_statements.proofs.CrashLemmas.{either, tables_left}
use Rattle.s10_statements.proofs.TransactionLemmas.{committed, undone}
use Rattle.s10_statements.proofs.writes.commit_rows.Goals as goal

pub returns-clause-settled : goal.returns-clause-settled
returns-clause-settled g c = search rules

pub returns-clause-opened : goal.returns-clause-opened
returns-clause-opened g c =
    let it = committed {old = c.args.conn.now} {end = c.commit.new.self.0}
    c.transaction-tx.ensures.begun c.in_ok-insert_calls.ensures c.commit.ensures.survives
    c.commit.ensures.ended c.commit.ensures.ok c.commit.ensures.err in
    rw (c.conn-2-1.given.1
    (sym (c.insert_calls.ensures.same_reference ∙ c.transaction-tx.ensures.same_reference)))
    it.opened

pub returns-clause-all : goal.returns-clause-all
returns-clause-all g c =
    let it = committed {old = c.args.conn.now} {end = c.commit.new.self.0}
    c.transaction-tx.ensures.begun c.in_ok-insert_calls.ensures c.commit.ensures.survives
    c.commit.ensures.ended c.commit.ensures.ok c.commit.ensures.err in
    rw (c.conn-2-1.given.1
    (sym (c.insert_calls.ensures.same_reference ∙ c.transaction-tx.ensures.same_reference)))
    (λ clean. on_ok_weaker c.commit.result (λ out before after are held. subst
    (λ (d : Database). HasTables d after) (sym out.0)
    (out.1.1 before after are (rw c.transaction-tx.ensures.begun held))) (it.done clean))

pub returns-clause-none : goal.returns-clause-none
returns-clause-none g c =
    let it = committed {old = c.args.conn.now} {end = c.commit.new.self.0}
    c.transaction-tx.ensures.begun c.in_ok-insert_calls.ensures c.commit.ensures.survives
    c.commit.ensures.ended c.commit.ensures.ok c.commit.ensures.err in
    rw (c.conn-2-1.given.1
    (sym (c.insert_calls.ensures.same_reference ∙ c.transaction-tx.ensures.same_reference)))
    (it.none c.requires.settled.committed)

pub returns-clause-was_open : goal.returns-clause-was_open
returns-clause-was_open g c =
    let it = committed {old = c.args.conn.now} {end = c.commit.new.self.0}
    c.transaction-tx.ensures.begun c.in_ok-insert_calls.ensures c.commit.ensures.survives
    c.commit.ensures.ended c.commit.ensures.ok c.commit.ensures.err in
    rw (c.conn-2-1.given.1
    (sym (c.insert_calls.ensures.same_reference ∙ c.transaction-tx.ensures.same_reference)))
    it.was_open

pub returns-clause-clean : goal.returns-clause-clean
returns-clause-clean g c =
    let it = committed {old = c.args.conn.now} {end = c.commit.new.self.0}
    c.transaction-tx.ensures.begun c.in_ok-insert_calls.ensures c.commit.ensures.survives
    c.commit.ensures.ended c.commit.ensures.ok c.commit.ensures.err in
    rw (c.conn-2-1.given.1
    (sym (c.insert_calls.ensures.same_reference ∙ c.transaction-tx.ensures.same_reference)))
    it.clean

pub returns-clause-crash : goal.returns-clause-crash
returns-clause-crash g c =
    let it = committed {old = c.args.conn.now} {end = c.commit.new.self.0}
    c.transaction-tx.ensures.begun c.in_ok-insert_calls.ensures c.commit.ensures.survives
    c.commit.ensures.ended c.commit.ensures.ok c.commit.ensures.err in
    rw (c.conn-2-1.given.1
    (sym (c.insert_calls.ensures.same_reference ∙ c.transaction-tx.ensures.same_reference)))
    (λ clean db left. either (it.crash clean db left) (λ same. same) (λ out. (
      λ some. rw c.transaction-tx.ensures.begun at (out.1.0 some),
      λ before after are held. tables_left (state g.S.Store c.insert_calls.new.tx.conn.now).now
          c.args.conn.now.schema db after held.schema out.0
          (out.1.1 before after are (rw c.transaction-tx.ensures.begun held)),
    )))

pub returns-in_err-insert_calls : goal.returns-in_err-insert_calls
returns-in_err-insert_calls g c =
    let it = undone {old = c.args.conn.now} {end = c.drop-tx.new.self.0} _
    c.transaction-tx.ensures.begun c.insert_calls.ensures
    c.from_residual.ensures.1 c.drop-tx.ensures.ended
    c.drop-tx.ensures.undone c.drop-tx.ensures.survives in
    rw (c.conn-1.given.1
    (sym (c.insert_calls.ensures.same_reference ∙ c.transaction-tx.ensures.same_reference)))
    (record {
      settled = it.settled;
      opened = it.opened;
      all = λ clean. on_ok_weaker c.from_residual.result (λ out. absurd out.1) (it.done clean);
      none = it.none c.requires.settled.committed;
      was_open = it.was_open;
      clean = it.clean;
      crash = λ clean db left. either (it.crash clean db left) (λ same. same) (λ out. absurd out.1);
    })

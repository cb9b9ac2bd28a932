use Rattle.std.proofs.Common.{refl, sym, arith}
use Rattle.std.proofs.lemmas.Result.{IfOk-weaker}
use Rattle.sqlite.specs.Held.{state}
use Rattle.sqlite.specs.State.{HasCleanDisk}
use Rattle.sqlite.specs.Values.{bound}
use Rattle.s10_statements.proofs.StateLemmas.{read_open, read_same, read_settled, shown_opened}
use Rattle.s10_statements.proofs.CrashLemmas.{first, commits_none}
use Rattle.s10_statements.proofs.reads.read.Goals as goal

pub returns-clause-leaves : goal.returns-clause-leaves
returns-clause-leaves g c =
    let old = state g.S.Store c.args.conn.now in
    let new = state g.S.Store c.query_all.new.self in
    let before : HasCleanDisk new → HasCleanDisk old =
    λ clean. omega (arith, c.query_all.ensures.survives.clean, clean) in
    record {
      clean = c.query_all.ensures.survives.clean;
      was_open = λ clean opened. read_open (λ rows. rows.items) c.args.sql.now
          (bound c.args.params.now) old new c.query_all.result (c.query_all.ensures.ok clean)
          (c.query_all.ensures.err clean) opened;
      now = λ clean opened settled plain. read_same (λ rows. rows.items) c.args.sql.now
          (bound c.args.params.now) old new c.query_all.result (c.query_all.ensures.ok clean)
          (c.query_all.ensures.err clean)
          old.now.schema plain refl (λ was. sym (settled.committed (before clean) was)) opened;
      settled = λ settled. record {
        idle = c.query_all.ensures.mode settled.idle;
        committed = λ clean opened. read_settled (λ rows. rows.items) c.args.sql.now
            (bound c.args.params.now) old new c.query_all.result (c.query_all.ensures.ok clean)
            (c.query_all.ensures.err clean)
            settled.idle (settled.committed (before clean)) opened;
      };
    }

pub returns-clause-opened : goal.returns-clause-opened
returns-clause-opened g c clean =
    IfOk-weaker c.query_all.result _ _ (λ rows shown. shown_opened c.args.sql.now
    (bound c.args.params.now) (state g.S.Store c.args.conn.now)
    (state g.S.Store c.query_all.new.self) rows.items shown) (c.query_all.ensures.ok clean)

pub returns-clause-spares : goal.returns-clause-spares
returns-clause-spares g c clean plain db left =
    let old = state g.S.Store c.args.conn.now in
    first (commits_none c.args.sql.now (bound c.args.params.now) old old.now.schema refl plain db)
    (c.query_all.ensures.survives.crash clean db left)

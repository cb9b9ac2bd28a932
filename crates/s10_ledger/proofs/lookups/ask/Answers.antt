use Rattle.std.proofs.Common.{[]}
use Rattle.sqlite.specs.Held.{state}
use Rattle.s10_statements.proofs.FaultLemmas.{ask_sql, known_ask, fails_for}
use Rattle.s10_ledger.proofs.AskLemmas.{compiled_leaves}
use Rattle.s10_ledger.proofs.FaultLemmas.{not_ok, not_memory}
use Rattle.s10_ledger.proofs.lookups.ask.Goals as goal

pub returns-clause-leaves : goal.returns-clause-leaves
returns-clause-leaves g c = compiled_leaves g.S.Store c.args.conn.now c.prepare.new.self _ _
    c.prepare.result c.prepare.ensures.survives c.prepare.ensures.mode c.prepare.ensures.ok
    c.prepare.ensures.err

pub returns-clause-store : goal.returns-clause-store
returns-clause-store g c = λ clean opened has is. elim c.match-prepare.branch [
  | goal.in-Ok w ↦ absurd (not_ok _ _ w.result-is is)
  | goal.in-Err w ↦
      fails_for (state g.S.Store c.args.conn.now) (state g.S.Store c.prepare.new.self) ask_sql
      w.in-Err.error (known_ask (state g.S.Store c.args.conn.now).now.schema has)
      (w.in-Err.ensures.err clean []) opened
      (λ lack. not_memory w.keep_failure.result _ w.result-is is (w.keep_failure.ensures.memory.1 lack))
]

use Rattle.std.proofs.Common.{[], ◌∙◌}
use Rattle.std.proofs.lemmas.Result.{IfOk-weaker}
use Rattle.sqlite.specs.Held.{state}
use Rattle.s10_statements.specs.Statements.{select_head_sql}
use Rattle.s10_statements.proofs.Texts.{head_read}
use Rattle.s10_statements.proofs.RowByRow.{known_plain}
use Rattle.s10_statements.proofs.StateLemmas.{leaves_weaker}
use Rattle.s10_statements.proofs.FoundLemmas.{head_found}
use Rattle.s10_statements.proofs.reads.all_heads.Goals as goal

pub returns-in_err-rows-clause-leaves : goal.returns-in_err-rows-clause-leaves
returns-in_err-rows-clause-leaves g c = leaves_weaker g.S.Store c.args.conn.now c.read.new.conn
    (known_plain select_head_sql (λ o. (head_read o).plain)) c.read.ensures.leaves

pub returns-clause-leaves : goal.returns-clause-leaves
returns-clause-leaves g c = leaves_weaker g.S.Store c.args.conn.now c.read.new.conn
    (known_plain select_head_sql (λ o. (head_read o).plain)) c.read.ensures.leaves

pub returns-clause-rows : goal.returns-clause-rows
returns-clause-rows g c clean =
    IfOk-weaker c.rows_in.result _ _
    (λ found typed has. head_found [] (state g.S.Store c.args.conn.now)
    (state g.S.Store c.read.new.conn) c.in_ok-rows.rows.items has found.items
    (c.in_ok-rows.ensures.rows clean) (typed ∙ c.deref.ensures.value)) c.rows_in.ensures

pub returns-in_err-rows-clause-spares : goal.returns-in_err-rows-clause-spares
returns-in_err-rows-clause-spares g c clean has =
    c.read.ensures.spares clean (known_plain select_head_sql (λ o. (head_read o).plain)
    (state g.S.Store c.args.conn.now).now.schema has)

pub returns-clause-spares : goal.returns-clause-spares
returns-clause-spares g c clean has =
    c.read.ensures.spares clean (known_plain select_head_sql (λ o. (head_read o).plain)
    (state g.S.Store c.args.conn.now).now.schema has)

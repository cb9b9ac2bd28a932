use Rattle.std.proofs.Common.{sym, ◌∙◌}
use Rattle.s10_statements.proofs.LaterMarkLemmas.{left_out, written_out}
use Rattle.s10_statements.proofs.StepLemmas.{step_none, step_weaker}
use Rattle.s10_statements.proofs.writes.apply_unless_set_again.Goals as goal

pub returns-then-is_set_again : goal.returns-then-is_set_again
returns-then-is_set_again g c = step_none g.S.Store c.args.tx.now.conn
    (λ tables held. left_out c.args.write.now _ _ tables
    (sym c.is_set_again.ensures ∙ c.if-is_set_again.true) held)

pub returns : goal.returns
returns g c = step_weaker (λ writes tables held. written_out c.args.write.now _ _ _ tables
    (sym c.is_set_again.ensures ∙ c.if-is_set_again.false) writes held) c.apply_range_write.ensures

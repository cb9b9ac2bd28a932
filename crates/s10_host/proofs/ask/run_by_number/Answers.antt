use Rattle.s10_link.proofs.Bound.{still_bound}
use Rattle.s10_jobs.specs.Questioning.{any_address}
use Rattle.s10_host.proofs.Answering.{refused_unasked, unbound_unasked, asked_over}
use Rattle.s10_host.proofs.ask.run_by_number.Goals as goal

pub returns-in-Err-clause-asked : goal.returns-in-Err-clause-asked
returns-in-Err-clause-asked g c = rw c.none.ensures (record {
  asked = tt;
  unasked = λ _. refused_unasked c.args.question.now c.in-Err.refusal
      (g.W.Write.contents c.args.out.now) (g.W.Write.contents c.write_refusal.new.out)
      c.write_refusal.result c.in-Err.ensures.refused c.write_refusal.ensures;
})

pub returns-in-Err-bind_client-clause-asked : goal.returns-in-Err-bind_client-clause-asked
returns-in-Err-bind_client-clause-asked g c = rw c.none-in-Err-bind_client.ensures (record {
  asked = tt;
  unasked = λ _. unbound_unasked c.args.question.now c.in-Ok.read.0 c.in-Ok.read.1
      c.in-Err-bind_client.fault (g.W.Write.contents c.args.out.now)
      (g.W.Write.contents c.fail_by_link.new.out) c.fail_by_link.result c.in-Ok.ensures.ok.0
      c.in-Ok.ensures.ok.1 c.in-Err-bind_client.ensures.refused c.fail_by_link.ensures;
})

pub returns-clause-asked : goal.returns-clause-asked
returns-clause-asked g c = record {
  asked = asked_over c.args.customer c.args.number c.args.question.now c.in-Ok.read.0
      c.in-Ok.read.1 c.in-Ok-bind_client.link.trace c.ask_by_number-asked.new.link
      (g.W.Write.contents c.args.out.now) (g.W.Write.contents c.ask_by_number-asked.new.out)
      c.ask_by_number-asked.result c.in-Ok.ensures.ok.0 c.in-Ok.ensures.ok.1
      c.in-Ok-bind_client.ensures.ok c.ask_by_number-asked.ensures.asked
      (still_bound any_address _ _ c.ask_by_number-asked.ensures.led c.in-Ok-bind_client.ensures.at);
  unasked = λ none. absurd cc;
}

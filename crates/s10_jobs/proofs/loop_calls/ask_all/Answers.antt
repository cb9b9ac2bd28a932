use Rattle.std.proofs.Common.{rules, ◌≡◌, ◌<◌, ◌∙◌, ◌+◌, ◌++◌, ◌∷◌, [], List, ap, sym, arith}
use Rattle.std.proofs.Common.{length, take, drop, take-append-drop}
use Rattle.std.proofs.lemmas.List.{take_more}
use Rattle.s10_wire.specs.declared.body.Body.{Body}
use Rattle.s10_link.specs.Link.LeadsTo.{none}
use Rattle.s10_link.proofs.Led.{led_on}
use Rattle.s10_jobs.proofs.Looping.{one_done, last_done}
use Rattle.s10_jobs.proofs.loop_calls.ask_all.Goals as goal

pub loop-body-preserved : goal.loop-body-preserved
loop-body-preserved g c =
    let within : c.loop-body.body-index < length c.args.bodies.now =
    omega (arith, c.loop-body-test.true) in
    let all : take (c.loop-body.body-index + 1) c.args.bodies.now ≡ take c.loop-body.body-index
    c.args.bodies.now ++ c.body-item.result ∷ [] =
    take_more c.args.bodies.now c.loop-body.body-index c.body-item.result within
    ∙ ap (λ (b : Body). take c.loop-body.body-index c.args.bodies.now ++ b ∷ [])
    (sym c.body-item.is) in
    record {
      done = rw all
          (one_done c.args.to c.args.client.now c.loop-body.client c.ask.new.client
          (g.L.Link.trace_of c.args.link.now) (g.L.Link.trace_of c.loop-body.link)
          (g.L.Link.trace_of c.ask.new.link)
          (take c.loop-body.body-index c.args.bodies.now) c.body-item.result
          (g.W.Write.contents c.args.out.now) (g.W.Write.contents c.loop-body.out)
          (g.W.Write.contents c.ask.new.out)
          c.ask.result c.in_ok-status.status c.in_ok-status.was (search rules)
          c.loop-body.invariant.done c.ask.ensures.asked);
      led = led_on c.loop-body.invariant.led c.ask.ensures.led;
    }

pub returns-then-ne-clause-asked : goal.returns-then-ne-clause-asked
returns-then-ne-clause-asked g c =
    let within : c.loop-body.body-index < length c.args.bodies.now =
    omega (arith, c.loop-body-test.true) in
    let all : take (c.loop-body.body-index + 1) c.args.bodies.now ≡ take c.loop-body.body-index
    c.args.bodies.now ++ c.body-item.result ∷ [] =
    take_more c.args.bodies.now c.loop-body.body-index c.body-item.result within
    ∙ ap (λ (b : Body). take c.loop-body.body-index c.args.bodies.now ++ b ∷ [])
    (sym c.body-item.is) in
    let rest : List Body = drop (c.loop-body.body-index + 1) c.args.bodies.now in
    let whole : c.args.bodies.now ≡ (take c.loop-body.body-index c.args.bodies.now
    ++ c.body-item.result ∷ []) ++ rest =
    sym (take-append-drop (c.loop-body.body-index + 1) c.args.bodies.now)
    ∙ ap (λ (bodies : List Body). bodies ++ rest) all in
    last_done c.args.to c.args.client.now c.loop-body.client c.ask.new.client
    (g.L.Link.trace_of c.args.link.now) (g.L.Link.trace_of c.loop-body.link)
    (g.L.Link.trace_of c.ask.new.link)
    (take c.loop-body.body-index c.args.bodies.now) c.body-item.result rest c.args.bodies.now
    (g.W.Write.contents c.args.out.now) (g.W.Write.contents c.loop-body.out)
    (g.W.Write.contents c.ask.new.out)
    c.ask.result c.in_ok-status.status c.in_ok-status.was (search rules) c.loop-body.invariant.done
    c.ask.ensures.asked whole

pub returns-then-ne-clause-led : goal.returns-then-ne-clause-led
returns-then-ne-clause-led g c = led_on c.loop-body.invariant.led c.ask.ensures.led

pub loop-body-init : goal.loop-body-init
loop-body-init g c = record { done = search rules; led = none }

pub returns-in_err-status-clause-led : goal.returns-in_err-status-clause-led
returns-in_err-status-clause-led g c = led_on c.loop-body.invariant.led c.ask.ensures.led

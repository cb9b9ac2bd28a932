use Rattle.std.proofs.Common.{rules, ◌≡◌, ◌∷◌, ◌++◌, [], subst}
use Rattle.s10_link.proofs.Led.{led_on}
use Rattle.s10_ends.specs.Client.{new_client}
use Rattle.s10_jobs.specs.declared.job_status.JobStatus.{JobStatus}
use Rattle.s10_jobs.specs.declared.job_status.JobStatus.TheVariants.{Done}
use Rattle.s10_jobs.specs.Shown.{Prints}
use Rattle.s10_jobs.specs.LoopCalls.{customer_calls, calls_of, loop_calls, AreMadeInTurn}
use Rattle.s10_jobs.proofs.Looping.{all_asked, post_stops}
use Rattle.s10_jobs.proofs.loop_calls.make_calls.Goals as goal

pub returns-then-ne-clause-asked : goal.returns-then-ne-clause-asked
returns-then-ne-clause-asked g c =
    let same : calls_of c.in-Ok.post (c.first_range.result ∷ []) ++ calls_of (new_client 7 1 4)
    customer_calls ≡ loop_calls =
    λ i. calls_of (c.in-Ok.ensures.1 i) (c.first_range.ensures i ∷ [])
    ++ calls_of (new_client 7 1 4) customer_calls in
    post_stops c.args.to (calls_of c.in-Ok.post (c.first_range.result ∷ []))
    (calls_of (new_client 7 1 4) customer_calls) loop_calls
    (g.L.Link.trace_of c.args.link.now) (g.L.Link.trace_of c.ask_all.new.link)
    (g.W.Write.contents c.args.out.now) (g.W.Write.contents c.ask_all.new.out)
    c.in_ok-granted.granted same (search rules) c.in_ok-granted.ensures.asked

pub returns-clause-asked : goal.returns-clause-asked
returns-clause-asked g c =
    let same : calls_of c.in-Ok.post (c.first_range.result ∷ []) ++ calls_of c.in-Ok-new.customer
    c.customer_bodies.result ≡ loop_calls =
    λ i. calls_of (c.in-Ok.ensures.1 i) (c.first_range.ensures i ∷ [])
    ++ calls_of (c.in-Ok-new.ensures.1 i) (c.customer_bodies.ensures i) in
    let done : c.in_ok-granted.granted ≡ Done = search rules in
    let Told : JobStatus → Type 0 = λ s. Prints (g.W.Write.contents c.args.out.now)
    (g.W.Write.contents c.ask_all.new.out)
    (AreMadeInTurn c.args.to (calls_of c.in-Ok.post (c.first_range.result ∷ []))
    (g.L.Link.trace_of c.args.link.now) (g.L.Link.trace_of c.ask_all.new.link) s) in
    all_asked c.args.to (calls_of c.in-Ok.post (c.first_range.result ∷ []))
    (calls_of c.in-Ok-new.customer c.customer_bodies.result) loop_calls
    (g.L.Link.trace_of c.args.link.now) (g.L.Link.trace_of c.ask_all.new.link)
    (g.L.Link.trace_of c.ask_all-2.new.link)
    (g.W.Write.contents c.args.out.now) (g.W.Write.contents c.ask_all.new.out)
    (g.W.Write.contents c.ask_all-2.new.out) c.ask_all-2.result
    same (subst Told done c.in_ok-granted.ensures.asked) c.ask_all-2.ensures.asked

pub returns-clause-led : goal.returns-clause-led
returns-clause-led g c = led_on c.in_ok-granted.ensures.led c.ask_all-2.ensures.led

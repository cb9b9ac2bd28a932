use Rattle.std.proofs.Common.{ℕ, List, sym, subst, arith}
use Rattle.std.proofs.lemmas.Int.{ints}
use Rattle.s10_wire.specs.Datagrams.{Replies}
use Rattle.s10_replay.proofs.Calls.{read_is, read_again, row_replies}
use Rattle.s10_replay.proofs.call_reading.entry_in_row.Goals as goal

pub returns-in_default-clause-kept : goal.returns-in_default-clause-kept
returns-in_default-clause-kept c = λ n e call is.
    let P : List ℕ → Type 0 = λ b. Replies b e.request e.outcome in
    absurd (c.in_default.ensures.nothing e.request e.outcome
    (subst P (sym c.reply.ensures) (row_replies c.args.row.now n e call is)))

pub returns-clause-read : goal.returns-clause-read
returns-clause-read c =
    let r = c.in-Ok.reply in
    let P : List ℕ → Type 0 = λ b. Replies b r.request r.outcome in
    read_is c.args.row.now c.request.result r.request c.in_ok-day.day c.outcome.result r.outcome
    c.request.ensures c.outcome.ensures.outcome (subst P c.reply.ensures c.in-Ok.ensures.found)
    (omega (arith, ints, c.in_ok-day.ensures.some)) (omega arith)

pub returns-clause-kept : goal.returns-clause-kept
returns-clause-kept c = λ n e call is.
    let r = c.in-Ok.reply in
    let P : List ℕ → Type 0 = λ b. Replies b r.request r.outcome in
    let read = read_is c.args.row.now c.request.result r.request c.in_ok-day.day c.outcome.result
    r.outcome c.request.ensures c.outcome.ensures.outcome
    (subst P c.reply.ensures c.in-Ok.ensures.found)
    (omega (arith, ints, c.in_ok-day.ensures.some)) (omega arith) in
    read_again c.args.row.now n e _ call is read.entry

use Rattle.std.proofs.Common.{Ok, ap, arith}
use Rattle.s10_history.specs.declared.usage.Usage.{Usage}
use Rattle.s10_replay.proofs.Usage.{UsedSoFar-start, UsedSoFar-room, UsedSoFar-step, UsedSoFar-end}
use Rattle.s10_replay.proofs.Usage.{usage_is, rows_counted, never_unread}
use Rattle.s10_replay.proofs.usage_reading.usage_among.Goals as goal

pub returns-then-rows-serials-clause-found : goal.returns-then-rows-serials-clause-found
returns-then-rows-serials-clause-found c = λ h calls range asked is same.
    let counts = rows_counted h c.args.range.now c.args.day c.args.interval c.args.rows.now calls
    range same in
    absurd (omega (arith, counts.few))

pub loop-row-init : goal.loop-row-init
loop-row-init c = UsedSoFar-start c.args.rows.now c.args.day c.args.interval
    c.size-serials.result

pub returns-in_default-clause-found : goal.returns-in_default-clause-found
returns-in_default-clause-found c = λ h calls range asked is same.
    absurd (never_unread h c.args.range.now c.args.rows.now c.loop-row.row-index _ calls same
    c.loop-row-test.true c.in_default.ensures.kept)

pub count_issue-usage-requires-clause-used : goal.count_issue-usage-requires-clause-used
count_issue-usage-requires-clause-used c =
    let room = UsedSoFar-room c.args.rows.now c.args.day c.args.interval c.size-serials.result
    c.loop-row.row-index c.loop-row.usage c.loop-row.invariant c.loop-row-test.true
    c.if-rows-serials.false in
    omega (arith, room.0)

pub count_issue-usage-requires-clause-voided : goal.count_issue-usage-requires-clause-voided
count_issue-usage-requires-clause-voided c =
    let room = UsedSoFar-room c.args.rows.now c.args.day c.args.interval c.size-serials.result
    c.loop-row.row-index c.loop-row.usage c.loop-row.invariant c.loop-row-test.true
    c.if-rows-serials.false in
    omega (arith, room.1)

pub count_issue-usage-requires-clause-free : goal.count_issue-usage-requires-clause-free
count_issue-usage-requires-clause-free c =
    let room = UsedSoFar-room c.args.rows.now c.args.day c.args.interval c.size-serials.result
    c.loop-row.row-index c.loop-row.usage c.loop-row.invariant c.loop-row-test.true
    c.if-rows-serials.false in
    room.2

pub loop-row-preserved : goal.loop-row-preserved
loop-row-preserved c =
    UsedSoFar-step c.args.rows.now c.args.day c.args.interval c.size-serials.result
    c.loop-row.row-index _ c.loop-row.usage _ c.in-Some.issue c.loop-row-test.true
    c.in-Some.ensures.read.voided c.in-Some.ensures.read.day c.count_issue-usage.ensures.used
    c.count_issue-usage.ensures.voided c.count_issue-usage.ensures.free c.loop-row.invariant

pub returns-clause-counted : goal.returns-clause-counted
returns-clause-counted c =
    UsedSoFar-end c.args.range.now c.args.day c.args.interval c.size-serials.result
    c.loop-row.row-index c.args.rows.now c.loop-row.usage (omega arith) (omega arith)
    c.size-serials.ensures.count c.loop-row.invariant

pub returns-clause-found : goal.returns-clause-found
returns-clause-found c = λ h calls range asked is same.
    let counts = rows_counted h c.args.range.now c.args.day c.args.interval c.args.rows.now calls
    range same in
    let counted =
    UsedSoFar-end c.args.range.now c.args.day c.args.interval c.size-serials.result
    c.loop-row.row-index c.args.rows.now c.loop-row.usage (omega arith) (omega arith)
    c.size-serials.ensures.count c.loop-row.invariant in
    ap (λ (u : Usage). Ok u) (usage_is h c.args.range.now asked c.args.day c.args.interval
    c.args.rows.now c.loop-row.usage is counts counted)

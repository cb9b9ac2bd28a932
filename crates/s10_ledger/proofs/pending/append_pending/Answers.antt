use Rattle.std.proofs.Common.{rules, ◌∷◌, []}
use Rattle.std.proofs.Common.{ap, length, length-append, arith, sym, refl}
use Rattle.std.proofs.lemmas.Result.{err_from_is_err_and}
use Rattle.s10_ledger.proofs.PendingLemmas.{pushed, not_pushed}
use Rattle.s10_ledger.proofs.pending.append_pending.Goals as goal

pub returns-clause-written : goal.returns-clause-written
returns-clause-written c = (
  c.in_ok-write.write,
  pushed c.push.result c.push.new.self.items c.args.pending.now.items c.in_ok-write.write
      (sym (c.if-is_err.ensures.value)) c.push.ensures.items,
  c.in_ok-write.ensures.entry,
  c.in_ok-write.ensures.writes,
)

pub returns-clause-calls : goal.returns-clause-calls
returns-clause-calls c = search rules

pub returns-clause-few : goal.returns-clause-few
returns-clause-few c = λ few. omega (
  arith,
  ap length (returns-clause-calls c),
  length-append c.args.index.now.entries.items (c.args.entry.now ∷ []),
  ap length c.prepare_call.ensures.same_calls,
  c.in_ok-write.ensures.few,
)

pub returns-clause-followed : goal.returns-clause-followed
returns-clause-followed c = λ h t legal follows indexed. c.follow.ensures.followed h t legal follows
    (c.in_ok-write.ensures.moves h t legal follows indexed)
    (c.prepare_call.ensures.same_index h indexed)

pub returns-then-is_err-clause-left : goal.returns-then-is_err-clause-left
returns-then-is_err-clause-left c = not_pushed c.push.result c.push.new.self.items
    c.args.pending.now.items c.in_ok-write.write (sym c.if-is_err.ensures.value)
    c.push.ensures.items

pub follow-requires-clause-few : goal.follow-requires-clause-few
follow-requires-clause-few c = omega (arith, c.in_ok-write.ensures.few)

pub returns-in_err-write-clause-memory : goal.returns-in_err-write-clause-memory
returns-in_err-write-clause-memory c = λ h t legal follows indexed within.
    let p = err_from_is_err_and c.from_residual.result c.from_residual.ensures.1 in
    rw (p.1, p.2) (c.in_err-write.ensures.memory h t legal follows indexed within)

pub returns-then-is_err-clause-memory : goal.returns-then-is_err-clause-memory
returns-then-is_err-clause-memory c = λ h t legal follows indexed within. refl

pub returns-clause-memory : goal.returns-clause-memory
returns-clause-memory c = λ h t legal follows indexed within. tt

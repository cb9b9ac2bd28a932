use Rattle.s10_ledger.proofs.ReplayFaults.{replay_fault}
use Rattle.s10_ledger.proofs.CallReplayLemmas.{taken_more, still_refused, next_replayed, next_refused}
use Rattle.s10_ledger.proofs.CallReplayLemmas.{not_refused}
use Rattle.s10_ledger.proofs.opening.call_replay.CallReplayRowSinkCallRow.take.Goals as goal

pub returns-in_default : goal.returns-in_default
returns-in_default c = λ start rows was.
    taken_more start c.args.self.now _ rows c.args.row was (λ fault is. is)
    (λ t so_far. still_refused t rows c.args.row c.args.self.now.made c.in_default.field-0
    c.in_default.is so_far)

pub returns-in-Err : goal.returns-in-Err
returns-in-Err c = λ start rows was.
    let old = c.in-Ok.book in
    let new = c.replay_row.new.book in
    taken_more start c.args.self.now _ rows c.args.row was
    (λ fault is. absurd (not_refused c.args.self.now.made old fault c.in-Ok.is is))
    (λ t so_far. next_refused t rows c.args.row c.args.self.now.made old c.in-Err.fault c.in-Ok.is
    so_far
    (replay_fault c.in-Err.fault old.faults new.faults old.no_store_fault new.no_store_fault
    c.in-Err.ensures.faults) (c.in-Err.ensures.err tt))

pub returns : goal.returns
returns c = λ start rows was.
    let old = c.in-Ok.book in
    let done = c.in_default-replay_row.ensures in
    taken_more start c.args.self.now _ rows c.args.row was
    (λ fault is. absurd (not_refused c.args.self.now.made old fault c.in-Ok.is is))
    (λ t so_far. next_replayed t rows c.args.row c.args.self.now.made old c.replay_row.new.book
    c.in-Ok.is so_far (done.same_terms tt) (done.right tt) (done.history tt))

use Rattle.std.proofs.Common.{rules, sym, ◌∙◌}
use Rattle.s10_host.proofs.Auditing.{keeps_refused}
use Rattle.s10_host.proofs.files.close_refused.Goals as goal

pub returns-then-is_shut-clause-committed : goal.returns-then-is_shut-clause-committed
returns-then-is_shut-clause-committed g c opened =
    sym (c.is_autocommit.ensures.settled (search rules) opened)

pub returns-else-is_shut-clause-committed : goal.returns-else-is_shut-clause-committed
returns-else-is_shut-clause-committed g c opened =
    sym (c.is_autocommit.ensures.settled (search rules) opened)

pub returns-else-is_shut-clause-kept : goal.returns-else-is_shut-clause-kept
returns-else-is_shut-clause-kept g c =
    keeps_refused c.args.connection c.into_store-store.result c.close-files.result
    g.met.D.Disk.seen_may_stay
    (record {
      numbered = c.into_store-store.ensures.numbered;
      sound = c.into_store-store.ensures.sound;
      undone = c.into_store-store.ensures.undone;
      quiet = c.into_store-store.ensures.quiet;
    })
    c.close-files.ensures
    (λ none. sym (c.is_broken-is_shut.ensures.shown none) ∙ c.if-is_shut.false)

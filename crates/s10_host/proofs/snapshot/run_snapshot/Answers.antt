use Rattle.std.proofs.Common.{◌≡◌, ap, inl, inr, refl, subst, sym, Ok, Err}
use Rattle.s10_snapshot.specs.Readings.{IsTaken}
use Rattle.s10_host.specs.Snapshots.{HasLooked}
use Rattle.s10_rows.specs.declared.open_fault.OpenFault.TheVariants.{Store}
use Rattle.s10_host.proofs.Ending.{fails_by, no_snapshot}
use Rattle.s10_host.proofs.Looking.{ends_look}
use Rattle.s10_host.proofs.snapshot.run_snapshot.Goals as goal

pub returns-in_default : goal.returns-in_default
returns-in_default g c =
    rw c.none.ensures
    (record {
      looked = tt;
      unread = λ _. inl (c.job_of.ensures.undated c.in_default.is, c.fail_by_clock.ensures);
    })

pub returns-in-Err : goal.returns-in-Err
returns-in-Err g c =
    subst (HasLooked g.D.Days.gives c.args.ledger.now c.args.look c.args.days.now c.job_of.new.days
    (g.W.Write.contents c.args.out.now) (g.W.Write.contents c.not_connected.new.out)
    c.not_connected.result.done) (sym (no_snapshot _ c.not_connected.ensures.nothing)) (record {
      looked = tt;
      unread = λ _. inr (
        c.in-Some.job,
        c.in-Some.ensures.asked,
        fails_by (λ fault. fault ≡ Store) c.in-Err.fault _ _ c.not_connected.result.done
            c.in-Err.ensures.err.0 c.not_connected.ensures.done,
      );
    })

pub returns-in-Ok-take_snapshot : goal.returns-in-Ok-take_snapshot
returns-in-Ok-take_snapshot g c = record {
  looked = (
    c.in-Some.job,
    c.in-Some.ensures.asked,
    record {
      at = rw c.take_snapshot.ensures.at (rw c.new-source.ensures refl);
      snapshot = Ok c.in-Ok-take_snapshot.bytes;
      taken = subst (λ r. IsTaken c.take_snapshot.new.source.calls r) c.in-Ok-take_snapshot.is
          c.take_snapshot.ensures.taken;
      ends = ends_look c.in-Ok-take_snapshot.bytes c.in-Some.job c.look_at-done.result.1
          (g.W.Write.contents c.args.out.now) (g.W.Write.contents c.look_at-done.new.out)
          c.look_at-done.result.0 c.look_at-done.ensures.looked c.look_at-done.ensures.unopened;
    },
  );
  unread = λ none. absurd cc;
}

pub returns-in-Err-take_snapshot : goal.returns-in-Err-take_snapshot
returns-in-Err-take_snapshot g c = record {
  looked = (
    c.in-Some.job,
    c.in-Some.ensures.asked,
    record {
      at = rw c.take_snapshot.ensures.at (rw c.new-source.ensures refl);
      snapshot = Err c.in-Err-take_snapshot.fault;
      taken = subst (λ r. IsTaken c.take_snapshot.new.source.calls r) c.in-Err-take_snapshot.is
          c.take_snapshot.ensures.taken;
      ends = (refl, c.fail_by_snapshot.ensures);
    },
  );
  unread = λ none. absurd cc;
}

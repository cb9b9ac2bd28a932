use Rattle.std.proofs.Common.{refl, inl, inr}
use Rattle.sqlite_wal.specs.Files.{image_at}
use Rattle.s10_host.proofs.Ending.{not_connected, no_files}
use Rattle.s10_host.proofs.create.run_create.Goals as goal

pub returns-in-Err : goal.returns-in-Err
returns-in-Err g c =
    not_connected _ (image_at g.S.Start) c.args.settings c.in-Err.fault (g.W.Write.contents c.args.out.now)
    (g.W.Write.contents c.not_connected.new.out) c.not_connected.result.done
    c.not_connected.result.done _ (inl (inr c.in-Err.ensures.err.0)) c.not_connected.ensures.done refl
    (no_files _ c.not_connected.ensures.nothing)

pub returns-in-Ok-find_or_create : goal.returns-in-Ok-find_or_create
returns-in-Ok-find_or_create g c = c.create_in.ensures

pub returns-in-Err-find_or_create : goal.returns-in-Err-find_or_create
returns-in-Err-find_or_create g c =
    let failed = c.not_connected-in-Err-find_or_create in
    not_connected _ (image_at g.S.Start) c.args.settings c.in-Err-find_or_create.fault
    (g.W.Write.contents c.args.out.now) (g.W.Write.contents failed.new.out) failed.result.done
    failed.result.done _ (inl c.in-Err-find_or_create.ensures.refused) failed.ensures.done refl
    (no_files _ failed.ensures.nothing)

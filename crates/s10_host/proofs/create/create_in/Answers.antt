use Rattle.std.proofs.Common.{refl}
use Rattle.sqlite_wal.specs.Files.{image_at}
use Rattle.s10_host.specs.Files.{system_files}
use Rattle.s10_host.proofs.Ending.{not_connected, no_files}
use Rattle.s10_host.proofs.create.create_in.Goals as goal

pub returns-in-Ok : goal.returns-in-Ok
returns-in-Ok g c = c.create_on_disk.ensures (image_at g.S.Start) c.in-Ok.ensures.found

pub returns-in-Err : goal.returns-in-Err
returns-in-Err g c =
    not_connected _ (image_at g.S.Start) c.args.settings c.in-Err.fault
    (g.W.Write.contents c.args.out.now) (g.W.Write.contents c.not_connected.new.out)
    c.not_connected.result.done c.not_connected.result.done _ c.in-Err.ensures.refused
    c.not_connected.ensures.done refl (no_files _ c.not_connected.ensures.nothing)

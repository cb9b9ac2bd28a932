use Rattle.s10_host.proofs.Looking.{memory_is_clean, found_in_bytes}
use Rattle.s10_host.proofs.snapshot.connect_to_bytes.Goals as goal

pub returns-in-Ok-open_files-clause-found : goal.returns-in-Ok-open_files-clause-found
returns-in-Ok-open_files-clause-found c =
    let connection = c.in-Ok-open_files.connection in
    let clean = memory_is_clean connection in (
      c.in-Ok-open_files.ensures.opened clean,
      found_in_bytes c.in-Ok.files c.args.bytes connection c.in-Ok.ensures.log c.in-Ok.ensures.db
          (c.in-Ok-open_files.ensures.found clean),
    )

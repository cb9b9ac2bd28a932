use Rattle.std.proofs.Common.{false, sym, subst}
use Rattle.sqlite.specs.Files.{file_state, IsBlankAs}
use Rattle.sqlite.specs.Start.{FindsIn}
use Rattle.s10_host.proofs.opened_files.open_with_cache.Goals as goal

pub returns-in-Ok-open_files_with-clause-found : goal.returns-in-Ok-open_files_with-clause-found
returns-in-Ok-open_files_with-clause-found g c = rw c.set_clock.ensures λ clean.
    let found = c.in-Ok-open_files_with.ensures.found clean in (
      c.in-Ok-open_files_with.ensures.opened clean,
      subst (λ i. FindsIn i (file_state c.in-Ok-open_files_with.connection)) c.in-Ok.ensures.same
          (record { holds = found.holds; reads = found.reads }),
      c.in-Ok.ensures.whole found.honest,
    )

pub returns-in-Ok-open_files_with-clause-plain : goal.returns-in-Ok-open_files_with-clause-plain
returns-in-Ok-open_files_with-clause-plain g c = rw c.set_clock.ensures λ clean blank.
    c.in-Ok-open_files_with.ensures.sums clean
    (subst (IsBlankAs false) (sym c.in-Ok.ensures.same) blank)

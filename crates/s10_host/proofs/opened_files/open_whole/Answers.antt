use Rattle.std.proofs.Common.{◌≡◌, ℕ, Bool, cond, List, ap₂, subst}
use Rattle.sqlite_disk.specs.Events.{Event, replay}
use Rattle.sqlite_wal.specs.Recovery.{Image}
use Rattle.s10_host.specs.Files.{IsEmptied}
use Rattle.s10_host.proofs.opened_files.open_whole.Goals as goal

abbrev image : List ℕ → List ℕ → Image
image log db = record { log = log; db = db }

abbrev seen : List ℕ → List ℕ → Bool → List Event → List ℕ
seen log db is_log history = (replay (cond is_log log db) history).seen

-- What two files show depends on which is the log, and on what happened to each.
same_image : (log db : List ℕ) {a b : Bool} {before after : List Event} {c d : Bool}
    {first last : List Event} → a ≡ b → before ≡ after → c ≡ d → first ≡ last
    → image (seen log db a before) (seen log db c first) ≡ image (seen log db b after)
    (seen log db d last)
same_image log db a before c first =
    ap₂ image (ap₂ (seen log db) a before) (ap₂ (seen log db) c first)

pub returns-in-Ok-true-clause-emptied : goal.returns-in-Ok-true-clause-emptied
returns-in-Ok-true-clause-emptied g c same = record {
  files = c.is_emptied.new.files;
  emptied = λ clean.
      let (log, db) = c.in-Ok.ensures.fresh in
      subst IsEmptied (same_image g.S.Start.log g.S.Start.db log.0 log.1 db.0 db.1)
      ((c.in-Ok-true.ensures.emptied clean).0 c.in-Ok-true.field-0-test);
}

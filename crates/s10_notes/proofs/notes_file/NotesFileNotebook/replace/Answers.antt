use Rattle.std.proofs.Common.{inr, refl}
use Rattle.s10_notes.proofs.Replaced.{after_count, found_written}
use Rattle.s10_notes.proofs.notes_file.NotesFileNotebook.replace.Goals as goal

pub write_over-requires : goal.write_over-requires
write_over-requires g c = (g.F.Folder.calls c.args.self.now.folder, inr c.in_ok-check_name.ensures.checked)

pub returns-in-Ok-clause-replaced : goal.returns-in-Ok-clause-replaced
returns-in-Ok-clause-replaced g c = (refl, λ found may. (c.in-Ok.ensures.written may.0 may.1).only found may.2)

pub returns-in-Err-clause-replaced : goal.returns-in-Err-clause-replaced
returns-in-Err-clause-replaced g c = (
  refl,
  λ found may. found_written (g.F.Folder.calls c.args.self.now.folder)
      (g.F.Folder.calls c.write_over.new.folder) c.args.notes.now found
      (after_count (g.F.Folder.calls c.args.self.now.folder) (g.F.Folder.calls c.check_name.new.folder)
      (g.F.Folder.calls c.write_over.new.folder) c.args.notes.now
      c.in_ok-check_name.ensures.checked c.in-Err.ensures.written) may,
)

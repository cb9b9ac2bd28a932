use Rattle.std.proofs.Common.{inl, refl, subst, sym}
use Rattle.s10_notes.specs.declared.names.Names.TheVariants.{Zero, One, More}
use Rattle.s10_notes.specs.NotesFile.{RefusesNew}
use Rattle.s10_notes.proofs.Refused.{counted, passed_on, unwritten}
use Rattle.s10_notes.proofs.notes_file.write_new.Goals as goal

pub returns-in_err-names-clause-refused : goal.returns-in_err-names-clause-refused
returns-in_err-names-clause-refused g c =
    let R = RefusesNew (g.F.Folder.calls c.args.folder.now) (g.F.Folder.calls c.names.new.self)
    c.args.notes.now in
    passed_on c.from_residual.result c.in_err-names.field-0.0 R c.from_residual.ensures.1
    (subst R (sym c.in_err-names.ensures.failed) (RefusesNew.uncounted c.in_err-names.ensures.uncounted))

pub write_over-requires : goal.write_over-requires
write_over-requires g c = (
  g.F.Folder.calls c.args.folder.now,
  inl (counted _ _ _ Zero c.in_ok-names.ensures.counted c.in-Zero.is),
)

pub returns-in-Zero-clause-refused : goal.returns-in-Zero-clause-refused
returns-in-Zero-clause-refused g c = unwritten c.write_over.result
    (g.F.Folder.calls c.args.folder.now) (g.F.Folder.calls c.names.new.self)
    (g.F.Folder.calls c.write_over.new.folder) c.args.notes.now
    (counted _ _ _ Zero c.in_ok-names.ensures.counted c.in-Zero.is) c.write_over.ensures.written
    c.write_over.ensures.failed

pub returns-in-One-clause-refused : goal.returns-in-One-clause-refused
returns-in-One-clause-refused g c =
    RefusesNew.taken One (counted _ _ _ One c.in_ok-names.ensures.counted c.in-One.is) refl

pub returns-in-More-clause-refused : goal.returns-in-More-clause-refused
returns-in-More-clause-refused g c =
    RefusesNew.taken More (counted _ _ _ More c.in_ok-names.ensures.counted c.in-More.is) refl

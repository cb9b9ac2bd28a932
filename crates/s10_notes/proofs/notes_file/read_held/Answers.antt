use Rattle.s10_notes.specs.NotesFile.{RefusesNotes}
use Rattle.s10_notes.proofs.Refused.{passed_on, unnamed, unsynced, unread, unspelled}
use Rattle.s10_notes.proofs.notes_file.read_held.Goals as goal

pub returns-in_err-check_name-clause-refused : goal.returns-in_err-check_name-clause-refused
returns-in_err-check_name-clause-refused g c =
    let old = g.F.Folder.calls c.args.folder.now in
    let new = g.F.Folder.calls c.check_name.new.folder in
    passed_on c.from_residual.result c.in_err-check_name.field-0.0 (RefusesNotes old new)
    c.from_residual.ensures.1
    (unnamed old new c.in_err-check_name.field-0.0 c.in_err-check_name.ensures.checked)

pub returns-in_err-sync-clause-refused : goal.returns-in_err-sync-clause-refused
returns-in_err-sync-clause-refused g c =
    let old = g.F.Folder.calls c.args.folder.now in
    let new = g.F.Folder.calls c.sync.new.self in
    passed_on c.from_residual-in_err-sync.result c.in_err-sync.field-0.0 (RefusesNotes old new)
    c.from_residual-in_err-sync.ensures.1
    (unsynced old _ new c.in_err-sync.field-0.0 c.in_ok-check_name.ensures.checked
    c.in_err-sync.ensures.made c.in_err-sync.ensures.failed)

pub returns-in_err-read-clause-refused : goal.returns-in_err-read-clause-refused
returns-in_err-read-clause-refused g c =
    let old = g.F.Folder.calls c.args.folder.now in
    let new = g.F.Folder.calls c.read.new.self in
    passed_on c.from_residual-in_err-read.result c.in_err-read.field-0.0 (RefusesNotes old new)
    c.from_residual-in_err-read.ensures.1
    (unread old _ _ new c.in_err-read.field-0.0 c.in_ok-check_name.ensures.checked
    c.in_ok-sync.ensures.made c.in_err-read.ensures.unread c.in_err-read.ensures.failed)

pub returns-in-None-clause-refused : goal.returns-in-None-clause-refused
returns-in-None-clause-refused g c = unspelled c.in_ok-read.read
    (g.F.Folder.calls c.args.folder.now) _ _ (g.F.Folder.calls c.read.new.self)
    c.in_ok-check_name.ensures.checked c.in_ok-sync.ensures.made c.in_ok-read.ensures.read
    (c.notes_in.ensures.none c.in-None.is)

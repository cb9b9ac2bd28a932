use Rattle.std.proofs.Common.{false}
use Rattle.s10_notes.proofs.Replaced.{are_beside, spells_only, failed, renamed, replaced}
use Rattle.s10_notes.proofs.notes_file.write_over.Goals as goal

pub returns-in_err-rename_beside-clause-written : goal.returns-in_err-rename_beside-clause-written
returns-in_err-rename_beside-clause-written g c =
    let text = c.write_notes.new.out in
    let n = c.args.notes.now in
    let old = g.F.Folder.calls c.args.folder.now in
    let new = g.F.Folder.calls c.rename_beside.new.self in
    failed c.from_residual-in_err-rename_beside.result old new n
    c.from_residual-in_err-rename_beside.ensures.0
    (renamed false text n old (g.F.Folder.calls c.sync_beside.new.self) new
    (spells_only c.new-text.result.items text.items n c.new-text.ensures c.in-Ok.ensures.written
    c.in-Ok.ensures.spelled (rw c.as_slice.ensures.value at c.text_spells_one.ensures)) c.requires
    (are_beside text _ _ _ _ c.in_ok-empty_beside.ensures.made c.in_ok-append_beside.ensures.made
    c.in_ok-sync_beside.ensures.made)
    c.in_err-rename_beside.ensures.made)

pub returns-clause-written : goal.returns-clause-written
returns-clause-written g c =
    let text = c.write_notes.new.out in
    let n = c.args.notes.now in
    replaced c.sync.result text n (g.F.Folder.calls c.args.folder.now)
    (g.F.Folder.calls c.sync_beside.new.self) (g.F.Folder.calls c.rename_beside.new.self)
    (g.F.Folder.calls c.sync.new.self)
    (spells_only c.new-text.result.items text.items n c.new-text.ensures c.in-Ok.ensures.written
    c.in-Ok.ensures.spelled (rw c.as_slice.ensures.value at c.text_spells_one.ensures)) c.requires
    (are_beside text _ _ _ _ c.in_ok-empty_beside.ensures.made c.in_ok-append_beside.ensures.made
    c.in_ok-sync_beside.ensures.made)
    c.in_ok-rename_beside.ensures.made c.sync.ensures.made

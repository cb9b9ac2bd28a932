use Rattle.std.proofs.Common.{◌+◌, ◌++◌, ◌∷◌, [], pos, false, sym, ap, ap₂, ◌∙◌, subst}
use Rattle.s10_rows.specs.declared.range_write.RangeWrite.{RangeWrite}
use Rattle.s10_rows.specs.declared.range_write.RangeWrite.TheVariants.{Mark}
use Rattle.s10_rows.specs.declared.serial_write.SerialWrite.{SerialWrite}
use Rattle.s10_rows.specs.Tables.{serial_row}
use Rattle.s10_rows.specs.RowWrites.{IssueWritesMake, write_of}
use Rattle.s10_replay.proofs.IssueRows.{issue_makes}
use Rattle.s10_replay.proofs.derived_writes.issue_writes.Goals as goal

pub returns : goal.returns
returns c = λ h t e place r ranges serials legal may calls call at there lies num mark never made.
    let makes = issue_makes h t e place c.args.issuance.now r c.args.issued ranges serials legal may
    calls call at there lies never made in
    let moved = c.mark_write.ensures ∙ ap₂ (λ n m. Mark (pos n) (pos m)) num mark in
    let serial = c.issue_write.ensures ∙ ap (write_of c.args.issued) c.of-row.ensures in
    let P : RangeWrite → Type 0 = λ w. IssueWritesMake h e (place + 1) (ranges ++ w ∷ [])
    (serials ++ write_of c.args.issued (serial_row false c.args.issuance.now) ∷ []) in
    let Q : SerialWrite → Type 0 = λ w. IssueWritesMake h e (place + 1)
    (ranges ++ c.mark_write.result ∷ []) (serials ++ w ∷ []) in
    subst Q (sym serial) (subst P (sym moved) makes)

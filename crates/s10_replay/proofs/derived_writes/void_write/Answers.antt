use Rattle.s10_rows.specs.declared.serial_row.SerialRow.{SerialRow}
use Rattle.s10_rows.specs.declared.serial_write.SerialWrite.TheVariants.{Again}
use Rattle.s10_rows.specs.RowWrites.{MakesWrites}
use Rattle.s10_replay.proofs.VoidRows.{void_makes}
use Rattle.s10_replay.proofs.derived_writes.void_write.Goals as goal
use Rattle.std.proofs.Common.{sym, subst, [], ◌∷◌}

pub returns : goal.returns
returns c h t e id legal may calls call asks done last =
    let P : SerialRow → Type 0 = λ row. MakesWrites h e [] (Again row ∷ []) in
    subst P (sym c.of.ensures) (void_makes h t e id c.args.issuance.now legal calls call asks done
    last)

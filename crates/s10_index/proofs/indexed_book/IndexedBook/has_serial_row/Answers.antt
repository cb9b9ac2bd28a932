use Rattle.std.proofs.Common.{◌∙◌, sym, ap, subst, Contains}
use Rattle.std.proofs.lemmas.Bool.{false≢true}
use Rattle.std.proofs.lemmas.Option.{none-some, same_Some}
use Rattle.s10_replay.proofs.Compared.{serial_decides}
use Rattle.s10_index.proofs.SerialLookups.{row_there, row_found}
use Rattle.s10_rows.specs.Tables.{serial_rows}
use Rattle.s10_index.specs.RowsFrom.{serial_row_of}
use Rattle.s10_index.proofs.indexed_book.IndexedBook.has_serial_row.Goals as goal

pub returns-in_default : goal.returns-in_default
returns-in_default c =
    let b = c.args.self.now in
    let h = b.index.entries.items in (
      λ t. absurd (false≢true t),
      λ among. let found = row_found h c.args.row.now b.indexed.ids among in
          absurd (none-some found.0.id (sym c.in_default.is
          ∙ c.id_in.ensures.kept found.0.id found.1 found.2)),
    )

pub returns-in-None : goal.returns-in-None
returns-in-None c =
    let b = c.args.self.now in
    let h = b.index.entries.items in (
      λ t. absurd (false≢true t),
      λ among. let found = row_found h c.args.row.now b.indexed.ids among in
          let one = same_Some c.in-Some.id found.0.id (sym c.in-Some.is
          ∙ c.id_in.ensures.kept found.0.id found.1 found.2) in
          absurd (none-some c.args.row.now (sym c.in-None.is ∙ c.serial_row.ensures
          ∙ ap (serial_row_of h) one ∙ found.3)),
    )

pub returns-in-Some-serial_row : goal.returns-in-Some-serial_row
returns-in-Some-serial_row c =
    let b = c.args.self.now in
    let h = b.index.entries.items in
    let row = c.args.row.now in
    let made = c.in-Some-serial_row.made in
    let there = row_there h c.in-Some.id made (sym c.serial_row.ensures
    ∙ c.in-Some-serial_row.is) in
    let same = serial_decides made row in (
      λ t. subst (Contains (serial_rows h)) (same.0 (sym c.eq.ensures ∙ t)) there,
      λ among. let found = row_found h row b.indexed.ids among in
          let one = same_Some c.in-Some.id found.0.id (sym c.in-Some.is
          ∙ c.id_in.ensures.kept found.0.id found.1 found.2) in
          c.eq.ensures ∙ same.1 (same_Some made row (sym c.in-Some-serial_row.is
          ∙ c.serial_row.ensures ∙ ap (serial_row_of h) one ∙ found.3)),
    )

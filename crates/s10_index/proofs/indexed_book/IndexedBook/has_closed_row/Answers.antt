use Rattle.std.proofs.Common.{◌∙◌, sym, ap, subst, Contains, rules, w64}
use mir.Val.{SFits}
use Rattle.std.proofs.lemmas.Int.{to_z-of_z}
use Rattle.std.proofs.lemmas.Bool.{false≢true}
use Rattle.std.proofs.lemmas.Option.{none-some, same_Some}
use Rattle.s10_replay.proofs.Compared.{closed_decides}
use Rattle.s10_rows.specs.Tables.{closed_rows}
use Rattle.s10_index.specs.RowsFrom.{closed_row_of}
use Rattle.s10_index.proofs.ClosedLookups.{closed_there, closed_found, own_arrival}
use Rattle.s10_index.proofs.indexed_book.IndexedBook.has_closed_row.Goals as goal

pub returns-in_default : goal.returns-in_default
returns-in_default c =
    let fits : SFits w64 c.args.row.now.arrival = search rules in (
      λ t. absurd (false≢true t),
      λ among. let found = closed_found c.args.self.now.index.entries.items c.args.row.now among in
          absurd (none-some found.0 (sym c.in_default.is ∙ c.place_of.ensures.kept found.0 (to_z-of_z w64 c.args.row.now.arrival fits ∙ (own_arrival c.args.self.now.index.entries.items found.0 c.args.row.now found.1)))),
    )

pub returns-in-None : goal.returns-in-None
returns-in-None c =
    let fits : SFits w64 c.args.row.now.arrival = search rules in
    let h = c.args.self.now.index.entries.items in (
      λ t. absurd (false≢true t),
      λ among. let found = closed_found c.args.self.now.index.entries.items c.args.row.now among in
          let one = same_Some c.in-Some.place found.0 (sym c.in-Some.is
          ∙ c.place_of.ensures.kept found.0 (to_z-of_z w64 c.args.row.now.arrival fits ∙ (own_arrival c.args.self.now.index.entries.items found.0 c.args.row.now found.1))) in
          absurd (none-some c.args.row.now (sym c.in-None.is ∙ c.closed_row.ensures
          ∙ ap (closed_row_of h) one ∙ found.1)),
    )

pub returns-in-Some-closed_row : goal.returns-in-Some-closed_row
returns-in-Some-closed_row c =
    let fits : SFits w64 c.args.row.now.arrival = search rules in
    let h = c.args.self.now.index.entries.items in
    let row = c.args.row.now in
    let made = c.in-Some-closed_row.closed in
    let there = closed_there h c.in-Some.place made (sym c.closed_row.ensures
    ∙ c.in-Some-closed_row.is) in
    let same = closed_decides made row in (
      λ t. subst (Contains (closed_rows h)) (same.0 (sym c.eq.ensures ∙ t)) there,
      λ among. let found = closed_found c.args.self.now.index.entries.items c.args.row.now among in
          let one = same_Some c.in-Some.place found.0 (sym c.in-Some.is
          ∙ c.place_of.ensures.kept found.0 (to_z-of_z w64 c.args.row.now.arrival fits ∙ (own_arrival c.args.self.now.index.entries.items found.0 c.args.row.now found.1))) in
          c.eq.ensures ∙ same.1 (same_Some made row (sym c.in-Some-closed_row.is
          ∙ c.closed_row.ensures ∙ ap (closed_row_of h) one ∙ found.1)),
    )

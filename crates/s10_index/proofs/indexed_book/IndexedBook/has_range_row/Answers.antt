use Rattle.std.proofs.Common.{◌∙◌, sym, ap, subst, Contains, rules, w64}
use mir.Val.{SFits}
use Rattle.std.proofs.lemmas.Int.{to_z-of_z}
use Rattle.std.specs.Prelude.{slice_get}
use Rattle.std.proofs.lemmas.Bool.{false≢true}
use Rattle.std.proofs.lemmas.Option.{none-some, same_Some}
use Rattle.s10_replay.proofs.Compared.{range_decides}
use Rattle.s10_rows.specs.Tables.{range_rows}
use Rattle.s10_index.proofs.SerialLookups.{from_index}
use Rattle.s10_index.proofs.RangeLookups.{range_found}
use Rattle.s10_index.proofs.indexed_book.IndexedBook.has_range_row.Goals as goal

pub returns-in_default : goal.returns-in_default
returns-in_default c =
    let fits : SFits w64 c.args.row.now.num = search rules in (
      λ t. absurd (false≢true t),
      λ among. let found = range_found c.args.self.now.index.entries.items c.args.row.now among in
          absurd (none-some found.0 (sym c.in_default.is ∙ c.place_of.ensures.kept found.0 (to_z-of_z w64 c.args.row.now.num fits ∙ found.2))),
    )

pub returns-in-None : goal.returns-in-None
returns-in-None c =
    let fits : SFits w64 c.args.row.now.num = search rules in
    let h = c.args.self.now.index.entries.items in (
      λ t. absurd (false≢true t),
      λ among. let found = range_found c.args.self.now.index.entries.items c.args.row.now among in
          let one = same_Some c.in-Some.place found.0 (sym c.in-Some.is
          ∙ c.place_of.ensures.kept found.0 (to_z-of_z w64 c.args.row.now.num fits ∙ found.2)) in
          absurd (none-some c.args.row.now (sym c.in-None.is ∙ c.range_row.ensures
          ∙ ap (slice_get (range_rows h)) one ∙ found.1)),
    )

pub returns-in-Some-range_row : goal.returns-in-Some-range_row
returns-in-Some-range_row c =
    let fits : SFits w64 c.args.row.now.num = search rules in
    let h = c.args.self.now.index.entries.items in
    let row = c.args.row.now in
    let made = c.in-Some-range_row.range in
    let there = from_index (range_rows h) made c.in-Some.place
    (sym c.range_row.ensures ∙ c.in-Some-range_row.is) in
    let same = range_decides made row in (
      λ t. subst (Contains (range_rows h)) (same.0 (sym c.eq.ensures ∙ t)) there,
      λ among. let found = range_found c.args.self.now.index.entries.items c.args.row.now among in
          let one = same_Some c.in-Some.place found.0 (sym c.in-Some.is
          ∙ c.place_of.ensures.kept found.0 (to_z-of_z w64 c.args.row.now.num fits ∙ found.2)) in
          c.eq.ensures ∙ same.1 (same_Some made row (sym c.in-Some-range_row.is
          ∙ c.range_row.ensures ∙ ap (slice_get (range_rows h)) one ∙ found.1)),
    )

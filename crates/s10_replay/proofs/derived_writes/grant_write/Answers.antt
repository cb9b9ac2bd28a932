use Rattle.std.proofs.Common.{◌≡◌, ℕ, sym, ap, ◌∙◌, subst, [], ◌∷◌, Some}
use Rattle.s10_wire.specs.declared.outcome.Outcome.{Outcome}
use Rattle.s10_wire.specs.declared.outcome.Outcome.TheVariants.{Granted}
use Rattle.s10_history.specs.History.{range_of_grant}
use Rattle.s10_rows.specs.declared.range_row.RangeRow.{RangeRow}
use Rattle.s10_rows.specs.declared.range_write.RangeWrite.TheVariants.{New}
use Rattle.s10_rows.specs.Tables.{range_row}
use Rattle.s10_rows.specs.RowWrites.{MakesWrites}
use Rattle.s10_replay.proofs.GrantRows.{grant_makes}
use Rattle.s10_replay.proofs.derived_writes.grant_write.Goals as goal

pub returns-clause-made : goal.returns-clause-made
returns-clause-made c = λ h t num legal may is.
    let n : ℕ = c.in-Granted.num in
    let r = c.in_ok-range.range in
    let made : range_of_grant n c.args.entry.now.request.body (Granted n) ≡ Some r =
    ap (λ (o : Outcome). range_of_grant n c.args.entry.now.request.body o) (sym c.in-Granted.is)
    ∙ sym c.range_made.ensures ∙ c.in_ok-range.was in
    let row : range_row r.first r ≡ c.of.result =
    sym (c.of.ensures ∙ ap (λ (mark : ℕ). range_row mark r) c.value.ensures.value) in
    let P : RangeRow → Type 0 = λ s. MakesWrites h c.args.entry.now (New s ∷ []) [] in
    subst P row (grant_makes h t c.args.entry.now n r legal may c.in-Granted.is made)

pub returns-clause-none : goal.returns-clause-none
returns-clause-none c = λ none. absurd (none c.in-Granted.num c.in-Granted.is)

use Rattle.std.proofs.Common.{◌∙◌, ℕ, sym, ap, option_map}
use Rattle.std.specs.Prelude.{slice_get}
use Rattle.std.proofs.lemmas.Option.{slice_get-map}
use Rattle.s10_core.specs.declared.id.Id.{Id}
use Rattle.s10_wire.specs.declared.outcome.Outcome.{Outcome}
use Rattle.s10_history.specs.Issues.{carried_by}
use Rattle.s10_history.proofs.entry.Entry.issued_at.Goals as goal

pub returns-in-None : goal.returns-in-None
returns-in-None c =
    let on_day : Id → ℕ × Id = λ id. (c.in-DrawnMany.day, id) in
    sym (ap (λ (o : Outcome). slice_get (carried_by o) c.args.place) c.in-DrawnMany.is
    ∙ slice_get-map on_day c.in-DrawnMany.ids c.args.place ∙ ap (option_map on_day)
    (sym c.get.ensures ∙ c.in-None.is))

pub returns-in-Some : goal.returns-in-Some
returns-in-Some c =
    let on_day : Id → ℕ × Id = λ id. (c.in-DrawnMany.day, id) in
    sym (ap (λ (o : Outcome). slice_get (carried_by o) c.args.place) c.in-DrawnMany.is
    ∙ slice_get-map on_day c.in-DrawnMany.ids c.args.place ∙ ap (option_map on_day)
    (sym c.get.ensures ∙ c.in-Some.is))

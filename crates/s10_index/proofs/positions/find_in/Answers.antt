use Rattle.std.proofs.Common.{◌∙◌, sym}
use Rattle.s10_index.proofs.Keyed.{found_call, found_none, placed_among}
use Rattle.s10_index.proofs.positions.find_in.Goals as goal

pub returns-in_err-place-clause-answer : goal.returns-in_err-place-clause-answer
returns-in_err-place-clause-answer c has =
    c.from_residual.ensures
    ∙ found_none c.args.calls.now.items c.args.customer c.args.number
    (sym (c.position_of.ensures has) ∙ c.in_err-place.was)

pub returns-clause-answer : goal.returns-clause-answer
returns-clause-answer c has =
    c.get.ensures
    ∙ found_call c.args.calls.now.items c.args.customer c.args.number c.in_ok-place.place has.keys
    (sym (c.position_of.ensures has) ∙ c.in_ok-place.was)

pub returns-in_err-place-clause-among : goal.returns-in_err-place-clause-among
returns-in_err-place-clause-among c = rw c.from_residual.ensures tt

pub returns-clause-among : goal.returns-clause-among
returns-clause-among c = rw c.get.ensures (placed_among c.args.calls.now.items c.in_ok-place.place)

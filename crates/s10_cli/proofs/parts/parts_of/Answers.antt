use Rattle.std.proofs.Common.{arith}
use Rattle.std.proofs.lemmas.Grind.{common_steps}
use Rattle.std.specs.Prelude.{◌≢◌, length, map}
use Rattle.clap.specs.Words.{found_of}
use Rattle.s10_cli.proofs.OptionLemmas.{has_parts, no_parts, not_three, three_are}
use Rattle.s10_cli.proofs.parts.parts_of.Goals.{in_default-via-then-branch-lt3, in_default-via-else-branch-lt3+else-this-lt4}
use Rattle.s10_cli.proofs.parts.parts_of.Goals as goal

pub returns-in_err-get_strs : goal.returns-in_err-get_strs
returns-in_err-get_strs c = rw c.from_residual.ensures
    (λ parts. no_parts (found_of c.args.found.now) parts c.in_err-get_strs.ensures)

pub returns-in_default : goal.returns-in_default
returns-in_default c = λ parts.
    let other : length (map (λ v. v.now) c.in_ok-get_strs.field-0.now) ≢ 3 =
    elim c.in_default.branch [
      | in_default-via-then-branch-lt3 w ↦ λ three. grind (arith, common_steps)
      | in_default-via-else-branch-lt3+else-this-lt4 w ↦ λ three. grind (arith, common_steps)
    ] in
    not_three (found_of c.args.found.now) _ parts c.in_ok-get_strs.ensures other

pub returns : goal.returns
returns c =
    has_parts (found_of c.args.found.now) _ _ c.in_ok-get_strs.ensures
    (three_are c.in_ok-get_strs.field-0.now _ (omega (arith, c.in-len3.len_at_least, c.in-len3.len_below)))

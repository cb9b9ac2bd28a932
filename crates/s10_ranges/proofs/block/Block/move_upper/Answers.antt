use Rattle.std.proofs.Common.{◌≡◌, ◌∙◌, ◌-◌, ◌+◌, ◌≤◌, ℕ, List, [], ◌++◌, take, drop, ap, ap₂, arith}
use Rattle.std.proofs.Common.{length}
use Rattle.std.specs.Prelude.{vec_len, vec_capacity}
use Rattle.std.proofs.lemmas.Bool.{cond-true}
use Rattle.std.proofs.lemmas.List.{take_rest, length-drop}
use Rattle.s10_ranges.specs.declared.block.TheConstants.{HALF}
use Rattle.s10_ranges.proofs.block.Block.move_upper.Goals as goal

pub returns-clause-upper : goal.returns-clause-upper
returns-clause-upper c =
    let xs = c.args.self.now in
    let now : c.deref.result.now ≡ xs = c.deref.ensures.value ∙ c.self.view_is in
    let none : c.upper.inside.indices.items ≡ [] = c.upper.view_is ∙ c.requires.empty in
    let part : take (length c.deref.result.now - HALF) (drop HALF c.deref.result.now) ≡ drop HALF xs =
    take_rest c.deref.result.now HALF ∙ ap (drop HALF) now in
    let room : vec_len c.upper.inside.indices
    + length (take (length c.deref.result.now - HALF) (drop HALF c.deref.result.now))
    ≤ vec_capacity c.upper.inside.indices = omega (
      arith,
      ap length part,
      ap length none,
      length-drop HALF xs,
      c.requires.full,
      c.upper.inside.indices.ok.0,
      c.upper.invariant.0,
    ) in
    c.extend_from_slice.ensures.items ∙ cond-true _ _ _ (c.extend_from_slice.ensures.succeeds room)
    ∙ ap₂ (λ (a b : List ℕ). a ++ b) none part

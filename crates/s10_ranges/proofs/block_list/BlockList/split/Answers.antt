use Rattle.std.proofs.Common.{◌≡◌, ◌∙◌, ◌+◌, ℕ, List, [], take, drop, set, get_or, sym, ap, ap₂}
use Rattle.std.specs.Prelude.{insert}
use Rattle.std.proofs.lemmas.Bool.{cond-true}
use Rattle.std.proofs.lemmas.List.{get_or_read}
use Rattle.std.proofs.lemmas.Option.{none-some}
use Rattle.s10_ranges.specs.declared.block.TheConstants.{HALF}
use Rattle.s10_ranges.specs.Blocks.{halved}
use Rattle.s10_ranges.proofs.Blocks.{halved_blocks}
use Rattle.s10_ranges.proofs.block_list.BlockList.split.Goals as goal

-- The list of the two halves.
are_halves : (bs : List (List ℕ)) (k : ℕ) (block lower upper : List ℕ) → block ≡ get_or bs k []
    → lower ≡ take HALF block → upper ≡ drop HALF block
    → insert (set bs k lower) (k + 1) upper ≡ halved bs k
unfolding halved
are_halves bs k block lower upper is low high =
    ap₂ (λ (a b : List ℕ). insert (set bs k a) (k + 1) b) (low ∙ ap (take HALF) is)
    (high ∙ ap (drop HALF) is)

pub invariant_of-self : goal.invariant_of-self
invariant_of-self c =
    let bs = c.args.self.now.blocks.items in
    let block = get_or_read bs c.args.block c.index_mut-lower.result.now c.requires.there
    c.index_mut-lower.ensures.value [] in
    let is = c.insert.ensures.items
    ∙ cond-true _ _ _ (c.insert.ensures.succeeds c.requires.room.blocks)
    ∙ are_halves bs c.args.block c.index_mut-lower.result.now c.move_upper.new.self
    c.move_upper.new.upper block c.move_upper.ensures.lower c.move_upper.ensures.upper in
    record {
      filled = rw is (halved_blocks bs c.args.block c.args.self.now.filled c.requires.there
          c.requires.full);
      unused = λ x e. absurd (none-some x (sym c.take.ensures.after ∙ e));
    }

pub returns-in-Some : goal.returns-in-Some
returns-in-Some c =
    let bs = c.args.self.now.blocks.items in
    let block = get_or_read bs c.args.block c.index_mut-lower.result.now c.requires.there
    c.index_mut-lower.ensures.value [] in
    c.insert.ensures.items
    ∙ cond-true _ _ _ (c.insert.ensures.succeeds c.requires.room.blocks)
    ∙ are_halves bs c.args.block c.index_mut-lower.result.now c.move_upper.new.self
    c.move_upper.new.upper block c.move_upper.ensures.lower c.move_upper.ensures.upper

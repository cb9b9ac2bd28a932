use Rattle.std.proofs.Common.{◌+◌, arith}
use Rattle.s10_ranges.proofs.block_list.BlockList.next_block.Goals as goal

pub returns-clause-at : goal.returns-clause-at
returns-clause-at c = record {
  within = omega (arith, c.requires);
  inside = λ next. c.args.self.now.filled.filled (c.args.cursor.block + 1) next;
  end = λ _. omega arith;
}

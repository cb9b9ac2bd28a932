use Rattle.std.proofs.Common.{◌≡◌, ◌+◌, ◌∷◌, ◌++◌, [], List, sym, subst, take, arith}
use Rattle.std.specs.Prelude.{All}
use Rattle.std.proofs.lemmas.List.Elements.{All-push}
use Rattle.s10_core.specs.declared.id.Id.{Id}
use Rattle.s10_core.specs.Id.{IsId}
use Rattle.s10_wire.proofs.Many.{one_more, spellings_more}
use Rattle.s10_wire.proofs.encoders.put_ids.Goals as goal

pub loop-id-preserved : goal.loop-id-preserved
loop-id-preserved c =
    let ids : List Id = c.args.ids.now in
    let grown : take (c.loop-id.id-index + 1) ids ≡ take c.loop-id.id-index ids ++ c.id-item.result
    ∷ [] = one_more ids c.loop-id.id-index c.id-item.result c.loop-id-test.true c.id-item.is in
    let P : List Id → Type 0 = All IsId in
    record {
      bytes = spellings_more _ _ _ (take c.loop-id.id-index ids) _ c.id-item.result
          c.loop-id.invariant.bytes c.put_id.ensures.bytes grown;
      len = omega (arith, c.put_id.ensures.len, c.loop-id.invariant.len);
      in_range = subst P (sym grown) (All-push IsId (take c.loop-id.id-index ids) c.id-item.result
          c.loop-id.invariant.in_range c.put_id.ensures.in_range);
    }

use Rattle.std.proofs.Common.{◌≡◌, ◌∙◌, ℕ, ◌+◌, ◌<◌, ◌%◌, List, length, get_or, sym, ap, subst, arith}
use Rattle.std.proofs.Math.ListN.{set, length-set}
use Rattle.s10_index.specs.HashChains.{AreEarlier, AreHeads}
use Rattle.s10_index.proofs.Chained.{earlier_more, heads_more}
use Rattle.s10_index.proofs.LastPlaces.{number_at}
use Rattle.s10_index.proofs.hash_chains.link_all.Goals as goal

pub loop-place-preserved : goal.loop-place-preserved
loop-place-preserved c =
    let hashes = c.args.hashes.now.items in
    let earlier = c.loop-place.earlier.items in
    let heads = c.loop-place.heads in
    let place = c.loop-place.place in
    let now = c.loop-place.invariant in
    let some : 0 < length heads = omega (arith, c.bucket_of-bucket.type_inv, c.requires.some) in
    let lt : place < length hashes =
    omega (arith, c.loop-place-test.true, c.len-place-end.ensures) in
    let own : c.bucket_of-bucket.result ≡ get_or hashes place 0 % length heads =
    c.bucket_of-bucket.ensures
    ∙ ap (λ (h : ℕ). h % length heads) (number_at hashes place c.at.result c.at.ensures) in
    let count : length (set heads c.bucket_of-bucket.result (place + 1)) ≡ length heads =
    length-set heads c.bucket_of-bucket.result (place + 1) in
    let long : length c.set.new.self.items ≡ length earlier =
    ap length c.set.ensures.items ∙ length-set earlier place _ in
    record {
      lengths = long ∙ now.lengths;
      room = c.set.ensures.room ∙ now.room;
      earlier = subst (λ (n : ℕ). AreEarlier hashes c.set.new.self.items n (place + 1)) (sym count)
          (subst (λ (l : List ℕ). AreEarlier hashes l (length heads) (place + 1))
          (sym (c.set.ensures.items
          ∙ ap (λ (b : ℕ). set earlier place (get_or heads b 0)) own))
          (earlier_more hashes earlier heads place lt now.lengths some now.earlier now.heads));
      heads = subst (λ (b : ℕ). AreHeads hashes (set heads b (place + 1)) (place + 1)) (sym own)
          (heads_more hashes heads place lt some now.heads);
    }

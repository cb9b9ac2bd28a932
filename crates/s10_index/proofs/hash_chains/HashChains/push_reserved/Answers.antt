use Rattle.std.proofs.Common.{◌≡◌, ◌∙◌, ℕ, ◌<◌, ◌%◌, length, ap}
use Rattle.std.proofs.Common.{arith}
use Rattle.std.proofs.Math.Nat.{mod-lt}
use Rattle.std.proofs.lemmas.List.{get_or_read}
use Rattle.s10_index.specs.HashChains.{HashList}
use Rattle.s10_index.proofs.Chained.{linked_push}
use Rattle.s10_index.proofs.hash_chains.HashChains.push_reserved.Goals as goal

pub invariant_of-self : goal.invariant_of-self
invariant_of-self c =
    let all = c.self.inside in
    let hash = c.args.hash in
    let few : length all.hashes.items < length all.heads.items = omega (
      arith,
      c.requires,
      ap (λ (v : HashList). v.room) c.self.view_is,
    ) in
    let some : 0 < length all.heads.items = omega (arith, few) in
    let own : c.bucket_of-bucket.result ≡ hash % length all.heads.items =
    c.bucket_of-bucket.ensures ∙ ap (λ (n : ℕ). hash % n) (c.len.ensures ∙ all.heads.ok.0) in
    let within : c.bucket_of-bucket.result < length all.heads.items =
    omega (arith, own, mod-lt hash some) in
    let head = get_or_read all.heads.items _ _ within c.index.ensures 0 in
    rw (
      c.push_reserved-2.ensures.items,
      c.push_reserved.ensures.items,
      head,
      own,
      c.len-place.ensures,
    )
    (linked_push all.hashes.items all.earlier.items all.heads.items hash c.self.invariant few)

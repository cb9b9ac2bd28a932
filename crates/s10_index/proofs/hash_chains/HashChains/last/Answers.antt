use Rattle.std.proofs.Common.{◌≡◌, ◌∙◌, ℕ, ◌<◌, ◌%◌, List, length, ap}
use Rattle.std.proofs.Common.{arith}
use Rattle.std.proofs.Math.Nat.{mod-lt}
use Rattle.std.proofs.lemmas.List.{get_or_read}
use Rattle.s10_index.specs.LastPlace.{last_place}
use Rattle.s10_index.specs.HashChains.{HashList, in_bucket, link_to}
use Rattle.s10_index.proofs.Chained.{has_hash, links_fall, head_falls}
use Rattle.s10_index.proofs.hash_chains.HashChains.last.Goals as goal

pub find_hash-requires-clause-from : goal.find_hash-requires-clause-from
find_hash-requires-clause-from c =
    let all = c.self.inside in
    let some : 0 < length all.heads.items =
    omega (arith, c.if-len-eq0.false, c.len.ensures, all.heads.ok.0) in
    let own : c.bucket_of-bucket.result ≡ c.args.hash % length all.heads.items =
    c.bucket_of-bucket.ensures ∙ ap (λ (n : ℕ). c.args.hash % n) (c.len-2.ensures
    ∙ all.heads.ok.0) in
    let within : c.bucket_of-bucket.result < length all.heads.items =
    omega (arith, own, mod-lt c.args.hash some) in
    omega (
      arith,
      get_or_read all.heads.items _ _ within c.index.ensures 0,
      head_falls all.hashes.items all.earlier.items all.heads.items c.self.invariant
          c.bucket_of-bucket.result within,
    )

pub find_hash-requires-clause-earlier : goal.find_hash-requires-clause-earlier
find_hash-requires-clause-earlier c =
    links_fall c.self.inside.hashes.items c.self.inside.earlier.items c.self.inside.heads.items
    c.self.invariant

pub returns : goal.returns
returns c =
    let all = c.self.inside in
    let view : all.hashes.items ≡ c.args.self.now.hashes =
    ap (λ (v : HashList). v.hashes) c.self.view_is in
    let n : ℕ = length all.hashes.items in
    let some : 0 < length all.heads.items =
    omega (arith, c.if-len-eq0.false, c.len.ensures, all.heads.ok.0) in
    let own : c.bucket_of-bucket.result ≡ c.args.hash % length all.heads.items =
    c.bucket_of-bucket.ensures ∙ ap (λ (n : ℕ). c.args.hash % n) (c.len-2.ensures
    ∙ all.heads.ok.0) in
    let within : c.bucket_of-bucket.result < length all.heads.items =
    omega (arith, own, mod-lt c.args.hash some) in
    let head = get_or_read all.heads.items _ _ within c.index.ensures 0 in
    c.find_hash.ensures (length all.heads.items) n c.self.invariant.linked (head
    ∙ c.self.invariant.headed c.bucket_of-bucket.result within
    ∙ ap (λ (b : ℕ). link_to (last_place (in_bucket (length all.heads.items) b) all.hashes.items n))
    own)
    ∙ ap (λ (l : List ℕ). last_place (has_hash c.args.hash) l (length l)) view

use Rattle.std.proofs.Common.{◌≡◌, ◌∙◌, ℕ, ◌<◌, ◌%◌, List, length, get_or, sym, ap, arith}
use Rattle.s10_index.specs.LastPlace.{last_place}
use Rattle.s10_index.specs.HashChains.{HashList, in_bucket, link_to}
use Rattle.s10_index.proofs.LastPlaces.{number_at}
use Rattle.s10_index.proofs.Chained.{has_hash, links_fall}
use Rattle.s10_index.proofs.hash_chains.HashChains.before.Goals as goal

pub find_hash-requires-clause-from : goal.find_hash-requires-clause-from
find_hash-requires-clause-from c =
    let all = c.self.inside in
    let place : c.args.place < length all.hashes.items =
    omega (arith, c.requires, ap (λ (v : HashList). length v.hashes) c.self.view_is) in
    omega (
      arith,
      place,
      number_at all.earlier.items c.args.place c.at.result c.at.ensures,
      links_fall all.hashes.items all.earlier.items all.heads.items c.self.invariant c.args.place
          (omega (arith, place, c.self.invariant.lengths)),
    )

pub find_hash-requires-clause-earlier : goal.find_hash-requires-clause-earlier
find_hash-requires-clause-earlier c =
    links_fall c.self.inside.hashes.items c.self.inside.earlier.items c.self.inside.heads.items
    c.self.invariant

pub returns : goal.returns
returns c =
    let all = c.self.inside in
    let view : all.hashes.items ≡ c.args.self.now.hashes =
    ap (λ (v : HashList). v.hashes) c.self.view_is in
    let place : c.args.place < length all.hashes.items = omega (arith, c.requires, ap length view) in
    let hash = number_at all.hashes.items c.args.place c.at-hash.result c.at-hash.ensures in
    let link = number_at all.earlier.items c.args.place c.at.result c.at.ensures in
    c.find_hash.ensures (length all.heads.items) c.args.place c.self.invariant.linked (link
    ∙ c.self.invariant.linked c.args.place place
    ∙ ap (λ (h : ℕ). link_to (last_place (in_bucket (length all.heads.items)
    (h % length all.heads.items)) all.hashes.items c.args.place)) (sym hash))
    ∙ ap (λ (h : ℕ). last_place (has_hash h) all.hashes.items c.args.place) hash
    ∙ ap (λ (l : List ℕ). last_place (has_hash (get_or l c.args.place 0)) l c.args.place) view

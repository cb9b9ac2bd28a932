use Rattle.std.proofs.Common.{Bool, ◌∙◌, ℕ, ◌<◌, List, Option, IfSome, length, get_or, sym, ap}
use Rattle.std.proofs.Common.{ap₂, subst, arith}
use Rattle.s10_history.specs.declared.entry.Entry.{Entry}
use Rattle.s10_history.specs.History.{has_key}
use Rattle.s10_index.specs.HashChains.{link_to}
use Rattle.s10_index.specs.KeyHash.{call_hash}
use Rattle.s10_index.specs.LastPlace.{last_place}
use Rattle.s10_index.proofs.Chained.{has_hash}
use Rattle.s10_index.proofs.Keyed.{hash_of_entry, key_hash}
use Rattle.s10_index.proofs.LastPlaces.{last_link, last_within}
use Rattle.s10_index.proofs.Walks.{Walks, walk_begins, walk_continues, walk_ends_with}
use Rattle.s10_index.proofs.Walks.{walk_ends_without}
use Rattle.s10_index.proofs.positions.position_of.Goals as goal

pub loop-found-init : goal.loop-found-init
loop-found-init c =
    let seed = c.args.seed.now in
    let hash = call_hash seed c.args.customer c.args.number in
    let hashes = c.args.positions.now.hashes in
    record {
      within = last_within (has_hash c.hash_of_call.result) hashes (length hashes)
          (length hashes) c.last-found.result (omega arith) c.last-found.ensures;
      walks = λ has. walk_begins (has_key c.args.customer c.args.number) (hash_of_entry seed) hash
          (key_hash seed c.args.customer c.args.number) c.args.calls.now.items c.last-found.result
          (c.last-found.ensures
          ∙ ap₂ (λ (h : ℕ) (l : List ℕ). last_place (has_hash h) l (length l)) c.hash_of_call.ensures
          has.hashes);
    }

pub loop-found-smaller : goal.loop-found-smaller
loop-found-smaller c =
    let hashes = c.args.positions.now.hashes in
    omega (
      arith,
      ap link_to c.in-Some.is,
      ap link_to c.before-found.ensures,
      last_link (has_hash (get_or hashes c.in-Some.place 0)) hashes c.in-Some.place,
    )

pub loop-found-preserved : goal.loop-found-preserved
loop-found-preserved c =
    let seed = c.args.seed.now in
    let calls = c.args.calls.now.items in
    let hashes = c.args.positions.now.hashes in
    let place = c.in-Some.place in
    let q : Entry → Bool = has_key c.args.customer c.args.number in
    let hash = call_hash seed c.args.customer c.args.number in
    let Within : Option ℕ → Type 0 = λ o. IfSome o (λ p. p < length hashes) in
    let at : place < length hashes = subst Within c.in-Some.is c.loop-found.invariant.within in
    record {
      within = last_within (has_hash (get_or hashes place 0)) hashes place (length hashes)
          c.before-found.result (omega (arith, at)) c.before-found.ensures;
      walks = λ has.
          walk_continues q (hash_of_entry seed) hash (key_hash seed c.args.customer c.args.number)
          calls place c.before-found.result
          (subst (Walks q (hash_of_entry seed) hash calls) c.in-Some.is
          (c.loop-found.invariant.walks has))
          (sym c.has_key_at.ensures ∙ c.if-has_key_at.false)
          (c.before-found.ensures
          ∙ ap (λ (l : List ℕ). last_place (has_hash (get_or l place 0)) l place) has.hashes);
    }

pub returns-then-has_key_at : goal.returns-then-has_key_at
returns-then-has_key_at c has =
    let q : Entry → Bool = has_key c.args.customer c.args.number in
    let hash = call_hash c.args.seed.now c.args.customer c.args.number in
    walk_ends_with q (hash_of_entry c.args.seed.now) hash c.args.calls.now.items c.in-Some.place
    (subst (Walks q (hash_of_entry c.args.seed.now) hash c.args.calls.now.items) c.in-Some.is
    (c.loop-found.invariant.walks has)) (sym c.has_key_at.ensures ∙ c.if-has_key_at.true)

pub returns : goal.returns
returns c has =
    let q : Entry → Bool = has_key c.args.customer c.args.number in
    let hash = call_hash c.args.seed.now c.args.customer c.args.number in
    walk_ends_without q (hash_of_entry c.args.seed.now) hash c.args.calls.now.items
    (subst (Walks q (hash_of_entry c.args.seed.now) hash c.args.calls.now.items) c.in_default.is
    (c.loop-found.invariant.walks has))

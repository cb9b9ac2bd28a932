use Rattle.std.proofs.Common.{◌∙◌, ℕ, ◌<◌, List, Option, IfSome, length, get_or, sym, ap, ap₂}
use Rattle.std.proofs.Common.{subst, arith}
use Rattle.s10_history.specs.declared.issuance.Issuance.{Issuance}
use Rattle.s10_history.specs.Issues.{is_of}
use Rattle.s10_index.specs.HashChains.{link_to}
use Rattle.s10_index.specs.KeyHash.{id_hash}
use Rattle.s10_index.specs.LastPlace.{last_place}
use Rattle.s10_index.proofs.Chained.{has_hash}
use Rattle.s10_index.proofs.IssueLogs.{id_hashes}
use Rattle.s10_index.proofs.LastPlaces.{last_link, last_within}
use Rattle.s10_index.proofs.Walks.{Walks, walk_begins, walk_continues, walk_ends_with}
use Rattle.s10_index.proofs.Walks.{walk_ends_without}
use Rattle.s10_index.proofs.issue_log.IssueLog.place_of.Goals as goal

pub loop-found-init : goal.loop-found-init
loop-found-init c =
    let seed = c.args.seed.now in
    let x = c.args.id.now in
    let hashes = c.args.self.now.chains.hashes in
    record {
      within = last_within (has_hash c.hash_of_id.result) hashes (length hashes) (length hashes)
          c.last-found.result (omega arith) c.last-found.ensures;
      walks = λ is held. walk_begins (is_of x) (λ (i : Issuance). id_hash seed i.id)
          (id_hash seed x) (id_hashes seed x) is c.last-found.result
          (c.last-found.ensures
          ∙ ap₂ (λ (h : ℕ) (l : List ℕ). last_place (has_hash h) l (length l))
          c.hash_of_id.ensures.value held.hashes);
    }

pub loop-found-smaller : goal.loop-found-smaller
loop-found-smaller c =
    let hashes = c.args.self.now.chains.hashes in
    omega (
      arith,
      ap link_to c.in-Some.is,
      ap link_to c.before-found.ensures,
      last_link (has_hash (get_or hashes c.in-Some.place 0)) hashes c.in-Some.place,
    )

pub loop-found-preserved : goal.loop-found-preserved
loop-found-preserved c =
    let seed = c.args.seed.now in
    let x = c.args.id.now in
    let hashes = c.args.self.now.chains.hashes in
    let place = c.in-Some.place in
    let f : Issuance → ℕ = λ i. id_hash seed i.id in
    let Within : Option ℕ → Type 0 = λ o. IfSome o (λ p. p < length hashes) in
    let at : place < length hashes = subst Within c.in-Some.is c.loop-found.invariant.within in
    record {
      within = last_within (has_hash (get_or hashes place 0)) hashes place (length hashes)
          c.before-found.result (omega (arith, at)) c.before-found.ensures;
      walks = λ is held.
          walk_continues (is_of x) f (id_hash seed x) (id_hashes seed x) is place
          c.before-found.result
          (subst (Walks (is_of x) f (id_hash seed x) is) c.in-Some.is
          (c.loop-found.invariant.walks is held))
          (sym (c.is_of.ensures is held.places) ∙ c.if-is_of.false)
          (c.before-found.ensures
          ∙ ap (λ (l : List ℕ). last_place (has_hash (get_or l place 0)) l place) held.hashes);
    }

pub returns-then-is_of-clause-answer : goal.returns-then-is_of-clause-answer
returns-then-is_of-clause-answer c is held =
    let seed = c.args.seed.now in
    let x = c.args.id.now in
    let f : Issuance → ℕ = λ i. id_hash seed i.id in
    walk_ends_with (is_of x) f (id_hash seed x) is c.in-Some.place
    (subst (Walks (is_of x) f (id_hash seed x) is) c.in-Some.is
    (c.loop-found.invariant.walks is held)) (sym (c.is_of.ensures is held.places)
    ∙ c.if-is_of.true)

pub returns-clause-answer : goal.returns-clause-answer
returns-clause-answer c is held =
    let seed = c.args.seed.now in
    let x = c.args.id.now in
    let f : Issuance → ℕ = λ i. id_hash seed i.id in
    walk_ends_without (is_of x) f (id_hash seed x) is
    (subst (Walks (is_of x) f (id_hash seed x) is) c.in_default.is
    (c.loop-found.invariant.walks is held))

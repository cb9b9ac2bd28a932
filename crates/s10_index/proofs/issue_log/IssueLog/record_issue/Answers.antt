use Rattle.std.proofs.Common.{◌∙◌, ◌+◌, ℕ, Bool, false, cond, ◌++◌, ◌∷◌, []}
use Rattle.std.proofs.Common.{refl, sym, ap, arith}
use Rattle.std.specs.Prelude.{not}
use Rattle.s10_index.proofs.IssueLogs.{holds_push, voids_push, places_count}
use Rattle.s10_index.proofs.issue_log.IssueLog.record_issue.Goals as goal

pub returns-then-first-clause-held : goal.returns-then-first-clause-held
returns-then-first-clause-held c is i same at held =
    let known = c.place_of.result in
    let none = c.is_none-first.ensures ∙ ap not c.if-first.true in
    holds_push c.args.seed.now c.args.self.now _ c.args.calls.now.items is i
    (record { call = c.args.call; at = c.args.at; voided = false }) c.args.id.now known held same at
    c.push_reserved.ensures.items
    (c.push_reserved-2.ensures.hashes
    ∙ ap (λ (n : ℕ). c.args.self.now.chains.hashes ++ n ∷ []) c.hash_of_id.ensures.value)
    (c.place_of.ensures.answer is held)
    (sym (ap (λ (b : Bool). c.args.self.now.identifiers + cond b 0 1) none))

pub returns-then-first-clause-voids : goal.returns-then-first-clause-voids
returns-then-first-clause-voids c is i same none held before =
    voids_push c.args.self.now.places.items c.push_reserved.new.self.items c.args.calls.now.items is
    i (record { call = c.args.call; at = c.args.at; voided = false })
    (places_count c.args.calls.now.items c.args.self.now.places.items is held.places) refl none
    c.push_reserved.ensures.items before

pub returns-else-first-clause-held : goal.returns-else-first-clause-held
returns-else-first-clause-held c is i same at held =
    let known = c.place_of.result in
    let some = c.is_none-first.ensures ∙ ap not c.if-first.false in
    holds_push c.args.seed.now c.args.self.now _ c.args.calls.now.items is i
    (record { call = c.args.call; at = c.args.at; voided = false }) c.args.id.now known held same at
    c.push_reserved.ensures.items
    (c.push_reserved-2.ensures.hashes
    ∙ ap (λ (n : ℕ). c.args.self.now.chains.hashes ++ n ∷ []) c.hash_of_id.ensures.value)
    (c.place_of.ensures.answer is held)
    (omega arith ∙ sym (ap (λ (b : Bool). c.args.self.now.identifiers + cond b 0 1) some))

pub returns-else-first-clause-voids : goal.returns-else-first-clause-voids
returns-else-first-clause-voids c is i same none held before =
    voids_push c.args.self.now.places.items c.push_reserved.new.self.items c.args.calls.now.items is
    i (record { call = c.args.call; at = c.args.at; voided = false })
    (places_count c.args.calls.now.items c.args.self.now.places.items is held.places) refl none
    c.push_reserved.ensures.items before

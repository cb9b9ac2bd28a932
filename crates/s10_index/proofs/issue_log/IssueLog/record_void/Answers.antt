use Rattle.std.proofs.Common.{◌∙◌, true, List, refl, sym, subst}
use Rattle.s10_history.specs.declared.entry.Entry.{Entry}
use Rattle.s10_index.specs.IssueLog.{HasVoids}
use Rattle.s10_index.proofs.IssueLogs.{holds_set, voids_set, voids_unset}
use Rattle.s10_index.proofs.issue_log.IssueLog.record_void.Goals as goal

pub returns-in-Some-clause-held : goal.returns-in-Some-clause-held
returns-in-Some-clause-held c is held =
    let last = c.at-last.result in
    holds_set c.args.seed.now c.args.self.now _ c.args.calls.now.items is c.in-Some.place last
    (record { call = last.call; at = last.at; voided = true }) c.at-last.ensures refl refl
    c.set.ensures.items refl refl held

pub returns-in-Some-clause-voids : goal.returns-in-Some-clause-voids
returns-in-Some-clause-voids c h e is grown asks done few held before =
    let last = c.at-last.result in
    let places = c.set.new.self.items in
    subst (λ (l : List Entry). HasVoids places l is) (sym grown)
    (voids_set c.args.self.now.places.items places h e is c.args.id.now c.in-Some.place last
    (record { call = last.call; at = last.at; voided = true }) asks done few
    (sym (c.place_of.ensures.answer is held) ∙ c.in-Some.is) c.at-last.ensures refl
    c.set.ensures.items before)

pub returns-in_default-clause-voids : goal.returns-in_default-clause-voids
returns-in_default-clause-voids c h e is grown asks done few held before =
    let places = c.args.self.now.places.items in
    subst (λ (l : List Entry). HasVoids places l is) (sym grown)
    (voids_unset places h e is c.args.id.now asks done
    (sym (c.place_of.ensures.answer is held) ∙ c.in_default.is) before)

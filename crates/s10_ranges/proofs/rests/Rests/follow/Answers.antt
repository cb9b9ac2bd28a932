use Rattle.std.proofs.Common.{◌≡◌, ◌∙◌, ◌∷◌, ◌++◌, [], Bool, true, false, cond, sym, ap, subst, append-nil}
use Rattle.std.specs.Prelude.{is_some}
use Rattle.s10_history.specs.History.{range_of_grant}
use Rattle.s10_ranges.specs.declared.rest.Rest.TheVariants.{Unknown}
use Rattle.s10_ranges.specs.Rests.{AreRests}
use Rattle.s10_ranges.proofs.Resting.{rests_follow}
use Rattle.s10_ranges.proofs.rests.Rests.follow.Goals as goal

pub returns-then-is_some : goal.returns-then-is_some
returns-then-is_some c h t legal may was =
    let e = c.args.entry.now in
    let rests = c.args.self.now.list.items in
    let made : is_some (range_of_grant 1 e.request.body e.outcome) ≡ true =
    ap is_some (sym c.range_made.ensures) ∙ sym c.is_some.ensures ∙ c.if-is_some.true in
    subst (AreRests (h ++ e ∷ []))
    (ap (λ (b : Bool). rests ++ cond b (Unknown ∷ []) []) made ∙ sym c.push_reserved.ensures.items)
    (rests_follow h t e rests legal may was)

pub returns-else-is_some : goal.returns-else-is_some
returns-else-is_some c h t legal may was =
    let e = c.args.entry.now in
    let rests = c.args.self.now.list.items in
    let made : is_some (range_of_grant 1 e.request.body e.outcome) ≡ false =
    ap is_some (sym c.range_made.ensures) ∙ sym c.is_some.ensures ∙ c.if-is_some.false in
    subst (AreRests (h ++ e ∷ []))
    (ap (λ (b : Bool). rests ++ cond b (Unknown ∷ []) []) made ∙ append-nil rests)
    (rests_follow h t e rests legal may was)

use Rattle.std.proofs.Common.{◌≡◌, rules, sym, ◌∙◌, true, false, Some}
use Rattle.s10_history.specs.Issues.{issues_at, is_of}
use Rattle.s10_ranges.proofs.Earlier.{issued_before, not_issued_yet}
use Rattle.s10_ranges.proofs.lap_at.is_issued_before.Goals as goal
use Rattle.s10_ranges.proofs.lap_at.is_issued_before.Goals.{in-Some+else-eq, in_default}

pub returns-then-eq : goal.returns-then-eq
returns-then-eq c =
    let same : is_of c.args.id.now c.in-Some.issuance ≡ true = Prim.search rules in
    sym (issued_before (issues_at 0 c.args.entry.now) c.args.place
    c.loop-earlier.earlier c.in-Some.issuance c.args.id.now (sym c.issue.ensures ∙ c.in-Some.is)
    c.loop-earlier-test.true same)

pub loop-earlier-preserved : goal.loop-earlier-preserved
loop-earlier-preserved c =
    not_issued_yet (issues_at 0 c.args.entry.now) c.loop-earlier.earlier c.args.id.now
    c.loop-earlier.invariant (λ i there.
    let found : c.issue.result ≡ Some i = c.issue.ensures ∙ there in
    elim c.match-issue.branch [
      | in-Some+else-eq w ↦
          let other : is_of c.args.id.now w.in-Some.issuance ≡ false = Prim.search rules in
          let this : Some w.in-Some.issuance ≡ Some i = sym w.in-Some.is ∙ found in
          cc
      | in_default w ↦ absurd (w.in_default.not-Some i found)
    ])

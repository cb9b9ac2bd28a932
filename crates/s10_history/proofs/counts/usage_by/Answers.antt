use Rattle.std.proofs.Common.{◌≡◌, ◌∙◌, ◌≤◌, ◌<◌, ◌+◌, refl, ap, arith}
use Rattle.std.proofs.lemmas.Fn.{says_at}
use Rattle.s10_history.specs.Issues.{id_at, last_issue_of}
use Rattle.s10_history.proofs.Counting.{UsedBelow-step, UsedBelow-all, one_more}
use Rattle.s10_history.proofs.counts.usage_by.Goals as goal
use Rattle.s10_history.proofs.counts.usage_by.Goals.{else-loop-value-test, then-loop-value-test+else-value-value-end}

pub loop-value-preserved : goal.loop-value-preserved
loop-value-preserved g c =
    let le : c.loop-value.value ≤ c.args.range.now.last = omega (
      arith,
      c.loop-value-test.true,
      c.value-value-end.ensures.value,
    ) in
    record {
      used = omega (arith, one_more _ _ _ c.count_if.ensures, c.loop-value.invariant.used);
      voided = omega (
        arith,
        one_more _ _ _ c.count_if-in-loop-value.ensures,
        c.loop-value.invariant.voided,
      );
      free = omega (
        arith,
        one_more _ _ _ c.count_if-in-loop-value-2.ensures,
        c.loop-value.invariant.free,
      );
      below = λ h finds.
          let known : c.last_issue-last.result ≡ last_issue_of h (id_at c.args.range.now
          c.loop-value.value) = finds _ _ (says_at g.F.Fn c.last_issue-last.ensures refl)
          ∙ ap (last_issue_of h) c.id_in_range.ensures in
          UsedBelow-step h c.args.range.now c.args.day c.args.interval
          c.loop-value.value c.loop-value.usage _ _ _ _ _ le known c.is_some.ensures
          c.is_voided.ensures c.is_free.ensures c.count_if.ensures c.count_if-in-loop-value.ensures
          c.count_if-in-loop-value-2.ensures (c.loop-value.invariant.below h finds);
    }

pub returns : goal.returns
returns g c h finds =
    let r = c.args.range.now in
    let value = c.loop-value.value in
    let below = c.loop-value.invariant.below h finds in
    elim c.loop-value-test.branch [
      | else-loop-value-test w ↦
          let past : r.last < value = omega (
            arith,
            w.loop-value-test.false,
            c.value-value-end.ensures.value,
          ) in
          rw w.usage-is (UsedBelow-all h r c.args.day c.args.interval value _ past below)
      | then-loop-value-test+else-value-value-end w ↦
          let le : value ≤ r.last = omega (
            arith,
            w.loop-value-test.true,
            c.value-value-end.ensures.value,
          ) in
          let past : r.last < value + 1 = omega arith in
          let known : w.last_issue-last.result ≡ last_issue_of h (id_at r value) = finds _ _
          (says_at g.F.Fn w.last_issue-last.ensures refl)
          ∙ ap (last_issue_of h) w.id_in_range.ensures in
          let all = UsedBelow-step h r c.args.day c.args.interval value
          c.loop-value.usage _ _ _ _ _ le known w.is_some.ensures w.is_voided.ensures
          w.is_free.ensures w.count_if.ensures w.count_if-in-loop-value.ensures
          w.count_if-in-loop-value-2.ensures below in
          rw w.usage-is (UsedBelow-all h r c.args.day c.args.interval (value + 1) _ past all)
    ]

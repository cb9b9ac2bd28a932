use Rattle.std.proofs.Common.{◌∙◌, sym, true, false}
use Rattle.s10_history.proofs.Issued.{last_issuance_of-step}
use Rattle.s10_history.proofs.issues.last_issuance_in.Goals as goal
use Rattle.s10_history.proofs.issues.last_issuance_in.Goals.{then-is_issue_of, else-is_issue_of}

pub loop-issue-preserved : goal.loop-issue-preserved
loop-issue-preserved c =
    elim c.if-is_issue_of.branch [
      | then-is_issue_of w ↦ w.found-is
          ∙ sym (last_issuance_of-step c.args.issues.now c.loop-issue.issue-index
          c.issue-item.result c.args.id.now true c.loop-issue-test.true c.issue-item.is
          (sym w.if-is_issue_of.true ∙ c.is_issue_of.ensures))
      | else-is_issue_of w ↦ w.found-is ∙ c.loop-issue.invariant
          ∙ sym (last_issuance_of-step c.args.issues.now c.loop-issue.issue-index
          c.issue-item.result c.args.id.now false c.loop-issue-test.true c.issue-item.is
          (sym w.if-is_issue_of.false ∙ c.is_issue_of.ensures))
    ]

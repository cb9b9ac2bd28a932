use Rattle.std.proofs.Common.{◌∙◌, sym, ap}
use Rattle.std.proofs.lemmas.Option.{none-some, same_Some}
use Rattle.s10_history.specs.Issues.{is_of}
use Rattle.s10_index.proofs.IssueLogs.{issue_there}
use Rattle.s10_index.proofs.LastPlaces.{at_element}
use Rattle.s10_index.proofs.issue_log.IssueLog.is_of.Goals as goal

pub returns-in-None : goal.returns-in-None
returns-in-None c is all =
    let there = issue_there c.args.calls.now.items c.args.self.now.places.items is c.args.place
    c.at-at.result all c.at-at.ensures in
    absurd (none-some there.0 (sym c.in-None.is ∙ c.issuance_at.ensures ∙ there.2))

pub returns-in-Some : goal.returns-in-Some
returns-in-Some c is all =
    let there = issue_there c.args.calls.now.items c.args.self.now.places.items is c.args.place
    c.at-at.result all c.at-at.ensures in
    let one = same_Some c.in-Some.issuance there.0
    (sym c.in-Some.is ∙ c.issuance_at.ensures ∙ there.2) in
    c.is_issue_of.ensures ∙ ap (is_of c.args.id.now) one
    ∙ sym (at_element (is_of c.args.id.now) is c.args.place there.0 there.1)

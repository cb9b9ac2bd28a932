use Rattle.std.proofs.Common.{◌∙◌, ◌<◌, Bool, Some, length, sym, ap, arith}
use Rattle.std.specs.Prelude.{Option}
use Rattle.std.specs.Option.{option_map}
use Rattle.std.proofs.lemmas.Option.{same_Some}
use Rattle.s10_history.specs.declared.issue.Issue.{Issue}
use Rattle.s10_history.specs.declared.issuance.Issuance.{Issuance}
use Rattle.s10_history.specs.Issues.{voided_after}
use Rattle.s10_rows.specs.Tables.{serial_row}
use Rattle.s10_rows.specs.declared.serial_row.SerialRow.{SerialRow}
use Rattle.s10_index.proofs.Recording.{issue_in_history, last_told}
use Rattle.s10_index.proofs.indexed_book.IndexedBook.serial_row.Goals as goal

pub returns-in_err-issuance : goal.returns-in_err-issuance
returns-in_err-issuance c =
    let b = c.args.self.now in
    let h = b.index.entries.items in
    let few : length h < 4294967295 =
    omega (arith, c.len-len.ensures.answer tt, c.len-len.ensures.few) in
    let none = sym (c.last_issuance.ensures h b.settings b.legal few b.indexed)
    ∙ c.in_err-issuance.was in
    c.from_residual-in_err-issuance.ensures
    ∙ sym (ap (option_map (λ (i : Issuance). serial_row (voided_after i.arrival h c.args.id.now) i))
    none)

pub returns : goal.returns
returns c =
    let b = c.args.self.now in
    let h = b.index.entries.items in
    let x = c.args.id.now in
    let i = c.in_ok-issuance.issuance in
    let few : length h < 4294967295 =
    omega (arith, c.len-len.ensures.answer tt, c.len-len.ensures.few) in
    let last = sym (c.last_issuance.ensures h b.settings b.legal few b.indexed)
    ∙ c.in_ok-issuance.was in
    let told = sym (c.last_issue.ensures h b.indexed) ∙ c.in_ok-issue.was in
    let same = same_Some (issue_in_history h x i) c.in_ok-issue.issue
    (ap (option_map (issue_in_history h x)) (sym last) ∙ sym (last_told h x) ∙ told) in
    let row : Bool → Option SerialRow = λ v. Some (serial_row v i) in
    ap Some c.of.ensures ∙ ap (λ (k : Issue). row k.voided) (sym same)
    ∙ sym (ap (option_map (λ (j : Issuance). serial_row (voided_after j.arrival h x) j)) last)

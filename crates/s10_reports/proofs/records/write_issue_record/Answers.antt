use Rattle.std.proofs.Common.{◌≡◌, [], ◌∷◌, ◌∙◌, refl, decimal}
use Rattle.s10_core.specs.Id.{spelling_of}
use Rattle.s10_dates.specs.Dates.{date_of, date_text}
use Rattle.s10_reports.specs.Records.{issue_record, range_number}
use Rattle.s10_reports.specs.States.{state_of}
use Rattle.s10_reports.proofs.Plain.{◌▸◌, plain-date, plain-decimal, plain-range_number, plain-spelling}
use Rattle.s10_reports.proofs.Plain.{plain-state, record_written}
use Rattle.s10_reports.proofs.records.write_issue_record.Goals as goal
use Rattle.s10_reports.proofs.records.write_issue_record.Goals.{in-None, in-Some}

pub returns : goal.returns
unfolding issue_record
returns g c =
    let i = c.args.issuance.now in
    let range = c.args.range.now in
    let last = c.args.last.now in
    let number : c.match-range.range_number.now ≡ range_number range =
    elim c.match-range.branch [
      | in-None w ↦ rw (w.in-None.is, w.range_number-is) refl
      | in-Some w ↦ rw (w.in-Some.is, w.range_number-is, w.as_bytes-range_number.ensures.value) w.format.ensures.text
    ] in
    record_written _ _ c.write_record.result (decimal i.arrival) (decimal i.day)
    (date_text (date_of i.day) ∷ decimal i.customer ∷ decimal i.number ∷ spelling_of i.id
    ∷ range_number range ∷ state_of i last ∷ [])
    (plain-decimal i.arrival)
    (plain-decimal i.day ▸ plain-date (date_of i.day) ▸ plain-decimal i.customer
    ▸ plain-decimal i.number ▸ plain-spelling i.id c.write.ensures.in_range
    ▸ plain-range_number range ▸ plain-state i last ▸ tt)
    (rw (
      c.as_bytes.ensures.value ∙ c.format-2.ensures.text,
      c.as_bytes-2.ensures.value ∙ c.format-3.ensures.text,
      c.as_slice.ensures.value ∙ c.in_ok-date.ensures,
      c.as_bytes-3.ensures.value ∙ c.format-4.ensures.text,
      c.as_bytes-4.ensures.value ∙ c.format-5.ensures.text,
      c.write.ensures.spelled,
      number,
      c.state.ensures,
    ) at c.write_record.ensures)

use Rattle.std.proofs.Common.{[], ◌∷◌, ◌∙◌, decimal}
use Rattle.s10_core.specs.Letters.{letters_of}
use Rattle.s10_core.specs.Serial.{digits_of}
use Rattle.s10_dates.specs.Dates.{date_of, date_text}
use Rattle.s10_reports.specs.Records.{range_record, yes_or_no}
use Rattle.s10_reports.proofs.Plain.{◌▸◌, plain-date, plain-decimal, plain-digits, plain-letters}
use Rattle.s10_reports.proofs.Plain.{plain-yes_or_no, record_written}
use Rattle.s10_reports.proofs.records.write_range_record.Goals as goal

pub returns : goal.returns
unfolding range_record
returns g c =
    let r = c.args.range.now in
    let u = c.args.usage.now in
    record_written _ _ c.write_record.result (decimal r.num) (decimal r.holder)
    (letters_of r.service ∷ letters_of r.country ∷ digits_of r.first ∷ digits_of r.last
    ∷ decimal u.used ∷ decimal u.voided ∷ decimal u.free ∷ yes_or_no c.args.closed
    ∷ decimal c.args.day ∷ date_text (date_of c.args.day) ∷ [])
    (plain-decimal r.num)
    (plain-decimal r.holder ▸ plain-letters r.service c.bytes.ensures.capitals
    ▸ plain-letters r.country c.bytes-2.ensures.capitals ▸ plain-digits r.first
    ▸ plain-digits r.last ▸ plain-decimal u.used ▸ plain-decimal u.voided ▸ plain-decimal u.free
    ▸ plain-yes_or_no c.args.closed ▸ plain-decimal c.args.day
    ▸ plain-date (date_of c.args.day) ▸ tt)
    (rw (
      c.as_bytes.ensures.value ∙ c.format.ensures.text,
      c.as_bytes-2.ensures.value ∙ c.format-2.ensures.text,
      c.bytes.ensures.letters,
      c.bytes-2.ensures.letters,
      c.serial_digits.ensures.digits,
      c.serial_digits-2.ensures.digits,
      c.as_bytes-3.ensures.value ∙ c.format-3.ensures.text,
      c.as_bytes-4.ensures.value ∙ c.format-4.ensures.text,
      c.as_bytes-5.ensures.value ∙ c.format-5.ensures.text,
      c.yes_or_no.ensures,
      c.as_bytes-6.ensures.value ∙ c.format-6.ensures.text,
      c.as_slice.ensures.value ∙ c.in_ok-date.ensures,
    ) at c.write_record.ensures)

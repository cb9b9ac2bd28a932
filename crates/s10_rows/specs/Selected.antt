-- Defines which rows the statements select, and when a value has a row.
use Rattle.std.specs.Prelude.{◌^◌, ◌<◌, ℤ, Bool, ◌&&◌, IsTrue, int_le}
use Rattle.std.specs.Ordering.{int_eq}
use Rattle.s10_core.specs.Letters.{AreCapitals}
use Rattle.s10_core.specs.Serial.{IsSerial}
use Rattle.s10_core.specs.Id.{IsId}
use Rattle.s10_wire.specs.Kind.{fits}
use Rattle.s10_wire.specs.Datagrams.{IsRequest, IsOutcome}
use Rattle.s10_history.specs.declared.entry.Entry.{Entry}
use Rattle.s10_history.specs.declared.range.Range.{Range}
use Rattle.s10_history.specs.declared.issue.Issue.{Issue}
use Rattle.s10_history.specs.declared.issuance.Issuance.{Issuance}
use Rattle.s10_rows.specs.declared.serial_row.SerialRow.{SerialRow}
use Rattle.s10_rows.specs.CallRow.{StoredCall}

-- A call has a row if each part of it is in its bounds.
pub record IsCall (e : Entry) : Type 0 where
  pub request : IsRequest e.request
  pub outcome : IsOutcome e.outcome
  pub fitting : IsTrue (fits e.request.body e.outcome)
  pub day : e.day < 2 ^ 32

-- A range has a row if each part of it is in its bounds.
pub record IsRange (r : Range) : Type 0 where
  pub num : r.num < 2 ^ 32
  pub holder : r.holder < 2 ^ 32
  pub service : AreCapitals r.service
  pub country : AreCapitals r.country
  pub first : IsSerial r.first
  pub last : IsSerial r.last

-- An issuance has a row if each part of it is in its bounds.
pub record IsIssuance (i : Issuance) : Type 0 where
  pub id : IsId i.id
  pub day : i.day < 2 ^ 32
  pub customer : i.customer < 2 ^ 32
  pub number : i.number < 2 ^ 32

-- The issue that the row of an issuance records.
abbrev pub issue_in_row : Bool → Issuance → Issue
issue_in_row voided i = record {
  day = i.day;
  voided = voided;
  customer = i.customer;
  number = i.number;
}

-- Whether the arrival of a row is from low to high.
abbrev pub arrives_between : ℤ → ℤ → StoredCall → Bool
arrives_between low high c = int_le low c.arrival && int_le c.arrival high

-- Whether the row has that pair, and a serial from low to high.
abbrev pub is_within : ℤ → ℤ → ℤ → SerialRow → Bool
is_within pair low high r = int_eq r.pair pair && int_le low r.serial && int_le r.serial high

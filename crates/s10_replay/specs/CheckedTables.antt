-- Defines what an opening finds of the rows of the five tables.
use Rattle.std.specs.Prelude.{◌≡◌, ◌≢◌, ℕ, zero, suc, ℤ, pos, List, [], ◌∷◌, length, take}
use Rattle.std.specs.Prelude.{slice_get, Some, ⊤}
use Rattle.s10_history.specs.Settings.{Terms, AreTerms}
use Rattle.s10_rows.specs.declared.head_row.HeadRow.{HeadRow}
use Rattle.s10_rows.specs.declared.open_fault.OpenFault.{OpenFault}
use Rattle.s10_rows.specs.declared.open_fault.OpenFault.TheVariants.{NotALedger, Schema, Damaged}
use Rattle.s10_rows.specs.declared.open_fault.OpenFault.TheVariants.{NotEmpty, Memory, Store}
use Rattle.s10_rows.specs.CallRow.{StoredCall}
use Rattle.s10_rows.specs.Tables.{Tables, HaveSameRows, head_row, range_rows, serial_rows}
use Rattle.s10_rows.specs.Tables.{closed_rows}
use Rattle.s10_replay.specs.RightRows.{IsRightRow, AreRight, kept_of}

-- Head is one row with that schema number, and with settings in their limits.
pub record IsHead (heads : List HeadRow) (schema : ℤ) (t : Terms) : Type 0 where
  pub row : heads ≡ record (head_row t) { schema = schema } ∷ []
  pub in_limits : AreTerms t

-- The derived rows (ranges, serials and closed) are those of the kept calls.
pub record AreDerived (tables : Tables) : Type 0 where
  pub ranges : HaveSameRows (range_rows (kept_of tables.calls)) tables.ranges
  pub serials : HaveSameRows (serial_rows (kept_of tables.calls)) tables.serials
  pub closed : HaveSameRows (closed_rows (kept_of tables.calls)) tables.closed

-- The rows, with those of calls in order of arrival, are those of a ledger with these settings.
pub record IsConsistent (tables : Tables) (t : Terms) : Type 0 where
  pub head : IsHead tables.heads (pos 1) t
  pub right : AreRight t tables.calls
  pub made : AreDerived tables

-- Row k, from 0, is the first that is not right.
pub record IsFirstWrong (t : Terms) (calls : List StoredCall) (k : ℕ) : Type 0 where
  pub right : AreRight t (take k calls)
  pub row : StoredCall
  pub there : slice_get calls k ≡ Some row
  pub wrong : ¬ IsRightRow t (kept_of (take k calls)) row

-- The fault is what is wrong with the rows if no fault before it applies.
abbrev pub IsRefusal : Tables → OpenFault → Type 0
IsRefusal tables NotALedger = (schema : ℤ) (t : Terms) → ¬ IsHead tables.heads schema t
IsRefusal tables (Schema n) = (t : Terms) × IsHead tables.heads n t × (n ≢ pos 1)
IsRefusal tables (Damaged zero) = (t : Terms) × IsHead tables.heads (pos 1) t
    × AreRight t tables.calls × ¬ AreDerived tables
IsRefusal tables (Damaged (suc k)) = (t : Terms) × IsHead tables.heads (pos 1) t
    × IsFirstWrong t tables.calls k
IsRefusal tables NotEmpty = ⊥
IsRefusal tables Memory = ⊤
IsRefusal tables Store = ⊤

-- Defines the outcomes and calls that compact ones represent.
use Rattle.std.specs.Prelude.{ℕ, ◌<◌, ⊤, List, [], ◌∷◌, get_or}
use Rattle.s10_core.specs.declared.id.Id.{Id}
use Rattle.s10_wire.specs.declared.outcome.Outcome.{Outcome}
use Rattle.s10_wire.specs.declared.outcome.Outcome.TheVariants as outcomes
use Rattle.s10_history.specs.declared.entry.Entry.{Entry}
use Rattle.s10_index.specs.declared.compact_outcome.CompactOutcome.{CompactOutcome}
use Rattle.s10_index.specs.declared.compact_outcome.CompactOutcome.TheVariants.{Granted, Drawn}
use Rattle.s10_index.specs.declared.compact_outcome.CompactOutcome.TheVariants.{DrawnMany, Voided}
use Rattle.s10_index.specs.declared.compact_outcome.CompactOutcome.TheVariants.{Told, Withdrawn}
use Rattle.s10_index.specs.declared.compact_outcome.CompactOutcome.TheVariants.{NotThePost}
use Rattle.s10_index.specs.declared.compact_outcome.CompactOutcome.TheVariants.{BadGrant, Overlap}
use Rattle.s10_index.specs.declared.compact_outcome.CompactOutcome.TheVariants.{NoRange, NoneFree}
use Rattle.s10_index.specs.declared.compact_outcome.CompactOutcome.TheVariants.{NotYours, NotIssued}
use Rattle.s10_index.specs.declared.compact_outcome.CompactOutcome.TheVariants.{AlreadyVoid}
use Rattle.s10_index.specs.declared.compact_outcome.CompactOutcome.TheVariants.{NoSuchRange, Closed}
use Rattle.s10_index.specs.declared.compact_outcome.CompactOutcome.TheVariants.{NumberReused}
use Rattle.s10_index.specs.declared.compact_call.CompactCall.{CompactCall}

-- The outcome of a compact one, whose sheet is one of these.
abbrev pub outcome_of : List (List Id) → CompactOutcome → Outcome
outcome_of sheets (Granted range) = outcomes.Granted range
outcome_of sheets (Drawn day id) = outcomes.Drawn day id
outcome_of sheets (DrawnMany day sheet) = outcomes.DrawnMany day (get_or sheets sheet [])
outcome_of sheets Voided = outcomes.Voided
outcome_of sheets (Told status) = outcomes.Told status
outcome_of sheets Withdrawn = outcomes.Withdrawn
outcome_of sheets NotThePost = outcomes.NotThePost
outcome_of sheets BadGrant = outcomes.BadGrant
outcome_of sheets Overlap = outcomes.Overlap
outcome_of sheets NoRange = outcomes.NoRange
outcome_of sheets NoneFree = outcomes.NoneFree
outcome_of sheets NotYours = outcomes.NotYours
outcome_of sheets NotIssued = outcomes.NotIssued
outcome_of sheets AlreadyVoid = outcomes.AlreadyVoid
outcome_of sheets NoSuchRange = outcomes.NoSuchRange
outcome_of sheets Closed = outcomes.Closed
outcome_of sheets NumberReused = outcomes.NumberReused

-- A compact outcome names one of n sheets, or none.
abbrev pub NamesSheetOf : ℕ → CompactOutcome → Type 0
NamesSheetOf count (DrawnMany day sheet) = sheet < count
NamesSheetOf count outcome = ⊤

-- The sheet of an outcome: a list of none or one.
abbrev pub sheet_of : Outcome → List (List Id)
sheet_of (outcomes.DrawnMany day ids) = ids ∷ []
sheet_of outcome = []

-- The call of a compact one, whose sheet is one of these.
abbrev pub entry_of : List (List Id) → CompactCall → Entry
entry_of sheets call = record {
  request = call.request;
  day = call.day;
  outcome = outcome_of sheets call.outcome;
}

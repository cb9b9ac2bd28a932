-- Defines readings of a ledger's two files, and the snapshot that is taken of them.
use Rattle.std.specs.Prelude.{◌≡◌, ℕ, List, [], ◌∷◌, length, take, Result, Ok, Err, ⊤}
use Rattle.std.specs.Global.{Vec}
use Rattle.s10_snapshot.specs.declared.ledger_bytes.LedgerBytes.{LedgerBytes}
use Rattle.s10_snapshot.specs.declared.part.Part.TheVariants.{File, Log}
use Rattle.s10_snapshot.specs.declared.read_call.ReadCall.{ReadCall}
use Rattle.s10_snapshot.specs.declared.reading.Reading.{Reading}
use Rattle.s10_snapshot.specs.declared.snapshot_fault.ReadFault.{ReadFault}
use Rattle.s10_snapshot.specs.declared.snapshot_fault.ReadFault.TheVariants.{Missing}
use Rattle.s10_snapshot.specs.declared.snapshot_fault.SnapshotFault.{SnapshotFault}
use Rattle.s10_snapshot.specs.declared.snapshot_fault.SnapshotFault.TheVariants.{Busy, Unread}

-- The calls that read a ledger's files, the last first, each with the bytes that it returned or its
-- fault.
abbrev pub ReadCalls : Type 0
ReadCalls = List (ReadCall × Result (Vec ℕ) ReadFault)

-- A source over the system's files: the path of the ledger, and the calls that were made.
pub record HostSourceState : Type 0 where
  pub path : List ℕ
  pub calls : ReadCalls

-- What a call on the log says: a log that is missing has no bytes, and any other fault is one.
abbrev pub log_said : Result (Vec ℕ) ReadFault → Result (List ℕ) ReadFault
log_said (Ok read) = Ok read.items
log_said (Err Missing) = Ok []
log_said (Err fault) = Err fault

-- The log was read, at most this many bytes, and the call said this.
abbrev pub GivesLog : ℕ → ReadCalls → ReadCalls → Result (Vec ℕ) ReadFault → Type 0
GivesLog most old new (Ok log) = (read : Result (Vec ℕ) ReadFault)
    × (new ≡ (record { part = Log; most = most }, read) ∷ old) × (log_said read ≡ Ok log.items)
GivesLog most old new (Err fault) = (read : Result (Vec ℕ) ReadFault)
    × (new ≡ (record { part = Log; most = most }, read) ∷ old) × (log_said read ≡ Err fault)

-- The header of the log was read.
abbrev pub GivesHeader : ReadCalls → ReadCalls → Result (Vec ℕ) ReadFault → Type 0
GivesHeader = GivesLog 32

-- The whole log was read.
abbrev pub GivesWholeLog : ReadCalls → ReadCalls → Result (Vec ℕ) ReadFault → Type 0
GivesWholeLog = GivesLog 18446744073709551615

-- The whole file was read.
abbrev pub GivesFile : ReadCalls → ReadCalls → Result (Vec ℕ) ReadFault → Type 0
GivesFile old new read = new ≡ (record { part = File; most = 18446744073709551615 }, read) ∷ old

-- The header of the log was read, then the file, then the log, and then the header again.
pub record ReadsAll (old new : ReadCalls) (reading : Reading) : Type 0 where
  pub first : ReadCalls
  pub second : ReadCalls
  pub third : ReadCalls
  pub before : GivesHeader old first (Ok reading.before)
  pub file : GivesFile first second (Ok reading.bytes.file)
  pub log : GivesWholeLog second third (Ok reading.bytes.log)
  pub after : GivesHeader third new (Ok reading.after)

-- The last call failed, and those before it did not.
pub data IsUnread (old new : ReadCalls) (fault : ReadFault) : Type 0 where
  no_header : GivesHeader old new (Err fault) → IsUnread old new fault
  no_file : (first : ReadCalls) (before : Vec ℕ) → GivesHeader old first (Ok before)
      → GivesFile first new (Err fault) → IsUnread old new fault
  no_log : (first second : ReadCalls) (before file : Vec ℕ) → GivesHeader old first (Ok before)
      → GivesFile first second (Ok file) → GivesWholeLog second new (Err fault)
      → IsUnread old new fault
  no_header_again : (first second third : ReadCalls) (before file log : Vec ℕ)
      → GivesHeader old first (Ok before) → GivesFile first second (Ok file)
      → GivesWholeLog second third (Ok log) → GivesHeader third new (Err fault)
      → IsUnread old new fault

-- The files were read once, or the last call says why not.
abbrev pub IsRead : ReadCalls → ReadCalls → Result Reading ReadFault → Type 0
IsRead old new (Ok reading) = ReadsAll old new reading
IsRead old new (Err fault) = IsUnread old new fault

-- The readings of a source, the last first, each with its fault if it failed.
abbrev pub Readings : Type 0
Readings = List (Result Reading ReadFault)

-- The calls are those of the readings.
abbrev pub AreReadings : ReadCalls → Readings → Type 0
AreReadings calls [] = calls ≡ []
AreReadings calls (reading ∷ before) = (old : ReadCalls) × AreReadings old before
    × IsRead old calls reading

-- The log had the same header before the file was read, when the log was read, and after that.
abbrev pub IsOfOneLog : Reading → Type 0
IsOfOneLog reading = (take 32 reading.bytes.log.items ≡ reading.before.items)
    × (take 32 reading.bytes.log.items ≡ reading.after.items)

-- In each reading the log got another header.
abbrev pub AreOfSeveralLogs : Readings → Type 0
AreOfSeveralLogs [] = ⊤
AreOfSeveralLogs (Ok reading ∷ before) = (¬ IsOfOneLog reading) × AreOfSeveralLogs before
AreOfSeveralLogs (Err fault ∷ before) = ⊥

-- The snapshot has the bytes of the last reading, the first one in which the log kept its header.
-- Without one, ten readings were made, or the last one failed.
abbrev pub IsSnapshotOf : Readings → Result LedgerBytes SnapshotFault → Type 0
IsSnapshotOf readings (Ok bytes) = (reading : Reading) × (before : Readings)
    × (readings ≡ Ok reading ∷ before) × IsOfOneLog reading × (reading.bytes ≡ bytes)
    × AreOfSeveralLogs before
IsSnapshotOf readings (Err Busy) = (length readings ≡ 10) × AreOfSeveralLogs readings
IsSnapshotOf readings (Err (Unread fault)) = (before : Readings) × (readings ≡ Err fault ∷ before)
    × AreOfSeveralLogs before

-- The snapshot was taken by these calls: they are those of readings.
abbrev pub IsTaken : ReadCalls → Result LedgerBytes SnapshotFault → Type 0
IsTaken calls snapshot = (readings : Readings) × AreReadings calls readings
    × IsSnapshotOf readings snapshot

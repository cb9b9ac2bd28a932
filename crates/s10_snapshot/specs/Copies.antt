-- Defines the calls that write a copy of a ledger, and what they leave if the process stops.
use Rattle.std.specs.Prelude.{◌≡◌, ◌⊎◌, ℕ, List, [], ◌∷◌, ◌++◌, Option, Some, None}
use Rattle.std.specs.Prelude.{Result, Ok, Err, ⊤}
use Rattle.s10_snapshot.specs.declared.copy_call.CopyCall.{CopyCall}
use Rattle.s10_snapshot.specs.declared.copy_call.CopyCall.TheVariants.{Create, Write, Sync, Name}
use Rattle.s10_snapshot.specs.declared.copy_call.CopyCall.TheVariants.{SyncFolder, Remove}
use Rattle.s10_snapshot.specs.declared.copy_fault.CopyFault.{CopyFault}
use Rattle.s10_snapshot.specs.declared.ledger_bytes.LedgerBytes.{LedgerBytes}
use Rattle.s10_snapshot.specs.declared.part.Part.{Part}
use Rattle.s10_snapshot.specs.declared.part.Part.TheVariants.{File, Log}

-- The calls that were made on the two new files, the last first, each with its result.
abbrev pub CopyCalls : Type 0
CopyCalls = List (CopyCall × Result (Unit {0}) CopyFault)

-- The path of a copy, and that of the ledger whose mode and owner its files get.
pub record CopyPaths : Type 0 where
  pub copy : List ℕ
  pub ledger : List ℕ

-- A target over the system's files: its paths, and the calls that were made.
pub record HostTargetState : Type 0 where
  pub paths : CopyPaths
  pub calls : CopyCalls

-- A new file is not there, has the name beside, or has its name.
pub data Place : Type 0 where
  nowhere : Place
  beside : Place
  at_name : Place

-- Where these calls leave the new file of a part. A call that fails moves no file.
abbrev pub place_of : Part → CopyCalls → Place
place_of part [] = Place.nowhere
place_of File ((Create File, Ok _) ∷ before) = Place.beside
place_of File ((Name File, Ok _) ∷ before) = Place.at_name
place_of File ((Remove File, Ok _) ∷ before) = Place.nowhere
place_of Log ((Create Log, Ok _) ∷ before) = Place.beside
place_of Log ((Name Log, Ok _) ∷ before) = Place.at_name
place_of Log ((Remove Log, Ok _) ∷ before) = Place.nowhere
place_of part (call ∷ before) = place_of part before

-- Where the new file of a part was when the names were last synced.
abbrev pub synced_place_of : Part → CopyCalls → Place
synced_place_of part [] = Place.nowhere
synced_place_of part ((SyncFolder, Ok _) ∷ before) = place_of part before
synced_place_of part (call ∷ before) = synced_place_of part before

-- The bytes with more appended, if they are known.
abbrev pub extended : Option (List ℕ) → List ℕ → Option (List ℕ)
extended (Some bytes) more = Some (bytes ++ more)
extended None more = None

-- What the new file of a part holds, if it is known: each write since it was created succeeded.
abbrev pub held_in : Part → CopyCalls → Option (List ℕ)
held_in part [] = None
held_in File ((Create File, Ok _) ∷ before) = Some []
held_in File ((Write File bytes, Ok _) ∷ before) = extended (held_in File before) bytes.items
held_in File ((Write File bytes, Err _) ∷ before) = None
held_in Log ((Create Log, Ok _) ∷ before) = Some []
held_in Log ((Write Log bytes, Ok _) ∷ before) = extended (held_in Log before) bytes.items
held_in Log ((Write Log bytes, Err _) ∷ before) = None
held_in part (call ∷ before) = held_in part before

-- What the new file of a part holds after a stop of the machine, if it is known: it was synced after
-- it was written.
abbrev pub kept_in : Part → CopyCalls → Option (List ℕ)
kept_in part [] = None
kept_in File ((Sync File, Ok _) ∷ before) = held_in File before
kept_in File ((Create File, done) ∷ before) = None
kept_in File ((Write File bytes, done) ∷ before) = None
kept_in Log ((Sync Log, Ok _) ∷ before) = held_in Log before
kept_in Log ((Create Log, done) ∷ before) = None
kept_in Log ((Write Log bytes, done) ∷ before) = None
kept_in part (call ∷ before) = kept_in part before

module _ (bytes : LedgerBytes) where
  -- Both files hold the bytes also after a stop of the machine, and so does the name of the log.
  pub record IsWhole (calls : CopyCalls) : Type 0 where
    pub file : kept_in File calls ≡ Some bytes.file.items
    pub log : kept_in Log calls ≡ Some bytes.log.items
    pub log_named : place_of Log calls ≡ Place.at_name
    pub log_name_synced : synced_place_of Log calls ≡ Place.at_name

  -- If the process stops after these calls, the name of the copy is there only if the copy is whole.
  abbrev pub IsSafe : CopyCalls → Type 0
  IsSafe calls = place_of File calls ≡ Place.at_name → IsWhole calls

-- A file that is removed is one of the new files.
abbrev pub RemovesOwn : CopyCalls → Type 0
RemovesOwn ((Remove part, done) ∷ before) = ¬ (place_of part before ≡ Place.nowhere)
RemovesOwn calls = ⊤

-- It holds before the first call, and after each one.
abbrev pub AtEachMoment : (CopyCalls → Type 0) → CopyCalls → Type 0
AtEachMoment P [] = P []
AtEachMoment P (call ∷ before) = P (call ∷ before) × AtEachMoment P before

-- This fault, or else that of a later call.
abbrev pub earlier_fault : Option CopyFault → Result (Unit {0}) CopyFault → Option CopyFault
earlier_fault (Some fault) done = Some fault
earlier_fault None (Ok _) = None
earlier_fault None (Err fault) = Some fault

-- The fault of the first call that failed.
abbrev pub first_fault : CopyCalls → Option CopyFault
first_fault [] = None
first_fault ((call, done) ∷ before) = earlier_fault (first_fault before) done

-- A file could not be removed.
abbrev pub HasFailedRemoval : CopyCalls → Type 0
HasFailedRemoval [] = ⊥
HasFailedRemoval ((Remove part, Err fault) ∷ before) = ⊤
HasFailedRemoval (call ∷ before) = HasFailedRemoval before

-- No new file is left, unless one could not be removed.
abbrev pub AreGone : CopyCalls → Type 0
AreGone calls = ((place_of File calls ≡ Place.nowhere) × (place_of Log calls ≡ Place.nowhere))
    ⊎ HasFailedRemoval calls

-- The copy is whole, has its name, and keeps it through a stop of the machine. Or a call failed, and
-- nothing is left.
abbrev pub EndsWriting : LedgerBytes → CopyCalls → Result (Unit {0}) CopyFault → Type 0
EndsWriting bytes calls (Ok _) = IsWhole bytes calls × (place_of File calls ≡ Place.at_name)
    × (synced_place_of File calls ≡ Place.at_name)
EndsWriting bytes calls (Err fault) = (first_fault calls ≡ Some fault) × AreGone calls

-- The calls write a copy of the bytes. Whenever the process stops, no part of a copy has the name of
-- one, and no file of anyone else was removed.
pub record WritesCopy (bytes : LedgerBytes) (calls : CopyCalls) (result : Result (Unit {0}) CopyFault)
    : Type 0 where
  pub safe : AtEachMoment (IsSafe bytes) calls
  pub own : AtEachMoment RemovesOwn calls
  pub ends : EndsWriting bytes calls result

-- The calls that follow the creation of both files, the first one first.
abbrev pub steps_of : LedgerBytes → List CopyCall
steps_of bytes = Write File bytes.file ∷ Write Log bytes.log ∷ Sync File ∷ Sync Log
    ∷ Name Log ∷ SyncFolder ∷ Name File ∷ SyncFolder ∷ []

-- The steps were made in order, up to the first one that failed.
abbrev pub AreMade : List CopyCall → CopyCalls → CopyCalls → Result (Unit {0}) CopyFault → Type 0
AreMade [] old new result = (new ≡ old) × (result ≡ Ok tt)
AreMade (step ∷ steps) old new (Ok done) = AreMade steps ((step, Ok tt) ∷ old) new (Ok done)
AreMade (step ∷ steps) old new (Err fault) = (new ≡ (step, Err fault) ∷ old)
    ⊎ AreMade steps ((step, Ok tt) ∷ old) new (Err fault)

-- The file was removed, and then its log unless the file stayed.
abbrev pub RemovesParts : CopyCalls → CopyCalls → Type 0
RemovesParts old new = ((fault : CopyFault) × (new ≡ (Remove File, Err fault) ∷ old))
    ⊎ ((done : Result (Unit {0}) CopyFault)
    × (new ≡ (Remove Log, done) ∷ (Remove File, Ok tt) ∷ old))

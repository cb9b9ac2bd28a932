-- The notes in a file.
use Rattle.std.specs.Prelude.{◌≡◌, ◌⊎◌, ℕ, true, false, List, ◌∷◌, Option, Some, None, Result, Ok, Err}
use Rattle.arrayvec.specs.ArrayVec.{ArrayVec}
use Rattle.s10_notes.specs.declared.folder_call.FolderCall.TheVariants.{Empty, Append, Sync, Rename}
use Rattle.s10_notes.specs.declared.folder_call.FolderCall.TheVariants.{SyncFolder, Read}
use Rattle.s10_notes.specs.declared.folder_call.FolderCall.TheVariants.{Names as NamesCall}
use Rattle.s10_notes.specs.declared.names.Names.{Names}
use Rattle.s10_notes.specs.declared.names.Names.TheVariants.{Zero, One, More}
use Rattle.s10_notes.specs.declared.notes_fault.NotesFault.{NotesFault}
use Rattle.s10_notes.specs.declared.notes_fault.NotesFault.TheVariants.{Taken, Missing, Linked}
use Rattle.s10_notes.specs.declared.notes_fault.NotesFault.TheVariants.{Damaged, Store}
use Rattle.s10_notes.specs.Folder.{FolderCalls, may_hold}
use Rattle.s10_notes.specs.Notes.{NotesState}
use Rattle.s10_notes.specs.Text.{SpellsNotes, SpellsOnly}

-- After these calls, an opening after a stop may find these notes.
abbrev pub may_spell : FolderCalls → NotesState → Type 0
may_spell calls notes = (text : List ℕ) × may_hold calls text × SpellsNotes text notes

-- Why notes with this many names are not used. `None` if there is no reason.
abbrev pub name_fault : Names → Option NotesFault
name_fault Zero = Some Missing
name_fault One = None
name_fault More = Some Linked

-- The names of the notes' file were counted, and this is the fault that they show.
abbrev pub ChecksName : FolderCalls → FolderCalls → Result (Unit {0}) NotesFault → Type 0
ChecksName old new (Ok _) = new ≡ (NamesCall One, true) ∷ old
ChecksName old new (Err fault) = ((new ≡ (NamesCall Zero, false) ∷ old) × (fault ≡ Store))
    ⊎ ((names : Names) × (new ≡ (NamesCall names, true) ∷ old) × (name_fault names ≡ Some fault))

-- The notes' file has one name. The names of the folder were synced and the file was read, and it
-- spells these notes.
pub record ReadsNotes (old new : FolderCalls) (notes : NotesState) : Type 0 where
  pub text : ArrayVec ℕ
  pub calls : new ≡ (Read (Some text), true) ∷ (SyncFolder, true) ∷ (NamesCall One, true) ∷ old
  pub spells : SpellsNotes text.items notes

-- What was read is the text of no notes.
abbrev pub IsNoNotes : Option (ArrayVec ℕ) → Type 0
IsNoNotes text = (found : ArrayVec ℕ) → text ≡ Some found → (notes : NotesState)
    → ¬ SpellsNotes found.items notes

-- Why notes are not opened, by the calls that were made, of which the last one shows it: their names
-- cannot be counted; they are missing, or linked; the names of the folder cannot be synced; the file
-- cannot be read; or it spells no notes.
pub data RefusesNotes (old new : FolderCalls) : NotesFault → Type 0 where
  uncounted : new ≡ (NamesCall Zero, false) ∷ old → RefusesNotes old new Store
  named : {fault : NotesFault} (names : Names) → new ≡ (NamesCall names, true) ∷ old
      → name_fault names ≡ Some fault → RefusesNotes old new fault
  unsynced : new ≡ (SyncFolder, false) ∷ (NamesCall One, true) ∷ old → RefusesNotes old new Store
  unread : new ≡ (Read None, false) ∷ (SyncFolder, true) ∷ (NamesCall One, true) ∷ old
      → RefusesNotes old new Store
  unspelled : (text : Option (ArrayVec ℕ))
      → new ≡ (Read text, true) ∷ (SyncFolder, true) ∷ (NamesCall One, true) ∷ old
      → IsNoNotes text → RefusesNotes old new Damaged

-- After a stop, the notes' file holds a text of these notes. If the calls failed, it may still hold
-- what it might before.
abbrev pub WritesNotes : FolderCalls → FolderCalls → NotesState → Result (Unit {0}) NotesFault
    → Type 0
WritesNotes old new notes (Ok _) = (text : List ℕ) → may_hold new text → SpellsOnly text notes
WritesNotes old new notes (Err fault) = (text : List ℕ) → may_hold new text
    → may_hold old text ⊎ SpellsOnly text notes

-- A text was written beside the notes' file and renamed onto it, and the names were synced.
abbrev pub IsWritten : FolderCalls → FolderCalls → Type 0
IsWritten old new = (text : ArrayVec ℕ) × (new ≡ (SyncFolder, true) ∷ (Rename, true) ∷ (Sync, true)
    ∷ (Append text, true) ∷ (Empty, true) ∷ old)

-- New notes were written where no file was.
abbrev pub IsWrittenNew : FolderCalls → FolderCalls → Type 0
IsWrittenNew old new = IsWritten ((NamesCall Zero, true) ∷ old) new

-- Why new notes are not written to a path with this many names. `None` if there is no reason.
abbrev pub new_fault : Names → Option NotesFault
new_fault Zero = None
new_fault One = Some Taken
new_fault More = Some Taken

-- Why new notes are not written, by the calls that were made: the names of their file cannot be
-- counted; a file is at the path; or a call of the writing failed.
pub data RefusesNew (old new : FolderCalls) (notes : NotesState) : NotesFault → Type 0 where
  uncounted : new ≡ (NamesCall Zero, false) ∷ old → RefusesNew old new notes Store
  taken : {fault : NotesFault} (names : Names) → new ≡ (NamesCall names, true) ∷ old
      → new_fault names ≡ Some fault → RefusesNew old new notes fault
  unwritten : WritesNotes ((NamesCall Zero, true) ∷ old) new notes (Err Store)
      → RefusesNew old new notes Store

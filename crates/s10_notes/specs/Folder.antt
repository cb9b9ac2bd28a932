-- What the notes' file may hold after a stop.
use Rattle.std.specs.Prelude.{◌≡◌, ◌⊎◌, ℕ, Bool, true, List, [], ◌∷◌, ◌++◌, ⊤, Option, Some, None}
use Rattle.s10_notes.specs.declared.folder_call.FolderCall.{FolderCall}
use Rattle.s10_notes.specs.declared.folder_call.FolderCall.TheVariants.{Empty, Append, Sync, Rename, SyncFolder, Read}
use Rattle.s10_notes.specs.declared.folder_call.FolderCall.TheVariants.{Names as NamesCall}
use Rattle.s10_notes.specs.declared.names.Names.TheVariants.{Zero, One}
use Rattle.s10_notes.specs.declared.notes_fault.NotesFault.{NotesFault}
use Rattle.s10_notes.specs.declared.notes_fault.NotesFault.TheVariants.{Store}

-- The calls that were made on a folder, the last first, each with whether it succeeded.
abbrev pub FolderCalls : Type 0
FolderCalls = List (FolderCall × Bool)

-- A call of a folder fails as this fault alone.
abbrev pub IsStore : NotesFault → Type 0
IsStore fault = fault ≡ Store

-- The text with more appended, if it is known.
abbrev pub extended : Option (List ℕ) → List ℕ → Option (List ℕ)
extended (Some text) more = Some (text ++ more)
extended None more = None

-- The names of the notes' file were counted last, and it has no other than the one at the path.
abbrev pub IsAlone : FolderCalls → Type 0
IsAlone calls = (before : FolderCalls)
    × ((calls ≡ (NamesCall Zero, true) ∷ before) ⊎ (calls ≡ (NamesCall One, true) ∷ before))

-- The text of the file beside, if each call since it was empty succeeded. It is of no use, and not
-- known, unless the names of the notes' file were counted before: an opening by another name would
-- find the old notes after a rename.
abbrev pub written : FolderCalls → Option (List ℕ)
written ((Empty, true) ∷ (NamesCall Zero, true) ∷ before) = Some []
written ((Empty, true) ∷ (NamesCall One, true) ∷ before) = Some []
written ((Append text, true) ∷ before) = extended (written before) text.items
written calls = None

-- The text that the file beside keeps through a stop of the machine, if it is known.
abbrev pub kept_beside : FolderCalls → Option (List ℕ)
kept_beside ((Sync, true) ∷ before) = written before
kept_beside calls = None

-- The text is that of the file which was renamed; it may be any if that was not synced before.
abbrev pub IsRenamed : Option (List ℕ) → List ℕ → Type 0
IsRenamed (Some kept) text = text ≡ kept
IsRenamed None text = ⊤

-- After these calls, a stop of the process or of the machine may leave this text in the notes' file.
--
-- The calls of an earlier process are not known: it may have stopped between a rename and the sync
-- of the names. A text that is read after a sync of the names stays. A rename, also one that fails,
-- may or may not be found; one that succeeded and whose names were synced is found.
abbrev pub may_hold : FolderCalls → List ℕ → Type 0
may_hold [] text = ⊤
may_hold ((Read (Some found), true) ∷ (SyncFolder, true) ∷ before) text = text ≡ found.items
may_hold ((SyncFolder, true) ∷ (Rename, true) ∷ before) text = IsRenamed (kept_beside before) text
may_hold ((Rename, done) ∷ before) text = may_hold before text ⊎ IsRenamed (kept_beside before) text
may_hold (call ∷ before) text = may_hold before text

-- What replacing the notes in a notebook does.
use Rattle.std.specs.Prelude.{◌≡◌, ◌⊎◌, Result, Ok, Err}
use Rattle.s10_notes.specs.declared.notes_fault.NotesFault.{NotesFault}
use Rattle.s10_notes.specs.Notes.{NotesState}

-- Replacing the notes of the old notebook by n, with this result, gives the new one. If it failed,
-- an opening may find the notes of before or n, and nothing else.
abbrev pub Replaces : {N : Type 0} → (N → NotesState) → (N → NotesState → Type 0) → N → N
    → NotesState → Result (Unit {0}) NotesFault → Type 0
Replaces held may_find old new n (Ok _) = (held new ≡ n)
    × ((found : NotesState) → may_find new found → found ≡ n)
Replaces held may_find old new n (Err fault) = (held new ≡ held old)
    × ((found : NotesState) → may_find new found → may_find old found ⊎ (found ≡ n))

-- Why notes are not opened, or not created, by the calls that were made.
use Rattle.std.proofs.Common.{◌≡◌, ℕ, Bool, true, false, ◌∷◌, Option, None, Result, Ok, Err, inl, inr, sym, ap, ◌∙◌, subst}
use Rattle.std.specs.Prelude.{IfErr, IsErrAnd}
use Rattle.arrayvec.specs.ArrayVec.{ArrayVec}
use Rattle.s10_notes.specs.declared.folder_call.FolderCall.{FolderCall}
use Rattle.s10_notes.specs.declared.folder_call.FolderCall.TheVariants.{SyncFolder, Read}
use Rattle.s10_notes.specs.declared.folder_call.FolderCall.TheVariants.{Names as NamesCall}
use Rattle.s10_notes.specs.declared.names.Names.{Names}
use Rattle.s10_notes.specs.declared.names.Names.TheVariants.{Zero, One}
use Rattle.s10_notes.specs.declared.notes_fault.NotesFault.{NotesFault}
use Rattle.s10_notes.specs.declared.notes_fault.NotesFault.TheVariants.{Damaged, Store}
use Rattle.s10_notes.specs.Folder.{FolderCalls, IsStore}
use Rattle.s10_notes.specs.Notes.{NotesState}
use Rattle.s10_notes.specs.NotesFile.{ChecksName, IsNoNotes, RefusesNew, RefusesNotes, WritesNotes}

-- A fault that is passed on.
pub passed_on : {T : Type 0} (r : Result T NotesFault) (fault : NotesFault) (P : NotesFault → Type 0)
    → IsErrAnd r (λ e. e ≡ fault) → P fault → IfErr r P
passed_on (Ok x) fault P is holds = tt
passed_on (Err e) fault P is holds = subst P (sym is) holds

-- The names show the fault, or cannot be counted.
pub unnamed : (old new : FolderCalls) (fault : NotesFault) → ChecksName old new (Err fault)
    → RefusesNotes old new fault
unnamed old new fault (inl (is, store)) =
    subst (λ f. RefusesNotes old new f) (sym store) (RefusesNotes.uncounted is)
unnamed old new fault (inr (names, is, shows)) = RefusesNotes.named names is shows

-- The names of the folder cannot be synced.
pub unsynced : (old mid new : FolderCalls) (fault : NotesFault) → mid ≡ (NamesCall One, true) ∷ old
    → new ≡ (SyncFolder, false) ∷ mid → fault ≡ Store → RefusesNotes old new fault
unsynced old mid new fault first last store = subst (λ f. RefusesNotes old new f) (sym store)
    (RefusesNotes.unsynced (last ∙ ap (λ calls. (SyncFolder, false) ∷ calls) first))

-- The calls before a read.
before : (call : FolderCall × Bool) (old one two new : FolderCalls)
    → one ≡ (NamesCall One, true) ∷ old → two ≡ (SyncFolder, true) ∷ one → new ≡ call ∷ two
    → new ≡ call ∷ (SyncFolder, true) ∷ (NamesCall One, true) ∷ old
before call old one two new first second last =
    last ∙ ap (λ calls. call ∷ calls) (second ∙ ap (λ calls. (SyncFolder, true) ∷ calls) first)

-- The file cannot be read.
pub unread : (old one two new : FolderCalls) (fault : NotesFault) → one ≡ (NamesCall One, true) ∷ old
    → two ≡ (SyncFolder, true) ∷ one → new ≡ (Read None, false) ∷ two → fault ≡ Store
    → RefusesNotes old new fault
unread old one two new fault first second last store = subst (λ f. RefusesNotes old new f) (sym store)
    (RefusesNotes.unread (before (Read None, false) old one two new first second last))

-- The file spells no notes.
pub unspelled : (text : Option (ArrayVec ℕ)) (old one two new : FolderCalls)
    → one ≡ (NamesCall One, true) ∷ old → two ≡ (SyncFolder, true) ∷ one
    → new ≡ (Read text, true) ∷ two → IsNoNotes text → RefusesNotes old new Damaged
unspelled text old one two new first second last none =
    RefusesNotes.unspelled text (before (Read text, true) old one two new first second last) none

-- Names that are known were counted.
pub counted : (old new : FolderCalls) (names known : Names) → new ≡ (NamesCall names, true) ∷ old
    → names ≡ known → new ≡ (NamesCall known, true) ∷ old
counted old new names known last is = subst (λ n. new ≡ (NamesCall n, true) ∷ old) is last

-- New notes cannot be written.
pub unwritten : (r : Result (Unit {0}) NotesFault) (old mid new : FolderCalls) (notes : NotesState)
    → mid ≡ (NamesCall Zero, true) ∷ old → WritesNotes mid new notes r → IfErr r IsStore
    → IfErr r (RefusesNew old new notes)
unwritten (Ok _) old mid new notes first writes store = tt
unwritten (Err fault) old mid new notes first writes store =
    subst (λ f. RefusesNew old new notes f) (sym store) (RefusesNew.unwritten
    (subst (λ calls. WritesNotes calls new notes (Err Store)) first writes))

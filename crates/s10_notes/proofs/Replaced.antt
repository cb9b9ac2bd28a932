-- What the notes' file may hold after the calls that replace it.
use Rattle.std.proofs.Common.{◌≡◌, ◌⊎◌, ℕ, Bool, true, List, [], ◌∷◌, ◌++◌, Result, Ok, Err, inl, inr, sym, ap, ◌∙◌, subst, refl}
use Rattle.std.specs.Prelude.{is_ok, IsErr, Some}
use Rattle.arrayvec.specs.ArrayVec.{ArrayVec}
use Rattle.s10_notes.specs.declared.folder_call.FolderCall.{FolderCall}
use Rattle.s10_notes.specs.declared.folder_call.FolderCall.TheVariants.{Empty, Append, Sync, Rename, SyncFolder}
use Rattle.s10_notes.specs.declared.folder_call.FolderCall.TheVariants.{Names as NamesCall}
use Rattle.s10_notes.specs.declared.names.Names.TheVariants.{One}
use Rattle.s10_notes.specs.declared.notes_fault.NotesFault.{NotesFault}
use Rattle.s10_notes.specs.Folder.{FolderCalls, IsAlone, IsRenamed, kept_beside, may_hold}
use Rattle.s10_notes.specs.Notes.{NotesState}
use Rattle.s10_notes.specs.NotesFile.{WritesNotes, may_spell}
use Rattle.s10_notes.specs.Text.{SpellsNotes, SpellsOnly, notes_text}

-- The calls that write a text beside the notes' file.
abbrev pub beside : ArrayVec ℕ → FolderCalls → FolderCalls
beside text before = (Sync, true) ∷ (Append text, true) ∷ (Empty, true) ∷ before

-- The file beside keeps the text, as the notes' file has no other name.
kept : (text : ArrayVec ℕ) (h0 : FolderCalls) → IsAlone h0
    → kept_beside (beside text h0) ≡ Some text.items
kept text h0 (before, inl is) = subst (λ h. kept_beside (beside text h) ≡ Some text.items) (sym is) refl
kept text h0 (before, inr is) = subst (λ h. kept_beside (beside text h) ≡ Some text.items) (sym is) refl

-- So what was renamed is the text.
is_text : (text : ArrayVec ℕ) (h0 : FolderCalls) → IsAlone h0 → (found : List ℕ)
    → IsRenamed (kept_beside (beside text h0)) found → found ≡ text.items
is_text text h0 alone found is = subst (λ k. IsRenamed k found) (kept text h0 alone) is

-- One call after others that are known.
after : (call : FolderCall × Bool) (h h' known : FolderCalls) → h' ≡ call ∷ h → h ≡ known
    → h' ≡ call ∷ known
after call h h' known last before = last ∙ ap (λ calls. call ∷ calls) before

pub are_beside : (text : ArrayVec ℕ) (h0 h1 h2 h3 : FolderCalls) → h1 ≡ (Empty, true) ∷ h0
    → h2 ≡ (Append text, true) ∷ h1 → h3 ≡ (Sync, true) ∷ h2 → h3 ≡ beside text h0
are_beside text h0 h1 h2 h3 first second third = after (Sync, true) h2 h3
    ((Append text, true) ∷ (Empty, true) ∷ h0) third
    (after (Append text, true) h1 h2 ((Empty, true) ∷ h0) second first)

-- An equal text spells the same notes.
same_text : (kept text : List ℕ) (n : NotesState) → SpellsOnly kept n → text ≡ kept
    → SpellsOnly text n
same_text kept text n spells is = subst (λ t. SpellsOnly t n) (sym is) spells

-- After a rename that may have failed.
pub renamed : (done : Bool) (text : ArrayVec ℕ) (n : NotesState) (h0 h3 h4 : FolderCalls)
    → SpellsOnly text.items n → IsAlone h0 → h3 ≡ beside text h0 → h4 ≡ (Rename, done) ∷ h3
    → (found : List ℕ) → may_hold h4 found → may_hold h0 found ⊎ SpellsOnly found n
renamed done text n h0 h3 h4 spells alone written last found may =
    from (subst (λ h. may_hold h found) (after (Rename, done) h3 h4 (beside text h0) last written) may) where
      from : may_hold ((Rename, done) ∷ beside text h0) found → may_hold h0 found ⊎ SpellsOnly found n
      from (inl before) = inl before
      from (inr is) = inr (same_text text.items found n spells (is_text text h0 alone found is))

-- A text that was written spells the notes, as it is read as no others.
pub spells_only : (start text : List ℕ) (n : NotesState) → start ≡ [] → text ≡ start ++ notes_text n
    → SpellsNotes (notes_text n) n
    → ((a b : NotesState) → SpellsNotes text a → SpellsNotes text b → a ≡ b) → SpellsOnly text n
spells_only start text n empty is spells one =
    let same : text ≡ notes_text n = is ∙ ap (λ t. t ++ notes_text n) empty in
    let own : SpellsNotes text n = subst (λ t. SpellsNotes t n) (sym same) spells in
    record { written = same; spells = own; only = λ m other. one m n other own }

-- Calls that failed, of which some may have been made.
pub failed : (r : Result (Unit {0}) NotesFault) (old new : FolderCalls) (n : NotesState) → IsErr r
    → ((found : List ℕ) → may_hold new found → may_hold old found ⊎ SpellsOnly found n)
    → WritesNotes old new n r
failed (Ok _) old new n is writes = absurd cc
failed (Err fault) old new n is writes = writes

-- After a sync of the names that may have failed.
pub replaced : (r : Result (Unit {0}) NotesFault) (text : ArrayVec ℕ) (n : NotesState)
    (h0 h3 h4 h5 : FolderCalls) → SpellsOnly text.items n → IsAlone h0 → h3 ≡ beside text h0
    → h4 ≡ (Rename, true) ∷ h3 → h5 ≡ (SyncFolder, is_ok r) ∷ h4 → WritesNotes h0 h5 n r
replaced (Ok _) text n h0 h3 h4 h5 spells alone written renames last = λ found may.
    same_text text.items found n spells (is_text text h0 alone found (subst (λ h. may_hold h found)
    (after (SyncFolder, true) h4 h5 ((Rename, true) ∷ beside text h0) last
    (after (Rename, true) h3 h4 (beside text h0) renames written)) may))
replaced (Err fault) text n h0 h3 h4 h5 spells alone written renames last = λ found may.
    renamed true text n h0 h3 h4 spells alone written renames found
    (subst (λ h. may_hold h found) last may)

-- The count of the names changes nothing.
pub after_count : (old mid new : FolderCalls) (n : NotesState) → mid ≡ (NamesCall One, true) ∷ old
    → ((text : List ℕ) → may_hold new text → may_hold mid text ⊎ SpellsOnly text n)
    → (text : List ℕ) → may_hold new text → may_hold old text ⊎ SpellsOnly text n
after_count old mid new n is writes = subst
    (λ h. (text : List ℕ) → may_hold new text → may_hold h text ⊎ SpellsOnly text n) is writes

-- What an opening may find after a replacement.
pub found_written : (old new : FolderCalls) (n found : NotesState) → ((text : List ℕ)
    → may_hold new text → may_hold old text ⊎ SpellsOnly text n) → may_spell new found
    → may_spell old found ⊎ (found ≡ n)
found_written old new n found writes (text, may, spells) = from (writes text may) where
  from : may_hold old text ⊎ SpellsOnly text n → may_spell old found ⊎ (found ≡ n)
  from (inl before) = inl (text, before, spells)
  from (inr written) = inr (written.only found spells)

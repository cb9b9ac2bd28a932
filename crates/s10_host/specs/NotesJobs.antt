-- Defines what the jobs over notes did, and what they printed.
use Rattle.std.specs.Prelude.{◌≡◌, ◌⊎◌, ℕ, ◌<◌, ◌≤◌, List, [], ◌∷◌, codes, Option, None, Result, Ok, Err}
use Rattle.std.specs.Prelude.{IfSome, IsSomeAnd}
use Rattle.s10_wire.specs.declared.body.Body.{Body}
use Rattle.s10_link.specs.declared.peer.Peer.{Peer}
use Rattle.s10_link.specs.Peer.{SpellsPeer}
use Rattle.s10_link.specs.declared.trace.Trace.{Trace}
use Rattle.s10_link.specs.Link.{new_trace}
use Rattle.s10_link.specs.UdpLink.{BoundLink, IsBoundAt}
use Rattle.s10_lines.specs.declared.write_fault.WriteFault.{WriteFault}
use Rattle.s10_lines.specs.Lines.{line_of}
use Rattle.s10_notes.specs.declared.notes_fault.NotesFault.{NotesFault}
use Rattle.s10_notes.specs.declared.notes_file.NotesFile.{NotesFile}
use Rattle.s10_notes.specs.Notes.{NotesState, new_notes, take_fault}
use Rattle.s10_notes.specs.HostFolder.{HostFolderState}
use Rattle.s10_notes.specs.NotesFile.{may_spell, IsWrittenNew, ReadsNotes, WritesNotes}
use Rattle.s10_jobs.specs.declared.job_status.JobStatus.{JobStatus}
use Rattle.s10_jobs.specs.declared.job_status.JobStatus.TheVariants.{Refused, Failed}
use Rattle.s10_jobs.specs.declared.refusal.Refusal.{Refusal}
use Rattle.s10_jobs.specs.declared.refusal.Refusal.TheVariants.{Peer as PeerText}
use Rattle.s10_jobs.specs.declared.question.Question.{Question}
use Rattle.s10_jobs.specs.Lines.{refused_line}
use Rattle.s10_jobs.specs.Questions.{IsPeerText, IsQuestionRefusal, WordsAsk, refusal_words}
use Rattle.s10_jobs.specs.Questioning.{any_address}
use Rattle.s10_jobs.specs.NotesAsked.{EndsWith, EndsMade, notes_line, AsksOpen, AsksByNotes}
use Rattle.s10_host.specs.Called.{HasCalled}

-- An open file of notes.
abbrev pub OpenNotes : Type 0
OpenNotes = NotesFile HostFolderState

-- The notes that the file holds.
abbrev pub held_in : OpenNotes → NotesState
held_in file = file.held

-- The notes that an opening may find if the process or the machine stops now.
abbrev pub may_find_in : OpenNotes → NotesState → Type 0
may_find_in file = may_spell file.folder.calls

-- The file at the path was opened and read, and nothing else was done to it.
pub record IsOpenedAt (path : List ℕ) (file : OpenNotes) : Type 0 where
  pub at : file.folder.path ≡ path
  pub read : ReadsNotes [] file.folder.calls file.held

-- The new notes were written to a new file at the path, where no file was.
pub record IsNewAt (path : List ℕ) (notes : NotesState) (file : OpenNotes) : Type 0 where
  pub at : file.folder.path ≡ path
  pub held : file.held ≡ notes
  pub new : IsWrittenNew [] file.folder.calls
  pub written : WritesNotes [] file.folder.calls notes (Ok tt)

-- New notes were written, and then `created` was printed. Or the line says why there are none: they
-- have no number, or the file cannot be created.
pub record HasMadeNotes (path : List ℕ) (customer first lst : ℕ) (old new : Option (List ℕ))
    (result : Result JobStatus WriteFault) (notes : Option OpenNotes) : Type 0 where
  pub made : IfSome notes (λ file. (first ≤ lst) × IsNewAt path (new_notes customer first lst) file
      × EndsMade (Ok tt) old new result)
  pub unnumbered : lst < first → (notes ≡ None)
      × EndsWith Refused (refused_line (codes "numbers" ∷ [])) old new result
  pub failed : first ≤ lst → notes ≡ None → (fault : NotesFault)
      × EndsMade (Err fault) old new result

-- No call was made by notes, for one of these reasons, in this order: its texts are refused, the
-- notes cannot be opened, or no socket was bound.
abbrev pub IsUnaskedByNotes : (Refusal → Type 0) → Type 0 → List ℕ → Option OpenNotes → JobStatus
    → List ℕ → Type 0
IsUnaskedByNotes Refuses Read path notes status line =
    ((notes ≡ None) × (refusal : Refusal) × Refuses refusal × (status ≡ Refused)
    × (line ≡ refused_line (refusal_words refusal)))
    ⊎ ((notes ≡ None) × Read × (fault : NotesFault) × (status ≡ Failed) × (line ≡ notes_line fault))
    ⊎ (Read × IfSome notes (IsOpenedAt path) × (status ≡ Failed)
    × (line ≡ line_of (codes "link") (codes "bind" ∷ [])))

-- The notes at the path were opened, and used in this way at the server over this link, which carried
-- nothing else. They are left as the file that is returned.
pub record UsesNotes (to path : List ℕ)
    (Uses : OpenNotes → OpenNotes → Trace → Trace → Peer → Type 0) (link : BoundLink)
    (left : OpenNotes) : Type 0 where
  pub at : IsBoundAt any_address link.at
  pub peer : Peer
  pub spells : SpellsPeer to peer
  pub opened : OpenNotes
  pub opened_at : IsOpenedAt path opened
  pub left_at : left.folder.path ≡ path
  pub uses : Uses opened left new_trace link.trace peer

-- The address is the only text of `again`.
abbrev pub IsAgainRefusal : List ℕ → Refusal → Type 0
IsAgainRefusal to refusal = (refusal ≡ PeerText) × ¬ IsPeerText to

-- The open request of the notes at the path was asked again, or the line says why it was not.
abbrev pub HasAskedAgain : List ℕ → List ℕ → ℕ → Option (List ℕ) → Option (List ℕ)
    → Result JobStatus WriteFault → Option BoundLink → Option OpenNotes → Type 0
HasAskedAgain to path tries old new result link notes = HasCalled
    (λ l. IsSomeAnd notes (UsesNotes to path (λ opened left t t' peer.
    AsksOpen held_in may_find_in opened.held.request opened left t t' peer tries old new result) l))
    (IsUnaskedByNotes (IsAgainRefusal to) (IsPeerText to) path notes) old new result link

-- The body of the question was asked with the next number of the notes at the path, or the line says
-- why it was not.
abbrev pub HasAskedByNotes : List ℕ → Question → Option (List ℕ) → Option (List ℕ)
    → Result JobStatus WriteFault → Option BoundLink → Option OpenNotes → Type 0
HasAskedByNotes path question old new result link notes = HasCalled
    (λ l. (body : Body) × WordsAsk question.body body
    × IsSomeAnd notes (UsesNotes question.to.now path (λ opened left t t' peer.
    AsksByNotes held_in may_find_in (take_fault opened.held) body opened left t t' peer
    question.tries old new result) l))
    (IsUnaskedByNotes (IsQuestionRefusal question.to.now question.body)
    (IsPeerText question.to.now × (body : Body) × WordsAsk question.body body) path notes)
    old new result link

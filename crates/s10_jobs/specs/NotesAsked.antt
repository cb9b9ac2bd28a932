-- What asking by notes does to the notes, to the link and to the output.
use Rattle.std.specs.Prelude.{◌≡◌, ◌⊎◌, ℕ, List, [], ◌∷◌, ◌++◌, codes, Option, Some, None, Result, Ok}
use Rattle.std.specs.Prelude.{Err, IsErr, IfOk}
use Rattle.std.specs.Io.KnownBytes.{Appends}
use Rattle.s10_wire.specs.declared.body.Body.{Body}
use Rattle.s10_wire.specs.declared.request.Request.{Request}
use Rattle.s10_wire.specs.declared.reply.Reply.{Reply}
use Rattle.s10_lines.specs.declared.write_fault.WriteFault.{WriteFault}
use Rattle.s10_lines.specs.Lines.{line_of}
use Rattle.s10_link.specs.declared.trace.Trace.{Trace}
use Rattle.s10_link.specs.declared.peer.Peer.{Peer}
use Rattle.s10_notes.specs.declared.notes_fault.NotesFault.{NotesFault}
use Rattle.s10_notes.specs.declared.notes_fault.NotesFault.TheVariants.{Taken, Missing, Linked}
use Rattle.s10_notes.specs.declared.notes_fault.NotesFault.TheVariants.{Locked, Damaged, Store}
use Rattle.s10_notes.specs.declared.take_fault.TakeFault.{TakeFault}
use Rattle.s10_notes.specs.declared.take_fault.TakeFault.TheVariants.{Unanswered, NumbersSpent}
use Rattle.s10_notes.specs.Notes.{NotesState, next_request, after_take, without_request}
use Rattle.s10_notes.specs.Notebook.{Replaces}
use Rattle.s10_notes.specs.Lives.{Life}
use Rattle.s10_ends.specs.Client.{ClientState, new_client}
use Rattle.s10_ends.specs.Calls.{Calls}
use Rattle.s10_ends.specs.declared.calls.CallFault.{CallFault}
use Rattle.s10_jobs.specs.declared.job_status.JobStatus.{JobStatus}
use Rattle.s10_jobs.specs.declared.job_status.JobStatus.TheVariants.{Done, Refused, Failed}
use Rattle.s10_jobs.specs.Asked.{asked_status, asked_line}
use Rattle.s10_jobs.specs.Lines.{refused_line}

-- The word of a fault of notes.
abbrev pub notes_fault_words : NotesFault → List (List ℕ)
notes_fault_words Taken = codes "taken" ∷ []
notes_fault_words Missing = codes "missing" ∷ []
notes_fault_words Linked = codes "linked" ∷ []
notes_fault_words Locked = codes "locked" ∷ []
notes_fault_words Damaged = codes "damaged" ∷ []
notes_fault_words Store = codes "store" ∷ []

-- The line of a fault of notes.
abbrev pub notes_line : NotesFault → List ℕ
notes_line fault = line_of (codes "notes") (notes_fault_words fault)

-- The word of a request that gets no number.
abbrev pub take_fault_words : TakeFault → List (List ℕ)
take_fault_words Unanswered = codes "unanswered" ∷ []
take_fault_words NumbersSpent = codes "numbers-spent" ∷ []

-- A job ends with this status and has written this text, unless the writer failed.
abbrev pub EndsWith : JobStatus → List ℕ → Option (List ℕ) → Option (List ℕ)
    → Result JobStatus WriteFault → Type 0
EndsWith status text old new result = IfOk result (λ ended. (ended ≡ status) × Appends old new text)

-- How the making of notes ends.
abbrev pub EndsMade : Result (Unit {0}) NotesFault → Option (List ℕ) → Option (List ℕ)
    → Result JobStatus WriteFault → Type 0
EndsMade (Ok _) old new result = EndsWith Done (codes "created\n") old new result
EndsMade (Err fault) old new result = EndsWith Failed (notes_line fault) old new result

-- A job ends after it has written this text, by whether the notes could then record a reply.
abbrev pub EndsRecorded : JobStatus → List ℕ → Result (Unit {0}) NotesFault → Option (List ℕ)
    → Option (List ℕ) → Result JobStatus WriteFault → Type 0
EndsRecorded status text (Ok _) old new result = EndsWith status text old new result
EndsRecorded status text (Err fault) old new result = EndsWith Failed (text ++ notes_line fault) old
    new result

-- All that an opening may find after a stop at this moment, a client that began with these first
-- notes has it after it sent these requests.
abbrev pub IsLived : {N : Type 0} → (N → NotesState → Type 0) → NotesState → List Request → N
    → Type 0
IsLived may_find first sent notebook = (found : NotesState) → may_find notebook found
    → Life first found sent

-- An opening finds the notes that are held, and nothing else.
abbrev pub IsSettled : {N : Type 0} → (N → NotesState) → (N → NotesState → Type 0) → N → Type 0
IsSettled held may_find notebook = (found : NotesState) → may_find notebook found
    → found ≡ held notebook

module _ {N : Type 0} (held : N → NotesState) (may_find : N → NotesState → Type 0) where
  -- The notes record that the reply came, or the output failed before. This text was written.
  abbrev pub RecordsReply : JobStatus → List ℕ → N → N → Option (List ℕ) → Option (List ℕ)
      → Result JobStatus WriteFault → Type 0
  RecordsReply status text old new out out' result =
      ((new ≡ old) × IsErr result)
      ⊎ ((recorded : Result (Unit {0}) NotesFault)
      × Replaces held may_find old new (without_request (held old)) recorded
      × EndsRecorded status text recorded out out' result)

  -- The notes record a reply after its line was written. Without a reply they stay.
  abbrev pub Records : Result Reply CallFault → N → N → Option (List ℕ) → Option (List ℕ)
      → Result JobStatus WriteFault → Type 0
  Records (Ok reply) old new out out' result = RecordsReply (asked_status (Ok reply))
      (asked_line (Ok reply)) old new out out' result
  Records (Err fault) old new out out' result = (new ≡ old)
      × EndsWith (asked_status (Err fault)) (asked_line (Err fault)) out out' result

  -- The open request was asked in one call of a client that has its number alone.
  pub record AsksRequest (q : Request) (old new : N) (t t' : Trace) (to : Peer) (tries : ℕ)
      (out out' : Option (List ℕ)) (result : Result JobStatus WriteFault) : Type 0 where
    pub left : ClientState
    pub called : Result Reply CallFault
    pub calls : Calls (new_client q.customer q.number q.number) left t t' to q.body tries called
    pub records : Records called old new out out' result

  -- The open request was asked again, or there is none.
  abbrev pub AsksOpen : Option Request → N → N → Trace → Trace → Peer → ℕ
      → Option (List ℕ) → Option (List ℕ) → Result JobStatus WriteFault → Type 0
  AsksOpen None old new t t' to tries out out' result = (new ≡ old) × (t' ≡ t)
      × EndsWith Refused (refused_line (codes "answered" ∷ [])) out out' result
  AsksOpen (Some q) old new t t' to tries out out' result = AsksRequest q old new t t' to tries out
      out' result

  -- A request is sent only if it was written down.
  abbrev pub AsksWritten : Result (Unit {0}) NotesFault → Request → N → N → Trace → Trace → Peer → ℕ
      → Option (List ℕ) → Option (List ℕ) → Result JobStatus WriteFault → Type 0
  AsksWritten (Ok _) q old new t t' to tries out out' result = AsksRequest q old new t t' to tries out
      out' result
  AsksWritten (Err fault) q old new t t' to tries out out' result = (new ≡ old) × (t' ≡ t)
      × EndsWith Failed (notes_line fault) out out' result

  -- The body got the next number and was written down, and then asked.
  pub record AsksNext (body : Body) (old new : N) (t t' : Trace) (to : Peer) (tries : ℕ)
      (out out' : Option (List ℕ)) (result : Result JobStatus WriteFault) : Type 0 where
    pub between : N
    pub written : Result (Unit {0}) NotesFault
    pub replaces : Replaces held may_find old between (after_take (held old) body) written
    pub asks : AsksWritten written (next_request (held old) body) between new t t' to tries out out'
        result

  -- The body was asked, or it is refused as no number could be given to it.
  abbrev pub AsksByNotes : Option TakeFault → Body → N → N → Trace → Trace → Peer → ℕ
      → Option (List ℕ) → Option (List ℕ) → Result JobStatus WriteFault → Type 0
  AsksByNotes (Some fault) body old new t t' to tries out out' result = (new ≡ old) × (t' ≡ t)
      × EndsWith Refused (refused_line (take_fault_words fault)) out out' result
  AsksByNotes None body old new t t' to tries out out' result = AsksNext body old new t t' to tries
      out out' result

-- What asking by notes leaves, by whether the notes could record the reply.
use Rattle.std.proofs.Common.{◌≡◌, ℕ, List, [], ◌∷◌, ◌++◌, Option, Some, Result, Ok, Err}
use Rattle.std.proofs.Common.{sym, ap, ◌∙◌, subst, inl, inr, append-nil}
use Rattle.std.specs.Io.KnownBytes.{Appends}
use Rattle.s10_wire.specs.declared.request.Request.{Request}
use Rattle.s10_wire.specs.declared.reply.Reply.{Reply}
use Rattle.s10_lines.specs.declared.write_fault.WriteFault.{WriteFault}
use Rattle.s10_lines.proofs.Writing.{Appends-then}
use Rattle.s10_link.specs.declared.trace.Trace.{Trace}
use Rattle.s10_link.specs.declared.peer.Peer.{Peer}
use Rattle.s10_notes.specs.declared.notes_fault.NotesFault.{NotesFault}
use Rattle.s10_notes.specs.Notes.{NotesState, without_request}
use Rattle.s10_notes.specs.Notebook.{Replaces}
use Rattle.s10_notes.specs.Lives.{Life}
use Rattle.s10_notes.specs.Lives.Life.{sent_open, answered}
use Rattle.s10_ends.specs.Client.{ClientState, new_client}
use Rattle.s10_ends.specs.Calls.{Calls}
use Rattle.s10_ends.specs.declared.calls.CallFault.{CallFault}
use Rattle.s10_jobs.specs.declared.job_status.JobStatus.{JobStatus}
use Rattle.s10_jobs.specs.Asked.{asked_status, asked_line}
use Rattle.s10_jobs.specs.NotesAsked.{EndsWith, EndsRecorded, RecordsReply, Records, AsksRequest}
use Rattle.s10_jobs.specs.NotesAsked.{IsLived, IsSettled, notes_line}

-- A text after another one, which was written with success.
then_ends : (status : JobStatus) (line text : List ℕ) (u v w : Option (List ℕ))
    (result : Result JobStatus WriteFault) → Appends u v line → EndsWith status text v w result
    → EndsWith status (line ++ text) u w result
then_ends status line text u v w (Ok ended) first h =
    (h.0, Appends-then u v w line text first h.1)
then_ends status line text u v w (Err fault) first h = tt

ends_after : (status : JobStatus) (line : List ℕ) (recorded : Result (Unit {0}) NotesFault)
    (u v w : Option (List ℕ)) (result : Result JobStatus WriteFault) → Appends u v line
    → EndsRecorded status [] recorded v w result → EndsRecorded status line recorded u w result
ends_after status line (Ok done) u v w result first h =
    let P : List ℕ → Type 0 = λ text. EndsWith status text u w result in
    subst P (append-nil line) (then_ends status line [] u v w result first h)
ends_after status line (Err fault) u v w result first h =
    then_ends _ line (notes_line fault) u v w result first h

module _ {N : Type 0} (held : N → NotesState) (may_find : N → NotesState → Type 0) where
  -- The notes record a reply whose line was written before.
  records_after : (status : JobStatus) (line : List ℕ) (old new : N) (u v w : Option (List ℕ))
      (result : Result JobStatus WriteFault) → Appends u v line
      → RecordsReply held may_find status [] old new v w result
      → RecordsReply held may_find status line old new u w result
  records_after status line old new u v w result first (inl x) = inl x
  records_after status line old new u v w result first (inr x) = inr (
    x.0,
    x.1,
    ends_after status line x.0 u v w result first x.2,
  )

  -- A call whose reply is recorded.
  pub asked_and_recorded : (q : Request) (old new : N) (t t' : Trace) (to : Peer) (tries : ℕ)
      (u v w : Option (List ℕ)) (result : Result JobStatus WriteFault) (left : ClientState)
      (called : Result Reply CallFault) (reply : Reply) (status : JobStatus) → called ≡ Ok reply
      → Calls (new_client q.customer q.number q.number) left t t' to q.body tries called
      → (status ≡ asked_status called) × Appends u v (asked_line called)
      → RecordsReply held may_find status [] old new v w result
      → AsksRequest held may_find q old new t t' to tries u w result
  asked_and_recorded q old new t t' to tries u v w result left called reply status is calls shown
      records = record {
        left = left;
        called = Ok reply;
        calls =
            let P : Result Reply CallFault → Type 0 = λ r. Calls (new_client q.customer q.number q.number)
            left t t' to q.body tries r in
            subst P is calls;
        records =
            let T : Result Reply CallFault → Type 0 = λ r. Appends u v (asked_line r) in
            let V : JobStatus → Type 0 = λ s. RecordsReply held may_find s [] old new v w result in
            records_after (asked_status (Ok reply)) (asked_line (Ok reply)) old new u v w result
            (subst T is shown.1) (subst V (shown.0 ∙ ap asked_status is) records);
      }

  -- All that is found after a call of the open request goes with this request sent.
  lived_after : (q : Request) (old new : N) (u w : Option (List ℕ))
      (result : Result JobStatus WriteFault) (called : Result Reply CallFault)
      (first : NotesState) (sent : List Request)
      → Records held may_find called old new u w result → IsSettled held may_find old
      → Life first (held old) (q ∷ sent) → IsLived may_find first (q ∷ sent) new
  lived_after q old new u w result called first sent records settled life = by_records called records
    where
      P : NotesState → Type 0
      P n = Life first n (q ∷ sent)

      stays : new ≡ old → IsLived may_find first (q ∷ sent) new
      stays same found h =
          let F : N → Type 0 = λ n. may_find n found in
          subst P (sym (settled found (subst F same h))) life

      replaced : (recorded : Result (Unit {0}) NotesFault)
          → Replaces held may_find old new (without_request (held old)) recorded
          → IsLived may_find first (q ∷ sent) new
      replaced (Ok done) r found h = subst P (sym (r.1 found h)) (answered life)
      replaced (Err fault) r found h = elim (r.1 found h) [
        | inl was ↦ subst P (sym (settled found was)) life
        | inr is ↦ subst P (sym is) (answered life)
      ]

      by_records : (called : Result Reply CallFault) → Records held may_find called old new u w result
          → IsLived may_find first (q ∷ sent) new
      by_records (Ok reply) (inl x) = stays x.0
      by_records (Ok reply) (inr x) = replaced x.0 x.1
      by_records (Err fault) x = stays x.0

  pub lived_after_request : (q : Request) (old new : N) (t t' : Trace) (to : Peer) (tries : ℕ)
      (u w : Option (List ℕ)) (result : Result JobStatus WriteFault)
      → AsksRequest held may_find q old new t t' to tries u w result
      → (first : NotesState) (sent : List Request) (p : Request) → IsSettled held may_find old
      → (held old).request ≡ Some p → p ≡ q → Life first (held old) sent
      → IsLived may_find first (p ∷ sent) new
  lived_after_request q old new t t' to tries u w result asks first sent p settled open_one same life =
      lived_after p old new u w result asks.called first sent asks.records settled
      (sent_open life p open_one)

  -- If notes could not be replaced, nothing was sent, regardless of what is found.
  pub lived_unsent : (old new : N) (n : NotesState) (fault : NotesFault) (first : NotesState)
      (sent : List Request) → Replaces held may_find old new n (Err fault) → Life first n sent
      → IsLived may_find first sent old → IsLived may_find first sent new
  lived_unsent old new n fault first sent r life lived found h =
      let P : NotesState → Type 0 = λ m. Life first m sent in
      elim (r.1 found h) [ inl was ↦ lived found was | inr is ↦ subst P (sym is) life ]

-- Lemmas about what the jobs over notes print.
use Rattle.std.proofs.Common.{◌≡◌, ℕ, List, Option, None, Result, Ok, Err, refl, inl, inr}
use Rattle.std.specs.Prelude.{IfOk, IfSome, codes}
use Rattle.std.specs.Io.KnownBytes.{Appends}
use Rattle.s10_link.specs.declared.link_fault.LinkFault.{LinkFault}
use Rattle.s10_link.specs.declared.link_fault.LinkFault.TheVariants.{Bind}
use Rattle.s10_lines.specs.declared.write_fault.WriteFault.{WriteFault}
use Rattle.s10_lines.specs.Lines.{line_of}
use Rattle.s10_notes.specs.declared.notes_fault.NotesFault.{NotesFault}
use Rattle.s10_jobs.specs.declared.job_status.JobStatus.{JobStatus}
use Rattle.s10_jobs.specs.declared.job_status.JobStatus.TheVariants.{Refused, Failed}
use Rattle.s10_jobs.specs.Lines.{refused_line}
use Rattle.s10_jobs.specs.Words.{link_fault_words}
use Rattle.s10_jobs.specs.declared.refusal.Refusal.{Refusal}
use Rattle.s10_jobs.specs.Questions.{refusal_words}
use Rattle.s10_jobs.specs.NotesAsked.{EndsWith, notes_line}
use Rattle.s10_host.specs.NotesJobs.{OpenNotes, IsOpenedAt, IsUnaskedByNotes}

module _ (Refuses : Refusal → Type 0) (Read : Type 0) (path : List ℕ) where
  -- The line of a job that made no call.
  abbrev pub Unasked : Option OpenNotes → Option (List ℕ) → Option (List ℕ)
      → Result JobStatus WriteFault → Type 0
  Unasked notes old new r = IfOk r (λ status. (line : List ℕ)
      × IsUnaskedByNotes Refuses Read path notes status line × Appends old new line)

  -- A text that cannot be read.
  pub no_text : (refusal : Refusal) (notes : Option OpenNotes) (old new : Option (List ℕ))
      (r : Result JobStatus WriteFault) → notes ≡ None → Refuses refusal
      → EndsWith Refused (refused_line (refusal_words refusal)) old new r
      → Unasked notes old new r
  no_text refusal notes old new (Ok status) none is (same, line) =
      (refused_line (refusal_words refusal), inl (none, refusal, is, same, refl), line)
  no_text refusal notes old new (Err fault) none is says = tt

  -- Notes that cannot be opened.
  pub no_notes : (fault : NotesFault) (notes : Option OpenNotes) (old new : Option (List ℕ))
      (r : Result JobStatus WriteFault) → notes ≡ None → Read
      → EndsWith Failed (notes_line fault) old new r → Unasked notes old new r
  no_notes fault notes old new (Ok status) none read (same, line) =
      (notes_line fault, inr (inl (none, read, fault, same, refl)), line)
  no_notes fault notes old new (Err failed) none read says = tt

  -- A socket that cannot be bound.
  pub no_socket : (fault : LinkFault) (notes : Option OpenNotes) (old new : Option (List ℕ))
      (r : Result JobStatus WriteFault) → IfSome notes (IsOpenedAt path) → Read → fault ≡ Bind
      → IfOk r (λ status. (status ≡ Failed)
      × Appends old new (line_of (codes "link") (link_fault_words fault)))
      → Unasked notes old new r
  no_socket Bind notes old new (Ok status) opened read is (same, line) =
      (line_of (codes "link") (link_fault_words Bind), inr (inr (read, opened, same, refl)), line)
  no_socket fault notes old new (Ok status) opened read is says = absurd cc
  no_socket fault notes old new (Err failed) opened read is says = tt

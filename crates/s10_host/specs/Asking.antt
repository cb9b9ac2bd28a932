-- Defines what a job that asks a question has done.
use Rattle.std.specs.Prelude.{◌≡◌, ℕ, List, Option, None, Result}
use Rattle.s10_link.specs.UdpLink.{BoundLink}
use Rattle.s10_lines.specs.declared.write_fault.WriteFault.{WriteFault}
use Rattle.s10_jobs.specs.declared.job_status.JobStatus.{JobStatus}
use Rattle.s10_jobs.specs.declared.asker.Asker.{Asker}
use Rattle.s10_jobs.specs.declared.asker.Asker.TheVariants.{Numbered, Noted}
use Rattle.s10_jobs.specs.declared.question.Question.{Question}
use Rattle.s10_jobs.specs.Questioning.{IsAsked, IsUnasked}
use Rattle.s10_host.specs.Called.{HasCalled}
use Rattle.s10_host.specs.NotesJobs.{OpenNotes, HasAskedByNotes}

-- The question was asked with this number of the customer over the link that is returned, or the line
-- says why it was not.
abbrev pub HasAskedByNumber : ℕ → ℕ → Question → Option (List ℕ) → Option (List ℕ)
    → Result JobStatus WriteFault → Option BoundLink → Type 0
HasAskedByNumber customer number question old new result link = HasCalled
    (λ l. IsAsked customer number question l old new result) (IsUnasked question) old new result link

-- The question was asked by what gives it its number. With a number no notes were opened.
abbrev pub HasAsked : Asker → Question → Option (List ℕ) → Option (List ℕ)
    → Result JobStatus WriteFault → Option BoundLink → Option OpenNotes → Type 0
HasAsked (Numbered customer number) question old new result link notes =
    HasAskedByNumber customer number question old new result link × (notes ≡ None)
HasAsked (Noted path) question old new result link notes =
    HasAskedByNotes path.now question old new result link notes

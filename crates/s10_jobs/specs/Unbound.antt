-- A server whose address cannot be bound.
use Rattle.std.specs.Prelude.{◌≡◌, ℕ, List, [], ◌∷◌, codes, Option, Result, IfOk}
use Rattle.std.specs.Io.KnownBytes.{Appends}
use Rattle.s10_lines.specs.declared.write_fault.WriteFault.{WriteFault}
use Rattle.s10_lines.specs.Lines.{line_of}
use Rattle.s10_jobs.specs.declared.job_status.JobStatus.{JobStatus}
use Rattle.s10_jobs.specs.declared.job_status.JobStatus.TheVariants.{Failed}

-- There is no link: the book is unchanged, and the line says so.
abbrev pub IsUnbound : {B : Type 0} → B → B → Option (List ℕ) → Option (List ℕ)
    → Result JobStatus WriteFault → Type 0
IsUnbound old new held now result =
    (new ≡ old) × IfOk result (λ status. (status ≡ Failed)
    × Appends held now (line_of (codes "link") (codes "bind" ∷ [])))

-- Defines what a job that calls a server has done.
use Rattle.std.specs.Prelude.{◌≡◌, ℕ, List, Option, None, Result, IfOk, IfSome}
use Rattle.std.specs.Io.KnownBytes.{Appends}
use Rattle.s10_link.specs.UdpLink.{BoundLink}
use Rattle.s10_lines.specs.declared.write_fault.WriteFault.{WriteFault}
use Rattle.s10_jobs.specs.declared.job_status.JobStatus.{JobStatus}

-- The call was made over the link that is returned, or the line says why it was not.
pub record HasCalled (Asked : BoundLink → Type 0) (Unasked : JobStatus → List ℕ → Type 0)
    (old new : Option (List ℕ)) (result : Result JobStatus WriteFault) (link : Option BoundLink)
    : Type 0 where
  pub asked : IfSome link Asked
  pub unasked : link ≡ None
      → IfOk result (λ status. (line : List ℕ) × Unasked status line × Appends old new line)

-- Defines which resources a job returns.
use Rattle.std.specs.Prelude.{None}
use Rattle.s10_host.specs.declared.job_resources.JobResources.{JobResources}

-- A job that returns nothing but its result.
abbrev pub no_resources : {F : Type 0} → JobResources F
no_resources = record {
  files = None;
  link = None;
  notes = None;
  looped = None;
  snapshot = None;
  copied = None;
}

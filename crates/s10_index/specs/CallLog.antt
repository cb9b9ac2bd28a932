-- Defines the value of a call log.
use Rattle.std.specs.Prelude.{ℕ, ◌+◌, List, Option, slice_get}
use Rattle.std.specs.Option.{option_and_then}
use Rattle.s10_history.specs.declared.entry.Entry.{Entry}
use Rattle.s10_history.specs.declared.issuance.Issuance.{Issuance}
use Rattle.s10_history.specs.Issues.{issues_at}

-- The calls in their order, and for how many more calls memory is reserved.
pub record CallList : Type 0 where
  pub items : List Entry
  pub room : ℕ

-- The issuance at an index of the call at an index, both from 0.
abbrev pub issuance_at : List Entry → ℕ → ℕ → Option Issuance
issuance_at h call at =
    option_and_then (λ e. slice_get (issues_at (call + 1) e) at) (slice_get h call)

-- Defines what `loop` does over a ledger in memory, and what it returns.
use Rattle.std.specs.Prelude.{◌≡◌, ◌⊎◌, ℕ, List, [], ◌∷◌, codes, Option, None, Result, IfOk}
use Rattle.std.specs.Prelude.{IfSome}
use Rattle.sqlite_trees.specs.declared.memory.MemStore.{MemStore}
use Rattle.sqlite.specs.Held.{state}
use Rattle.sqlite.specs.Steps.{over_memory}
use Rattle.s10_lines.specs.declared.write_fault.WriteFault.{WriteFault}
use Rattle.s10_lines.specs.Lines.{line_of}
use Rattle.s10_link.specs.declared.peer.Peer.{Peer}
use Rattle.s10_link.specs.Link.{new_trace}
use Rattle.s10_link.specs.Link.{LeadsTo}
use Rattle.s10_history.specs.Settings.{Terms}
use Rattle.s10_ledger.specs.Ledger.{IsOverCleanDisk, MayFind, Ledger, IsHonest, history_in}
use Rattle.s10_ledger.specs.Ledger.{history_of, committed_of}
use Rattle.s10_link.specs.UdpLink.{BoundLink, IsBoundAt}
use Rattle.s10_ends.specs.NearEnds.{NearEnds}
use Rattle.s10_ends.specs.Server.{book_of}
use Rattle.s10_ends.specs.NearLink.{IsNearStep, ServedOn}
use Rattle.s10_rows.specs.declared.open_fault.OpenFault.{OpenFault}
use Rattle.s10_jobs.specs.declared.job_status.JobStatus.{JobStatus}
use Rattle.s10_jobs.specs.declared.job_status.JobStatus.TheVariants.{Failed}
use Rattle.s10_jobs.specs.Shown.{Prints}
use Rattle.s10_jobs.specs.Words.{open_fault_words}
use Rattle.s10_jobs.specs.LoopCalls.{loop_calls, AreMadeInTurn}
use Rattle.s10_host.specs.declared.loop_resources.LoopResources.{LoopResources}
use Rattle.s10_host.specs.Files.{IsFileFault}

-- Why no call was made: a socket could not be bound, or no ledger could be created in memory.
abbrev pub IsLoopFailure : List ℕ → Type 0
IsLoopFailure line = (line ≡ line_of (codes "link") (codes "bind" ∷ []))
    ⊎ ((fault : OpenFault) × IsFileFault fault
    × (line ≡ line_of (codes "ledger") (open_fault_words fault)))

-- A link to a ledger in memory, over two sockets of this machine.
abbrev pub LoopLink : Type 0
LoopLink = NearEnds (Ledger MemStore) BoundLink BoundLink

-- The settings of the ledger of a loop.
abbrev pub loop_terms : Terms
loop_terms = record { interval = 30; limit = 100 }

-- How a call changes the link of a loop.
abbrev pub IsLoopStep : LoopLink → LoopLink → Type 0
IsLoopStep = IsNearStep (λ (b : Ledger MemStore). b.faults) (IsHonest over_memory) (λ b. b.terms)
    (history_of over_memory) (committed_of over_memory) (IsOverCleanDisk over_memory) (MayFind
    over_memory) (λ (l : BoundLink). l.trace)
    (λ (l : BoundLink). l.trace) (λ (a b : BoundLink). b.at ≡ a.at)

-- A new loop: its links carried nothing, and its ledger is empty.
pub record IsNewLoop (day : ℕ) (link : LoopLink) : Type 0 where
  pub on_day : link.day ≡ day
  pub far : link.far.trace ≡ new_trace
  pub near : link.near.trace ≡ new_trace
  pub terms : (book_of link.server).terms ≡ loop_terms
  pub empty : history_of over_memory (book_of link.server) ≡ []

-- The resources of a loop after its ledger was closed. The ledger was honest to the end.
pub record AreLoopResources (link : LoopLink) (looped : LoopResources) : Type 0 where
  pub honest : IsHonest over_memory (book_of link.server)
  pub closed : looped.connection ≡ (book_of link.server).conn
  pub far : looped.far ≡ link.far
  pub near : looped.near ≡ link.near

-- A loopback address, with a port that the system picks.
abbrev pub localhost : Peer
localhost = record { ip = 127 ∷ 0 ∷ 0 ∷ 1 ∷ []; port = 0 }

-- A run of a loop. Its calls are all that a new link carried, and went to the loopback address that
-- the ledger was served at. The calls served on the day are the history of the ledger. The lines of
-- the calls were printed unless the writer failed.
pub record IsLoopRun (day : ℕ) (old new : Option (List ℕ)) (result : Result JobStatus WriteFault)
    (looped : LoopResources) : Type 0 where
  pub begun : LoopLink
  pub fresh : IsNewLoop day begun
  pub ended : LoopLink
  pub led : LeadsTo IsLoopStep begun ended
  pub left : AreLoopResources ended looped
  pub served : ServedOn day [] loop_terms (history_in (state over_memory looped.connection).now)
  pub at : IsBoundAt localhost looped.far.at
  pub asked : IfOk result (λ status. Prints old new
      (AreMadeInTurn looped.far.at loop_calls new_trace looped.near.trace status))

-- The loop was run, or the line says why no call was made.
pub record HasRunLoop (day : ℕ) (old new : Option (List ℕ)) (result : Result JobStatus WriteFault)
    (looped : Option LoopResources) : Type 0 where
  pub asked : IfSome looped (IsLoopRun day old new result)
  pub unasked : looped ≡ None
      → IfOk result (λ status. (status ≡ Failed) × Prints old new IsLoopFailure)

-- What a loop leaves.
use Rattle.std.proofs.Common.{◌≡◌, ◌∙◌, sym, ap, subst, ℕ, List, [], ◌∷◌, ◌++◌, length}
use Rattle.std.proofs.Common.{length-append, append-nil}
use Rattle.std.proofs.Common.{Option, Result, Ok, Err, arith}
use Rattle.std.proofs.lemmas.List.{nil_from_length}
use Rattle.std.specs.Prelude.{IfOk}
use Rattle.sqlite_trees.specs.declared.memory.MemStore.{MemStore}
use Rattle.sqlite.specs.Held.{Held, state}
use Rattle.sqlite.specs.Steps.{over_memory}
use Rattle.s10_lines.specs.declared.write_fault.WriteFault.{WriteFault}
use Rattle.s10_link.specs.declared.peer.Peer.{Peer}
use Rattle.s10_link.specs.declared.trace.Trace.{Trace}
use Rattle.s10_link.specs.Link.{LeadsTo}
use Rattle.s10_link.specs.Link.LeadsTo.{none as led_none, more}
use Rattle.s10_link.proofs.Led.{led_on}
use Rattle.s10_link.proofs.Bound.{at_stays, still_bound}
use Rattle.s10_link.specs.Link.{new_trace}
use Rattle.s10_history.specs.declared.entry.Entry.{Entry}
use Rattle.s10_history.specs.Settings.{Terms}
use Rattle.s10_ledger.specs.Ledger.{IsOverCleanDisk, MayFind, Ledger, IsHonest, history_in}
use Rattle.s10_ledger.specs.Ledger.{history_of, committed_of}
use Rattle.s10_link.specs.UdpLink.{BoundLink, IsBoundAt}
use Rattle.s10_ends.specs.Server.{book_of}
use Rattle.s10_ends.specs.NearLink.{ServedOn}
use Rattle.s10_ends.proofs.Near.{LedOn, Whole, near_led, near_whole}
use Rattle.s10_jobs.specs.declared.job_status.JobStatus.{JobStatus}
use Rattle.s10_jobs.specs.Shown.{Prints}
use Rattle.s10_jobs.specs.LoopCalls.{loop_calls, AreMadeInTurn}
use Rattle.s10_host.specs.declared.loop_resources.LoopResources.{LoopResources}
use Rattle.s10_host.specs.LoopRun.{LoopLink, IsLoopStep, IsNewLoop, AreLoopResources, IsLoopRun}
use Rattle.s10_host.specs.LoopRun.{loop_terms, localhost}

-- A link over a socket stays at its address.
abbrev Stays : BoundLink → BoundLink → Type 0
Stays a b = b.at ≡ a.at

-- The far end of a loop stays at its address.
far_stays : (begun ended : LoopLink) → LeadsTo IsLoopStep begun ended
    → LeadsTo Stays begun.far ended.far
far_stays begun _ led_none = led_none
far_stays begun ended (more {between = between} led step) =
    led_on (far_stays begun between led) step.led

-- What was served over calls that lead from a new link to another.
served_over : (day : ℕ) (begun ended : LoopLink) → IsNewLoop day begun
    → LeadsTo IsLoopStep begun ended → IsHonest over_memory (book_of ended.server)
    → ServedOn day [] loop_terms (history_of over_memory (book_of ended.server))
served_over day begun ended fresh led honest =
    let on : LedOn (λ (b : Ledger MemStore). b.faults) (IsHonest over_memory) (λ b. b.terms)
    (history_of over_memory) (committed_of over_memory) (IsOverCleanDisk over_memory) (MayFind
    over_memory) (λ (l : BoundLink). l.trace)
    (λ (l : BoundLink). l.trace) Stays begun.day (book_of begun.server) (book_of ended.server) =
    near_led (λ (b : Ledger MemStore). b.faults) (IsHonest over_memory) (λ b. b.terms)
    (history_of over_memory) (committed_of over_memory) (IsOverCleanDisk over_memory) (MayFind
    over_memory) (λ (l : BoundLink). l.trace)
    (λ (l : BoundLink). l.trace) Stays begun ended led in
    let last : List Entry = history_of over_memory (book_of ended.server) in
    subst (λ (d : ℕ). ServedOn d [] loop_terms last) fresh.on_day
    (subst (λ (t : Terms). ServedOn begun.day [] t last) fresh.terms
    (subst (λ (h : List Entry). ServedOn begun.day h (book_of begun.server).terms last) fresh.empty
    (on.served honest)))

-- If the first part of a list is all of it, the rest is empty.
all_of : {X : Type 0} (xs ys : List X) → xs ≡ xs ++ ys → ys ≡ []
all_of xs ys is = nil_from_length ys (omega (arith, ap length is, length-append xs ys))

of_none : {X : Type 0} (xs ys : List X) → xs ++ ys ≡ [] → xs ≡ xs ++ ys
of_none [] ys is = sym is
of_none (x ∷ xs) ys is = absurd cc

-- No call of the ledger is pending.
pub none_left : (day : ℕ) (begun ended : LoopLink) → IsNewLoop day begun
    → LeadsTo IsLoopStep begun ended → IsHonest over_memory (book_of ended.server)
    → (book_of ended.server).pending ≡ []
none_left day begun ended fresh led honest =
    let first : Ledger MemStore = book_of begun.server in
    let last : Ledger MemStore = book_of ended.server in
    let whole : Whole (λ (b : Ledger MemStore). b.faults) (IsHonest over_memory) (λ b. b.terms)
    (history_of over_memory) (committed_of over_memory) (IsOverCleanDisk over_memory) (MayFind
    over_memory) (λ (l : BoundLink). l.trace)
    (λ (l : BoundLink). l.trace) Stays last =
    near_whole (λ (b : Ledger MemStore). b.faults) (IsHonest over_memory) (λ b. b.terms)
    (history_of over_memory) (committed_of over_memory) (IsOverCleanDisk over_memory) (MayFind
    over_memory) (λ (l : BoundLink). l.trace)
    (λ (l : BoundLink). l.trace) Stays begun ended led
    (λ h. of_none (committed_of over_memory first) first.pending fresh.empty) in
    all_of (committed_of over_memory last) last.pending (whole honest)

asked_over : (to at : Peer) (last : Trace) (u v : Option (List ℕ)) (r : Result JobStatus WriteFault)
    (first : Trace) → first ≡ new_trace → to ≡ at
    → IfOk r (λ status. Prints u v (AreMadeInTurn to loop_calls first last status))
    → IfOk r (λ status. Prints u v (AreMadeInTurn at loop_calls new_trace last status))
asked_over to at last u v (Ok status) first none same asked =
    subst (λ (p : Peer). Prints u v (AreMadeInTurn p loop_calls new_trace last status)) same
    (subst (λ (t : Trace). Prints u v (AreMadeInTurn to loop_calls t last status)) none asked)
asked_over to at last u v (Err fault) first none same asked = tt

-- A run of a loop, from calls over a new link.
pub looped_over : (day : ℕ) (begun ended : LoopLink) (looped : LoopResources)
    (u v : Option (List ℕ)) (r : Result JobStatus WriteFault) (first : Trace)
    → IsNewLoop day begun → LeadsTo IsLoopStep begun ended → AreLoopResources ended looped
    → first ≡ new_trace
    → IsBoundAt localhost begun.far.at
    → IfOk r (λ status. Prints u v (AreMadeInTurn begun.far.at loop_calls first looped.near.trace
    status))
    → IsLoopRun day u v r looped
looped_over day begun ended looped u v r first fresh led left none bound asked = record {
  begun = begun;
  fresh = fresh;
  ended = ended;
  led = led;
  left = left;
  served = subst (λ (c : Held MemStore). ServedOn day [] loop_terms
      (history_in (state over_memory c).now)) (sym left.closed)
      (subst (λ (l : List Entry). ServedOn day [] loop_terms l)
      (ap (λ (p : List Entry). committed_of over_memory (book_of ended.server) ++ p)
      (none_left day begun ended fresh led left.honest) ∙ append-nil _)
      (served_over day begun ended fresh led left.honest));
  at = subst (λ (l : BoundLink). IsBoundAt localhost l.at) (sym left.far)
      (still_bound localhost begun.far ended.far (far_stays begun ended led) bound);
  asked = asked_over begun.far.at looped.far.at looped.near.trace u v r first none
      (sym (ap (λ (l : BoundLink). l.at) left.far
      ∙ at_stays begun.far ended.far (far_stays begun ended led))) asked;
}

-- The calls that `loop` makes, and the lines that it prints.
use Rattle.std.specs.Prelude.{◌≡◌, ◌≢◌, ◌⊎◌, ℕ, List, [], ◌∷◌, ◌++◌, Result}
use Rattle.s10_core.specs.declared.id.Id.{Id}
use Rattle.s10_wire.specs.declared.body.Body.{Body}
use Rattle.s10_wire.specs.declared.body.Body.TheVariants.{Grant, Draw, Void, Query}
use Rattle.s10_wire.specs.declared.reply.Reply.{Reply}
use Rattle.s10_link.specs.declared.peer.Peer.{Peer}
use Rattle.s10_link.specs.declared.trace.Trace.{Trace}
use Rattle.s10_ends.specs.declared.calls.CallFault.{CallFault}
use Rattle.s10_ends.specs.Calls.{Calls}
use Rattle.s10_ends.specs.Client.{ClientState, new_client, after_submit, without_pending}
use Rattle.s10_jobs.specs.declared.job_status.JobStatus.{JobStatus}
use Rattle.s10_jobs.specs.declared.job_status.JobStatus.TheVariants.{Done}
use Rattle.s10_jobs.specs.Asked.{asked_status, asked_line}

-- The service RA.
abbrev pub ra : ℕ × ℕ
ra = (82, 65)

-- The country GB.
abbrev pub gb : ℕ × ℕ
gb = (71, 66)

-- The identifier RA000000005GB.
abbrev pub first_of_range : Id
first_of_range = record { service = ra; serial = 0; country = gb }

-- The grant of RA GB 0 to 2 to customer 7.
abbrev pub granted_range : Body
granted_range = Grant 7 ra gb 0 2

-- Two draws, then the void and the query of the first identifier.
abbrev pub customer_calls : List Body
customer_calls = Draw ra gb ∷ Draw ra gb ∷ Void first_of_range ∷ Query first_of_range ∷ []

-- Each call of a client, with the state of the client before it.
abbrev pub calls_of : ClientState → List Body → List (ClientState × Body)
calls_of c [] = []
calls_of c (body ∷ bodies) = (c, body) ∷ calls_of (without_pending (after_submit c body)) bodies

-- Number 1 of the post, then numbers 1 to 4 of customer 7.
abbrev pub loop_calls : List (ClientState × Body)
loop_calls = calls_of (new_client 0 1 1) (granted_range ∷ []) ++ calls_of (new_client 7 1 4)
    customer_calls

-- The calls were made over a link in order, each in up to five tries, up to the first that was not
-- done. The text has the line of each, and the status is that of the last.
abbrev pub AreMadeInTurn : Peer → List (ClientState × Body) → Trace → Trace → JobStatus → List ℕ
    → Type 0
AreMadeInTurn to [] old new status text = (new ≡ old) × (status ≡ Done) × (text ≡ [])
AreMadeInTurn to (call ∷ calls) old new status text =
    (left : ClientState) × (between : Trace) × (called : Result Reply CallFault)
    × Calls call.0 left old between to call.1 5 called
    × (((asked_status called ≡ Done) × (rest : List ℕ) × (text ≡ asked_line called ++ rest)
    × AreMadeInTurn to calls between new status rest)
    ⊎ ((asked_status called ≢ Done) × (new ≡ between) × (status ≡ asked_status called)
    × (text ≡ asked_line called)))

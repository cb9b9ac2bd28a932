-- Lemmas about calls of clients in order, up to the first that is not done.
use Rattle.std.proofs.Common.{◌≡◌, ◌≢◌, ◌∙◌, inl, inr, ℕ, List, [], ◌∷◌, ◌++◌, Option, Result, Ok}
use Rattle.std.proofs.Common.{Err, refl, sym, ap, subst, append_assoc, append-nil}
use Rattle.std.specs.Prelude.{IfOk}
use Rattle.std.specs.Io.KnownBytes.{Appends}
use Rattle.s10_lines.proofs.Writing.{Appends-then}
use Rattle.s10_wire.specs.declared.body.Body.{Body}
use Rattle.s10_wire.specs.declared.reply.Reply.{Reply}
use Rattle.s10_link.specs.declared.peer.Peer.{Peer}
use Rattle.s10_link.specs.declared.trace.Trace.{Trace}
use Rattle.s10_ends.specs.declared.calls.CallFault.{CallFault}
use Rattle.s10_ends.specs.declared.calls.CallFault.TheVariants.{Submit, GaveUp, Link}
use Rattle.s10_ends.specs.Calls.{Calls}
use Rattle.s10_ends.specs.Client.{ClientState, after_submit, without_pending}
use Rattle.s10_lines.specs.declared.write_fault.WriteFault.{WriteFault}
use Rattle.s10_jobs.specs.declared.job_status.JobStatus.{JobStatus}
use Rattle.s10_jobs.specs.declared.job_status.JobStatus.TheVariants.{Done, Refused, CommandLine}
use Rattle.s10_jobs.specs.declared.job_status.JobStatus.TheVariants.{Failed}
use Rattle.s10_jobs.specs.Asked.{asked_status, asked_line}
use Rattle.s10_jobs.specs.Shown.{Prints}
use Rattle.s10_jobs.specs.LoopCalls.{calls_of, AreMadeInTurn}

abbrev pub after_call : ClientState → Body → ClientState
after_call c body = without_pending (after_submit c body)

abbrev pub after_calls : ClientState → List Body → ClientState
after_calls c [] = c
after_calls c (body ∷ bodies) = after_calls (after_call c body) bodies

after_calls-push : (c : ClientState) (bodies : List Body) (body : Body)
    → after_calls c (bodies ++ body ∷ []) ≡ after_call (after_calls c bodies) body
after_calls-push c [] body = refl
after_calls-push c (first ∷ bodies) body = after_calls-push (after_call c first) bodies body

calls_of-append : (c : ClientState) (bodies more : List Body) → calls_of c (bodies ++ more)
    ≡ calls_of c bodies ++ calls_of (after_calls c bodies) more
calls_of-append c [] more = refl
calls_of-append c (first ∷ bodies) more =
    ap (λ (calls : List (ClientState × Body)). (c, first) ∷ calls)
    (calls_of-append (after_call c first) bodies more)

module _ (to : Peer) where
  -- Calls that were done, and others after them.
  AreMadeInTurn-append : (calls more : List (ClientState × Body)) (old mid new : Trace)
      (status : JobStatus) (text line : List ℕ)
      → AreMadeInTurn to calls old mid Done text → AreMadeInTurn to more mid new status line
      → AreMadeInTurn to (calls ++ more) old new status (text ++ line)
  AreMadeInTurn-append [] more old mid new status text line (same, done, nothing) others =
      subst (AreMadeInTurn to more old new status) (ap (λ (t : List ℕ). t ++ line) (sym nothing))
      (subst (λ t. AreMadeInTurn to more t new status line) same others)
  AreMadeInTurn-append (call ∷ calls) more old mid new status text line (
    left,
    between,
    called,
    it,
    inl (done, rest, lines, after),
  ) others = (
    left,
    between,
    called,
    it,
    inl (
      done,
      rest ++ line,
      ap (λ (t : List ℕ). t ++ line) lines ∙ append_assoc (asked_line called)
          rest line,
      AreMadeInTurn-append calls more between mid new status rest line after others,
    ),
  )
  AreMadeInTurn-append (call ∷ calls) more old mid new status text line (
    left,
    between,
    called,
    it,
    inr (undone, same, is, lines),
  ) others = absurd (undone (sym is))

  -- No call follows one that was not done.
  AreMadeInTurn-stops : (calls more : List (ClientState × Body)) (old new : Trace)
      (status : JobStatus) (text : List ℕ)
      → status ≢ Done → AreMadeInTurn to calls old new status text
      → AreMadeInTurn to (calls ++ more) old new status text
  AreMadeInTurn-stops [] more old new status text undone (same, done, nothing) =
      absurd (undone done)
  AreMadeInTurn-stops (call ∷ calls) more old new status text undone (
    left,
    between,
    called,
    it,
    inl (done, rest, lines, after),
  ) = (
    left,
    between,
    called,
    it,
    inl (
      done,
      rest,
      lines,
      AreMadeInTurn-stops calls more between new status rest undone
          after,
    ),
  )
  AreMadeInTurn-stops (call ∷ calls) more old new status text undone (
    left,
    between,
    called,
    it,
    inr stopped,
  ) = (left, between, called, it, inr stopped)

  asked_one : (c c' : ClientState) (old new : Trace) (body : Body) (called : Result Reply CallFault)
      (status : JobStatus)
      → Calls c c' old new to body 5 called → asked_status called ≡ status
      → AreMadeInTurn to ((c, body) ∷ []) old new status (asked_line called)
  asked_one c c' old new body called Done it is =
      (c', new, called, it, inl (is, [], sym (append-nil (asked_line called)), (refl, refl, refl)))
  asked_one c c' old new body called Refused it is =
      (c', new, called, it, inr (λ done. absurd cc, refl, sym is, refl))
  asked_one c c' old new body called CommandLine it is =
      (c', new, called, it, inr (λ done. absurd cc, refl, sym is, refl))
  asked_one c c' old new body called Failed it is =
      (c', new, called, it, inr (λ done. absurd cc, refl, sym is, refl))

  idle_after : (c c' : ClientState) (old new : Trace) (body : Body)
      (called : Result Reply CallFault) → Calls c c' old new to body 5 called → asked_status called
      ≡ Done → c' ≡ after_call c body
  idle_after c c' old new body (Ok reply) it done = it.0.client
  idle_after c c' old new body (Err (Submit fault)) it done = absurd cc
  idle_after c c' old new body (Err (GaveUp q)) it done = absurd cc
  idle_after c c' old new body (Err (Link q fault)) it done = absurd cc

  -- n calls of a client were done, with the lines that they printed.
  pub record HasDone (c c' : ClientState) (bodies : List Body) (old new : Trace)
      (u v : Option (List ℕ)) : Type 0 where
    pub client : c' ≡ after_calls c bodies
    pub printed : Prints u v (AreMadeInTurn to (calls_of c bodies) old new Done)

  -- What a call does and prints.
  abbrev pub Asked : ClientState → ClientState → Trace → Trace → Body → Option (List ℕ)
      → Option (List ℕ) → Result JobStatus WriteFault → Type 0
  Asked c c' old new body u v r =
      (called : Result Reply CallFault) × Calls c c' old new to body 5 called
      × IfOk r (λ status. (status ≡ asked_status called) × Appends u v (asked_line called))

  one_more : (c c1 c2 : ClientState) (t t1 t2 : Trace) (bodies : List Body) (body : Body)
      (u v w : Option (List ℕ)) (r : Result JobStatus WriteFault) (status : JobStatus)
      → r ≡ Ok status → HasDone c c1 bodies t t1 u v → Asked c1 c2 t1 t2 body v w r
      → Prints u w (AreMadeInTurn to (calls_of c (bodies ++ body ∷ [])) t t2 status)
  one_more c c1 c2 t t1 t2 bodies body u v w (Ok other) status is before (called, it, says) =
      let same : other ≡ status = cc in
      let here = subst (λ c. Calls c c2 t1 t2 to body 5 called) before.client it in
      let P : List (ClientState × Body) → Type 0 =
      λ calls. Prints u w (AreMadeInTurn to calls t t2 status) in
      subst P (sym (calls_of-append c bodies (body ∷ []))) (
        before.printed.0 ++ asked_line called,
        AreMadeInTurn-append (calls_of c bodies) ((after_calls c bodies, body) ∷ []) t t1 t2 status
            before.printed.0 (asked_line called) before.printed.1
            (asked_one (after_calls c bodies) c2 t1 t2 body called status here (sym says.0 ∙ same)),
        Appends-then u v w before.printed.0 (asked_line called) before.printed.2 says.1,
      )
  one_more c c1 c2 t t1 t2 bodies body u v w (Err fault) status is before asked = absurd cc

  pub one_done : (c c1 c2 : ClientState) (t t1 t2 : Trace) (bodies : List Body) (body : Body)
      (u v w : Option (List ℕ)) (r : Result JobStatus WriteFault) (status : JobStatus)
      → r ≡ Ok status → status ≡ Done → HasDone c c1 bodies t t1 u v → Asked c1 c2 t1 t2 body v w r
      → HasDone c c2 (bodies ++ body ∷ []) t t2 u w
  one_done c c1 c2 t t1 t2 bodies body u v w (Ok other) status is done before asked =
      let same : other ≡ status = cc in
      let over = idle_after c1 c2 t1 t2 body asked.0 asked.1 (sym asked.2.0 ∙ same ∙ done) in
      let P : JobStatus → Type 0 =
      λ s. Prints u w (AreMadeInTurn to (calls_of c (bodies ++ body ∷ [])) t t2 s) in
      record {
        client = over ∙ ap (λ c. after_call c body) before.client
            ∙ sym (after_calls-push c bodies body);
        printed = subst P done (one_more c c1 c2 t t1 t2 bodies body u v w (Ok other) status is
            before asked);
      }
  one_done c c1 c2 t t1 t2 bodies body u v w (Err fault) status is done before asked = absurd cc

  -- The calls after one that is not done are not made.
  pub last_done : (c c1 c2 : ClientState) (t t1 t2 : Trace) (bodies : List Body) (body : Body)
      (rest all : List Body) (u v w : Option (List ℕ)) (r : Result JobStatus WriteFault)
      (status : JobStatus)
      → r ≡ Ok status → status ≢ Done → HasDone c c1 bodies t t1 u v → Asked c1 c2 t1 t2 body v w r
      → all ≡ (bodies ++ body ∷ []) ++ rest
      → Prints u w (AreMadeInTurn to (calls_of c all) t t2 status)
  last_done c c1 c2 t t1 t2 bodies body rest all u v w r status is undone before asked whole =
      let it = one_more c c1 c2 t t1 t2 bodies body u v w r status is before asked in
      let P : List (ClientState × Body) → Type 0 =
      λ calls. Prints u w (AreMadeInTurn to calls t t2 status) in
      let same = ap (calls_of c) whole ∙ calls_of-append c (bodies ++ body ∷ []) rest in
      subst P (sym same) (
        it.0,
        AreMadeInTurn-stops (calls_of c (bodies ++ body ∷ []))
            (calls_of (after_calls c (bodies ++ body ∷ [])) rest) t t2 status it.0 undone it.1,
        it.2,
      )

  -- The call of the post, then the calls of the customer.
  pub all_asked : (calls more all : List (ClientState × Body)) (t t1 t2 : Trace)
      (u v w : Option (List ℕ)) (r : Result JobStatus WriteFault) → calls ++ more ≡ all
      → Prints u v (AreMadeInTurn to calls t t1 Done)
      → IfOk r (λ status. Prints v w (AreMadeInTurn to more t1 t2 status))
      → IfOk r (λ status. Prints u w (AreMadeInTurn to all t t2 status))
  all_asked calls more all t t1 t2 u v w (Ok status) same (text, done, first) (
    line,
    others,
    second,
  ) =
      let P : List (ClientState × Body) → Type 0 =
      λ calls. Prints u w (AreMadeInTurn to calls t t2 status) in
      subst P same (
        text ++ line,
        AreMadeInTurn-append calls more t t1 t2 status text line done
            others,
        Appends-then u v w text line first second,
      )
  all_asked calls more all t t1 t2 u v w (Err fault) same first second = tt

  pub post_stops : (calls more all : List (ClientState × Body)) (t t1 : Trace)
      (u v : Option (List ℕ)) (status : JobStatus) → calls ++ more ≡ all → status ≢ Done
      → Prints u v (AreMadeInTurn to calls t t1 status)
      → Prints u v (AreMadeInTurn to all t t1 status)
  post_stops calls more all t t1 u v status same undone (text, asked, first) =
      let P : List (ClientState × Body) → Type 0 =
      λ calls. Prints u v (AreMadeInTurn to calls t t1 status) in
      subst P same (text, AreMadeInTurn-stops calls more t t1 status text undone asked, first)

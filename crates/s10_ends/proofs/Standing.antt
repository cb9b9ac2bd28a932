-- Lemmas about the replies of a batch, which the committed calls give.
use Rattle.std.proofs.Common.{◌≡◌, ◌∙◌, refl, sym, ap, subst, ℕ, Bool, true, false, List, [], ◌∷◌}
use Rattle.std.proofs.Common.{◌++◌, map, Option, Result, Ok, Err, ◌⊎◌, inl, inr, ⊎_elim}
use Rattle.std.specs.Prelude.{◌↔◌, IsTrue, All, Contains, OnOk}
use Rattle.std.specs.List.{AllZip}
use Rattle.std.proofs.lemmas.Bool.{false≢true}
use Rattle.std.proofs.lemmas.List.{map-append}
use Rattle.std.proofs.lemmas.List.Elements.{All-nil, All-cons, All-head, All-tail, All-push}
use Rattle.std.proofs.lemmas.List.Elements.{All-weaker, Contains-push, Contains-append_left}
use Rattle.std.proofs.lemmas.List.Elements.{Contains-append_right}
use Rattle.s10_wire.specs.declared.frame.Frame.{Frame}
use Rattle.s10_wire.specs.declared.request.Request.{Request}
use Rattle.s10_wire.specs.Datagrams.{Asks}
use Rattle.s10_wire.proofs.Asked.{one_request}
use Rattle.s10_link.specs.declared.trace.Trace.{Trace}
use Rattle.s10_link.specs.declared.peer.Peer.{Peer}
use Rattle.s10_link.specs.declared.link_fault.LinkFault.{LinkFault}
use Rattle.s10_history.specs.declared.entry.Entry.{Entry}
use Rattle.s10_history.specs.Settings.{Terms}
use Rattle.s10_history.specs.History.{find_entry}
use Rattle.s10_book.specs.declared.book_fault.BookFault.{BookFault}
use Rattle.s10_book.specs.GroupCommit.{IsCommittedCall}
use Rattle.s10_book.specs.declared.faults.Faults.{Faults}
use Rattle.s10_ends.specs.declared.answer.Answer.{Answer}
use Rattle.s10_ends.specs.declared.answer.Answer.TheVariants.{Reply, Dropped, Faulted}
use Rattle.s10_ends.specs.declared.exchange.Exchange.{Exchange}
use Rattle.s10_ends.specs.declared.server_turn.ServerTurn.TheVariants as turns
use Rattle.s10_ends.specs.Served.{Dated, AskNothing, GivesOutcome, IsOwed, IsAnswered, Served}
use Rattle.s10_ends.specs.Turn.{Turn, Handles, AsksCommitted, IsSentTurn, Answers}
use Rattle.s10_ends.specs.Batch.{HandlesAll, ServesBatch, IsSentCommitted}
use Rattle.s10_ends.specs.Batch.{IsOwedReply, is_reply, turns_of_batch, CommitsIfPending}
use Rattle.s10_ends.specs.Batch.{HasCommittedReply, AllCommitted}
use Rattle.s10_ends.specs.Batch.HandlesAll.{none as handled_none, more as handled_more}
use Rattle.s10_ends.proofs.Whole.{Served-nil, Served-push}

-- The request in the bytes is committed if the call of that request is.
pub own_committed : (committed h : List Entry) (b : List ℕ) (q : Request) (answer : Bool) → Asks b q
    → (IsTrue answer ↔ IsCommittedCall committed h q.customer q.number) → IsTrue answer
    ↔ AsksCommitted committed h b
own_committed committed h b q answer asks decides =
    let P : Request → Type 0 = λ r. IsCommittedCall committed h r.customer r.number in (
      λ is. (q, asks, decides.0 is),
      λ own. decides.1 (subst P (one_request b own.0 q own.1 asks) own.2),
    )

pub nothing_committed : (committed h : List Entry) (b : List ℕ) → AskNothing b → IsTrue false
    ↔ AsksCommitted committed h b
nothing_committed committed h b nothing =
    (λ is. absurd (false≢true is), λ own. absurd (nothing own.0 own.1))

-- The exchange has the answer that the history owes.
abbrev IsTakenAnswered : List Entry → Exchange → Type 0
IsTakenAnswered h t = IsAnswered h t.packet t.answer

taken_answered : (h : List Entry) (day : ℕ) (ts : List Exchange)
    → AllZip (λ (d : Dated) (a : Answer). IsAnswered h d.0 a)
    (map (λ (t : Exchange). (t.packet, day)) ts) (map (λ (t : Exchange). t.answer) ts)
    → All (IsTakenAnswered h) ts
taken_answered h day [] all = All-nil (IsTakenAnswered h)
taken_answered h day (t ∷ ts) all = All-cons (IsTakenAnswered h) t ts all.0
    (taken_answered h day ts all.1)

-- Lemmas about one turn.
module _ (Honest : Type 0) (committed h : List Entry) (ds : List Dated) (day : ℕ)
    (at : Honest) where
  abbrev Own : List ℕ → Type 0
  Own = AsksCommitted committed h

  -- The committed calls owe the frame to a delivery.
  abbrev Owes : Frame → Type 0
  Owes frame = (d : Dated) × Contains ds d × IsOwed committed d.0 frame

  stands : (b : List ℕ) (frame : Frame) → IsOwed h b frame → Own b → IsOwed committed b frame
  stands b frame owed own =
      let same : owed.0 ≡ own.0 = one_request b owed.0 own.0 owed.2 own.1 in
      let P : Request → Type 0 = λ q. find_entry committed q.customer q.number
      ≡ find_entry h q.customer q.number in
      let Q : Option Entry → Type 0 = λ kept. GivesOutcome kept owed.0 owed.1 in
      (owed.0, owed.1, owed.2, subst Q (sym (subst P (sym same) own.2)) owed.3, owed.4)

  owed_stands : (b : List ℕ) (frame : Frame) → committed ≡ h → IsOwed h b frame
      → IsOwed committed b frame
  owed_stands b frame same owed = let P : List Entry → Type 0 = λ l. IsOwed l b frame in
      subst P (sym same) owed

  sent : (to : Peer) (frame : Frame) (turn : Turn) → IsSentTurn to frame turn → Owes frame
      → IsOwedReply committed ds turn
  sent to frame (Ok turn) sends is = subst (λ t. IsOwedReply committed ds (Ok t)) (sym sends) is
  sent to frame (Err fault) sends is = tt

  told_is : (told turn : Turn) → turn ≡ told → IsOwedReply committed ds told
      → IsOwedReply committed ds turn
  told_is told turn is owed = subst (IsOwedReply committed ds) (sym is) owed

  turn_stands : (commit_result : Result (Unit {0}) BookFault) (to : Peer)
      (b : List ℕ) (answer : Answer) (turn : Turn)
      → (is_reply answer ≡ true → OnOk commit_result ((committed ≡ h) ⊎ Own b))
      → Contains ds (b, day) → IsAnswered h b answer
      → Answers Honest Own commit_result to b answer turn
      → IsOwedReply committed ds turn
  turn_stands (Ok _) to b (Reply frame) turn done inside owed answers =
      sent to frame turn answers (
        (b, day),
        inside,
        ⊎_elim
            (λ same. owed_stands b frame same owed) (stands b frame owed) (done refl),
      )
  turn_stands (Err fault) to b (Reply frame) turn done inside owed answers = elim answers [
    | inl w ↦ sent to frame turn w.1 ((b, day), inside, stands b frame owed (w.0 at))
    | inr w ↦ told_is (Ok (turns.Uncommitted to fault)) turn w.1 tt
  ]
  turn_stands commit_result to b (Dropped fault) turn done inside is answers =
      told_is (Ok (turns.Dropped to fault)) turn answers tt
  turn_stands commit_result to b (Faulted fault) turn done inside is answers =
      told_is (Ok (turns.Faulted to fault)) turn answers tt

  -- The datagram is one of the deliveries.
  abbrev IsInside : Exchange → Type 0
  IsInside t = Contains ds (t.packet, day)

  -- If the commit succeeded, all calls are committed or the own one of a reply is.
  abbrev IsDone : Result (Unit {0}) BookFault → Exchange → Type 0
  IsDone commit_result t = is_reply t.answer ≡ true
      → OnOk commit_result ((committed ≡ h) ⊎ Own t.packet)

  all_stand : (commit_result : Result (Unit {0}) BookFault) (ts : List Exchange)
      (answered : List Turn) → All (IsDone commit_result) ts
      → All (IsTakenAnswered h) ts → All IsInside ts
      → AllZip (λ t turn. Answers Honest Own commit_result t.from t.packet t.answer turn) ts answered
      → All (IsOwedReply committed ds) answered
  all_stand commit_result [] [] done owed inside all = All-nil (IsOwedReply committed ds)
  all_stand commit_result [] (turn ∷ answered) done owed inside all = absurd all
  all_stand commit_result (t ∷ ts) [] done owed inside all = absurd all
  all_stand commit_result (t ∷ ts) (turn ∷ answered) done owed inside all =
      All-cons (IsOwedReply committed ds) turn answered
      (turn_stands commit_result t.from t.packet t.answer turn
      (All-head (IsDone commit_result) t ts done) (All-head IsInside t ts inside)
      (All-head (IsTakenAnswered h) t ts owed) all.0)
      (all_stand commit_result ts answered (All-tail (IsDone commit_result) t ts done)
      (All-tail (IsTakenAnswered h) t ts owed) (All-tail IsInside t ts inside) all.1)

  -- After a commit, or over exchanges whose replies are to committed calls.
  done_by_commit : (commit_result : Result (Unit {0}) BookFault) (ts : List Exchange)
      → OnOk commit_result (committed ≡ h) → All (IsDone commit_result) ts
  done_by_commit (Ok u) [] done = All-nil (IsDone (Ok u))
  done_by_commit (Ok u) (t ∷ ts) done = All-cons (IsDone (Ok u)) t ts (λ reply. inl done)
      (done_by_commit (Ok u) ts done)
  done_by_commit (Err fault) [] done = All-nil (IsDone (Err fault))
  done_by_commit (Err fault) (t ∷ ts) done = All-cons (IsDone (Err fault)) t ts (λ reply. tt)
      (done_by_commit (Err fault) ts tt)

  done_before : (commit_result : Result (Unit {0}) BookFault) (ts : List Exchange)
      → commit_result ≡ Ok tt → AllCommitted committed h ts → All (IsDone commit_result) ts
  done_before commit_result ts is all =
      All-weaker (HasCommittedReply committed h) (IsDone commit_result)
      (λ t own reply. rw is (inr (own reply))) ts all

-- A property of the turns of the exchanges holds for all turns of the batch.
told : (committed : List Entry) (ds : List Dated) (ended : Result (Unit {0}) LinkFault)
    (answered : List Turn) → All (IsOwedReply committed ds) answered
    → All (IsOwedReply committed ds) (turns_of_batch ended answered)
told committed ds (Err fault) answered all = All-push (IsOwedReply committed ds) answered
    (Err fault) all tt
told committed ds (Ok _) [] all = All-cons (IsOwedReply committed ds) (Ok turns.Quiet) [] tt all
told committed ds (Ok _) (turn ∷ answered) all = all

-- A reply that the committed calls owe to a delivery is one that they give.
owed_sent : (committed : List Entry) (ds : List Dated) (turn : Turn)
    → IsOwedReply committed ds turn → IsSentCommitted committed turn
owed_sent committed ds (Ok (turns.Replied to frame)) (d, inside, owed) =
    (owed.0, owed.1, owed.3, owed.4)
owed_sent committed ds (Ok turns.Quiet) is = tt
owed_sent committed ds (Ok (turns.Dropped from fault)) is = tt
owed_sent committed ds (Ok (turns.Faulted from fault)) is = tt
owed_sent committed ds (Ok (turns.Uncommitted from fault)) is = tt
owed_sent committed ds (Err fault) is = tt

pub all_sent : (committed : List Entry) (ds : List Dated) (ts : List Turn)
    → All (IsOwedReply committed ds) ts → All (IsSentCommitted committed) ts
all_sent committed ds ts all = All-weaker (IsOwedReply committed ds) (IsSentCommitted committed)
    (owed_sent committed ds) ts all

module _ {B : Type 0} (faults : B → Faults) (honest : B → Type 0) (terms : B → Terms)
    (history committed : B → List Entry) (clean : B → Type 0)
    (may_find : B → Option (List Entry) → Type 0) (day : ℕ) where
  abbrev Handled : B → B → List ℕ → Answer → Type 0
  Handled before after b answer = Handles faults honest terms history committed clean may_find
      before after day b
      answer

  abbrev packets : List Exchange → List Dated
  packets ts = map (λ (t : Exchange). (t.packet, day)) ts

  abbrev answers_of : List Exchange → List Answer
  answers_of ts = map (λ (t : Exchange). t.answer) ts

  -- The received datagrams were served one after another.
  pub record ServesTaken (old new : B) (ts : List Exchange) : Type 0 where
    pub same_terms : terms new ≡ terms old
    pub served : Served (history old) (terms old) (packets ts) (answers_of ts) (history new)

  serves_taken : (old new : B) (ts : List Exchange) → HandlesAll Handled old ts new
      → honest new → ServesTaken old new ts
  serves_taken old _ _ handled_none h =
      record { same_terms = refl; served = Served-nil (history old) (terms old) }
  serves_taken old new _ (handled_more {between = between} {taken = ts} next takes
      one) h =
      let before = serves_taken old between ts takes (one.was_honest h) in
      let P : Terms → Type 0 = λ t. Served (history between) t ((next.packet, day) ∷ [])
      (next.answer ∷ []) (history new) in
      let Q : List Dated → Type 0 = λ ds. Served (history old) (terms old) ds
      (answers_of (ts ++ next ∷ [])) (history new) in
      let R : List Answer → Type 0 = λ answers. Served (history old) (terms old)
      (packets ts ++ (next.packet, day) ∷ []) answers (history new) in
      record {
        same_terms = one.same_terms h ∙ before.same_terms;
        served = subst Q (sym (map-append (λ (t : Exchange). (t.packet, day)) ts (next ∷ [])))
            (subst R (sym (map-append (λ (t : Exchange). t.answer) ts (next ∷ [])))
            (Served-push (history old) (history between) (history new) (terms old)
            (packets ts) (answers_of ts) (next.packet, day) next.answer before.served
            (subst P before.same_terms (one.served h))));
      }

  by_commit : (old new : B) (ts : List Exchange) (commit_result : Result (Unit {0}) BookFault)
      → CommitsIfPending faults honest terms history committed clean may_find old new ts
      commit_result
      → honest new → honest old × (history new ≡ history old)
  by_commit old new ts commit_result (inr it) h = (subst honest it.0 h, ap history it.0)
  by_commit old new ts commit_result (inl it) h =
      (it.1.commits_some.was_honest h, it.1.commits_some.same_history h)

  all_done : (old new : B) (ts : List Exchange) (commit_result : Result (Unit {0}) BookFault)
      (ds : List Dated)
      → CommitsIfPending faults honest terms history committed clean may_find old new ts
      commit_result
      → (h : honest new)
      → All (IsDone (honest new) (committed new) (history new) ds day h commit_result) ts
  all_done old new ts commit_result ds (inl it) h =
      done_by_commit (honest new) (committed new) (history new) ds day h commit_result ts
      (it.1.done h)
  all_done old new ts commit_result ds (inr it) h =
      done_before (honest new) (committed new) (history new) ds day h commit_result ts it.1
      (subst (λ (b : B). AllCommitted (committed b) (history b) ts) (sym it.0)
      (it.2 (subst honest it.0 h)).replies)

  -- The datagrams of a batch are among the deliveries.
  pub inside_of : (ts : List Exchange) (ds : List Dated)
      → ((d : Dated) → Contains (packets ts) d → Contains ds d)
      → All (λ (t : Exchange). Contains ds (t.packet, day)) ts
  inside_of [] ds among = All-nil (λ (t : Exchange). Contains ds (t.packet, day))
  inside_of (t ∷ ts) ds among =
      All-cons (λ (u : Exchange). Contains ds (u.packet, day)) t ts
      (among (t.packet, day) (Contains-append_left ((t.packet, day) ∷ []) (packets ts)
      (t.packet, day) (Contains-push [] (t.packet, day))))
      (inside_of ts ds (λ d is. among d (Contains-append_right ((t.packet, day) ∷ [])
      (packets ts) d is)))

  -- Every reply that a batch sent is owed to one of its datagrams, by the calls that are committed
  -- after it.
  pub batch_owes : (most : ℕ) (old new : Trace × B) (taken : List Exchange) (turns : List Turn)
      (batch : ServesBatch faults honest terms history committed clean may_find day most old new
      taken turns)
      → honest new.1 → All (IsOwedReply (committed new.1) (packets taken)) turns
  batch_owes most old new taken turns batch h =
      let before = by_commit batch.between.1 new.1 taken batch.answers.commit_result
      batch.answers.commits h in
      let served = (serves_taken old.1 batch.between.1 taken batch.takes.handles before.0).served in
      let P : List Entry → Type 0 = λ l. All (IsTakenAnswered l) taken in
      let owed = subst P (sym before.1) (taken_answered (history batch.between.1) day taken
      served.answered) in
      let ds = packets taken in
      let all = all_stand (honest new.1) (committed new.1) (history new.1) ds day h
      batch.answers.commit_result taken batch.answered
      (all_done batch.between.1 new.1 taken batch.answers.commit_result ds batch.answers.commits h)
      owed (inside_of taken ds (λ d is. is)) batch.answers.answers in
      subst (λ (l : List Turn). All (IsOwedReply (committed new.1) ds) l) (sym batch.are)
      (told (committed new.1) ds batch.ended batch.answered all)

  -- Every reply that a batch sent is one that the committed calls give.
  pub batch_stands : (most : ℕ) (old new : Trace × B) (taken : List Exchange) (turns : List Turn)
      → ServesBatch faults honest terms history committed clean may_find day most old new taken turns
      → honest new.1 → All (IsSentCommitted (committed new.1)) turns
  batch_stands most old new taken turns batch h =
      all_sent (committed new.1) (packets taken) turns
      (batch_owes most old new taken turns batch h)

  -- The same for a batch of one turn.
  pub turn_of_batch : (old new : Trace × B) (turn : Turn) → ((taken : List Exchange)
      × ServesBatch faults honest terms history committed clean may_find day 1 old new taken
      (turn ∷ [])) → honest new.1 → IsSentCommitted (committed new.1) turn
  turn_of_batch old new turn batch h = All-head (IsSentCommitted (committed new.1)) turn []
      (batch_stands 1 old new batch.0 (turn ∷ []) batch.1 h)

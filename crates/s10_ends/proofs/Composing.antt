-- Lemmas about batches one after another.
use Rattle.std.proofs.Common.{◌≡◌, ◌∙◌, refl, sym, ap, subst, ℕ, List, [], ◌∷◌, ◌++◌, append-nil}
use Rattle.std.proofs.Common.{append_assoc, map, Option, Result, Ok, Err, inl, inr}
use Rattle.std.specs.Prelude.{All, Contains}
use Rattle.std.proofs.lemmas.List.{map-append}
use Rattle.std.proofs.lemmas.List.Elements.{All-nil, All-append, All-weaker}
use Rattle.std.proofs.lemmas.List.Elements.{Contains-append_left, Contains-append_right}
use Rattle.s10_link.specs.declared.trace.Trace.{Trace}
use Rattle.s10_history.specs.declared.entry.Entry.{Entry}
use Rattle.s10_history.specs.Settings.{Terms}
use Rattle.s10_book.specs.declared.book_fault.BookFault.{BookFault}
use Rattle.s10_book.specs.declared.faults.Faults.{Faults}
use Rattle.s10_book.specs.Rules.{IsLegal}
use Rattle.s10_book.specs.Book.{Grows}
use Rattle.s10_book.proofs.Calls.{grows_none, grows_trans}
use Rattle.s10_ends.specs.declared.answer.Answer.{Answer}
use Rattle.s10_ends.specs.declared.exchange.Exchange.{Exchange}
use Rattle.s10_ends.specs.declared.server_turn.ServerTurn.TheVariants as turns
use Rattle.s10_ends.specs.Served.{Dated, IsOwed, Served}
use Rattle.s10_ends.specs.Turn.{Turn, Handles}
use Rattle.s10_ends.specs.Batch.{HandlesAll, IsOwedReply, CommitsIfPending}
use Rattle.s10_ends.specs.Batch.HandlesAll.{none as handled_none, more as handled_more}
use Rattle.s10_ends.specs.Composed.{DatedBatch, BatchesLead, turns_in, IsBatch, deliveries_in, answers_in}
use Rattle.s10_ends.specs.Composed.{ServesAll}
use Rattle.s10_ends.proofs.Whole.{Served-nil, Served-push, IsOwed-more}
use Rattle.s10_ends.proofs.Runs.{KeepsPromises-legal}
use Rattle.s10_ends.proofs.Carried.{Served-issued}
use Rattle.s10_ends.proofs.Standing.{batch_owes, all_sent}

-- A reply that the committed calls owe to a delivery is owed by more calls too, and to one of more
-- deliveries.
owed_more : (before after : List Entry) (ds es : List Dated) (turn : Turn) → Grows before after
    → ((d : Dated) → Contains ds d → Contains es d)
    → IsOwedReply before ds turn → IsOwedReply after es turn
owed_more before after ds es (Ok (turns.Replied to frame)) grew among (d, inside, owed) = (
  d,
  among d inside,
  subst (λ (l : List Entry). IsOwed l d.0 frame) (sym grew.1)
      (IsOwed-more before grew.0 d.0 frame owed),
)
owed_more before after ds es (Ok turns.Quiet) grew among is = tt
owed_more before after ds es (Ok (turns.Dropped from fault)) grew among is = tt
owed_more before after ds es (Ok (turns.Faulted from fault)) grew among is = tt
owed_more before after ds es (Ok (turns.Uncommitted from fault)) grew among is = tt
owed_more before after ds es (Err fault) grew among is = tt

pub all_more : (before after : List Entry) (ds es : List Dated) (ts : List Turn) → Grows before
    after
    → ((d : Dated) → Contains ds d → Contains es d)
    → All (IsOwedReply before ds) ts → All (IsOwedReply after es) ts
all_more before after ds es ts grew among all =
    All-weaker (IsOwedReply before ds) (IsOwedReply after es)
    (λ turn is. owed_more before after ds es turn grew among is) ts all

module _ {B : Type 0} (faults : B → Faults) (honest : B → Type 0) (terms : B → Terms)
    (history committed : B → List Entry) (clean : B → Type 0)
    (may_find : B → Option (List Entry) → Type 0) where
  abbrev pub Handled : ℕ → B → B → List ℕ → Answer → Type 0
  Handled day before after b answer = Handles faults honest terms history committed clean may_find
      before after day
      b answer

  -- A book that is honest after the datagrams was honest before them.
  pub honest_taken : (day : ℕ) (old new : B) (ts : List Exchange)
      → HandlesAll (Handled day) old ts new → honest new → honest old
  honest_taken day old _ _ handled_none h = h
  honest_taken day old new _ (handled_more {between = between} next takes one) h =
      honest_taken day old between _ takes (one.was_honest h)

  pub honest_answered : (between new : B) (ts : List Exchange)
      (commit_result : Result (Unit {0}) BookFault)
      → CommitsIfPending faults honest terms history committed clean may_find between new ts
      commit_result
      → honest new → honest between
  honest_answered between new ts commit_result (inl it) h = it.1.commits_some.was_honest h
  honest_answered between new ts commit_result (inr it) h = subst honest it.0 h

  pub honest_batch : (old new : Trace × B) (batch : DatedBatch) → IsBatch faults honest terms history
      committed clean may_find old batch new → honest new.1 → honest old.1
  honest_batch old new batch (most, it) h =
      honest_taken batch.day old.1 it.between.1 batch.taken it.takes.handles
      (honest_answered it.between.1 new.1 batch.taken it.answers.commit_result it.answers.commits h)

  pub honest_batches : (old new : Trace × B) (batches : List DatedBatch)
      → BatchesLead (IsBatch faults honest terms history committed clean may_find) old batches
      new
      → honest new.1 → honest old.1
  unfolding BatchesLead
  honest_batches old new [] same h = subst (λ (s : Trace × B). honest s.1) same h
  honest_batches old new (batch ∷ batches) (next, step, rest) h =
      honest_batch old next batch step (honest_batches next new batches rest h)

  abbrev pub packets : ℕ → List Exchange → List Dated
  packets day ts = map (λ (t : Exchange). (t.packet, day)) ts

  abbrev pub answers_of : List Exchange → List Answer
  answers_of ts = map (λ (t : Exchange). t.answer) ts

  -- Lemmas about a book that began with this history, these terms and these committed calls.
  module _ (start : List Entry) (t : Terms) (kept : List Entry) where
    pub record Upto (ds : List Dated) (ans : List Answer) (now : B) : Type 0 where
      pub same_terms : terms now ≡ t
      pub served : Served start t ds ans (history now)
      pub stays_committed : Grows kept (committed now)

    of_lists : (ds es : List Dated) (ans bs : List Answer) (now : B) → es ≡ ds → bs ≡ ans
        → Upto ds ans now → Upto es bs now
    of_lists ds es ans bs now same alike upto = subst (λ (l : List Dated). Upto l bs now) (sym same)
        (subst (λ (l : List Answer). Upto ds l now) (sym alike) upto)

    pub upto_same : (ds : List Dated) (ans : List Answer) (old new : B) → new ≡ old → Upto ds ans
        old
        → Upto ds ans new
    upto_same ds ans old new same upto = subst (Upto ds ans) (sym same) upto

    upto_handled : (day : ℕ) (ds : List Dated) (ans : List Answer) (old new : B) (b : List ℕ)
        (answer : Answer) → Handled day old new b answer → honest new → Upto ds ans old
        → Upto (ds ++ (b, day) ∷ []) (ans ++ answer ∷ []) new
    upto_handled day ds ans old new b answer one h upto =
        let P : Terms → Type 0 = λ l. Served (history old) l ((b, day) ∷ []) (answer ∷ [])
        (history new) in
        record {
          same_terms = one.same_terms h ∙ upto.same_terms;
          served = Served-push start (history old) (history new) t ds ans (b, day) answer
              upto.served (subst P upto.same_terms (one.served h));
          stays_committed = grows_trans kept (committed old) (committed new) upto.stays_committed
              (one.stays_committed h);
        }

    pub upto_taken : (day : ℕ) (ds : List Dated) (ans : List Answer) (old new : B)
        (ts : List Exchange) → HandlesAll (Handled day) old ts new → honest new
        → Upto ds ans old
        → Upto (ds ++ packets day ts) (ans ++ answers_of ts) new
    upto_taken day ds ans old _ _ handled_none h upto = of_lists ds (ds ++ []) ans (ans ++ []) old
        (append-nil ds) (append-nil ans) upto
    upto_taken day ds ans old new _ (handled_more {between = between} {taken = ts} next takes
        one) h upto =
        of_lists ((ds ++ packets day ts) ++ (next.packet, day) ∷ [])
        (ds ++ packets day (ts ++ next ∷ [])) ((ans ++ answers_of ts) ++ next.answer ∷ [])
        (ans ++ answers_of (ts ++ next ∷ [])) new
        (ap (λ (l : List Dated). ds ++ l) (map-append (λ (t : Exchange). (t.packet, day)) ts
        (next ∷ [])) ∙ sym (append_assoc ds (packets day ts) ((next.packet, day) ∷ [])))
        (ap (λ (l : List Answer). ans ++ l) (map-append (λ (t : Exchange). t.answer) ts (next ∷ []))
        ∙ sym (append_assoc ans (answers_of ts) (next.answer ∷ [])))
        (upto_handled day (ds ++ packets day ts) (ans ++ answers_of ts) between new next.packet
        next.answer one h (upto_taken day ds ans old between ts takes
        (one.was_honest h) upto))

    upto_answered : (ds : List Dated) (ans : List Answer) (between new : B) (ts : List Exchange)
        (commit_result : Result (Unit {0}) BookFault)
        → CommitsIfPending faults honest terms history committed clean may_find between new ts
        commit_result
        → honest new → Upto ds ans between → Upto ds ans new
    upto_answered ds ans between new ts commit_result (inr it) h upto =
        upto_same ds ans between new it.0 upto
    upto_answered ds ans between new ts commit_result (inl it) h upto =
        let commits_some = it.1.commits_some in
        record {
          same_terms = commits_some.same_terms h ∙ upto.same_terms;
          served = subst (λ (l : List Entry). Served start t ds ans l)
              (sym (commits_some.same_history h)) upto.served;
          stays_committed = grows_trans kept (committed between) (committed new)
              upto.stays_committed
              (commits_some.stays_committed h);
        }

    pub upto_batch : (ds : List Dated) (ans : List Answer) (old new : Trace × B) (batch : DatedBatch)
        → IsBatch faults honest terms history committed clean may_find old batch new
        → honest new.1 → Upto ds ans old.1
        → Upto (ds ++ packets batch.day batch.taken) (ans ++ answers_of batch.taken) new.1
    upto_batch ds ans old new batch (most, it) h upto =
        let before = honest_answered it.between.1 new.1 batch.taken it.answers.commit_result
        it.answers.commits h in
        upto_answered (ds ++ packets batch.day batch.taken) (ans ++ answers_of batch.taken)
        it.between.1 new.1 batch.taken it.answers.commit_result it.answers.commits h
        (upto_taken batch.day ds ans old.1 it.between.1 batch.taken it.takes.handles before upto)

    pub upto_batches : (ds : List Dated) (ans : List Answer) (old new : Trace × B)
        (batches : List DatedBatch)
        → BatchesLead (IsBatch faults honest terms history committed clean may_find) old batches new
        → honest new.1 → Upto ds ans old.1
        → Upto (ds ++ deliveries_in batches) (ans ++ answers_in batches) new.1
    unfolding BatchesLead
    upto_batches ds ans old new [] same h upto =
        of_lists ds (ds ++ []) ans (ans ++ []) new.1 (append-nil ds) (append-nil ans)
        (subst (λ (s : Trace × B). Upto ds ans s.1) (sym same) upto)
    upto_batches ds ans old new (batch ∷ batches) (next, one, rest) h upto =
        let first = packets batch.day batch.taken in
        let told = answers_of batch.taken in
        of_lists ((ds ++ first) ++ deliveries_in batches) (ds ++ (first ++ deliveries_in batches))
        ((ans ++ told) ++ answers_in batches) (ans ++ (told ++ answers_in batches)) new.1
        (sym (append_assoc ds first (deliveries_in batches)))
        (sym (append_assoc ans told (answers_in batches)))
        (upto_batches (ds ++ first) (ans ++ told) next new batches rest h
        (upto_batch ds ans old next batch one (honest_batches next new batches rest h) upto))

  pub here : (book : B) → Upto (history book) (terms book) (committed book) [] [] book
  here book = record {
    same_terms = refl;
    served = Served-nil (history book) (terms book);
    stays_committed = grows_none (committed book);
  }

  -- Every reply that was sent is owed to a delivery by the calls that are committed at the end.
  owe : (old new : Trace × B) (batches : List DatedBatch)
      → BatchesLead (IsBatch faults honest terms history committed clean may_find) old batches new
      → honest new.1
      → All (IsOwedReply (committed new.1) (deliveries_in batches)) (turns_in batches)
  unfolding BatchesLead
  owe old new [] same h = All-nil (IsOwedReply (committed new.1) [])
  owe old new (batch ∷ batches) (next, (most, it), rest) h =
      let then = honest_batches next new batches rest h in
      let grew = (upto_batches (history next.1) (terms next.1) (committed next.1) [] [] next new
      batches rest h (here next.1)).stays_committed in
      let first = packets batch.day batch.taken in
      let more = deliveries_in batches in
      All-append (IsOwedReply (committed new.1) (first ++ more)) batch.turns (turns_in batches)
      (all_more (committed next.1) (committed new.1) first (first ++ more) batch.turns grew
      (λ d inside. Contains-append_left first more d inside)
      (batch_owes faults honest terms history committed clean may_find batch.day most old next
      batch.taken batch.turns it then))
      (all_more (committed new.1) (committed new.1) more (first ++ more) (turns_in batches)
      (grows_none (committed new.1)) (λ d inside. Contains-append_right first more d inside)
      (owe next new batches rest h))

  pub all_composed : ((book : B) → honest book → IsLegal (history book) (terms book))
      → (old new : Trace × B) (batches : List DatedBatch)
      → BatchesLead (IsBatch faults honest terms history committed clean may_find) old batches new
      → honest new.1
      → ServesAll honest terms history committed old.1 new.1
      (deliveries_in batches) (answers_in batches) (turns_in batches)
  all_composed legal old new batches lead h =
      let upto = upto_batches (history old.1) (terms old.1) (committed old.1) [] [] old new batches
      lead h (here old.1) in
      record {
        was_honest = honest_batches old new batches lead h;
        same_terms = upto.same_terms;
        served = upto.served;
        kept = KeepsPromises-legal (history new.1) (terms new.1) (legal new.1 h);
        issued = Served-issued _ _ _ _ _ upto.served;
        stays_committed = upto.stays_committed;
        stands = all_sent (committed new.1) (deliveries_in batches) (turns_in batches)
            (owe old new batches lead h);
        owed = owe old new batches lead h;
      }

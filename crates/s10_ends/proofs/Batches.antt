-- Lemmas about the parts of a batch.
use Rattle.std.proofs.Common.{◌≡◌, ℕ, ◌<◌, ◌≤◌, true, List, [], ◌∷◌, ◌++◌}
use Rattle.std.proofs.Common.{length, length-append, map, ◌∙◌, append-nil, append_assoc, Option}
use Rattle.std.proofs.Common.{Some, None, Result, Ok, Err, refl, sym, ap, subst, inl, inr, arith}
use Rattle.std.specs.Prelude.{⊤, IsErrAnd}
use Rattle.std.proofs.lemmas.List.{map-append}
use Rattle.std.proofs.lemmas.List.Elements.{All-nil, All-cons}
use Rattle.std.proofs.lemmas.Bool.{false≢true}
use Rattle.s10_link.specs.declared.trace.Trace.{Trace}
use Rattle.s10_link.specs.declared.peer.Peer.{Peer}
use Rattle.s10_link.specs.declared.link_fault.LinkFault.{LinkFault}
use Rattle.s10_history.specs.declared.entry.Entry.{Entry}
use Rattle.s10_history.specs.Settings.{Terms}
use Rattle.s10_history.specs.History.{find_entry}
use Rattle.s10_book.specs.declared.book_fault.BookFault.{BookFault}
use Rattle.s10_book.specs.declared.faults.Faults.{Faults}
use Rattle.s10_ends.specs.declared.answer.Answer.{Answer}
use Rattle.s10_ends.specs.declared.answer.Answer.TheVariants.{Reply, Dropped, Faulted}
use Rattle.s10_ends.specs.declared.exchange.Exchange.{Exchange}
use Rattle.s10_ends.specs.declared.server_turn.ServerTurn.TheVariants as turns
use Rattle.s10_ends.specs.Turn.{Turn, Handles, Takes, AsksCommitted, Answers, receipt_of, sends_for}
use Rattle.s10_ends.specs.Batch.{HandlesAll, EndsReceiving, ReceivesBatch, ServesBatch}
use Rattle.s10_ends.specs.Batch.{turns_of_batch, is_reply, HasCommittedReply, CommitsIfPending}
use Rattle.s10_ends.specs.Served.{AskSomething, IsAnswered}
use Rattle.s10_ends.specs.Batch.HandlesAll.{none as handled_none, more as handled_more}
use Rattle.s10_ends.proofs.Turns.{same_error}

-- Exactly the datagrams of these exchanges were received, and handled in order.
pub record ReceivesAll {B : Type 0} (Handled : B → B → List ℕ → Answer → Type 0) (old : Trace × B)
    (taken : List Exchange) (new : Trace × B) : Type 0 where
  pub received : new.0 ≡ old.0 ++ map receipt_of taken
  pub handles : HandlesAll Handled old.1 taken new.1

module _ {B : Type 0} (Handled : B → B → List ℕ → Answer → Type 0) (most : ℕ)
    (old : Trace × B) where
  pub taken_none : ReceivesAll Handled old [] old
  taken_none = record { received = sym (append-nil old.0); handles = handled_none }

  ends_at : (taken : List Exchange) (between new : Trace) (ended : Result (Unit {0}) LinkFault)
      → between ≡ old.0 ++ map receipt_of taken → EndsReceiving most taken between new ended
      → EndsReceiving most taken (old.0 ++ map receipt_of taken) new ended
  ends_at taken between new ended is ends = subst (λ t. EndsReceiving most taken t new ended) is ends

  -- Receiving ends if `most` datagrams were received.
  pub taken_all : (new : Trace × B) (taken : List Exchange) → ReceivesAll Handled old taken new
      → length taken ≡ most → ReceivesBatch Handled most old new taken (Ok tt)
  taken_all new taken takes many = record {
    handles = takes.handles;
    ends = inl (many, takes.received);
  }

  module _ (between : Trace × B) (taken : List Exchange)
      (takes : ReceivesAll Handled old taken between) where
    -- One more datagram was received.
    pub one_more : (new : Trace × B) (found : Option Exchange) (next : Exchange)
        → Takes Handled between new (Ok found) → found ≡ Some next
        → ReceivesAll Handled old (taken ++ next ∷ []) new
    one_more new found next count_receive is =
        let P : Option Exchange → Type 0 = λ o. Takes Handled between new (Ok o) in
        let one = subst P is count_receive in
        record {
          received = one.0 ∙ ap (λ (t : Trace). t ++ receipt_of next ∷ []) takes.received
              ∙ append_assoc old.0 (map receipt_of taken) (receipt_of next ∷ [])
              ∙ ap (λ (t : Trace). old.0 ++ t) (sym (map-append receipt_of taken (next ∷ [])));
          handles = handled_more next takes.handles one.1;
        }

    -- Receiving ends if nothing more had arrived.
    pub no_more : (new : Trace × B) (found : Option Exchange) → length taken < most
        → Takes Handled between new (Ok found) → found ≡ None
        → ReceivesBatch Handled most old new taken (Ok tt)
    no_more new found few count_receive is =
        let P : Option Exchange → Type 0 = λ o. Takes Handled between new (Ok o) in
        let none = subst P is count_receive in
        record {
          handles = subst (λ (b : B). HandlesAll Handled old.1 taken b) (sym none.1) takes.handles;
          ends = ends_at taken between.0 new.0 (Ok tt) takes.received (inr (few, none.0));
        }

    -- Receiving ends if a receive failed.
    pub failed : (new : Trace × B) (fault : LinkFault) (ended : Result (Unit {0}) LinkFault)
        → length taken < most → Takes Handled between new (Err fault)
        → IsErrAnd ended (λ e. e ≡ fault) → ReceivesBatch Handled most old new taken ended
    failed new fault ended few count_receive passed =
        let P : Result (Unit {0}) LinkFault → Type 0 = λ r. ReceivesBatch Handled most old new taken
        r in
        let here : ReceivesBatch Handled most old new taken (Err fault) =
        record {
          handles = subst (λ (b : B). HandlesAll Handled old.1 taken b) (sym count_receive.1)
              takes.handles;
          ends = ends_at taken between.0 new.0 (Err fault) takes.received (few, count_receive.0);
        } in
        subst P (sym (same_error ended fault passed)) here

-- A batch has at least one turn.
pub turns_some : (ended : Result (Unit {0}) LinkFault) (answered : List Turn)
    → 1 ≤ length (turns_of_batch ended answered)
turns_some (Err fault) answered = omega (arith, length-append answered (Err fault ∷ []))
turns_some (Ok _) [] = omega arith
turns_some (Ok _) (turn ∷ answered) = omega arith

turns_at_most : (most : ℕ) (taken : List Exchange) (old new : Trace)
    (ended : Result (Unit {0}) LinkFault) (answered : List Turn)
    → EndsReceiving most taken old new ended → 1 ≤ most → length taken ≤ most → length answered
    ≡ length taken → length (turns_of_batch ended answered) ≤ most
turns_at_most most taken old new (Err fault) answered ends some few many =
    let less : length taken < most = ends.0 in
    omega (arith, length-append answered (Err fault ∷ []))
turns_at_most most taken old new (Ok _) [] ends some few many = some
turns_at_most most taken old new (Ok _) (turn ∷ answered) ends some few many = omega arith

-- A batch has at most `most` turns.
pub turns_few : {B : Type 0} (Handled : B → B → List ℕ → Answer → Type 0) (most : ℕ)
    (old new : Trace × B) (taken : List Exchange) (ended : Result (Unit {0}) LinkFault)
    (answered : List Turn)
    → ReceivesBatch Handled most old new taken ended → 1 ≤ most → length taken ≤ most
    → length answered ≡ length taken → length (turns_of_batch ended answered) ≤ most
turns_few Handled most old new taken ended answered batch some few many =
    turns_at_most most taken (old.0 ++ map receipt_of taken) new.0 ended answered batch.ends some few many

-- A reply is owed to bytes that ask something.
owed_asks : (h : List Entry) (b : List ℕ) (a : Answer) → is_reply a ≡ true → IsAnswered h b a
    → AskSomething b
owed_asks h b (Reply frame) is owed = (owed.0, owed.2)
owed_asks h b (Dropped fault) is owed = absurd (false≢true is)
owed_asks h b (Faulted fault) is owed = absurd (false≢true is)

-- A turn with no condition on its call is one that is right once the calls are committed.
answered_committed : (Honest : Type 0) (IsCommitted : List ℕ → Type 0) (to : Peer) (b : List ℕ)
    (answer : Answer) (turn : Turn) → Answers ⊤ (λ _. ⊤) (Ok tt) to b answer turn
    → Answers Honest IsCommitted (Ok tt) to b answer turn
answered_committed Honest IsCommitted to b (Reply frame) turn is = is
answered_committed Honest IsCommitted to b (Dropped fault) turn is = is
answered_committed Honest IsCommitted to b (Faulted fault) turn is = is

-- Batches of at most one datagram.
module _ {B : Type 0} (faults : B → Faults) (honest : B → Type 0) (terms : B → Terms)
    (history committed : B → List Entry) (clean : B → Type 0)
    (may_find : B → Option (List Entry) → Type 0) (day : ℕ) (old between : Trace × B) where
  abbrev Handled : B → B → List ℕ → Answer → Type 0
  Handled before after b answer = Handles faults honest terms history committed clean may_find
      before after day b
      answer

  -- A batch in which nothing was received.
  unanswered : (ended : Result (Unit {0}) LinkFault) (batch : List Turn)
      → ReceivesBatch Handled 1 old between [] ended → batch ≡ turns_of_batch ended []
      → ServesBatch faults honest terms history committed clean may_find day 1 old between [] batch
  unanswered ended batch takes are = record {
    between = between;
    ended = ended;
    takes = takes;
    answered = [];
    answers = record {
      commit_result = Ok tt;
      commits = inr (
        refl,
        refl,
        λ h. record {
          replies = All-nil (HasCommittedReply (committed between.1) (history between.1));
          faults = λ failed. absurd cc;
        },
      );
      answers = tt;
      sends = sym (append-nil between.0);
    };
    are = are;
  }

  pub one_failed : (fault : LinkFault) (turn : Turn) → Takes Handled old between (Err fault)
      → IsErrAnd turn (λ e. e ≡ fault) → ServesBatch faults honest terms history committed clean
      may_find day 1 old
      between [] (turn ∷ [])
  one_failed fault turn count_receive passed =
      unanswered (Err fault) (turn ∷ []) (failed Handled 1 old old [] (taken_none Handled 1 old) between fault
      (Err fault) (omega arith) count_receive refl)
      (ap (λ (t : Turn). t ∷ []) (same_error turn fault passed))

  pub one_quiet : (found : Option Exchange) → Takes Handled old between (Ok found) → found ≡ None
      → ServesBatch faults honest terms history committed clean may_find day 1 old between [] (Ok
      turns.Quiet ∷ [])
  one_quiet found count_receive is = unanswered (Ok tt) (Ok turns.Quiet ∷ [])
      (no_more Handled 1 old old [] (taken_none Handled 1 old) between found (omega arith) count_receive is) refl

  pub one_served : (new : Trace × B) (found : Option Exchange) (taken : Exchange)
      (commit_result : Result (Unit {0}) BookFault) (turn : Turn)
      → Takes Handled old between (Ok found) → found ≡ Some taken
      → CommitsIfPending faults honest terms history committed clean may_find between.1 new.1
      (taken ∷ []) commit_result
      → Answers (honest new.1) (AsksCommitted (committed new.1) (history new.1)) commit_result
      taken.from taken.packet taken.answer turn
      → new.0 ≡ between.0 ++ sends_for taken.answer taken.from turn
      → ServesBatch faults honest terms history committed clean may_find day 1 old new (taken ∷ [])
      (turn ∷ [])
  one_served new found taken commit_result turn count_receive is commits answers sends = record {
    between = between;
    ended = Ok tt;
    takes = taken_all Handled 1 old between (taken ∷ []) (one_more Handled 1 old old []
        (taken_none Handled 1 old) between found taken count_receive is) refl;
    answered = turn ∷ [];
    answers = record {
      commit_result = commit_result;
      commits = commits;
      answers = (answers, tt);
      sends = sends ∙ ap (λ (t : Trace). between.0 ++ t)
          (sym (append-nil (sends_for taken.answer taken.from turn)));
    };
    are = refl;
  }

  -- A batch of one datagram whose calls were all committed before the replies.
  pub one_committed : (trace : Trace) (found : Option Exchange) (taken : Exchange) (turn : Turn)
      → Takes Handled old between (Ok found) → found ≡ Some taken
      → (honest between.1 → committed between.1 ≡ history between.1)
      → Answers ⊤ (λ _. ⊤) (Ok tt) taken.from taken.packet taken.answer turn
      → trace ≡ between.0 ++ sends_for taken.answer taken.from turn
      → ServesBatch faults honest terms history committed clean may_find day 1 old (
        trace,
        between.1,
      ) (taken ∷ []) (turn ∷ [])
  one_committed trace found taken turn count_receive is whole answers sends =
      let P : Option Exchange → Type 0 = λ o. Takes Handled old between (Ok o) in
      let handled = (subst P is count_receive).1 in
      one_served (trace, between.1) found taken (Ok tt) turn count_receive is
      (inr (
        refl,
        refl,
        λ h. record {
          replies = All-cons (HasCommittedReply (committed between.1) (history between.1))
              taken []
              (λ reply.
              let asks = owed_asks (history between.1) taken.packet taken.answer reply
              (handled.served h).answered.0 in (
                asks.0,
                asks.1,
                ap (λ (l : List Entry). find_entry l asks.0.customer asks.0.number)
                    (whole h),
              ))
              (All-nil (HasCommittedReply (committed between.1) (history between.1)));
          faults = λ failed. whole h;
        },
      ))
      (answered_committed (honest between.1) (AsksCommitted (committed between.1)
      (history between.1))
      taken.from taken.packet taken.answer turn answers) sends

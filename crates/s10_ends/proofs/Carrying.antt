-- Lemmas about what the link carried for batches.
use Rattle.std.proofs.Common.{◌≡◌, ◌∙◌, refl, sym, ap, subst, ℕ, List, [], ◌∷◌, ◌++◌, append-nil}
use Rattle.std.proofs.Common.{append_assoc, map, Option, Result, Ok, Err, inl, inr}
use Rattle.std.specs.List.{AllZip, zip, flat_map}
use Rattle.std.proofs.lemmas.List.{append_cancel_left}
use Rattle.std.proofs.lemmas.Grind.{flat_map-append}
use Rattle.s10_wire.specs.declared.frame.Frame.{Frame}
use Rattle.s10_link.specs.declared.trace.Trace.{Trace}
use Rattle.s10_link.specs.declared.peer.Peer.{Peer}
use Rattle.s10_link.specs.declared.packet.Packet.{Packet}
use Rattle.s10_link.specs.declared.link_call.LinkCall.TheVariants as calls
use Rattle.s10_link.specs.declared.link_fault.LinkFault.{LinkFault}
use Rattle.s10_link.specs.declared.link_fault.LinkFault.TheVariants.{Bind, Receive, Send, Spent}
use Rattle.s10_link.specs.Carried.{datagram_of, frame_of, send_of, received_in, sent_in, sends_in}
use Rattle.s10_history.specs.declared.entry.Entry.{Entry}
use Rattle.s10_history.specs.Settings.{Terms}
use Rattle.s10_book.specs.declared.book_fault.BookFault.{BookFault}
use Rattle.s10_book.specs.declared.faults.Faults.{Faults}
use Rattle.s10_ends.specs.declared.answer.Answer.{Answer}
use Rattle.s10_ends.specs.declared.answer.Answer.TheVariants.{Reply, Dropped, Faulted}
use Rattle.s10_ends.specs.declared.exchange.Exchange.{Exchange}
use Rattle.s10_ends.specs.declared.server_turn.ServerTurn.TheVariants as turns
use Rattle.s10_ends.specs.Turn.{Turn, IsSentTurn, Answers, receipt_of, sends_for}
use Rattle.s10_ends.specs.Batch.{EndsReceiving, sends_of, turns_of_batch}
use Rattle.s10_ends.specs.Composed.{DatedBatch, BatchesLead, IsBatch, turns_in, datagrams_in}
use Rattle.s10_ends.specs.Composed.{sent_by, frames_in, replies_in, Carries}

-- Nothing was carried between equal traces.
carries_none : (old new : Trace) → new ≡ old → Carries old new [] [] []
carries_none old new same = record {
  made = [];
  are = same ∙ sym (append-nil old);
  received = refl;
  tried = refl;
  sent = refl;
}

-- What was carried first, and what was carried then.
carries_on : (old between new : Trace) (ds es : List (Peer × Packet)) (ss ts : Trace)
    (fs gs : List (Peer × Frame)) → Carries old between ds ss fs → Carries between new es ts gs
    → Carries old new (ds ++ es) (ss ++ ts) (fs ++ gs)
carries_on old between new ds es ss ts fs gs first second = record {
  made = first.made ++ second.made;
  are = second.are ∙ ap (λ (t : Trace). t ++ second.made) first.are
      ∙ append_assoc old first.made second.made;
  received = flat_map-append datagram_of first.made second.made
      ∙ ap (λ l. l ++ received_in second.made) first.received ∙ ap (λ l. ds ++ l) second.received;
  tried = flat_map-append send_of first.made second.made
      ∙ ap (λ (l : Trace). l ++ sends_in second.made) first.tried
      ∙ ap (λ (l : Trace). ss ++ l) second.tried;
  sent = flat_map-append frame_of first.made second.made
      ∙ ap (λ l. l ++ sent_in second.made) first.sent ∙ ap (λ l. fs ++ l) second.sent;
}

-- What was carried between two traces is one list of datagrams, one of sends and one of frames.
pub carried_once : (old new : Trace) (ds es : List (Peer × Packet)) (ss ts : Trace)
    (fs gs : List (Peer × Frame)) → Carries old new ds ss fs → Carries old new es ts gs
    → (ds ≡ es) × (ss ≡ ts) × (fs ≡ gs)
carried_once old new ds es ss ts fs gs one other =
    let same = append_cancel_left old one.made other.made (sym one.are ∙ other.are) in (
      sym one.received ∙ ap received_in same ∙ other.received,
      sym one.tried ∙ ap sends_in same ∙ other.tried,
      sym one.sent ∙ ap sent_in same ∙ other.sent,
    )

abbrev datagrams_of : List Exchange → List (Peer × Packet)
datagrams_of taken = map (λ (t : Exchange). (t.from, t.packet)) taken

receipts_received : (taken : List Exchange) → received_in (map receipt_of taken) ≡ datagrams_of taken
receipts_received [] = refl
receipts_received (t ∷ ts) = ap (λ l. (t.from, t.packet) ∷ l) (receipts_received ts)

receipts_sent : (taken : List Exchange) → sent_in (map receipt_of taken) ≡ []
receipts_sent [] = refl
receipts_sent (t ∷ ts) = receipts_sent ts

receipts_tried : (taken : List Exchange) → sends_in (map receipt_of taken) ≡ []
receipts_tried [] = refl
receipts_tried (t ∷ ts) = receipts_tried ts

-- The receive that ended a batch carried nothing.
ends_carry : (most : ℕ) (taken : List Exchange) (old new : Trace)
    (ended : Result (Unit {0}) LinkFault) → EndsReceiving most taken old new ended
    → Carries old new [] [] []
ends_carry most taken old new (Ok _) (inl w) = carries_none old new w.1
ends_carry most taken old new (Ok _) (inr w) = record {
  made = calls.Quiet ∷ [];
  are = w.1;
  received = refl;
  tried = refl;
  sent = refl;
}
ends_carry most taken old new (Err Receive) ends = record {
  made = calls.FailedReceive ∷ [];
  are = ends.1;
  received = refl;
  tried = refl;
  sent = refl;
}
ends_carry most taken old new (Err Spent) ends = carries_none old new ends.1.0
ends_carry most taken old new (Err Bind) ends = absurd ends.1
ends_carry most taken old new (Err Send) ends = absurd ends.1

-- The calls of a turn received nothing, and sent the frame of the turn.
abbrev Sends : Trace → Turn → Type 0
Sends made turn = (received_in made ≡ []) × (sent_in made ≡ sent_by turn)

told_sends : (answer : Answer) (to : Peer) (told turn : Turn) → turn ≡ told
    → Sends (sends_for answer to told) told → Sends (sends_for answer to turn) turn
told_sends answer to told turn is sends = subst (λ t. Sends (sends_for answer to t) t) (sym is) sends

sent_sends : (to : Peer) (frame : Frame) (turn : Turn) → IsSentTurn to frame turn
    → Sends (sends_for (Reply frame) to turn) turn
sent_sends to frame (Ok turn) is =
    subst (λ t. Sends (sends_for (Reply frame) to (Ok t)) (Ok t)) (sym is) (refl, refl)
sent_sends to frame (Err Send) is = (refl, refl)
sent_sends to frame (Err Spent) is = (refl, refl)
sent_sends to frame (Err Bind) is = (refl, refl)
sent_sends to frame (Err Receive) is = (refl, refl)

turn_sends : (Honest : Type 0) (IsCommitted : List ℕ → Type 0)
    (commit_result : Result (Unit {0}) BookFault) (to : Peer) (b : List ℕ) (answer : Answer)
    (turn : Turn) → Answers Honest IsCommitted commit_result to b answer turn
    → Sends (sends_for answer to turn) turn
turn_sends Honest IsCommitted (Ok _) to b (Reply frame) turn is = sent_sends to frame turn is
turn_sends Honest IsCommitted (Err fault) to b (Reply frame) turn (inl w) = sent_sends to frame turn w.1
turn_sends Honest IsCommitted (Err fault) to b (Reply frame) turn (inr w) =
    told_sends (Reply frame) to (Ok (turns.Uncommitted to fault)) turn w.1 (refl, refl)
turn_sends Honest IsCommitted commit_result to b (Dropped fault) turn is =
    told_sends (Dropped fault) to (Ok (turns.Dropped to fault)) turn is (refl, refl)
turn_sends Honest IsCommitted commit_result to b (Faulted fault) turn is =
    told_sends (Faulted fault) to (Ok (turns.Faulted to fault)) turn is (refl, refl)

all_sends : (Honest : Type 0) (IsCommitted : List ℕ → Type 0)
    (commit_result : Result (Unit {0}) BookFault) (taken : List Exchange) (answered : List Turn)
    → AllZip (λ t turn. Answers Honest IsCommitted commit_result t.from t.packet t.answer turn) taken
    answered
    → (received_in (sends_of taken answered) ≡ [])
    × (sent_in (sends_of taken answered) ≡ frames_in answered)
all_sends Honest IsCommitted commit_result [] [] all = (refl, refl)
all_sends Honest IsCommitted commit_result [] (turn ∷ answered) all = absurd all
all_sends Honest IsCommitted commit_result (t ∷ ts) [] all = absurd all
all_sends Honest IsCommitted commit_result (t ∷ ts) (turn ∷ answered) all =
    let first = sends_for t.answer t.from turn in
    let one = turn_sends Honest IsCommitted commit_result t.from t.packet t.answer turn all.0 in
    let others = all_sends Honest IsCommitted commit_result ts answered all.1 in (
      flat_map-append datagram_of first (sends_of ts answered)
          ∙ ap (λ l. l ++ received_in (sends_of ts answered)) one.0 ∙ others.0,
      flat_map-append frame_of first (sends_of ts answered)
          ∙ ap (λ l. l ++ sent_in (sends_of ts answered)) one.1
          ∙ ap (λ l. sent_by turn ++ l) others.1,
    )

-- The calls of a turn are sends.
turn_tries : (answer : Answer) (to : Peer) (turn : Turn)
    → sends_in (sends_for answer to turn) ≡ sends_for answer to turn
turn_tries (Reply frame) to (Ok (turns.Replied peer sent)) = refl
turn_tries (Reply frame) to (Ok turns.Quiet) = refl
turn_tries (Reply frame) to (Ok (turns.Dropped peer fault)) = refl
turn_tries (Reply frame) to (Ok (turns.Faulted peer fault)) = refl
turn_tries (Reply frame) to (Ok (turns.Uncommitted peer fault)) = refl
turn_tries (Reply frame) to (Err Send) = refl
turn_tries (Reply frame) to (Err Spent) = refl
turn_tries (Reply frame) to (Err Bind) = refl
turn_tries (Reply frame) to (Err Receive) = refl
turn_tries (Dropped fault) to turn = refl
turn_tries (Faulted fault) to turn = refl

all_tried : (taken : List Exchange) (answered : List Turn)
    → sends_in (sends_of taken answered) ≡ sends_of taken answered
all_tried [] answered = refl
all_tried (t ∷ ts) [] = refl
all_tried (t ∷ ts) (turn ∷ answered) =
    let first : Trace = sends_for t.answer t.from turn in
    flat_map-append send_of first (sends_of ts answered)
    ∙ ap (λ (l : Trace). l ++ sends_in (sends_of ts answered)) (turn_tries t.answer t.from turn)
    ∙ ap (λ (l : Trace). first ++ l) (all_tried ts answered)

-- The turn of a receive that got no datagram comes after those of all exchanges.
zip_fits : (R : Exchange → Turn → Type 0) (taken : List Exchange) (answered more : List Turn)
    → AllZip R taken answered → zip taken (answered ++ more) ≡ zip taken answered
zip_fits R [] [] more all = refl
zip_fits R [] (turn ∷ answered) more all = absurd all
zip_fits R (t ∷ ts) [] more all = absurd all
zip_fits R (t ∷ ts) (turn ∷ answered) more all =
    ap (λ l. (t, turn) ∷ l) (zip_fits R ts answered more all.1)

replies_of_batch : (R : Exchange → Turn → Type 0) (ended : Result (Unit {0}) LinkFault)
    (taken : List Exchange) (answered : List Turn) → AllZip R taken answered
    → sends_of taken (turns_of_batch ended answered) ≡ sends_of taken answered
replies_of_batch R (Err fault) taken answered all =
    ap (λ l. flat_map (λ p. sends_for p.0.answer p.0.from p.1) l)
    (zip_fits R taken answered (Err fault ∷ []) all)
replies_of_batch R (Ok _) [] [] all = refl
replies_of_batch R (Ok _) (t ∷ ts) [] all = absurd all
replies_of_batch R (Ok _) taken (turn ∷ answered) all = refl

-- A turn with no datagram has no frame.
frames_of_batch : (ended : Result (Unit {0}) LinkFault) (answered : List Turn)
    → frames_in (turns_of_batch ended answered) ≡ frames_in answered
frames_of_batch (Err fault) answered =
    flat_map-append sent_by answered (Err fault ∷ []) ∙ append-nil (frames_in answered)
frames_of_batch (Ok _) [] = refl
frames_of_batch (Ok _) (turn ∷ answered) = refl

module _ {B : Type 0} (faults : B → Faults) (honest : B → Type 0) (terms : B → Terms)
    (history committed : B → List Entry) (clean : B → Type 0)
    (may_find : B → Option (List Entry) → Type 0) where
  -- What the link carried for one batch.
  batch_carries : (old new : Trace × B) (batch : DatedBatch)
      → IsBatch faults honest terms history committed clean may_find old batch new
      → Carries old.0 new.0 (datagrams_of batch.taken) (sends_of batch.taken batch.turns)
      (frames_in batch.turns)
  batch_carries old new batch (most, it) =
      let received : Trace = old.0 ++ map receipt_of batch.taken in
      let sends : Trace = sends_of batch.taken batch.turns in
      let answered = all_sends _ _ it.answers.commit_result batch.taken it.answered it.answers.answers in
      let first : Carries old.0 received (datagrams_of batch.taken) [] [] =
      record {
        made = map receipt_of batch.taken;
        are = refl;
        received = receipts_received batch.taken;
        tried = receipts_tried batch.taken;
        sent = receipts_sent batch.taken;
      } in
      let last : Carries it.between.0 new.0 [] sends (frames_in batch.turns) =
      record {
        made = sends_of batch.taken it.answered;
        are = it.answers.sends;
        received = answered.0;
        tried = all_tried batch.taken it.answered
            ∙ sym (ap (λ (l : List Turn). sends_of batch.taken l) it.are
            ∙ replies_of_batch _ it.ended batch.taken it.answered it.answers.answers);
        sent = answered.1 ∙ sym (ap frames_in it.are ∙ frames_of_batch it.ended it.answered);
      } in
      let ended = ends_carry most batch.taken received it.between.0 it.ended it.takes.ends in
      let after = carries_on received it.between.0 new.0 [] [] [] sends [] (frames_in batch.turns)
      ended last in
      subst (λ (ds : List (Peer × Packet)). Carries old.0 new.0 ds sends (frames_in batch.turns))
      (append-nil (datagrams_of batch.taken))
      (carries_on old.0 received new.0 (datagrams_of batch.taken) [] [] sends []
      (frames_in batch.turns) first after)

  -- What the link carried for batches one after another.
  pub batches_carry : (old new : Trace × B) (batches : List DatedBatch)
      → BatchesLead (IsBatch faults honest terms history committed clean may_find) old batches new
      → Carries old.0 new.0 (datagrams_in batches) (replies_in batches)
      (frames_in (turns_in batches))
  unfolding BatchesLead
  batches_carry old new [] same = carries_none old.0 new.0 (ap (λ (s : Trace × B). s.0) same)
  batches_carry old new (batch ∷ batches) (next, one, rest) =
      subst (λ (fs : List (Peer × Frame)). Carries old.0 new.0 (datagrams_in (batch ∷ batches))
      (replies_in (batch ∷ batches)) fs)
      (sym (flat_map-append sent_by batch.turns (turns_in batches)))
      (carries_on old.0 next.0 new.0 (datagrams_of batch.taken) (datagrams_in batches)
      (sends_of batch.taken batch.turns) (replies_in batches) (frames_in batch.turns)
      (frames_in (turns_in batches)) (batch_carries old next batch one)
      (batches_carry next new batches rest))

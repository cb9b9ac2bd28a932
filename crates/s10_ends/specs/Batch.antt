-- A batch: datagrams that a server receives together, commits in one transaction, then replies to.
use Rattle.std.specs.Prelude.{◌≡◌, ◌⊎◌, ℕ, ⊤, Bool, true, false, ◌<◌, List, [], ◌∷◌}
use Rattle.std.specs.Prelude.{◌++◌, length, map, Contains, Result, Ok, Err, Option, All}
use Rattle.std.specs.List.{list_any, flat_map, AllZip, zip}
use Rattle.s10_link.specs.declared.trace.Trace.{Trace}
use Rattle.s10_link.specs.declared.link_fault.LinkFault.{LinkFault}
use Rattle.s10_link.specs.declared.link_call.LinkCall.TheVariants as calls
use Rattle.s10_link.specs.Link.{Receives}
use Rattle.s10_history.specs.declared.entry.Entry.{Entry}
use Rattle.s10_history.specs.Settings.{Terms}
use Rattle.s10_book.specs.declared.book_fault.BookFault.{BookFault}
use Rattle.s10_book.specs.declared.book_fault.BookFault.TheVariants.{Store}
use Rattle.s10_book.specs.declared.faults.Faults.{Faults}
use Rattle.s10_ends.specs.declared.answer.Answer.{Answer}
use Rattle.s10_ends.specs.declared.answer.Answer.TheVariants.{Reply, Faulted}
use Rattle.s10_ends.specs.declared.exchange.Exchange.{Exchange}
use Rattle.s10_ends.specs.declared.server_turn.ServerTurn.TheVariants as turns
use Rattle.s10_ends.specs.Served.{Dated, IsOwed, IsReplyIn}
use Rattle.s10_ends.specs.Turn.{Turn, Handles, Commits, AsksCommitted, Answers, receipt_of, sends_for}

-- The datagrams of exchanges were handled in order, from the first book to the last one.
pub data HandlesAll {B : Type 0} (Handled : B → B → List ℕ → Answer → Type 0) : B → List Exchange
    → B → Type 0 where
  none : {at : B} → HandlesAll Handled at [] at
  more : {old between new : B} {taken : List Exchange} (next : Exchange)
      → HandlesAll Handled old taken between → Handled between new next.packet next.answer
      → HandlesAll Handled old (taken ++ next ∷ []) new

-- Why receiving ended: `most` were received, nothing more had arrived, or a receive failed.
abbrev pub EndsReceiving : ℕ → List Exchange → Trace → Trace → Result (Unit {0}) LinkFault → Type 0
EndsReceiving most taken old new (Ok _) = ((length taken ≡ most) × (new ≡ old))
    ⊎ ((length taken < most) × (new ≡ old ++ calls.Quiet ∷ []))
EndsReceiving most taken old new (Err fault) = (length taken < most) × Receives old new (Err fault)

-- Exactly the datagrams of these exchanges were received, in order, and handled, at most `most`.
-- Then receiving ended for such a reason.
pub record ReceivesBatch {B : Type 0} (Handled : B → B → List ℕ → Answer → Type 0) (most : ℕ)
    (old new : Trace × B) (taken : List Exchange) (ended : Result (Unit {0}) LinkFault) :
    Type 0 where
  pub handles : HandlesAll Handled old.1 taken new.1
  pub ends : EndsReceiving most taken (old.0 ++ map receipt_of taken) new.0 ended

-- Whether the answer is a reply.
abbrev pub is_reply : Answer → Bool
is_reply (Reply frame) = true
is_reply answer = false

-- Whether some answer of a batch is a reply.
abbrev pub has_reply : List Exchange → Bool
has_reply taken = list_any (λ (t : Exchange). is_reply t.answer) taken

-- Whether the store failed for the datagram.
abbrev pub is_store_fault : Answer → Bool
is_store_fault (Faulted Store) = true
is_store_fault answer = false

-- Whether the store failed for some datagram of a batch.
abbrev pub has_store_fault : List Exchange → Bool
has_store_fault taken = list_any (λ (t : Exchange). is_store_fault t.answer) taken

-- If the exchange has a reply, its own call is committed.
abbrev pub HasCommittedReply : List Entry → List Entry → Exchange → Type 0
HasCommittedReply committed h taken = is_reply taken.answer ≡ true
    → AsksCommitted committed h taken.packet

-- Each reply of these exchanges is to a committed call.
abbrev pub AllCommitted : List Entry → List Entry → List Exchange → Type 0
AllCommitted committed h taken = All (HasCommittedReply committed h) taken

-- These exchanges need a commit: the store failed for one of them, or a reply is to a call that is
-- not committed.
abbrev pub NeedCommit : Type 0 → List Entry → List Entry → List Exchange → Type 0
NeedCommit Honest committed h taken = (has_store_fault taken ≡ true)
    ⊎ ((has_reply taken ≡ true) × (Honest → ¬ (AllCommitted committed h taken)))

-- A commit for these exchanges would add nothing: each reply is to a committed call, and if the
-- store failed for one of them, all calls are committed.
pub record NeedNoCommit (committed h : List Entry) (taken : List Exchange) : Type 0 where
  pub replies : AllCommitted committed h taken
  pub faults : has_store_fault taken ≡ true → committed ≡ h

-- What the link sent for exchanges with these turns, in order.
abbrev pub sends_of : List Exchange → List Turn → Trace
sends_of taken answered = flat_map (λ p. sends_for p.0.answer p.0.from p.1) (zip taken answered)

-- The turns of a batch: those of its exchanges, then a failed receive. Quiet if there is no other.
abbrev pub turns_of_batch : Result (Unit {0}) LinkFault → List Turn → List Turn
turns_of_batch (Err fault) answered = answered ++ Err fault ∷ []
turns_of_batch (Ok _) [] = Ok turns.Quiet ∷ []
turns_of_batch (Ok _) (turn ∷ answered) = turn ∷ answered

-- If the turn sent a reply, the committed calls give that reply.
abbrev pub IsSentCommitted : List Entry → Turn → Type 0
IsSentCommitted committed (Ok (turns.Replied to frame)) = IsReplyIn committed frame
IsSentCommitted committed turn = ⊤

-- If the turn sent a reply, it is one that the committed calls owe to a delivery.
abbrev pub IsOwedReply : List Entry → List Dated → Turn → Type 0
IsOwedReply committed deliveries (Ok (turns.Replied to frame)) =
    (d : Dated) × Contains deliveries d × IsOwed committed d.0 frame
IsOwedReply committed deliveries turn = ⊤

module _ {B : Type 0} (faults : B → Faults) (honest : B → Type 0) (terms : B → Terms)
    (history committed : B → List Entry) (clean : B → Type 0)
    (may_find : B → Option (List Entry) → Type 0) where
  -- Either the commit of all calls was tried: then these exchanges needed it. Or the book is
  -- unchanged: then, if it is honest, a commit would have added nothing.
  abbrev pub CommitsIfPending : B → B → List Exchange → Result (Unit {0}) BookFault → Type 0
  CommitsIfPending old new taken commit_result =
      (NeedCommit (honest old) (committed old) (history old) taken
      × Commits faults honest terms history committed clean may_find old new commit_result)
      ⊎ ((new ≡ old) × (commit_result ≡ Ok tt)
      × (honest old → NeedNoCommit (committed old) (history old) taken))

  -- A commit was tried if the exchanges needed it. Then exactly their replies were sent, in order,
  -- each to its sender, or withheld.
  pub record CommitsAndReplies (old new : Trace × B) (taken : List Exchange)
      (answered : List Turn) : Type 0 where
    pub commit_result : Result (Unit {0}) BookFault
    pub commits : CommitsIfPending old.1 new.1 taken commit_result
    pub answers : AllZip (λ t turn. Answers (honest new.1)
        (AsksCommitted (committed new.1) (history new.1)) commit_result t.from t.packet t.answer turn)
        taken answered
    pub sends : new.0 ≡ old.0 ++ sends_of taken answered

  -- The datagrams of these exchanges, at most `most`, were received and handled on the day, their
  -- calls committed, and then they were replied to.
  pub record ServesBatch (day most : ℕ) (old new : Trace × B) (taken : List Exchange)
      (turns : List Turn) : Type 0 where
    pub between : Trace × B
    pub ended : Result (Unit {0}) LinkFault
    pub takes : ReceivesBatch (λ before after b answer. Handles faults honest terms history
        committed clean may_find before after day b answer) most old between taken ended
    pub answered : List Turn
    pub answers : CommitsAndReplies between new taken answered
    pub are : turns ≡ turns_of_batch ended answered

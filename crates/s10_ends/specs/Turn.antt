-- What one turn of a server does to its book and to the link.
use Rattle.std.specs.Prelude.{◌≡◌, ◌↔◌, ◌⊎◌, ℕ, ⊤, List, [], ◌∷◌, ◌++◌, Option, Some, None, Result, Ok}
use Rattle.std.specs.Prelude.{Err, OnOk}
use Rattle.s10_link.specs.declared.trace.Trace.{Trace}
use Rattle.s10_link.specs.declared.peer.Peer.{Peer}
use Rattle.s10_wire.specs.declared.frame.Frame.{Frame}
use Rattle.s10_wire.specs.declared.request.Request.{Request}
use Rattle.s10_wire.specs.Datagrams.{Asks}
use Rattle.s10_wire.specs.declared.wire_fault.WireFault.{WireFault}
use Rattle.s10_link.specs.declared.link_call.LinkCall.{LinkCall}
use Rattle.s10_link.specs.declared.link_call.LinkCall.TheVariants as calls
use Rattle.s10_link.specs.declared.link_fault.LinkFault.{LinkFault}
use Rattle.s10_link.specs.declared.link_fault.LinkFault.TheVariants.{Send, Spent}
use Rattle.s10_link.specs.Link.{Receives}
use Rattle.s10_wire.specs.WireFault.{IsFirstRefusalOfRequest}
use Rattle.s10_history.specs.declared.entry.Entry.{Entry}
use Rattle.s10_book.specs.declared.book_fault.BookFault.{BookFault}
use Rattle.s10_book.specs.declared.faults.Faults.{Faults}
use Rattle.s10_book.specs.BookFault.{CountsResult}
use Rattle.s10_book.specs.Book.{Grows}
use Rattle.s10_book.specs.GroupCommit.{IsCommittedCall, CommitsSome}
use Rattle.s10_history.specs.Settings.{Terms}
use Rattle.s10_ends.specs.declared.answer.Answer.{Answer}
use Rattle.s10_ends.specs.declared.answer.Answer.TheVariants.{Reply, Dropped, Faulted}
use Rattle.s10_ends.specs.declared.exchange.Exchange.{Exchange}
use Rattle.s10_ends.specs.declared.server_turn.ServerTurn.{ServerTurn}
use Rattle.s10_ends.specs.declared.server_turn.ServerTurn.TheVariants as turns
use Rattle.s10_ends.specs.Served.{AskNothing, CountsAnswer, UnlessReply, Served}
use Rattle.s10_ends.specs.Stop.{StopsAfter}

-- The result of a datagram, or of a receive that got none.
abbrev pub Turn : Type 0
Turn = Result ServerTurn LinkFault

-- What handling bytes on a day does to the server's book, with its answer.
pub record Handles {B : Type 0} (faults : B → Faults) (honest : B → Type 0) (terms : B → Terms)
    (history committed : B → List Entry) (clean : B → Type 0)
    (may_find : B → Option (List Entry) → Type 0) (old new : B) (day : ℕ) (b : List ℕ) (answer :
    Answer) :
    Type 0 where
  pub counts : CountsAnswer answer (faults old) (faults new)
  pub dropped : (fault : WireFault) → (answer ≡ Dropped fault)
      ↔ (AskNothing b × IsFirstRefusalOfRequest b fault)
  pub unasked : (fault : WireFault) → answer ≡ Dropped fault → new ≡ old
  pub was_honest : honest new → honest old
  pub same_terms : honest new → terms new ≡ terms old
  pub served : honest new → Served (history old) (terms old) ((b, day) ∷ []) (answer ∷ [])
      (history new)
  pub unchanged : honest new → UnlessReply answer (history new ≡ history old)
  pub stays_committed : honest new → Grows (committed old) (committed new)
  pub stop : StopsAfter terms history committed honest clean may_find old new ((b, day) ∷ [])

-- What a commit does to the server's book, by its result.
pub record Commits {B : Type 0} (faults : B → Faults) (honest : B → Type 0) (terms : B → Terms)
    (history committed : B → List Entry) (clean : B → Type 0)
    (may_find : B → Option (List Entry) → Type 0) (old new : B) (result : Result (Unit {0})
    BookFault) :
    Type 0 where
  pub counts : CountsResult result (faults old) (faults new)
  pub commits_some : CommitsSome history committed terms honest clean may_find old new
  pub done : honest new → OnOk result (committed new ≡ history new)

-- The call of the link that received the datagram of the exchange from its sender.
abbrev pub receipt_of : Exchange → LinkCall
receipt_of taken = calls.Received taken.from taken.packet

-- One receive, and the answer to the datagram that arrived: from a link's trace and a server's book
-- to those after it.
abbrev pub Takes : {B : Type 0} → (B → B → List ℕ → Answer → Type 0) → Trace × B → Trace × B
    → Result (Option Exchange) LinkFault → Type 0
Takes Handled old new (Ok None) = (new.0 ≡ old.0 ++ calls.Quiet ∷ []) × (new.1 ≡ old.1)
Takes Handled old new (Ok (Some taken)) = (new.0 ≡ old.0 ++ receipt_of taken ∷ [])
    × Handled old.1 new.1 taken.packet taken.answer
Takes Handled old new (Err fault) = Receives old.0 new.0 (Err fault) × (new.1 ≡ old.1)

-- What the link sent for an answer, by its turn: exactly that reply to exactly this peer, or nothing.
abbrev pub sends_for : Answer → Peer → Turn → Trace
sends_for (Reply frame) to (Ok (turns.Replied peer sent)) = calls.Sent to frame ∷ []
sends_for (Reply frame) to (Err Send) = calls.FailedSend to frame ∷ []
sends_for answer to turn = []

-- The turn of a reply that was sent to the peer, or whose send failed.
abbrev pub IsSentTurn : Peer → Frame → Turn → Type 0
IsSentTurn to frame (Ok turn) = turn ≡ turns.Replied to frame
IsSentTurn to frame (Err fault) = (fault ≡ Send) ⊎ (fault ≡ Spent)

-- The bytes are a request, and the committed calls have the same under its key as the history.
abbrev pub AsksCommitted : List Entry → List Entry → List ℕ → Type 0
AsksCommitted committed h b = (q : Request) × Asks b q × IsCommittedCall committed h q.customer
    q.number

module _ (Honest : Type 0) (IsCommitted : List ℕ → Type 0) where
  -- A reply is sent if the commit succeeded. Otherwise it is sent if its own call is committed, and
  -- withheld if not.
  abbrev pub SendsCommitted : Result (Unit {0}) BookFault → Peer → List ℕ → Frame → Turn → Type 0
  SendsCommitted (Ok _) to b frame turn = IsSentTurn to frame turn
  SendsCommitted (Err fault) to b frame turn = ((Honest → IsCommitted b) × IsSentTurn to frame turn)
      ⊎ ((Honest → ¬ (IsCommitted b)) × (turn ≡ Ok (turns.Uncommitted to fault)))

  -- The turn of a peer, by the answer to its bytes and the result of the commit.
  abbrev pub Answers : Result (Unit {0}) BookFault → Peer → List ℕ → Answer → Turn → Type 0
  Answers commit_result to b (Reply frame) turn = SendsCommitted commit_result to b frame turn
  Answers commit_result to b (Dropped fault) turn = turn ≡ Ok (turns.Dropped to fault)
  Answers commit_result to b (Faulted fault) turn = turn ≡ Ok (turns.Faulted to fault)

-- All calls of a book are committed after a call if they were before it.
abbrev pub StaysWhole : {B : Type 0} → (B → Type 0) → (B → List Entry) → (B → List Entry) → B → B
    → Type 0
StaysWhole honest history committed old new = honest new → committed old ≡ history old
    → committed new ≡ history new

-- A turn without a commit, by the result of the receive. If the answer is a reply, it is sent.
-- Otherwise nothing is sent.
abbrev pub AnswersTaken : {B : Type 0} → Trace × B → Trace × B → Result (Option Exchange) LinkFault
    → Turn
    → Type 0
AnswersTaken between new (Ok None) turn = (new ≡ between) × (turn ≡ Ok turns.Quiet)
AnswersTaken between new (Ok (Some taken)) turn = (new.1 ≡ between.1)
    × (new.0 ≡ between.0 ++ sends_for taken.answer taken.from turn)
    × Answers ⊤ (λ _. ⊤) (Ok tt) taken.from taken.packet taken.answer turn
AnswersTaken between new (Err fault) turn = (new ≡ between) × (turn ≡ Err fault)

-- One receive, the handling of the datagram on the day, and at most one send, without a commit.
pub record ServesOne {B : Type 0} (faults : B → Faults) (honest : B → Type 0) (terms : B → Terms)
    (history committed : B → List Entry) (clean : B → Type 0)
    (may_find : B → Option (List Entry) → Type 0) (day : ℕ) (old new : Trace × B) (turn : Turn) :
    Type 0 where
  pub between : Trace × B
  pub taken : Result (Option Exchange) LinkFault
  pub takes : Takes (λ before after b answer. Handles faults honest terms history committed clean
      may_find before
      after day b answer) old between taken
  pub answers : AnswersTaken between new taken turn

-- What batches of a server, one after another, do to its book.
use Rattle.std.specs.Prelude.{◌≡◌, ℕ, List, [], ◌∷◌, ◌++◌, map, Option, Some, Ok, All}
use Rattle.std.specs.List.{flat_map}
use Rattle.s10_link.specs.declared.trace.Trace.{Trace}
use Rattle.s10_link.specs.declared.peer.Peer.{Peer}
use Rattle.s10_link.specs.declared.packet.Packet.{Packet}
use Rattle.s10_link.specs.Carried.{received_in, sent_in, sends_in}
use Rattle.s10_wire.specs.declared.frame.Frame.{Frame}
use Rattle.s10_history.specs.declared.entry.Entry.{Entry}
use Rattle.s10_history.specs.Settings.{Terms}
use Rattle.s10_book.specs.declared.faults.Faults.{Faults}
use Rattle.s10_book.specs.Book.{Grows}
use Rattle.s10_ends.specs.declared.answer.Answer.{Answer}
use Rattle.s10_ends.specs.declared.exchange.Exchange.{Exchange}
use Rattle.s10_ends.specs.declared.server_turn.ServerTurn.TheVariants as turns
use Rattle.s10_ends.specs.Served.{Dated, Served}
use Rattle.s10_ends.specs.Runs.{KeepsPromises, IsIssued}
use Rattle.s10_ends.specs.Stop.{IsFoundAmong}
use Rattle.s10_ends.specs.Turn.{Turn}
use Rattle.s10_ends.specs.Batch.{ServesBatch, IsSentCommitted, IsOwedReply, sends_of}

-- The exchanges of a batch, its turns, and the day on which they were served.
pub record DatedBatch : Type 0 where
  pub day : ℕ
  pub taken : List Exchange
  pub turns : List Turn

-- The batches lead from the old state to the new, one after another.
unfoldable pub BatchesLead : {S : Type 0} → (S → DatedBatch → S → Type 0) → S → List DatedBatch → S
    → Type 0
BatchesLead IsStep old [] new = new ≡ old
BatchesLead IsStep old (batch ∷ batches) new = (next : _) × IsStep old batch next
    × BatchesLead IsStep next batches new

-- The turns of batches, in order.
abbrev pub turns_in : List DatedBatch → List Turn
turns_in batches = flat_map (λ batch. batch.turns) batches

-- The days of batches, in order.
abbrev pub days_of : List DatedBatch → List ℕ
days_of batches = map (λ batch. batch.day) batches

-- The datagrams that the batches received, in order, each with its sender.
abbrev pub datagrams_in : List DatedBatch → List (Peer × Packet)
datagrams_in batches = flat_map (λ batch. map (λ t. (t.from, t.packet)) batch.taken) batches

-- The datagrams that the batches received, in order, each with the day of its batch.
abbrev pub deliveries_in : List DatedBatch → List Dated
deliveries_in batches = flat_map (λ batch. map (λ t. (t.packet, batch.day)) batch.taken) batches

-- The answers to these datagrams, in order.
abbrev pub answers_in : List DatedBatch → List Answer
answers_in batches = flat_map (λ batch. map (λ t. t.answer) batch.taken) batches

-- The frame that a turn sent, with the peer that it was sent to.
abbrev pub sent_by : Turn → List (Peer × Frame)
sent_by (Ok (turns.Replied to frame)) = (to, frame) ∷ []
sent_by turn = []

-- The frames that turns sent, in order, each with the peer that it was sent to.
abbrev pub frames_in : List Turn → List (Peer × Frame)
frames_in turns = flat_map sent_by turns

-- The sends of batches, in order: to the sender of each datagram that was replied to, the reply to it.
-- A send that failed is among them as such.
abbrev pub replies_in : List DatedBatch → Trace
replies_in batches = flat_map (λ batch. sends_of batch.taken batch.turns) batches

-- Between the two traces the link received exactly these datagrams, tried exactly these sends, and sent
-- exactly these frames, each in order.
pub record Carries (old new : Trace) (datagrams : List (Peer × Packet)) (sends : Trace)
    (frames : List (Peer × Frame)) : Type 0 where
  pub made : Trace
  pub are : new ≡ old ++ made
  pub received : received_in made ≡ datagrams
  pub tried : sends_in made ≡ sends
  pub sent : sent_in made ≡ frames

module _ {B : Type 0} (honest : B → Type 0) (terms : B → Terms)
    (history committed : B → List Entry) where
  -- Batches with these deliveries, answers and turns led from one book to the other. The history is
  -- what each distinct request once, in order of first arrival, gives, and keeps its promises.
  -- Every identifier in a reply was issued to its request. Committed calls stay committed. Every
  -- reply that was sent is one that the committed calls give, and one that they owe to a delivery.
  pub record ServesAll (old new : B) (deliveries : List Dated) (answers : List Answer)
      (turns : List Turn) : Type 0 where
    pub was_honest : honest old
    pub same_terms : terms new ≡ terms old
    pub served : Served (history old) (terms old) deliveries answers (history new)
    pub kept : KeepsPromises (history new) (terms new)
    pub issued : All (IsIssued (history new)) answers
    pub stays_committed : Grows (committed old) (committed new)
    pub stands : All (IsSentCommitted (committed new)) turns
    pub owed : All (IsOwedReply (committed new) deliveries) turns

module _ {B : Type 0} (faults : B → Faults) (honest : B → Type 0) (terms : B → Terms)
    (history committed : B → List Entry) (clean : B → Type 0)
    (may_find : B → Option (List Entry) → Type 0) where
  -- One batch, from a link's trace and a server's book to those after it.
  abbrev pub IsBatch : Trace × B → DatedBatch → Trace × B → Type 0
  IsBatch old batch new = (most : ℕ) × ServesBatch faults honest terms history committed clean
      may_find batch.day most old new batch.taken batch.turns

  -- Wherever the book was honest after some of the batches, if it is clean after all of them, an
  -- opening finds after a stop every call whose reply the first ones sent. It finds a beginning of
  -- what each distinct request of some of the deliveries once, in order of first arrival, makes of
  -- the first history.
  abbrev pub SurvivesStop : Trace × B → Trace × B → Type 0
  SurvivesStop old new = (first rest : List DatedBatch) (between : Trace × B)
      → BatchesLead IsBatch old first between → BatchesLead IsBatch between rest new
      → honest between.1 → clean new.1 → (found : Option (List Entry)) → may_find new.1 found
      → IsFoundAmong (committed between.1) (history old.1) (terms old.1).interval
      (deliveries_in first ++ deliveries_in rest)
      found × ((calls : List Entry) → found ≡ Some calls
      → All (IsSentCommitted calls) (turns_in first))

-- What a server does with deliveries: bytes, each with the day of their arrival.
use Rattle.std.specs.Prelude.{◌≡◌, ◌≢◌, ℕ, ⊤, Bool, true, false, not, List, [], ◌∷◌, length, take}
use Rattle.std.specs.Prelude.{map, filter, Option, Some, None, slice_get}
use Rattle.std.specs.List.{AllZip, zip}
use Rattle.s10_wire.specs.declared.request.Request.{Request}
use Rattle.s10_wire.specs.declared.outcome.Outcome.{Outcome}
use Rattle.s10_wire.specs.declared.outcome.Outcome.TheVariants.{NumberReused}
use Rattle.s10_wire.specs.Datagrams.{Asks, Replies}
use Rattle.s10_history.specs.declared.entry.Entry.{Entry}
use Rattle.s10_book.specs.declared.book_fault.BookFault.TheVariants.{Full}
use Rattle.s10_history.specs.Settings.{Terms}
use Rattle.s10_history.specs.History.{find_entry}
use Rattle.s10_book.specs.Once.{applied_once}
use Rattle.s10_book.specs.declared.faults.Faults.{Faults}
use Rattle.s10_book.specs.BookFault.{CountsFault}
use Rattle.s10_ends.specs.declared.answer.Answer.{Answer}
use Rattle.s10_ends.specs.declared.answer.Answer.TheVariants.{Reply, Dropped, Faulted}

-- Bytes, and the day of their arrival.
abbrev pub Dated : Type 0
Dated = List ℕ × ℕ

-- The bytes are not a request.
abbrev pub AskNothing : List ℕ → Type 0
AskNothing b = (q : Request) → ¬ (Asks b q)

-- The bytes are a request.
abbrev pub AskSomething : List ℕ → Type 0
AskSomething b = (q : Request) × Asks b q

-- The requests in the deliveries, in their order, each with its day. Bytes that ask nothing are
-- ignored.
pub data AreAsked : List Dated → List (Request × ℕ) → Type 0 where
  none : AreAsked [] []
  nothing : {d : Dated} {ds : List Dated} {asked : List (Request × ℕ)} → AskNothing d.0
      → AreAsked ds asked → AreAsked (d ∷ ds) asked
  request : {d : Dated} {q : Request} {ds : List Dated} {asked : List (Request × ℕ)} → Asks d.0 q
      → AreAsked ds asked → AreAsked (d ∷ ds) ((q, d.1) ∷ asked)

-- h' is the history h after each distinct request of the deliveries once, in order of first
-- arrival.
abbrev pub IsOnce : List Entry → List Dated → ℕ → List Entry → Type 0
IsOnce h ds interval h' = (asked : List (Request × ℕ)) × AreAsked ds asked
    × (h' ≡ applied_once h asked interval)

-- The kept call of a key gives the request its outcome. Another request with that key gets
-- NumberReused.
abbrev pub GivesOutcome : Option Entry → Request → Outcome → Type 0
GivesOutcome None q o = ⊥
GivesOutcome (Some e) q o = (e.request ≡ q → o ≡ e.outcome) × (e.request ≢ q → o ≡ NumberReused)

-- The history gives the request that outcome.
abbrev pub GivesIn : List Entry → Request → Outcome → Type 0
GivesIn h q o = GivesOutcome (find_entry h q.customer q.number) q o

-- The bytes f are the reply that the history gives to the bytes b.
abbrev pub IsOwed : List Entry → List ℕ → List ℕ → Type 0
IsOwed h b f = (q : Request) × (o : Outcome) × Asks b q × GivesIn h q o × Replies f q o

-- The bytes f are the reply to some request, with the outcome that the history gives to it.
abbrev pub IsReplyIn : List Entry → List ℕ → Type 0
IsReplyIn h f = (q : Request) × (o : Outcome) × GivesIn h q o × Replies f q o

-- The answer to bytes is right for the final history. Only bytes that ask nothing are dropped. Bytes
-- that ask something get the owed reply, unless the book failed or was full.
abbrev pub IsAnswered : List Entry → List ℕ → Answer → Type 0
IsAnswered h b (Reply frame) = IsOwed h b frame
IsAnswered h b (Dropped fault) = AskNothing b
IsAnswered h b (Faulted fault) = AskSomething b

-- There are as many calls as the limit, and none with the key of the request.
abbrev pub IsFullFor : List Entry → Terms → Request → Type 0
IsFullFor h t q = (length h ≡ t.limit) × (find_entry h q.customer q.number ≡ None)

-- Whether the answer is a fault.
abbrev pub is_faulted : Answer → Bool
is_faulted (Faulted fault) = true
is_faulted answer = false

-- The deliveries whose answer is not Faulted.
abbrev pub not_faulted : List Dated → List Answer → List Dated
not_faulted ds answers = map (λ p. p.0) (filter (λ p. not (is_faulted p.1)) (zip ds answers))

-- The answers to deliveries, from the history h to the history h'.
pub record Served (h : List Entry) (t : Terms) (ds : List Dated) (answers : List Answer)
    (h' : List Entry) : Type 0 where
  pub once_each : IsOnce h (not_faulted ds answers) t.interval h'
  pub answered : AllZip (λ d a. IsAnswered h' d.0 a) ds answers
  pub full : (k : ℕ) (d : Dated) → slice_get ds k ≡ Some d → slice_get answers k
      ≡ Some (Faulted Full)
      → (before : List Entry) × (q : Request) × IsOnce h (not_faulted (take k ds) (take k answers))
      t.interval before × Asks d.0 q × IsFullFor before t q

-- P holds if the answer is not a reply.
abbrev pub UnlessReply : Answer → Type 0 → Type 0
UnlessReply (Reply frame) P = ⊤
UnlessReply answer P = P

-- What an answer does to the book's counts of faults: a fault counts as that fault.
abbrev pub CountsAnswer : Answer → Faults → Faults → Type 0
CountsAnswer (Reply frame) before after = after ≡ before
CountsAnswer (Dropped fault) before after = after ≡ before
CountsAnswer (Faulted fault) before after = CountsFault fault before after

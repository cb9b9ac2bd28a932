-- What a server does with a whole list of deliveries.
use Rattle.std.specs.Prelude.{◌≡◌, ℕ, ◌+◌, ◌-◌, ◌*◌, ◌^◌, ◌<◌, ◌≤◌, ⊤, Bool, true, false, List}
use Rattle.std.specs.Prelude.{take, drop, Some, slice_get, Contains}
use Rattle.std.specs.List.{count_by}
use Rattle.s10_core.specs.declared.id.Id.{Id}
use Rattle.s10_core.specs.Id.{Spells}
use Rattle.s10_wire.specs.declared.request.Request.{Request}
use Rattle.s10_wire.specs.declared.outcome.Outcome.{Outcome}
use Rattle.s10_wire.specs.declared.kind.Kind.{Kind}
use Rattle.s10_wire.specs.Kind.{kind_of, request_length}
use Rattle.s10_wire.specs.Datagrams.{Replies}
use Rattle.s10_history.specs.declared.entry.Entry.{Entry}
use Rattle.s10_book.specs.declared.book_fault.BookFault.TheVariants.{Memory, Store}
use Rattle.s10_book.specs.declared.faults.Faults.{Faults}
use Rattle.s10_history.specs.Settings.{Terms}
use Rattle.s10_history.specs.Issues.{carried_by, issues_of}
use Rattle.s10_book.specs.Rules.{IsLegal}
use Rattle.s10_book.specs.Promises.{IsSpaced, IsOwn, IsApart}
use Rattle.s10_ends.specs.declared.answer.Answer.{Answer}
use Rattle.s10_ends.specs.declared.answer.Answer.TheVariants.{Reply, Dropped, Faulted}
use Rattle.s10_ends.specs.declared.delivery.Delivery.{Delivery}
use Rattle.s10_ends.specs.Served.{Dated}

-- A delivery as its bytes and its day.
abbrev pub dated : Delivery → Dated
dated d = (d.packet, d.day)

-- Whether the answer is lack of memory.
abbrev pub is_memory : Answer → Bool
is_memory (Faulted Memory) = true
is_memory answer = false

-- Whether the answer is a fault of the store.
abbrev pub is_store : Answer → Bool
is_store (Faulted Store) = true
is_store answer = false

-- A count rises by the number of answers of a kind, up to the greatest number.
pub record CountsEach (kind : Answer → Bool) (answered : List Answer) (before after : ℕ) :
    Type 0 where
  pub at_most : after ≤ before + count_by kind answered
  pub never_falls : before ≤ after
  pub each : after < 2 ^ 64 - 1 → before + count_by kind answered ≤ after

-- Each count of a book's faults rises by the number of answers that are that fault.
pub record CountsAll (answered : List Answer) (before after : Faults) : Type 0 where
  pub memory : CountsEach is_memory answered before.memory after.memory
  pub store : CountsEach is_store answered before.store after.store

-- The promises of a history. It is legal, and no identifier is issued twice within the interval.
-- Each issued identifier is of its customer's own range, and none lies in two ranges.
pub record KeepsPromises (h : List Entry) (t : Terms) : Type 0 where
  pub legal : IsLegal h t
  pub spaced : IsSpaced h t.interval
  pub own : IsOwn h
  pub apart : IsApart h

-- The history has an issuance of the identifier, on that day, to that request.
abbrev pub HasIssue : List Entry → Id → ℕ → Request → Type 0
HasIssue h x day q = (arrival : ℕ)
    × Contains (issues_of h) (record {
      id = x;
      day = day;
      customer = q.customer;
      number = q.number;
      arrival = arrival;
    })

-- The text of an identifier in a reply to a request of the kind, at a position from 0. Each text
-- has thirteen bytes. The texts follow the request, the outcome byte and the day.
abbrev pub text_at : List ℕ → Kind → ℕ → List ℕ
text_at b kind place = take 13 (drop (request_length kind + 5 + 13 * place) b)

-- If the answer is a reply, its texts spell the identifiers that it carries. Each of these was
-- issued in the history, on the reply's day, to the reply's request.
abbrev pub IsIssued : List Entry → Answer → Type 0
IsIssued h (Reply frame) = (q : Request) (o : Outcome) → Replies frame q o
    → (place day : ℕ) (x : Id) → slice_get (carried_by o) place ≡ Some (day, x)
    → Spells (text_at frame (kind_of q.body) place) x × HasIssue h x day q
IsIssued h (Dropped fault) = ⊤
IsIssued h (Faulted fault) = ⊤

-- The notes of a client, and how they change.
use Rattle.std.specs.Prelude.{◌≡◌, ℕ, ◌+◌, ◌≤◌, nat_lt, if◌then◌else◌, is_some, IfSome, Option}
use Rattle.std.specs.Prelude.{Some, None}
use Rattle.s10_wire.specs.declared.body.Body.{Body}
use Rattle.s10_wire.specs.declared.request.Request.{Request}
use Rattle.s10_notes.specs.declared.take_fault.TakeFault.{TakeFault}
use Rattle.s10_notes.specs.declared.take_fault.TakeFault.TheVariants.{Unanswered, NumbersSpent}

-- Notes: the customer, the next number and the last one, and the open request.
pub record NotesState : Type 0 where
  pub customer : ℕ
  pub next : ℕ
  pub last : ℕ
  pub request : Option Request

-- The notes with these members.
abbrev pub notes_of : ℕ → ℕ → ℕ → Option Request → NotesState
notes_of customer next lst request =
    record { customer = customer; next = next; last = lst; request = request }

-- The request is of the customer, and has the number before the next one.
abbrev pub IsLatest : NotesState → Request → Type 0
IsLatest n q = (q.customer ≡ n.customer) × (q.number + 1 ≡ n.next)

-- The numbers are used in order, up to the last. The open request is the latest one.
pub record AreNotes (n : NotesState) : Type 0 where
  pub within : n.next ≤ n.last + 1
  pub latest : IfSome n.request (IsLatest n)

-- The notes of a new client, which has the numbers from the first to the last.
abbrev pub new_notes : ℕ → ℕ → ℕ → NotesState
new_notes customer first lst = record { customer = customer; next = first; last = lst; request = None }

-- The request that a body becomes.
abbrev pub next_request : NotesState → Body → Request
next_request n body = record { customer = n.customer; number = n.next; body = body }

-- The notes after the body has got the next number.
abbrev pub after_take : NotesState → Body → NotesState
after_take n body = record {
  customer = n.customer;
  next = n.next + 1;
  last = n.last;
  request = Some (next_request n body);
}

-- Why no number is given: a request is open; otherwise, no number is left.
abbrev pub take_fault : NotesState → Option TakeFault
take_fault n = if is_some n.request then Some Unanswered else if nat_lt n.last n.next
    then Some NumbersSpent else None

-- The notes after the reply to the open request has come.
abbrev pub without_request : NotesState → NotesState
without_request n = record { customer = n.customer; next = n.next; last = n.last; request = None }

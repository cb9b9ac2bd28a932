-- How the calls of a book change its fault counts.
use Rattle.std.specs.Prelude.{◌≡◌, ℕ, ◌+◌, ◌-◌, ◌^◌, ◌≤◌, nat_lt, if◌then◌else◌, Bool, true, false}
use Rattle.std.specs.Prelude.{Result, Ok, Err}
use Rattle.s10_book.specs.declared.book_fault.BookFault.{BookFault}
use Rattle.s10_book.specs.declared.book_fault.BookFault.TheVariants.{Memory, Store, Full}
use Rattle.s10_book.specs.declared.faults.Faults.{Faults}

-- A count rises by one, or stays at the greatest u64.
pub record RisesByOne (before after : ℕ) : Type 0 where
  pub never_falls : before ≤ after
  pub by_one : after ≤ before + 1
  pub unless_greatest : after ≡ before → 2 ^ 64 - 1 ≤ before

-- The counts before the first fault.
abbrev pub no_faults : Faults
no_faults = record { memory = 0; store = 0 }

-- One more fault of memory is counted.
abbrev pub MemoryRises : Faults → Faults → Type 0
MemoryRises before after = RisesByOne before.memory after.memory × (after.store ≡ before.store)

-- One more fault of the store is counted.
abbrev pub StoreRises : Faults → Faults → Type 0
StoreRises before after = RisesByOne before.store after.store × (after.memory ≡ before.memory)

-- A fault is counted under its own name; `Full` is no fault of the book, and is not counted.
abbrev pub CountsFault : BookFault → Faults → Faults → Type 0
CountsFault Memory before after = MemoryRises before after
CountsFault Store before after = StoreRises before after
CountsFault Full before after = after ≡ before

-- A fault of a call is counted under its own name; it is never `Full`.
abbrev pub CountsBookFault : BookFault → Faults → Faults → Type 0
CountsBookFault Memory before after = MemoryRises before after
CountsBookFault Store before after = StoreRises before after
CountsBookFault Full before after = ⊥

-- A result without a fault leaves the counts unchanged; a fault is counted under its own name, and
-- is never `Full`.
abbrev pub CountsResult : {T : Type 0} → Result T BookFault → Faults → Faults → Type 0
CountsResult (Ok _) before after = after ≡ before
CountsResult (Err fault) before after = CountsBookFault fault before after

-- The count of store faults, one more once the book over another book has failed, at most the
-- greatest u64.
abbrev pub trip_count : Bool → ℕ → ℕ
trip_count false count = count
trip_count true count = if nat_lt count (2 ^ 64 - 1) then count + 1 else count

-- The fault counts of a book over another book.
abbrev pub with_trip : Bool → Faults → Faults
with_trip tripped faults =
    record { memory = faults.memory; store = trip_count tripped faults.store }

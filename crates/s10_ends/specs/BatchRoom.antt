-- The memory of a batch.
use Rattle.std.specs.Prelude.{ℕ, ◌+◌, ◌≤◌, List, vec_capacity}
use Rattle.s10_ends.specs.declared.batch_room.BatchRoom.{BatchRoom}
use Rattle.s10_ends.specs.declared.exchange.Exchange.{Exchange}
use Rattle.s10_ends.specs.Turn.{Turn}

-- The exchanges of the last batch.
abbrev pub exchanges_in : BatchRoom → List Exchange
exchanges_in room = room.taken.items

-- The turns of the last batch.
abbrev pub turns_in : BatchRoom → List Turn
turns_in room = room.turns.items

-- The room has memory for a batch of `most` datagrams: for each exchange and its turn, and for the
-- turn of a failed receive.
abbrev pub HasRoomFor : ℕ → BatchRoom → Type 0
HasRoomFor most room = (most ≤ vec_capacity room.taken) × (most + 1 ≤ vec_capacity room.turns)

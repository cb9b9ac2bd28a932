-- The parts of a world.
use Rattle.std.specs.Prelude.{ℕ, List, map}
use Rattle.s10_wire.specs.declared.request.Request.{Request}
use Rattle.s10_wire.specs.declared.reply.Reply.{Reply}
use Rattle.s10_wire.specs.declared.frame.Frame.{Frame}
use Rattle.s10_wire.specs.Reply.{request_of, outcome_of}
use Rattle.s10_history.specs.declared.entry.Entry.{Entry}
use Rattle.s10_book.specs.declared.faults.Faults.{Faults}
use Rattle.s10_ends.specs.declared.server.Server.{Server}
use Rattle.s10_ends.specs.Server.{book_of}
use Rattle.s10_ends.specs.Client.{ClientState}
use Rattle.s10_world.specs.declared.network.Network.{Network}
use Rattle.s10_world.specs.declared.network.WorldFault.{WorldFault}
use Rattle.s10_world.specs.declared.network.WorldFault.TheVariants.{Memory}
use Rattle.s10_world.specs.World.{Acceptance, WorldState}

-- The server.
abbrev pub server_of : {B : Type 0} → Network B → Server B
server_of w = w.server

-- The book of the server.
abbrev pub book_in : {B : Type 0} → Network B → B
book_in w = book_of (server_of w)

-- The states of the clients.
abbrev pub clients_of : {B : Type 0} → Network B → List ClientState
clients_of w = w.clients.items

-- The requests that were sent, in the order of sending.
abbrev pub asked_of : {B : Type 0} → Network B → List Frame
asked_of w = w.asked.items

-- The replies that were sent, in the order of sending.
abbrev pub replied_of : {B : Type 0} → Network B → List Frame
replied_of w = w.replied.items

-- The requests that were submitted, each with the index of its client.
abbrev pub submitted_of : {B : Type 0} → Network B → List (ℕ × Request)
submitted_of w = w.submitted.items

-- The replies that were accepted, each with the index of its client.
abbrev pub accepted_of : {B : Type 0} → Network B → List (ℕ × Reply)
accepted_of w = w.accepted.items

-- An accepted reply, with the index of its client, as an acceptance.
abbrev pub acceptance : ℕ × Reply → Acceptance
acceptance a = record { client = a.0; request = request_of a.1; outcome = outcome_of a.1 }

-- The state of a world, given how its book's history and counts of faults are read.
abbrev pub world_state_of : {B : Type 0} → (B → List Entry) → (B → Faults) → Network B → WorldState
world_state_of history faults w =
    record {
      history = history (book_in w);
      faults = faults (book_in w);
      asked = asked_of w;
      replied = replied_of w;
      submitted = submitted_of w;
      accepted = map acceptance (accepted_of w);
      clients = clients_of w;
    }

-- The index of the event that was not executed.
abbrev pub place_of : WorldFault → ℕ
place_of (Memory place) = place

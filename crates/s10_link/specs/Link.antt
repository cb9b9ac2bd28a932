-- How a call of a link changes its trace, by its result.
use Rattle.std.specs.Prelude.{◌≡◌, ◌-◌, ◌^◌, ◌++◌, ◌∷◌, [], length, Option, Some, None, Result, Ok, Err}
use Rattle.s10_link.specs.declared.trace.Trace.{Trace}
use Rattle.s10_link.specs.declared.peer.Peer.{Peer}
use Rattle.s10_link.specs.declared.packet.Packet.{Packet}
use Rattle.s10_wire.specs.declared.frame.Frame.{Frame}
use Rattle.s10_link.specs.declared.link_call.LinkCall.TheVariants as calls
use Rattle.s10_link.specs.declared.link_fault.LinkFault.{LinkFault}
use Rattle.s10_link.specs.declared.link_fault.LinkFault.TheVariants.{Bind, Receive, Send, Spent}

-- The trace of a link without calls.
abbrev pub new_trace : Trace
new_trace = []

-- The result of a receive.
abbrev pub ReceiveResult : Type 0
ReceiveResult = Result (Option (Peer × Packet)) LinkFault

-- The result of a send.
abbrev pub SendResult : Type 0
SendResult = Result (Unit {0}) LinkFault

-- A receive with this result leads from the old trace to the new one: it adds one call, with exactly
-- the datagram that it returns and its sender.
abbrev pub Receives : Trace → Trace → ReceiveResult → Type 0
Receives old new (Ok None) = new ≡ old ++ calls.Quiet ∷ []
Receives old new (Ok (Some p)) = new ≡ old ++ calls.Received p.0 p.1 ∷ []
Receives old new (Err Receive) = new ≡ old ++ calls.FailedReceive ∷ []
Receives old new (Err Spent) = (new ≡ old) × (length old ≡ 2 ^ 64 - 1)
Receives old new (Err Bind) = ⊥
Receives old new (Err Send) = ⊥

-- A send of a frame to a peer with this result leads from the old trace to the new one: it adds one
-- call, with exactly this frame and this peer.
abbrev pub Sends : Trace → Trace → Peer × Frame → SendResult → Type 0
Sends old new p (Ok _) = new ≡ old ++ calls.Sent p.0 p.1 ∷ []
Sends old new p (Err Send) = new ≡ old ++ calls.FailedSend p.0 p.1 ∷ []
Sends old new p (Err Spent) = new ≡ old
Sends old new p (Err Bind) = ⊥
Sends old new p (Err Receive) = ⊥

-- Any number of calls, each by such a step, lead from the old link to the new one.
pub data LeadsTo {L : Type 0} (Step : L → L → Type 0) : L → L → Type 0 where
  none : {link : L} → LeadsTo Step link link
  more : {old between new : L} → LeadsTo Step old between → Step between new → LeadsTo Step old new

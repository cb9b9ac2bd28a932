-- What a link carried.
use Rattle.std.specs.Prelude.{List, [], ◌∷◌}
use Rattle.std.specs.List.{flat_map}
use Rattle.s10_link.specs.declared.trace.Trace.{Trace}
use Rattle.s10_link.specs.declared.peer.Peer.{Peer}
use Rattle.s10_link.specs.declared.packet.Packet.{Packet}
use Rattle.s10_wire.specs.declared.frame.Frame.{Frame}
use Rattle.s10_link.specs.declared.link_call.LinkCall.{LinkCall}
use Rattle.s10_link.specs.declared.link_call.LinkCall.TheVariants as calls

-- The datagram that a call received, with its sender.
abbrev pub datagram_of : LinkCall → List (Peer × Packet)
datagram_of (calls.Received from packet) = (from, packet) ∷ []
datagram_of call = []

-- The frame that a call sent, with the peer that it was sent to.
abbrev pub frame_of : LinkCall → List (Peer × Frame)
frame_of (calls.Sent to frame) = (to, frame) ∷ []
frame_of call = []

-- The call, if it sent a frame or failed to send it.
abbrev pub send_of : LinkCall → List LinkCall
send_of (calls.Sent to frame) = calls.Sent to frame ∷ []
send_of (calls.FailedSend to frame) = calls.FailedSend to frame ∷ []
send_of call = []

-- The datagrams received, in order, each with its sender.
abbrev pub received_in : Trace → List (Peer × Packet)
received_in t = flat_map datagram_of t

-- The frames sent, in order, each with the peer that it was sent to. Those of failed sends are not
-- among them.
abbrev pub sent_in : Trace → List (Peer × Frame)
sent_in t = flat_map frame_of t

-- The sends, in order, each with its frame and its peer. Those that failed are among them.
abbrev pub sends_in : Trace → Trace
sends_in t = flat_map send_of t

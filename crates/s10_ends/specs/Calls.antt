-- What a call of a client does to the client and to the link.
use Rattle.std.specs.Prelude.{◌≡◌, ◌⊎◌, ℕ, ◌+◌, ◌<◌, List, [], ◌∷◌, ◌++◌, length, map, All}
use Rattle.std.specs.Prelude.{Option, Some, None, Result, Ok, Err}
use Rattle.s10_wire.specs.declared.body.Body.{Body}
use Rattle.s10_wire.specs.declared.request.Request.{Request}
use Rattle.s10_wire.specs.declared.outcome.Outcome.{Outcome}
use Rattle.s10_wire.specs.declared.reply.Reply.{Reply}
use Rattle.s10_link.specs.declared.trace.Trace.{Trace}
use Rattle.s10_link.specs.declared.peer.Peer.{Peer}
use Rattle.s10_link.specs.declared.packet.Packet.{Packet}
use Rattle.s10_wire.specs.declared.frame.Frame.{Frame}
use Rattle.s10_link.specs.declared.link_call.LinkCall.TheVariants as calls
use Rattle.s10_link.specs.declared.link_fault.LinkFault.{LinkFault}
use Rattle.s10_wire.specs.Datagrams.{Asks, Replies}
use Rattle.s10_wire.specs.Reply.{request_of, outcome_of}
use Rattle.s10_link.specs.Link.{Receives, Sends}
use Rattle.s10_ends.specs.declared.calls.CallFault.{CallFault}
use Rattle.s10_ends.specs.declared.calls.CallFault.TheVariants.{Submit, GaveUp, Link}
use Rattle.s10_ends.specs.Client.{ClientState, next_request, after_submit, submit_fault}
use Rattle.s10_ends.specs.Client.{without_pending}

-- The trace after these datagrams were received, each from its sender.
abbrev pub after_datagrams : Trace → List (Peer × Packet) → Trace
after_datagrams t datagrams = t ++ map (λ p. calls.Received p.0 p.1) datagrams

-- The bytes are no reply to the request.
abbrev pub IsNoReply : Request → Peer × Packet → Type 0
IsNoReply q p = (o : Outcome) → ¬ (Replies p.1 q o)

-- How one try ended after these datagrams, by its result: with the reply, after eight datagrams, with a
-- receive that got nothing, or with one that failed.
abbrev pub EndsTry : Request → List (Peer × Packet) → Trace → Trace → Result (Option Reply) LinkFault
    → Type 0
EndsTry q before t t' (Ok (Some reply)) = (length before < 8) × (p : Peer × Packet)
    × Receives t t' (Ok (Some p)) × Replies p.1 q (outcome_of reply)
EndsTry q before t t' (Ok None) = ((length before ≡ 8) × (t' ≡ t))
    ⊎ ((length before < 8) × Receives t t' (Ok None))
EndsTry q before t t' (Err fault) = (length before < 8) × Receives t t' (Err fault)

-- The receives of one try: of datagrams that are no reply to the request, and then the end of the try.
abbrev pub Hears : Request → Trace → Trace → Result (Option Reply) LinkFault → Type 0
Hears q t t' result = (before : List (Peer × Packet)) × All (IsNoReply q) before
    × EndsTry q before (after_datagrams t before) t' result

-- One try, by its result: it sends the frame, then receives. A send that failed ends it.
abbrev pub Tries : Peer × Frame → Request → Trace → Trace → Result (Option Reply) LinkFault → Type 0
Tries p q t t' (Ok found) = Hears q (t ++ calls.Sent p.0 p.1 ∷ []) t' (Ok found)
Tries p q t t' (Err fault) = Sends t t' p (Err fault)
    ⊎ Hears q (t ++ calls.Sent p.0 p.1 ∷ []) t' (Err fault)

-- n tries without a reply, one after another.
pub data TriesInVain (p : Peer × Frame) (q : Request) : Trace → ℕ → Trace → Type 0 where
  none : {t : Trace} → TriesInVain p q t 0 t
  more : {t between t' : Trace} {n : ℕ} → TriesInVain p q t n between
      → Tries p q between t' (Ok None) → TriesInVain p q t (n + 1) t'

-- Fewer than `tries` tries without a reply, and then one with this result.
abbrev pub TriesUntil : Peer × Frame → Request → Trace → Trace → ℕ
    → Result (Option Reply) LinkFault → Type 0
TriesUntil p q t t' tries result = (n : ℕ) × (n < tries) × (between : Trace)
    × TriesInVain p q t n between × Tries p q between t' result

-- The request was submitted and is not pending. Its number stays used.
pub record IsOver (c c' : ClientState) (body : Body) : Type 0 where
  pub submitted : submit_fault c ≡ None
  pub client : c' ≡ without_pending (after_submit c body)

-- What a call does to the client and to the link, by its result. Each frame that it sends asks the
-- request, and goes to the one peer.
abbrev pub Calls : ClientState → ClientState → Trace → Trace → Peer → Body → ℕ
    → Result Reply CallFault → Type 0
Calls c c' t t' to body tries (Ok reply) =
    IsOver c c' body × (request_of reply ≡ next_request c body)
    × (frame : Frame) × Asks frame (next_request c body)
    × TriesUntil (to, frame) (next_request c body) t t' tries (Ok (Some reply))
Calls c c' t t' to body tries (Err (Submit fault)) = (submit_fault c ≡ Some fault) × (c' ≡ c)
    × (t' ≡ t)
Calls c c' t t' to body tries (Err (GaveUp q)) =
    IsOver c c' body × (q ≡ next_request c body)
    × (frame : Frame) × Asks frame q × TriesInVain (to, frame) q t tries t'
Calls c c' t t' to body tries (Err (Link q fault)) =
    IsOver c c' body × (q ≡ next_request c body)
    × (frame : Frame) × Asks frame q × TriesUntil (to, frame) q t t' tries (Err fault)

-- What a try does to the client, by its result: it accepts the reply to the pending request, or leaves
-- the client unchanged.
abbrev pub AcceptsOwn : ClientState → ClientState → Result (Option Reply) LinkFault → Type 0
AcceptsOwn c c' (Ok (Some reply)) = (c.pending ≡ Some (request_of reply)) × (c' ≡ without_pending c)
AcceptsOwn c c' result = c' ≡ c

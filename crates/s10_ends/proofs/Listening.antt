-- Lemmas about the receives of one try of a call.
use Rattle.std.proofs.Common.{◌≡◌, ◌≢◌, ℕ, false, true, ◌+◌, ◌<◌, List, [], ◌∷◌, ◌++◌, length, map}
use Rattle.std.proofs.Common.{Option, Some, None, Ok, Err, refl, sym, ap, ◌∙◌, subst, inl, inr, arith}
use Rattle.std.proofs.Common.{append-nil, append_assoc, length-append}
use Rattle.std.specs.Prelude.{IsSome, All}
use Rattle.std.proofs.lemmas.List.{map-append}
use Rattle.std.proofs.lemmas.List.Elements.{All-nil, All-push}
use Rattle.std.proofs.lemmas.Option.{same_Some}
use Rattle.std.proofs.lemmas.Bool.{false≢true}
use Rattle.s10_link.specs.declared.trace.Trace.{Trace}
use Rattle.s10_link.specs.declared.peer.Peer.{Peer}
use Rattle.s10_link.specs.declared.packet.Packet.{Packet}
use Rattle.s10_link.specs.declared.link_call.LinkCall.TheVariants as calls
use Rattle.s10_wire.specs.declared.request.Request.{Request}
use Rattle.s10_wire.specs.declared.outcome.Outcome.{Outcome}
use Rattle.s10_wire.specs.declared.reply.Reply.{Reply}
use Rattle.s10_link.specs.declared.link_fault.LinkFault.{LinkFault}
use Rattle.s10_wire.specs.Datagrams.{Replies}
use Rattle.s10_link.specs.Link.{Receives}
use Rattle.s10_wire.proofs.Replied.{one_reply}
use Rattle.s10_ends.specs.declared.received.Received.{Received}
use Rattle.s10_ends.specs.declared.received.Received.TheVariants.{Malformed, Idle, NotMine}
use Rattle.s10_ends.specs.declared.received.Received.TheVariants.{Accepted}
use Rattle.s10_wire.specs.Reply.{request_of, outcome_of}
use Rattle.s10_ends.specs.Client.{ClientState, ClientReceives}
use Rattle.s10_ends.specs.Calls.{after_datagrams, IsNoReply, Hears}

-- k datagrams were received that are no reply to the pending request.
pub record Hearing (c : ClientState) (t m : Trace) (k : ℕ) : Type 0 where
  pub before : List (Peer × Packet)
  pub received : m ≡ after_datagrams t before
  pub count : length before ≡ k
  pub none : (q : Request) → c.pending ≡ Some q → All (IsNoReply q) before

pub hearing_none : (c : ClientState) (t : Trace) → Hearing c t t 0
hearing_none c t = record {
  before = [];
  received = sym (append-nil t);
  count = refl;
  none = λ q pends. All-nil (IsNoReply q);
}

pub hearing_datagram : (c : ClientState) (t m m' : Trace) (k : ℕ) (from : Peer) (packet : Packet)
    → Hearing c t m k → m' ≡ m ++ calls.Received from packet ∷ []
    → ((q : Request) → c.pending ≡ Some q → (o : Outcome) → ¬ (Replies packet q o))
    → Hearing c t m' (k + 1)
hearing_datagram c t m m' k from packet h is other = record {
  before = h.before ++ (from, packet) ∷ [];
  received = is ∙ ap (λ (x : Trace). x ++ calls.Received from packet ∷ []) h.received
      ∙ append_assoc t (map (λ p. calls.Received p.0 p.1) h.before) (calls.Received from packet ∷ [])
      ∙ ap (λ (x : Trace). t ++ x)
      (sym (map-append (λ p. calls.Received p.0 p.1) h.before ((from, packet) ∷ [])));
  count = omega (arith, length-append h.before ((from, packet) ∷ []), h.count);
  none = λ q pends. All-push (IsNoReply q) h.before (from, packet) (h.none q pends) (other q pends);
}

module _ (c : ClientState) (t m : Trace) (k : ℕ) (h : Hearing c t m k) (q : Request)
    (pends : c.pending ≡ Some q) where
  -- A receive got nothing after k datagrams.
  pub hears_quiet : (m' : Trace) → k < 8 → Receives m m' (Ok None) → Hears q t m' (Ok None)
  hears_quiet m' few is = (
    h.before,
    h.none q pends,
    inr (omega (arith, h.count), subst (λ x. Receives x m' (Ok None)) h.received is),
  )

  pub hears_eight : k ≡ 8 → Hears q t m (Ok None)
  hears_eight all = (h.before, h.none q pends, inl (h.count ∙ all, h.received))

  -- A receive failed after k datagrams.
  pub hears_failed : (m' : Trace) (fault : LinkFault) → k < 8 → Receives m m' (Err fault)
      → Hears q t m' (Err fault)
  hears_failed m' fault few is = (
    h.before,
    h.none q pends,
    (omega (arith, h.count), subst (λ x. Receives x m' (Err fault)) h.received is),
  )

  -- A datagram was accepted after k others.
  pub hears_reply : (c' : ClientState) (b : List ℕ) (m' : Trace) (from : Peer) (packet : Packet)
      (reply : Reply) → k < 8 → m' ≡ m ++ calls.Received from packet ∷ [] → b ≡ packet
      → (c.pending ≡ Some (request_of reply)) → Replies b (request_of reply) (outcome_of reply)
      → Hears q t m' (Ok (Some reply))
  hears_reply c' b m' from packet reply few is same own replies =
      let asked : request_of reply ≡ q = same_Some (request_of reply) q (sym own ∙ pends) in (
        h.before,
        h.none q pends,
        (
          omega (arith, h.count),
          (from, packet),
          subst (λ x. Receives x m' (Ok (Some (from, packet)))) h.received is,
          subst (λ x. Replies packet x (outcome_of reply)) asked
              (subst (λ x. Replies x (request_of reply) (outcome_of reply)) same replies),
        ),
      )

no_reply_to : (b : List ℕ) (q p : Request) (o : Outcome) → Replies b q o → p ≢ q → (o' : Outcome)
    → ¬ (Replies b p o')
no_reply_to b q p o replies other o' wrong = other (one_reply b p q o' o wrong replies).0

-- A datagram that is not accepted leaves the client unchanged. It is no reply to the pending
-- request.
pub unaccepted : (c c' : ClientState) (b : List ℕ) (received : Received)
    → ClientReceives c b received c' → ((reply : Reply) → received ≡ Accepted reply → ⊥)
    → IsSome c.pending
    → (c' ≡ c) × ((q : Request) → c.pending ≡ Some q → (o : Outcome) → ¬ (Replies b q o))
unaccepted c c' b (Malformed fault) r other some = (r.2, λ q pends o replies. r.0 (q, o, replies))
unaccepted c c' b Idle r other some =
    let P : Option Request → Type 0 = λ o. IsSome o in
    let wrong : false ≡ true = subst P r.1 some in
    absurd (false≢true wrong)
unaccepted c c' b NotMine r other some =
    let own : (q : Request) → c.pending ≡ Some q → (o : Outcome) → ¬ (Replies b q o) = λ q pends.
    let same : r.1 ≡ q = same_Some r.1 q (sym r.4 ∙ pends) in
    let P : Request → Type 0 = λ x. (o : Outcome) → ¬ (Replies b x o) in
    subst P same (no_reply_to b r.0 r.1 r.2 r.3 r.5) in
    (r.6, own)
unaccepted c c' b (Accepted reply) r other some = absurd (other reply refl)

-- The same for the packet with these bytes, and the request that was pending before.
pub unaccepted_packet : (c c0 : ClientState) (b : List ℕ) (packet : Packet) → c ≡ c0 → b ≡ packet
    → ((q : Request) → c.pending ≡ Some q → (o : Outcome) → ¬ (Replies b q o))
    → (q : Request) → c0.pending ≡ Some q → (o : Outcome) → ¬ (Replies packet q o)
unaccepted_packet c c0 b packet client is none =
    let P : List ℕ → Type 0 = λ x. (q : Request) → c0.pending ≡ Some q → (o : Outcome)
    → ¬ (Replies x q o) in
    let Q : ClientState → Type 0 = λ s. (q : Request) → s.pending ≡ Some q → (o : Outcome)
    → ¬ (Replies b q o) in
    subst P is (subst Q client none)

-- Lemmas about what a client does with a datagram.
use Rattle.std.proofs.Common.{◌≡◌, ◌∙◌, Bool, false, List, ℕ, Option, Some, None, refl, sym, ap}
use Rattle.std.specs.Prelude.{◌↔◌, IsTrue}
use Rattle.std.proofs.lemmas.Bool.{false≢true}
use Rattle.s10_wire.specs.declared.request.Request.{Request}
use Rattle.s10_wire.specs.declared.outcome.Outcome.{Outcome}
use Rattle.s10_wire.specs.declared.reply.Reply.{Reply}
use Rattle.s10_wire.specs.declared.wire_fault.WireFault.{WireFault}
use Rattle.s10_wire.specs.Datagrams.{Replies}
use Rattle.s10_wire.specs.WireFault.{IsFirstRefusalOfReply}
use Rattle.s10_wire.specs.Reply.{request_of, outcome_of}
use Rattle.s10_ends.specs.declared.received.Received.TheVariants.{Malformed, Idle, NotMine}
use Rattle.s10_ends.specs.Client.{ClientState, ClientReceives}

pub no_reply : (c : ClientState) (b : List ℕ) (fault : WireFault)
    → ((q : Request) (o : Outcome) → ¬ (Replies b q o)) → IsFirstRefusalOfReply b fault
    → ClientReceives c b (Malformed fault) c
no_reply c b fault nothing refused = (λ is. nothing is.0 is.1 is.2, refused, refl)

module _ (inside c : ClientState) (view : inside ≡ c) (b : List ℕ) (reply : Reply)
    (replies : Replies b (request_of reply) (outcome_of reply)) where
  pending_is : (pending : Option Request) → inside.pending ≡ pending → c.pending ≡ pending
  pending_is pending is = ap (λ (s : ClientState). s.pending) (sym view) ∙ is

  pub nothing_waits : inside.pending ≡ None → ClientReceives c b Idle c
  nothing_waits waits = ((request_of reply, outcome_of reply, replies), pending_is None waits, refl)

  pub of_another : (pending replied : Request) → inside.pending ≡ Some pending
      → replied ≡ request_of reply → (same : Bool) → (IsTrue same ↔ (pending ≡ replied))
      → same ≡ false → ClientReceives c b NotMine c
  of_another pending replied waits is same compared differ = (
    request_of reply,
    pending,
    outcome_of reply,
    replies,
    pending_is (Some pending) waits,
    λ alike. false≢true (sym differ ∙ compared.1 (alike ∙ sym is)),
    refl,
  )

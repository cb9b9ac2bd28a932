-- Lemmas about the tries of a call.
use Rattle.std.proofs.Common.{◌≡◌, ℕ, ◌<◌, [], ◌∷◌, ◌++◌, Option, Some, None, Result, Ok}
use Rattle.std.proofs.Common.{Err, sym, ap, ◌∙◌, subst, inl, inr}
use Rattle.std.specs.Prelude.{IsErrAnd}
use Rattle.s10_link.specs.declared.trace.Trace.{Trace}
use Rattle.s10_link.specs.declared.peer.Peer.{Peer}
use Rattle.s10_link.specs.declared.link_call.LinkCall.TheVariants as calls
use Rattle.s10_wire.specs.declared.frame.Frame.{Frame}
use Rattle.s10_wire.specs.declared.request.Request.{Request}
use Rattle.s10_link.specs.declared.link_fault.LinkFault.{LinkFault}
use Rattle.s10_link.specs.Link.{Sends}
use Rattle.std.proofs.lemmas.Option.{same_Some}
use Rattle.s10_wire.specs.declared.body.Body.{Body}
use Rattle.s10_wire.specs.declared.reply.Reply.{Reply}
use Rattle.s10_wire.specs.Datagrams.{Asks}
use Rattle.s10_ends.specs.declared.calls.CallFault.TheVariants.{GaveUp, Link}
use Rattle.s10_ends.specs.Client.{ClientState, next_request, after_submit, submit_fault}
use Rattle.s10_ends.specs.Client.{without_pending}
use Rattle.s10_ends.specs.Calls.{Hears, Tries, TriesInVain, TriesUntil, AcceptsOwn, Calls}
use Rattle.s10_ends.proofs.Turns.{same_error}

-- The frame was not sent.
pub unsent : (t t' : Trace) (p : Peer × Frame) (q : Request) (fault : LinkFault)
    (r : Result (Option Reply) LinkFault) → Sends t t' p (Err fault) → IsErrAnd r (λ e. e ≡ fault)
    → Tries p q t t' r
unsent t t' p q fault r sends passed =
    let P : Result (Option Reply) LinkFault → Type 0 = λ x. Tries p q t t' x in
    let here : Tries p q t t' (Err fault) = inl sends in
    subst P (sym (same_error r fault passed)) here

-- The frame was sent, and the receives followed.
pub listened : (t between t' : Trace) (p : Peer × Frame) (q : Request)
    (r : Result (Option Reply) LinkFault) → between ≡ t ++ calls.Sent p.0 p.1 ∷ []
    → Hears q between t' r → Tries p q t t' r
listened t between t' p q (Ok found) sent hears = subst (λ x. Hears q x t' (Ok found)) sent hears
listened t between t' p q (Err fault) sent hears =
    inr (subst (λ x. Hears q x t' (Err fault)) sent hears)

module _ (c c1 : ClientState) (t m t' : Trace) (to : Peer) (body : Body) (tries k : ℕ)
    (frame : Frame) (q : Request) (free : None ≡ submit_fault c) (own : q ≡ next_request c body)
    (asks : Asks frame q) (client : c1 ≡ after_submit c body)
    (tried : TriesInVain (to, frame) (next_request c body) t k m) where
  pub pends : c1.pending ≡ Some (next_request c body)
  pends = ap (λ (x : ClientState). x.pending) client

  -- The reply to the pending request was accepted.
  pub accepted_call : (c' : ClientState) (reply : Reply) → k < tries
      → ((r : Request) → c1.pending ≡ Some r → Tries (to, frame) r m t' (Ok (Some reply)))
      → AcceptsOwn c1 c' (Ok (Some reply)) → Calls c c' t t' to body tries (Ok reply)
  accepted_call c' reply few last accepts = (
    record { submitted = sym free; client = accepts.1 ∙ ap without_pending client },
    same_Some _ _ (sym accepts.0 ∙ pends),
    frame,
    subst (λ x. Asks frame x) own asks,
    (k, few, m, tried, last (next_request c body) pends),
  )

  -- The link refused a call.
  pub stopped_call : (c2 c' : ClientState) (fault : LinkFault) → k < tries
      → ((r : Request) → c1.pending ≡ Some r → Tries (to, frame) r m t' (Err fault))
      → AcceptsOwn c1 c2 (Err fault) → c' ≡ without_pending c2
      → Calls c c' t t' to body tries (Err (Link q fault))
  stopped_call c2 c' fault few last accepts given_up = (
    record { submitted = sym free; client = given_up ∙ ap without_pending (accepts ∙ client) },
    own,
    frame,
    asks,
    subst (λ x. TriesUntil (to, frame) x t t' tries (Err fault)) (sym own)
        (k, few, m, tried, last (next_request c body) pends),
  )

  -- No try got a reply.
  pub gave_up_call : (c' : ClientState) → k ≡ tries → t' ≡ m → c' ≡ without_pending c1
      → Calls c c' t t' to body tries (Err (GaveUp q))
  gave_up_call c' all same given_up = (
    record { submitted = sym free; client = given_up ∙ ap without_pending client },
    own,
    frame,
    asks,
    subst (λ x. TriesInVain (to, frame) x t tries t') (sym own)
        (subst (λ n. TriesInVain (to, frame) (next_request c body) t n t') all
        (subst (λ x. TriesInVain (to, frame) (next_request c body) t k x) (sym same) tried)),
  )

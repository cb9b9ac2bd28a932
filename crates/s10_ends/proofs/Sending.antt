-- Lemmas about exchanges and their turns, one more at a time.
use Rattle.std.proofs.Common.{◌≡◌, ◌∙◌, ap, refl, List, [], ◌∷◌, ◌++◌, append-nil, sym, inl, inr, Err}
use Rattle.std.specs.List.{AllZip, zip, flat_map}
use Rattle.std.proofs.lemmas.Grind.{flat_map-append}
use Rattle.s10_wire.specs.declared.frame.Frame.{Frame}
use Rattle.s10_link.specs.declared.trace.Trace.{Trace}
use Rattle.s10_link.specs.declared.peer.Peer.{Peer}
use Rattle.s10_link.specs.declared.link_fault.LinkFault.{LinkFault}
use Rattle.s10_link.specs.declared.link_fault.LinkFault.TheVariants.{Bind, Receive, Send, Spent}
use Rattle.s10_link.specs.Link.{Sends}
use Rattle.s10_ends.specs.declared.answer.Answer.TheVariants.{Reply}
use Rattle.s10_ends.specs.declared.exchange.Exchange.{Exchange}
use Rattle.s10_ends.specs.Turn.{Turn, IsSentTurn, sends_for}
use Rattle.s10_ends.specs.Batch.{sends_of}

module _ {A B : Type 0} (R : A → B → Type 0) where
  pub all_zip_more : (xs : List A) (ys : List B) (x : A) (y : B) → AllZip R xs ys → R x y
      → AllZip R (xs ++ x ∷ []) (ys ++ y ∷ [])
  all_zip_more [] [] x y all is = (is, tt)
  all_zip_more [] (z ∷ zs) x y all is = absurd all
  all_zip_more (w ∷ ws) [] x y all is = absurd all
  all_zip_more (w ∷ ws) (z ∷ zs) x y all is = (all.0, all_zip_more ws zs x y all.1 is)

  zip_more : (xs : List A) (ys : List B) (x : A) (y : B) → AllZip R xs ys
      → zip (xs ++ x ∷ []) (ys ++ y ∷ []) ≡ zip xs ys ++ (x, y) ∷ []
  zip_more [] [] x y all = refl
  zip_more [] (z ∷ zs) x y all = absurd all
  zip_more (w ∷ ws) [] x y all = absurd all
  zip_more (w ∷ ws) (z ∷ zs) x y all = ap (λ l. (w, z) ∷ l) (zip_more ws zs x y all.1)

pub sends_more : (R : Exchange → Turn → Type 0) (taken : List Exchange) (answered : List Turn)
    (next : Exchange) (turn : Turn) → AllZip R taken answered
    → sends_of (taken ++ next ∷ []) (answered ++ turn ∷ [])
    ≡ sends_of taken answered ++ sends_for next.answer next.from turn
sends_more R taken answered next turn all =
    ap (λ l. flat_map (λ p. sends_for p.0.answer p.0.from p.1) l) (zip_more R taken answered next turn all)
    ∙ flat_map-append (λ p. sends_for p.0.answer p.0.from p.1) (zip taken answered) ((next, turn) ∷ [])
    ∙ ap (λ l. sends_of taken answered ++ l) (append-nil (sends_for next.answer next.from turn))

-- A send failed.
pub send_failed : (old new : Trace) (to : Peer) (frame : Frame) (fault : LinkFault)
    → Sends old new (to, frame) (Err fault)
    → IsSentTurn to frame (Err fault) × (new ≡ old ++ sends_for (Reply frame) to (Err fault))
send_failed old new to frame Send is = (inl refl, is)
send_failed old new to frame Spent is = (inr refl, is ∙ sym (append-nil old))
send_failed old new to frame Bind is = absurd is
send_failed old new to frame Receive is = absurd is

-- Lemmas about the results of a receive.
use Rattle.std.proofs.Common.{◌≡◌, List, [], ◌∷◌, ◌++◌, ℕ, Option, Some, None, Result, Ok, Err, refl, sym, ap}
use Rattle.std.proofs.Common.{subst}
use Rattle.std.specs.Prelude.{IsErrAnd}
use Rattle.s10_link.specs.declared.trace.Trace.{Trace}
use Rattle.s10_link.specs.declared.peer.Peer.{Peer}
use Rattle.s10_link.specs.declared.packet.Packet.{Packet}
use Rattle.s10_link.specs.declared.link_fault.LinkFault.{LinkFault}
use Rattle.s10_link.specs.declared.link_call.LinkCall.TheVariants as calls
use Rattle.s10_link.specs.Link.{Receives}
use Rattle.s10_ends.specs.declared.answer.Answer.{Answer}
use Rattle.s10_ends.specs.declared.exchange.Exchange.{Exchange}
use Rattle.s10_ends.specs.Turn.{Takes}

-- The same fault is returned.
pub same_error : {T : Type 0} → (r : Result T LinkFault) (fault : LinkFault)
    → IsErrAnd r (λ e. e ≡ fault) → r ≡ Err fault
same_error (Ok x) fault passed = absurd passed
same_error (Err e) fault passed = ap (λ (f : LinkFault). Err f) passed

-- A receive got a datagram.
pub taken_is : (old new : Trace) (o : Option (Peer × Packet)) (p : Peer × Packet)
    → Receives old new (Ok o) → o ≡ Some p → new ≡ old ++ calls.Received p.0 p.1 ∷ []
taken_is old new o p received is = let P : Option (Peer × Packet) → Type 0 =
    λ x. Receives old new (Ok x) in subst P is received

pub taken_with : (old new : Trace) (o : Option (Peer × Packet)) (from : Peer) (packet own : Packet)
    → Receives old new (Ok o) → o ≡ Some (from, packet) → packet ≡ own
    → new ≡ old ++ calls.Received from own ∷ []
taken_with old new o from packet own received is same = let P : Packet → Type 0 =
    λ x. new ≡ old ++ calls.Received from x ∷ [] in
    subst P same (taken_is old new o (from, packet) received is)

-- A receive got nothing.
pub quiet_is : (old new : Trace) (o : Option (Peer × Packet)) → Receives old new (Ok o) → o ≡ None
    → new ≡ old ++ calls.Quiet ∷ []
quiet_is old new o received is = let P : Option (Peer × Packet) → Type 0 =
    λ x. Receives old new (Ok x) in subst P is received

-- A receive failed.
pub failed_take : {B : Type 0} (Handled : B → B → List ℕ → Answer → Type 0) (old new : Trace)
    (book : B) (fault : LinkFault) (r : Result (Option Exchange) LinkFault)
    → Receives old new (Err fault) → IsErrAnd r (λ e. e ≡ fault)
    → Takes Handled (old, book) (new, book) r
failed_take {B} Handled old new book fault r received passed =
    let P : Result (Option Exchange) LinkFault → Type 0 = λ x. Takes Handled (old, book) (new, book)
    x in
    let here : Takes Handled (old, book) (new, book) (Err fault) = (received, refl) in
    subst P (sym (same_error r fault passed)) here

-- The result of a receive, under another name.
pub found_as : {B : Type 0} (Handled : B → B → List ℕ → Answer → Type 0) (old new : Trace × B)
    (found same : Option Exchange) → found ≡ same → Takes Handled old new (Ok found)
    → Takes Handled old new (Ok same)
found_as Handled old new found same is took =
    let P : Option Exchange → Type 0 = λ o. Takes Handled old new (Ok o) in subst P is took

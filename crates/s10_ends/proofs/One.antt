-- Lemmas about one delivery.
use Rattle.std.proofs.Common.{◌≡◌, ◌∙◌, ℕ, zero, suc, List, [], ◌∷◌, take, subst, Some, refl, sym}
use Rattle.std.proofs.Common.{ap}
use Rattle.std.specs.Prelude.{◌↔◌, slice_get}
use Rattle.std.proofs.lemmas.Option.{none-some, same_Some}
use Rattle.s10_wire.specs.declared.request.Request.{Request}
use Rattle.s10_wire.specs.declared.outcome.Outcome.{Outcome}
use Rattle.s10_wire.specs.declared.wire_fault.WireFault.{WireFault}
use Rattle.s10_wire.specs.declared.frame.Frame.{Frame}
use Rattle.s10_wire.specs.Datagrams.{Asks, Replies}
use Rattle.s10_wire.specs.WireFault.{IsFirstRefusalOfRequest}
use Rattle.s10_history.specs.declared.entry.Entry.{Entry}
use Rattle.s10_book.specs.declared.book_fault.BookFault.{BookFault}
use Rattle.s10_book.specs.declared.book_fault.BookFault.TheVariants.{Full}
use Rattle.s10_history.specs.Settings.{Terms}
use Rattle.s10_history.specs.History.{find_entry}
use Rattle.s10_book.specs.Once.{applied_once}
use Rattle.s10_ends.specs.declared.answer.Answer.{Answer}
use Rattle.s10_ends.specs.declared.answer.Answer.TheVariants.{Reply, Dropped, Faulted}
use Rattle.s10_ends.specs.Served.{Dated, AskNothing, GivesOutcome, IsFullFor, not_faulted, Served}
use Rattle.s10_ends.specs.Served.AreAsked.{none, nothing, request}
use Rattle.s10_ends.proofs.Whole.{FullBefore}

-- Bytes that ask nothing are dropped with their first refusal, and with no other fault.
pub only_first : (b : List ℕ) (fault told : WireFault) → AskNothing b
    → IsFirstRefusalOfRequest b fault → (Dropped fault ≡ Dropped told)
    ↔ (AskNothing b × IsFirstRefusalOfRequest b told)
only_first b fault told asks refused =
    let P : WireFault → Type 0 = λ f. IsFirstRefusalOfRequest b f in (
      λ same. let is : fault ≡ told = cc in (asks, subst P is refused),
      λ other. ap (λ (f : WireFault). Dropped f) (same_Some fault told (sym refused ∙ other.1)),
    )

-- Bytes that ask something are not dropped.
pub not_dropped : (b : List ℕ) (q : Request) (a : Answer) (told : WireFault) → Asks b q
    → ¬ (a ≡ Dropped told) → (a ≡ Dropped told) ↔ (AskNothing b × IsFirstRefusalOfRequest b told)
not_dropped b q a told asks other =
    (λ same. absurd (other same), λ nothing. absurd (nothing.0 q asks))

pub reply_not_dropped : (frame : Frame) (told : WireFault) → ¬ (Reply frame ≡ Dropped told)
reply_not_dropped frame told same = cc

pub faulted_not_dropped : (fault : BookFault) (told : WireFault) → ¬ (Faulted fault ≡ Dropped told)
faulted_not_dropped fault told same = cc

-- The answer is not Full.
not_full : (a : Answer) (k : ℕ) → (a ≡ Faulted Full → ⊥) → slice_get (a ∷ []) k
    ≡ Some (Faulted Full) → ⊥
not_full a zero other at = other (same_Some a (Faulted Full) at)
not_full a (suc k) other at = none-some (Faulted Full) at

pub Served-dropped : (h : List Entry) (t : Terms) (b : List ℕ) (day : ℕ) (fault : WireFault)
    → AskNothing b → Served h t ((b, day) ∷ []) (Dropped fault ∷ []) h
Served-dropped h t b day fault asks =
    record {
      once_each = ([], nothing asks none, refl);
      answered = (asks, tt);
      full = λ k d is at. absurd (not_full (Dropped fault) k (λ e. cc) at);
    }

pub Served-reply : (h h' : List Entry) (t : Terms) (b : List ℕ) (day : ℕ) (q : Request)
    (o : Outcome) (frame : Frame) → Asks b q → h' ≡ applied_once h ((q, day) ∷ []) t.interval
    → GivesOutcome (find_entry h' q.customer q.number) q o → Replies frame q o
    → Served h t ((b, day) ∷ []) (Reply frame ∷ []) h'
Served-reply h h' t b day q o frame asks applied gives replies =
    record {
      once_each = ((q, day) ∷ [], request asks none, applied);
      answered = ((q, o, asks, gives, replies), tt);
      full =
          λ k d is at. absurd (not_full (Reply frame) k (λ e. cc) at);
    }

faulted_full : (h : List Entry) (t : Terms) (b : List ℕ) (day : ℕ) (q : Request) (fault : BookFault)
    → Asks b q → (fault ≡ Full → IsFullFor h t q)
    → (k : ℕ) (d : Dated) → slice_get ((b, day) ∷ []) k ≡ Some d → slice_get (Faulted fault ∷ []) k
    ≡ Some (Faulted Full)
    → FullBefore h t (not_faulted (take k ((b, day) ∷ [])) (take k (Faulted fault ∷ []))) d
faulted_full h t b day q fault asks full zero d is at =
    let e : (b, day) ≡ d = same_Some (b, day) d is in
    let same : fault ≡ Full = cc in
    let P : Dated → Type 0 = λ x. Asks x.0 q in
    (h, q, ([], none, refl), subst P e asks, full same)
faulted_full h t b day q fault asks full (suc k) d is at = absurd (none-some d is)

pub Served-faulted : (h h' : List Entry) (t : Terms) (b : List ℕ) (day : ℕ) (q : Request)
    (fault : BookFault) → Asks b q → h' ≡ h
    → (fault ≡ Full → IsFullFor h t q) → Served h t ((b, day) ∷ []) (Faulted fault ∷ []) h'
Served-faulted h h' t b day q fault asks same full =
    record {
      once_each = ([], none, same);
      answered = ((q, asks), tt);
      full = faulted_full h t b day q fault asks full;
    }

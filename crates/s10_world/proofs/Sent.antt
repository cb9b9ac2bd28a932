-- Lemmas about what the calls of one event do to the world.
use Rattle.std.proofs.Common.{◌≡◌, ◌∙◌, ℕ, ◌≤◌, cond, List, [], ◌∷◌, ◌++◌, map, length, Option}
use Rattle.std.proofs.Common.{Some, None, refl, sym, ap, subst, inl, inr}
use Rattle.std.specs.Prelude.{slice_get, slice_set, is_some}
use Rattle.std.proofs.lemmas.List.{map-append}
use Rattle.std.proofs.lemmas.Option.{none-some, same_Some}
use Rattle.s10_wire.specs.declared.body.Body.{Body}
use Rattle.s10_wire.specs.declared.request.Request.{Request}
use Rattle.s10_wire.specs.declared.outcome.Outcome.{Outcome}
use Rattle.s10_wire.specs.declared.reply.Reply.{Reply}
use Rattle.s10_wire.specs.declared.frame.Frame.{Frame}
use Rattle.s10_wire.specs.Reply.{request_of, outcome_of}
use Rattle.s10_wire.specs.Datagrams.{Asks}
use Rattle.s10_wire.proofs.Replied.{one_reply}
use Rattle.s10_history.specs.declared.entry.Entry.{Entry}
use Rattle.s10_book.specs.declared.book_fault.BookFault.{BookFault}
use Rattle.s10_book.specs.declared.book_fault.BookFault.TheVariants.{Memory, Store, Full}
use Rattle.s10_book.specs.declared.faults.Faults.{Faults}
use Rattle.s10_book.specs.BookFault.{CountsFault}
use Rattle.s10_history.specs.Settings.{Terms}
use Rattle.s10_history.specs.History.{find_entry}
use Rattle.s10_book.specs.Once.{applied, applied_once}
use Rattle.s10_ends.specs.declared.answer.Answer.TheVariants.{Reply as replied_with, Faulted}
use Rattle.s10_ends.specs.declared.client.SubmitFault.{SubmitFault}
use Rattle.s10_ends.specs.declared.received.Received.{Received}
use Rattle.s10_ends.specs.declared.received.Received.TheVariants.{Malformed, Idle, NotMine}
use Rattle.s10_ends.specs.declared.received.Received.TheVariants.{Accepted}
use Rattle.s10_ends.specs.Served.{AskNothing, IsOwed, IsFullFor, Served}
use Rattle.s10_ends.specs.Client.{ClientState, next_request, after_submit, submit_fault, IsOwnReply}
use Rattle.s10_ends.specs.Client.{ClientReceives, AsksPending}
use Rattle.s10_world.specs.World.{Acceptance, WorldState, after_submit_by, SendsPending, Resends}
use Rattle.s10_world.specs.World.{ReachesServer, DeliversReply}
use Rattle.s10_world.specs.Parts.{acceptance}
use Rattle.s10_world.proofs.Places.{set_same}
use Rattle.s10_ends.proofs.Applied.{once_one}
use Rattle.s10_world.proofs.Once.{none_asked, one_asked, room_at}

pub submit_refused : (w : WorldState) (k : ℕ) (body : Body) (c c' : ClientState)
    (fault : SubmitFault) (submitted : List (ℕ × Request))
    → slice_get w.clients k ≡ Some c → Some fault ≡ submit_fault c → c' ≡ c
    → submitted ≡ w.submitted
    → record w { submitted = submitted; clients = slice_set w.clients k c' } ≡ after_submit_by w k
    body (slice_get w.clients k)
submit_refused w k body c c' fault submitted there refused same sub =
    let cs : slice_set w.clients k c' ≡ w.clients = set_same w.clients k c c' there same in
    let was : record w { submitted = submitted; clients = slice_set w.clients k c' } ≡ w =
    rw (sub, cs) refl in
    was ∙ sym (ap (after_submit_by w k body) there
    ∙ ap (λ (o : Option SubmitFault). cond (is_some o) w
    (record w {
      submitted = w.submitted ++ (k, next_request c body) ∷ [];
      clients = slice_set w.clients k (after_submit c body);
    })) (sym refused))

pub submit_taken : (w : WorldState) (k : ℕ) (body : Body) (c c' : ClientState) (q : Request)
    (submitted : List (ℕ × Request))
    → slice_get w.clients k ≡ Some c → None ≡ submit_fault c → c' ≡ after_submit c body
    → q ≡ next_request c body → submitted ≡ w.submitted ++ (k, q) ∷ []
    → record w { submitted = submitted; clients = slice_set w.clients k c' } ≡ after_submit_by w k
    body (slice_get w.clients k)
submit_taken w k body c c' q submitted there free next asks sub =
    let now : record w { submitted = submitted; clients = slice_set w.clients k c' }
    ≡ record w {
      submitted = w.submitted ++ (k, next_request c body) ∷ [];
      clients = slice_set w.clients k (after_submit c body);
    } = rw (sub, next, asks) refl in
    now ∙ sym (ap (after_submit_by w k body) there
    ∙ ap (λ (o : Option SubmitFault). cond (is_some o) w
    (record w {
      submitted = w.submitted ++ (k, next_request c body) ∷ [];
      clients = slice_set w.clients k (after_submit c body);
    })) (sym free))

sends : (w : WorldState) (pending : Option Request) (frame : Frame) (asked : List (List ℕ))
    → AsksPending pending (Some frame)
    → asked ≡ w.asked ++ frame ∷ [] → SendsPending w pending (record w { asked = asked })
sends w None frame asked is grown = absurd is
sends w (Some q) frame asked is grown =
    (frame, is, ap (λ (l : List (List ℕ)). record w { asked = l }) grown)

-- The list after an element was pushed into reserved capacity.
pub one_more : {X Y : Type 0} (f : X → Y) (xs reserved pushed : List X) (x : X)
    → pushed ≡ reserved ++ x ∷ [] → reserved ≡ xs → map f pushed ≡ map f xs ++ f x ∷ []
one_more f xs reserved pushed x grown same = ap (map f) (grown ∙ ap (λ l. l ++ x ∷ []) same)
    ∙ map-append f xs (x ∷ [])

pub resent : (w : WorldState) (k : ℕ) (c : ClientState) (frame : Frame) (asked : List (List ℕ))
    → slice_get w.clients k ≡ Some c → AsksPending c.pending (Some frame) → asked ≡ w.asked ++ frame
    ∷ []
    → Resends w (slice_get w.clients k) (record w { asked = asked })
resent w k c frame asked there is grown = rw there (sends w c.pending frame asked is grown)

pub reached_reply : (w : WorldState) (t : Terms) (b : List ℕ) (day : ℕ) (frame : Frame)
    (h : List Entry) (faults : Faults) (replied : List (List ℕ))
    → Served w.history t ((b, day) ∷ []) (replied_with frame ∷ []) h → length h ≤ t.limit
    → faults ≡ w.faults → replied ≡ w.replied ++ frame ∷ []
    → ReachesServer t w b day (record w { history = h; faults = faults; replied = replied })
reached_reply w t b day frame h faults replied served few same grown =
    let q : Request = served.answered.0.0 in
    let asks : Asks b q = served.answered.0.2 in
    let once : h ≡ applied_once w.history ((q, day) ∷ []) t.interval =
    served.once_each.2 ∙ ap (λ l. applied_once w.history l t.interval)
    (one_asked b day served.once_each.0 q asks served.once_each.1) in
    let short : length (cond (is_some (find_entry w.history q.customer q.number)) w.history
    (applied t.interval w.history (q, day))) ≤ t.limit =
    subst (λ (l : List Entry). length l ≤ t.limit) (once ∙ once_one w.history q day t.interval)
    few in
    let owed : IsOwed (applied_once w.history ((q, day) ∷ []) t.interval) b frame =
    subst (λ (l : List Entry). IsOwed l b frame) once served.answered.0 in
    inr (
      q,
      asks,
      inr (inr (
        room_at (find_entry w.history q.customer q.number) w.history _ t.limit short,
        frame,
        owed,
        rw (once, same, grown) refl,
      )),
    )

pub reached_nothing : (w : WorldState) (t : Terms) (b : List ℕ) (day : ℕ) (h : List Entry)
    (faults : Faults)
    → AskNothing b → h ≡ w.history → faults ≡ w.faults
    → ReachesServer t w b day (record w { history = h; faults = faults })
reached_nothing w t b day h faults nothing same count = inl (nothing, rw (same, count) refl)

pub reached_fault : (w : WorldState) (t : Terms) (b : List ℕ) (day : ℕ) (fault : BookFault)
    (h : List Entry) (faults : Faults)
    → Served w.history t ((b, day) ∷ []) (Faulted fault ∷ []) h → h ≡ w.history
    → CountsFault fault w.faults faults
    → ReachesServer t w b day (record w { history = h; faults = faults })
reached_fault w t b day Memory h faults served same rises =
    inr (served.answered.0.0, served.answered.0.1, inl (inl rises, rw same refl))
reached_fault w t b day Store h faults served same rises =
    inr (served.answered.0.0, served.answered.0.1, inl (inr rises, rw same refl))
reached_fault w t b day Full h faults served same count =
    let full = served.full 0 (b, day) refl refl in
    let was : full.0 ≡ w.history = full.2.2 ∙ ap (λ l. applied_once w.history l t.interval)
    (none_asked full.2.0 full.2.1) in
    inr (
      full.1,
      full.3,
      inr (inl (
        subst (λ (l : List Entry). IsFullFor l t full.1) was full.4,
        rw (same, count) refl,
      )),
    )

pub accepts : (w : WorldState) (k i : ℕ) (c c' : ClientState) (b : List ℕ) (reply : Reply)
    (accepted : List Acceptance)
    → slice_get w.clients k ≡ Some c → slice_get w.replied i ≡ Some b
    → ClientReceives c b (Accepted reply) c' → accepted ≡ w.accepted ++ acceptance (k, reply) ∷ []
    → DeliversReply w k (slice_get w.clients k) (slice_get w.replied i)
    (record w { accepted = accepted; clients = slice_set w.clients k c' })
accepts w k i c c' b reply accepted there came is grown =
    rw (there, came) (inl (request_of reply, outcome_of reply, is.0, rw (grown, is.1) refl))

not_own : (c c' : ClientState) (b : List ℕ) (received : Received) → ClientReceives c b received c'
    → ((reply : Reply) → received ≡ Accepted reply → ⊥)
    → ((q : Request) (o : Outcome) → ¬ (IsOwnReply c b q o)) × (c' ≡ c)
not_own c c' b (Malformed fault) is other = (λ q o own. is.0 (q, o, own.1), is.2)
not_own c c' b Idle is other = (λ q o own. none-some q (sym is.1 ∙ own.0), is.2)
not_own c c' b NotMine is other = (
  λ q o own. is.5 (same_Some is.1 q (sym is.4 ∙ own.0)
      ∙ sym (one_reply b is.0 q is.2 o is.3 own.1).0),
  is.6,
)
not_own c c' b (Accepted reply) is other = absurd (other reply refl)

pub leaves : (w : WorldState) (k i : ℕ) (c c' : ClientState) (b : List ℕ) (received : Received)
    (accepted : List Acceptance)
    → slice_get w.clients k ≡ Some c → slice_get w.replied i ≡ Some b
    → ClientReceives c b received c' → ((reply : Reply) → received ≡ Accepted reply → ⊥)
    → accepted ≡ w.accepted
    → DeliversReply w k (slice_get w.clients k) (slice_get w.replied i)
    (record w { accepted = accepted; clients = slice_set w.clients k c' })
leaves w k i c c' b received accepted there came is other same =
    let kept = not_own c c' b received is other in
    let cs : slice_set w.clients k c' ≡ w.clients = set_same w.clients k c c' there kept.1 in
    rw (there, came) (inr (kept.0, rw (same, cs) refl))

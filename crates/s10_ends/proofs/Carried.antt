-- The identifiers that outcomes and replies carry, and their issues.
use Rattle.std.proofs.Common.{◌≡◌, ◌∙◌, ℕ, zero, suc, ◌+◌, ◌*◌, List, [], ◌∷◌, ◌++◌, map}
use Rattle.std.proofs.Common.{take, drop, Option, Some, None, refl, sym, ap, inl, inr, arith, subst}
use Rattle.std.specs.Prelude.{All, IsTrue, Contains, slice_get}
use Rattle.std.specs.List.{AllZip}
use Rattle.std.proofs.lemmas.Bool.{false≢true}
use Rattle.std.proofs.lemmas.Option.{none-some, same_Some, slice_get_within, get_or_from_slice_get}
use Rattle.std.proofs.lemmas.List.{length-map, get_or-map, drop-drop}
use Rattle.std.proofs.lemmas.List.Elements.{All-nil, All-cons, All-head, All-tail}
use Rattle.std.proofs.lemmas.List.Elements.{Contains-append_left, Contains-append_right}
use Rattle.s10_core.specs.declared.id.Id.{Id}
use Rattle.s10_core.specs.Id.{IsId, spelling_of, Spells}
use Rattle.s10_wire.specs.Kind.{kind_of, fits}
use Rattle.s10_wire.specs.declared.body.Body.{Body}
use Rattle.s10_wire.specs.declared.body.Body.TheVariants.{Draw, DrawMany}
use Rattle.s10_wire.specs.declared.request.Request.{Request}
use Rattle.s10_wire.specs.declared.outcome.Outcome.{Outcome}
use Rattle.s10_wire.specs.declared.outcome.Outcome.TheVariants.{Drawn, DrawnMany}
use Rattle.s10_wire.specs.Ids.{spellings_of}
use Rattle.s10_wire.specs.Datagrams.{datagram, outcome_bytes, IsOutcome, Replies}
use Rattle.s10_wire.proofs.Replied.{one_reply}
use Rattle.s10_history.specs.declared.entry.Entry.{Entry}
use Rattle.s10_history.specs.Settings.{Terms}
use Rattle.s10_history.specs.History.{has_key, find_entry}
use Rattle.s10_history.specs.Issues.{issues_from, issues_of, issues_at, carried_by}
use Rattle.s10_book.proofs.Carried.{made_by}
use Rattle.s10_ends.specs.declared.answer.Answer.{Answer}
use Rattle.s10_ends.specs.declared.answer.Answer.TheVariants.{Reply, Dropped, Faulted}
use Rattle.s10_ends.specs.Served.{Dated, GivesOutcome, IsOwed, IsAnswered, Served}
use Rattle.s10_ends.specs.Runs.{text_at, HasIssue, IsIssued}
use Rattle.s10_ends.proofs.Equal.{same_request_or_not}
use Rattle.s10_book.proofs.Fitting.{found_place}

Contains-map : {X Y : Type 0} (f : X → Y) (xs : List X) (x : X) → Contains xs x
    → Contains (map f xs) (f x)
Contains-map f xs x in' = (
  in'.0,
  omega (arith, in'.1, length-map xs f),
  get_or-map f xs in'.0 x (f x) in'.1 ∙ ap f in'.2,
)

Contains-nothing : {X : Type 0} (x : X) → ¬ (Contains [] x)
Contains-nothing x in' = omega (arith, in'.1)

-- A call of the history, at its index, which is that request and carries the identifier on the day.
pub record IsCarrying (h : List Entry) (q : Request) (c : ℕ × Id) : Type 0 where
  pub place : ℕ
  pub entry : Entry
  pub there : slice_get h place ≡ Some entry
  pub own : entry.request ≡ q
  pub carries : Contains (carried_by entry.outcome) c

kept_own : (kept : Option Entry) (q : Request) (o : Outcome) (c : ℕ × Id) → GivesOutcome kept q o
    → Contains (carried_by o) c
    → (e : Entry) × (kept ≡ Some e) × (e.request ≡ q) × Contains (carried_by e.outcome) c
kept_own None q o c gives carries = absurd gives
kept_own (Some e) q o c gives carries =
    let P : Outcome → Type 0 = λ u. Contains (carried_by u) c in
    elim (same_request_or_not e.request q) [
      | inl same ↦ (e, refl, same, subst P (gives.0 same) carries)
      | inr other ↦ absurd (Contains-nothing c (subst P (gives.1 other) carries))
    ]

-- If the outcome that the history gives a request carries an identifier, the request is a call of
-- the history.
pub carrying : (h : List Entry) (q : Request) (o : Outcome) (c : ℕ × Id)
    → GivesOutcome (find_entry h q.customer q.number) q o → Contains (carried_by o) c
    → IsCarrying h q c
carrying h q o c gives carries =
    let call = kept_own (find_entry h q.customer q.number) q o c gives carries in
    let at = found_place (has_key q.customer q.number) h call.0 call.1 in
    record { place = at.0; entry = call.0; there = at.1; own = call.2; carries = call.3 }

-- An identifier that a call carries was issued by it.
pub issued_here : (arrival : ℕ) (e : Entry) (c : ℕ × Id) → Contains (carried_by e.outcome) c
    → Contains (issues_at arrival e) (made_by e arrival c)
issued_here arrival e c carries = Contains-map (made_by e arrival) (carried_by e.outcome) c carries

pub issued : (arrival : ℕ) (h : List Entry) (k : ℕ) (e : Entry) (c : ℕ × Id)
    → slice_get h k ≡ Some e → Contains (carried_by e.outcome) c
    → (n : ℕ) × Contains (issues_from arrival h) (made_by e n c)
issued arrival [] k e c at carries = absurd (none-some e at)
issued arrival (y ∷ ys) zero e c at carries =
    let P : Entry → Type 0 = λ z. Contains (issues_at arrival z) (made_by e arrival c) in (
      arrival,
      Contains-append_left (issues_at arrival y) (issues_from (arrival + 1) ys)
          (made_by e arrival c)
          (subst P (sym (same_Some y e at)) (issued_here arrival e c carries)),
    )
issued arrival (y ∷ ys) (suc k) e c at carries =
    let there = issued (arrival + 1) ys k e c at carries in (
      there.0,
      Contains-append_right (issues_at arrival y) (issues_from (arrival + 1) ys)
          (made_by e there.0 c) there.1,
    )

has_issue : (h : List Entry) (q : Request) (day : ℕ) (x : Id) → IsCarrying h q (day, x)
    → HasIssue h x day q
has_issue h q day x call =
    let issue = issued 1 h call.place call.entry (day, x) call.there call.carries in
    let P : Request → Type 0 =
    λ r. Contains (issues_of h) (record {
      id = x;
      day = day;
      customer = r.customer;
      number = r.number;
      arrival = issue.0;
    }) in
    (issue.0, subst P call.own issue.1)

-- The text at an index among texts of equal length, one after another.
spelled_among : (day : ℕ) (ids : List Id) (place : ℕ) (c : ℕ × Id)
    → slice_get (map (λ x. (day, x)) ids) place ≡ Some c → All IsId ids
    → Spells (take 13 (drop (13 * place) (spellings_of ids))) c.1
spelled_among day [] place c there ok = absurd (none-some c there)
spelled_among day (x ∷ xs) zero c there ok =
    let P : ℕ × Id → Type 0 = λ d. Spells (spelling_of x) d.1 in
    subst P (same_Some (day, x) c there) (record {
      in_range = All-head IsId x xs ok;
      spelled = refl;
    })
spelled_among day (x ∷ xs) (suc k) c there ok =
    let next : 13 * suc k ≡ 13 + 13 * k = omega arith in
    let P : List ℕ → Type 0 = λ l. Spells (take 13 l) c.1 in
    subst P (sym (ap (λ (n : ℕ). drop n (spellings_of (x ∷ xs))) next
    ∙ sym (drop-drop (13 * k) 13 (spellings_of (x ∷ xs)))))
    (spelled_among day xs k c there (All-tail IsId x xs ok))

-- The text at a position in a reply spells the identifier that the outcome carries there.
text_of : (customer number : ℕ) (body : Body) (o : Outcome) (place : ℕ) (c : ℕ × Id)
    → IsTrue (fits body o) → IsOutcome o → slice_get (carried_by o) place ≡ Some c
    → Spells (text_at (datagram 0x80 (record { customer = customer; number = number; body = body })
    ++ outcome_bytes o) (kind_of body) place) c.1
text_of customer number (Draw s t) (Drawn day x) zero c fit in' there =
    let P : ℕ × Id → Type 0 = λ d. Spells (spelling_of x) d.1 in
    subst P (same_Some (day, x) c there) (record { in_range = in'.1; spelled = refl })
text_of customer number (Draw s t) (Drawn day x) (suc place) c fit in' there =
    absurd (none-some c there)
text_of customer number (DrawMany s t count) (DrawnMany day ids) place c fit in' there =
    let b : List ℕ =
    datagram 0x80 (record { customer = customer; number = number; body = DrawMany s t count })
    ++ outcome_bytes (DrawnMany day ids) in
    let P : List ℕ → Type 0 = λ l. Spells (take 13 l) c.1 in
    subst P (drop-drop (13 * place) 22 b) (spelled_among day ids place c there in'.1.1)
text_of customer number body (Drawn day x) place c fit in' there = absurd (false≢true fit)
text_of customer number body (DrawnMany day ids) place c fit in' there = absurd (false≢true fit)
text_of customer number body o place c fit in' there = absurd (none-some c there)

spelled : (b : List ℕ) (q : Request) (o : Outcome) (place : ℕ) (c : ℕ × Id) → Replies b q o
    → slice_get (carried_by o) place ≡ Some c → Spells (text_at b (kind_of q.body) place) c.1
spelled b q o place c is there =
    let P : List ℕ → Type 0 = λ l. Spells (text_at l (kind_of q.body) place) c.1 in
    subst P (sym is.3) (text_of q.customer q.number q.body o place c is.2 is.1 there)

-- Every identifier in a reply that is owed was issued.
owed_issued : (h : List Entry) (asked b : List ℕ) → IsOwed h asked b → (q : Request) (o : Outcome)
    → Replies b q o → (place day : ℕ) (x : Id) → slice_get (carried_by o) place ≡ Some (day, x)
    → Spells (text_at b (kind_of q.body) place) x × HasIssue h x day q
owed_issued h asked b owed q o is place day x there =
    let one = one_reply b owed.0 q owed.1 o owed.4 is in
    let carries : Contains (carried_by o) (day, x) = (
      place,
      slice_get_within (carried_by o) place (day, x) there,
      get_or_from_slice_get (carried_by o) place (day, x) (day, x) there,
    ) in
    let P : Outcome → Type 0 = λ u. Contains (carried_by u) (day, x) in
    let Q : Request → Type 0 = λ r. HasIssue h x day r in
    let call = carrying h owed.0 owed.1 (day, x) owed.3 (subst P (sym one.1) carries) in
    (spelled b q o place (day, x) is there, subst Q one.0 (has_issue h owed.0 day x call))

answer_issued : (h : List Entry) (b : List ℕ) (a : Answer) → IsAnswered h b a → IsIssued h a
answer_issued h b (Reply frame) is = owed_issued h b frame is
answer_issued h b (Dropped f) is = tt
answer_issued h b (Faulted f) is = tt

all_issued : (h : List Entry) (ds : List Dated) (ans : List Answer)
    → AllZip (λ d a. IsAnswered h d.0 a) ds ans → All (IsIssued h) ans
all_issued h [] [] all = All-nil (IsIssued h)
all_issued h [] (a ∷ rest) all = absurd all
all_issued h (d ∷ ds) [] all = absurd all
all_issued h (d ∷ ds) (a ∷ rest) all = All-cons (IsIssued h) a rest (answer_issued h d.0 a all.0)
    (all_issued h ds rest all.1)

pub Served-issued : (h h' : List Entry) (t : Terms) (ds : List Dated) (ans : List Answer)
    → Served h t ds ans h' → All (IsIssued h') ans
Served-issued h h' t ds ans served = all_issued h' ds ans served.answered

-- Lemmas about deliveries one after another.
use Rattle.std.proofs.Common.{◌≡◌, ℕ, zero, suc, Bool, true, false, cond, List, [], ◌∷◌, ◌++◌, map}
use Rattle.std.proofs.Common.{Option, Some, None, refl, sym, ap, ◌∙◌, ◌⊎◌, inl, inr, subst}
use Rattle.std.proofs.Common.{append-nil, append_assoc, take}
use Rattle.std.specs.Prelude.{find, fold, filter, not, slice_get}
use Rattle.std.specs.List.{list_any, AllZip, zip}
use Rattle.std.specs.Option.{option_or}
use Rattle.std.proofs.lemmas.List.{map-append}
use Rattle.std.proofs.lemmas.List.Folds.{find-append}
use Rattle.std.proofs.lemmas.List.Elements.{filter-append}
use Rattle.std.proofs.lemmas.Option.{none-some, same_Some}
use Rattle.s10_wire.specs.declared.request.Request.{Request}
use Rattle.s10_wire.specs.Datagrams.{Asks}
use Rattle.s10_wire.specs.declared.outcome.Outcome.{Outcome}
use Rattle.s10_history.specs.declared.entry.Entry.{Entry}
use Rattle.s10_book.specs.declared.book_fault.BookFault.TheVariants.{Full}
use Rattle.s10_history.specs.Settings.{Terms}
use Rattle.s10_history.specs.History.{has_key, find_entry}
use Rattle.s10_book.specs.Once.{same_key, first_arrivals, applied, applied_once}
use Rattle.s10_ends.specs.declared.answer.Answer.{Answer}
use Rattle.s10_ends.specs.declared.answer.Answer.TheVariants.{Reply, Dropped, Faulted}
use Rattle.s10_ends.specs.Served.{Dated, AreAsked, IsOnce, GivesOutcome, IsOwed, IsReplyIn}
use Rattle.s10_ends.specs.Served.{IsAnswered, IsFullFor, is_faulted, not_faulted, Served}
use Rattle.s10_ends.specs.Served.AreAsked.{none, nothing, request}
use Rattle.std.proofs.lemmas.List.Sums.{fold-append}

requests : List Entry → List Request
requests h = map (λ e. e.request) h

abbrev pub of_history : List Entry → List Request
of_history h = map (λ e. e.request) h

abbrev asking : List (Request × ℕ) → List Request
asking ps = map (λ p. p.0) ps

firsts_at : (b : Bool) (seen : List Request) (p : Request × ℕ) (ps qs : List (Request × ℕ))
    → (first_arrivals seen (ps ++ qs) ≡ first_arrivals seen ps ++ first_arrivals
    (seen ++ asking (first_arrivals seen ps)) qs)
    → (first_arrivals (seen ++ p.0 ∷ []) (ps ++ qs) ≡ first_arrivals (seen ++ p.0 ∷ []) ps
    ++ first_arrivals ((seen ++ p.0 ∷ []) ++ asking (first_arrivals (seen ++ p.0 ∷ []) ps)) qs)
    → cond b (first_arrivals seen (ps ++ qs)) (p ∷ first_arrivals (seen ++ p.0 ∷ []) (ps ++ qs))
    ≡ cond b (first_arrivals seen ps) (p ∷ first_arrivals (seen ++ p.0 ∷ []) ps) ++ first_arrivals
    (seen ++ asking (cond b (first_arrivals seen ps) (p ∷ first_arrivals (seen ++ p.0 ∷ [])
    ps))) qs
firsts_at true seen p ps qs here new = here
firsts_at false seen p ps qs here new =
    ap (λ l. p ∷ l) (new ∙ ap (λ s. first_arrivals (seen ++ p.0 ∷ []) ps ++ first_arrivals s qs)
    (append_assoc seen (p.0 ∷ []) (asking (first_arrivals (seen ++ p.0 ∷ []) ps))))

-- The first arrivals of two lists, one after the other.
pub first_arrivals-append : (seen : List Request) (ps qs : List (Request × ℕ))
    → first_arrivals seen (ps ++ qs) ≡ first_arrivals seen ps ++ first_arrivals
    (seen ++ asking (first_arrivals seen ps)) qs
first_arrivals-append seen [] qs = ap (λ s. first_arrivals s qs) (sym (append-nil seen))
first_arrivals-append seen (p ∷ ps) qs = firsts_at (list_any (same_key p.0) seen) seen p ps qs
    (first_arrivals-append seen ps qs) (first_arrivals-append (seen ++ p.0 ∷ []) ps qs)

map_append : (h : List Entry) (e : Entry) → of_history (h ++ e ∷ []) ≡ of_history h ++ e.request
    ∷ []
map_append [] e = refl
map_append (x ∷ xs) e = ap (λ l. x.request ∷ l) (map_append xs e)

-- The requests of a history are those before it and those that were applied.
applied_requests : (n : ℕ) (h : List Entry) (ps : List (Request × ℕ))
    → of_history (fold (applied n) h ps) ≡ of_history h ++ asking ps
applied_requests n h [] = sym (append-nil (of_history h))
applied_requests n h (p ∷ ps) =
    applied_requests n (applied n h p) ps ∙ ap (λ l. l ++ asking ps) (map_append h _)
    ∙ append_assoc (of_history h) (p.0 ∷ []) (asking ps)

-- Applying two lists is applying one and then the other.
pub applied_once-append : (h : List Entry) (ps qs : List (Request × ℕ)) (n : ℕ)
    → applied_once h (ps ++ qs) n ≡ applied_once (applied_once h ps n) qs n
applied_once-append h ps qs n =
    ap (fold (applied n) h) (first_arrivals-append (of_history h) ps qs)
    ∙ fold-append (applied n) h (first_arrivals (of_history h) ps)
    (first_arrivals (of_history h ++ asking (first_arrivals (of_history h) ps)) qs)
    ∙ ap (λ s. fold (applied n) (applied_once h ps n) (first_arrivals s qs))
    (sym (applied_requests n h (first_arrivals (of_history h) ps)))

-- Applying requests only adds to a history.
pub grows : (n : ℕ) (h : List Entry) (ps : List (Request × ℕ)) → (more : List Entry)
    × (fold (applied n) h ps ≡ h ++ more)
grows n h [] = ([], sym (append-nil h))
grows n h (p ∷ ps) = let rest = grows n (applied n h p) ps in (_, rest.1 ∙ append_assoc h _ rest.0)

kept_at : (k : Option Entry) (more : List Entry) (q : Request) (o : Outcome) → GivesOutcome k q o
    → GivesOutcome (option_or k (find (has_key q.customer q.number) more)) q o
kept_at None more q o a = absurd a
kept_at (Some e) more q o a = a

-- A reply that is owed is owed by every longer history.
pub IsOwed-more : (h more : List Entry) (b f : List ℕ) → IsOwed h b f → IsOwed (h ++ more) b f
IsOwed-more h more b f owed =
    let q = owed.0 in (
      q,
      owed.1,
      owed.2,
      rw (find-append (has_key q.customer q.number) h more)
          (kept_at (find_entry h q.customer q.number) more q owed.1 owed.3),
      owed.4,
    )

-- A reply that a history gives is given by every longer history.
pub IsReplyIn-more : (h more : List Entry) (f : List ℕ) → IsReplyIn h f → IsReplyIn (h ++ more) f
IsReplyIn-more h more f is =
    let q = is.0 in (
      q,
      is.1,
      rw (find-append (has_key q.customer q.number) h more)
          (kept_at (find_entry h q.customer q.number) more q is.1 is.2),
      is.3,
    )

pub IsAnswered-more : (h more : List Entry) (b : List ℕ) (a : Answer) → IsAnswered h b a
    → IsAnswered (h ++ more) b a
IsAnswered-more h more b (Reply frame) is = IsOwed-more h more b _ is
IsAnswered-more h more b (Dropped fault) is = is
IsAnswered-more h more b (Faulted fault) is = is

-- The requests of two lists of deliveries.
AreAsked-append : {ds es : List Dated} {ps qs : List (Request × ℕ)} → AreAsked ds ps
    → AreAsked es qs → AreAsked (ds ++ es) (ps ++ qs)
AreAsked-append none more = more
AreAsked-append (nothing asks rest) more = nothing asks (AreAsked-append rest more)
AreAsked-append (request asks rest) more = request asks (AreAsked-append rest more)

-- Two lists applied one after the other.
pub IsOnce-append : (h h1 h2 : List Entry) (ds es : List Dated) (n : ℕ) → IsOnce h ds n h1
    → IsOnce h1 es n h2 → IsOnce h (ds ++ es) n h2
IsOnce-append h h1 h2 ds es n first second = (
  first.0 ++ second.0,
  AreAsked-append first.1 second.1,
  second.2 ∙ ap (λ l. applied_once l second.0 n) first.2
      ∙ sym (applied_once-append h first.0 second.0 n),
)

abbrev Zipped : List Entry → List Dated → List Answer → Type 0
Zipped h ds ans = AllZip (λ d a. IsAnswered h d.0 a) ds ans

zip_push : (h more : List Entry) (ds : List Dated) (ans : List Answer) (d : Dated) (a : Answer)
    → Zipped h ds ans → IsAnswered (h ++ more) d.0 a
    → Zipped (h ++ more) (ds ++ d ∷ []) (ans ++ a ∷ [])
zip_push h more [] [] d a all is = (is, tt)
zip_push h more [] (y ∷ ys) d a all is = absurd all
zip_push h more (x ∷ xs) [] d a all is = absurd all
zip_push h more (x ∷ xs) (y ∷ ys) d a all is = (
  IsAnswered-more h more x.0 y all.0,
  zip_push h more xs ys d a all.1 is,
)

paired_push : (h : List Entry) (ds : List Dated) (ans : List Answer) (d : Dated) (a : Answer)
    → Zipped h ds ans → zip (ds ++ d ∷ []) (ans ++ a ∷ []) ≡ zip ds ans ++ (d, a) ∷ []
paired_push h [] [] d a all = refl
paired_push h [] (y ∷ ys) d a all = absurd all
paired_push h (x ∷ xs) [] d a all = absurd all
paired_push h (x ∷ xs) (y ∷ ys) d a all = ap (λ l. (x, y) ∷ l) (paired_push h xs ys d a all.1)

abbrev is_served : Dated × Answer → Bool
is_served p = not (is_faulted p.1)

not_faulted_push : (h : List Entry) (ds : List Dated) (ans : List Answer) (d : Dated) (a : Answer)
    → Zipped h ds ans → not_faulted (ds ++ d ∷ []) (ans ++ a ∷ []) ≡ not_faulted ds ans
    ++ not_faulted (d ∷ []) (a ∷ [])
not_faulted_push h ds ans d a all =
    ap (λ l. map (λ p. p.0) (filter is_served l)) (paired_push h ds ans d a all)
    ∙ ap (map (λ p. p.0)) (filter-append is_served (zip ds ans) ((d, a) ∷ []))
    ∙ map-append (λ p. p.0) (filter is_served (zip ds ans)) (filter is_served ((d, a) ∷ []))

places : (h : List Entry) (ds : List Dated) (ans : List Answer) (d d' : Dated) (a a' : Answer)
    (k : ℕ) → Zipped h ds ans
    → slice_get (ds ++ d ∷ []) k ≡ Some d' → slice_get (ans ++ a ∷ []) k ≡ Some a'
    → ((slice_get ds k ≡ Some d') × (slice_get ans k ≡ Some a')
    × (take k (ds ++ d ∷ []) ≡ take k ds) × (take k (ans ++ a ∷ []) ≡ take k ans))
    ⊎ ((d ≡ d') × (a ≡ a') × (take k (ds ++ d ∷ []) ≡ ds) × (take k (ans ++ a ∷ []) ≡ ans))
places h [] [] d d' a a' zero all is at = inr (same_Some _ _ is, same_Some _ _ at, refl, refl)
places h [] [] d d' a a' (suc k) all is at = absurd (none-some _ is)
places h [] (y ∷ ys) d d' a a' k all is at = absurd all
places h (x ∷ xs) [] d d' a a' k all is at = absurd all
places h (x ∷ xs) (y ∷ ys) d d' a a' zero all is at = inl (is, at, refl, refl)
places h (x ∷ xs) (y ∷ ys) d d' a a' (suc k) all is at =
    elim (places h xs ys d d' a a' k all.1 is at) [
      | inl w ↦ inl (w.0, w.1, ap (λ l. x ∷ l) w.2, ap (λ l. y ∷ l) w.3)
      | inr w ↦ inr (w.0, w.1, ap (λ l. x ∷ l) w.2, ap (λ l. y ∷ l) w.3)
    ]

-- The history before a delivery that found the book full.
abbrev pub FullBefore : List Entry → Terms → List Dated → Dated → Type 0
FullBefore h t served d = (before : List Entry) × (q : Request) × IsOnce h served t.interval before
    × Asks d.0 q × IsFullFor before t q

full_before : (h h1 : List Entry) (t : Terms) (served : List Dated) (d : Dated)
    → IsOnce h served t.interval h1 → FullBefore h1 t [] d → FullBefore h t served d
full_before h h1 t served d once at = (
  at.0,
  at.1,
  subst (λ l. IsOnce h l t.interval at.0) (append-nil served)
      (IsOnce-append h h1 at.0 served [] t.interval once at.2),
  at.3,
  at.4,
)

-- Serving a list and then one more delivery is serving the longer list.
pub Served-push : (h h1 h2 : List Entry) (t : Terms) (ds : List Dated) (ans : List Answer)
    (d : Dated) (a : Answer)
    → Served h t ds ans h1 → Served h1 t (d ∷ []) (a ∷ []) h2
    → Served h t (ds ++ d ∷ []) (ans ++ a ∷ []) h2
Served-push h h1 h2 t ds ans d a first second =
    let more = grows t.interval h1 (first_arrivals (of_history h1) second.once_each.0) in
    let after : h2 ≡ h1 ++ more.0 = second.once_each.2 ∙ more.1 in
    let P : List Entry → Type 0 = λ l. IsAnswered l d.0 a in
    let Q : List Entry → Type 0 = λ l. Zipped l (ds ++ d ∷ []) (ans ++ a ∷ []) in
    let R : List Dated → Type 0 = λ l. IsOnce h l t.interval h2 in
    record {
      once_each = subst R (sym (not_faulted_push h1 ds ans d a first.answered))
          (IsOnce-append h h1 h2 (not_faulted ds ans) (not_faulted (d ∷ []) (a ∷ [])) t.interval
          first.once_each second.once_each);
      answered = subst Q (sym after) (zip_push h1 more.0 ds ans d a first.answered
          (subst P after second.answered.0));
      full = λ k d' is at. elim (places h1 ds ans d d' a (Faulted Full) k first.answered is at) [
        | inl w ↦ rw (w.2, w.3) (first.full k d' w.0 w.1)
        | inr w ↦ rw (w.2, w.3) (subst (FullBefore h t (not_faulted ds ans)) w.0
            (full_before h h1 t (not_faulted ds ans) d first.once_each
            (second.full 0 d refl (ap Some w.1))))
      ];
    }

pub Served-nil : (h : List Entry) (t : Terms) → Served h t [] [] h
Served-nil h t = record {
  once_each = ([], none, refl);
  answered = tt;
  full = λ k d is at. absurd (none-some _ is);
}

-- Lemmas about what an opening may find after a stop.
use Rattle.std.proofs.Common.{◌≡◌, ◌∙◌, refl, sym, ap, subst, ℕ, List, [], ◌∷◌, ◌++◌, append-nil}
use Rattle.std.proofs.Common.{map, Option, Some, Result, inl, inr, ⊎_elim}
use Rattle.std.proofs.lemmas.List.{map-append}
use Rattle.std.proofs.lemmas.Option.{same_Some}
use Rattle.s10_link.specs.declared.trace.Trace.{Trace}
use Rattle.s10_wire.specs.declared.request.Request.{Request}
use Rattle.s10_wire.specs.Datagrams.{Asks}
use Rattle.s10_history.specs.declared.entry.Entry.{Entry}
use Rattle.s10_history.specs.Settings.{Terms}
use Rattle.s10_book.specs.declared.book_fault.BookFault.{BookFault}
use Rattle.s10_book.specs.declared.faults.Faults.{Faults}
use Rattle.s10_book.specs.Book.{Grows, FindsAfter, IsBetween, IsPerhapsWith, Unchanged}
use Rattle.s10_book.specs.GroupCommit.{CommitsSome}
use Rattle.s10_book.specs.Once.{first_arrivals, applied_once}
use Rattle.s10_book.specs.Rules.{IsLegal}
use Rattle.s10_book.proofs.Calls.{grows_none, grows_same, grows_trans, finds_after_unchanged}
use Rattle.s10_ends.specs.declared.answer.Answer.{Answer}
use Rattle.s10_ends.specs.declared.answer.Answer.TheVariants.{Reply, Dropped, Faulted}
use Rattle.s10_ends.specs.declared.delivery.Delivery.{Delivery}
use Rattle.s10_ends.specs.declared.exchange.Exchange.{Exchange}
use Rattle.s10_ends.specs.Runs.{dated}
use Rattle.s10_ends.specs.Served.{Dated, IsOnce, Served, not_faulted}
use Rattle.s10_ends.specs.Served.AreAsked.{none as asked_none, request as asked}
use Rattle.s10_ends.specs.Stop.{AreSome, IsFoundAmong, StopsAfter}
use Rattle.s10_ends.specs.Stop.AreSome.{none, without, with}
use Rattle.s10_ends.specs.Turn.{Handles}
use Rattle.s10_ends.specs.Batch.{HandlesAll, CommitsIfPending}
use Rattle.s10_ends.specs.Batch.HandlesAll.{none as handled_none, more as handled_more}
use Rattle.s10_ends.specs.Composed.{BatchesLead, turns_in, IsBatch, DatedBatch, deliveries_in, answers_in}
use Rattle.s10_ends.specs.Composed.{SurvivesStop}
use Rattle.s10_ends.proofs.Whole.{IsOnce-append, grows, of_history}
use Rattle.s10_ends.proofs.Standing.{all_sent}
use Rattle.s10_ends.proofs.Composing.{all_composed, all_more, upto_taken, upto_batch, Upto, here}
use Rattle.s10_ends.proofs.Composing.{honest_taken, honest_batch}

pub some_none : (ds : List Dated) → AreSome [] ds
some_none [] = none
some_none (d ∷ ds) = without (some_none ds)

pub some_more : {some ds : List Dated} (es : List Dated) → AreSome some ds → AreSome some (ds ++ es)
some_more es none = some_none es
some_more es (without are) = without (some_more es are)
some_more es (with are) = with (some_more es are)

pub some_append : {some ds more es : List Dated} → AreSome some ds → AreSome more es
    → AreSome (some ++ more) (ds ++ es)
some_append none rest = rest
some_append (without are) rest = without (some_append are rest)
some_append (with are) rest = with (some_append are rest)

pub some_served : (ds : List Dated) (ans : List Answer) → AreSome (not_faulted ds ans) ds
some_served [] ans = none
some_served (d ∷ ds) [] = some_none (d ∷ ds)
some_served (d ∷ ds) (Reply frame ∷ ans) = with (some_served ds ans)
some_served (d ∷ ds) (Dropped fault ∷ ans) = with (some_served ds ans)
some_served (d ∷ ds) (Faulted fault ∷ ans) = without (some_served ds ans)

-- Applying deliveries only adds to a history.
pub once_grows : (h after : List Entry) (ds : List Dated) (n : ℕ) → IsOnce h ds n after
    → Grows h after
once_grows h after ds n once =
    let more = grows n h (first_arrivals (of_history h) once.0) in (more.0, once.2 ∙ more.1)

-- What the history of an honest book is between.
between_once : (committed h calls : List Entry) (q : Request) (day n : ℕ) → Grows committed h
    → calls ≡ h → IsBetween committed (applied_once h ((q, day) ∷ []) n) calls
between_once committed h calls q day n first same = (
  subst (Grows committed) (sym same) first,
  subst (λ (l : List Entry). Grows l (applied_once h ((q, day) ∷ []) n)) (sym same)
      (grows n h (first_arrivals (of_history h) ((q, day) ∷ []))),
)

-- Lemmas about a book whose committed calls come first in its history.
module _ {B : Type 0} (history committed : B → List Entry) (terms : B → Terms)
    (honest clean : B → Type 0) (may_find : B → Option (List Entry) → Type 0)
    (first_law : (book : B) → honest book → Grows (committed book) (history book)) where
  -- The calls are between the committed ones and what applying a request makes.
  abbrev Once : B → Request → ℕ → List Entry → Type 0
  Once a q day calls = IsBetween (committed a)
      (applied_once (history a) ((q, day) ∷ []) (terms a).interval) calls

  -- A read: an opening may find what applying a request would make, or less.
  pub finds_once : (a b : B) (q : Request) (day : ℕ)
      → Unchanged history committed terms honest clean may_find a b
      → FindsAfter honest clean may_find a b (Once a q day)
  finds_once a b q day unchanged = record {
    was_clean = unchanged.stop.was_clean;
    finds = λ c found may. ⊎_elim inl (λ it. inr (
      it.0,
      (
        it.1.0,
        it.1.1,
        between_once (committed a) (history a) it.1.0 q day (terms a).interval
            (first_law a it.0) it.1.2,
      ),
    )) (unchanged.stop.finds c found may);
  }

  -- A read, and then one after which an opening may find what a request makes.
  pub once_after_unchanged : (a b c : B) (q : Request) (day : ℕ)
      → Unchanged history committed terms honest clean may_find a b
      → FindsAfter honest clean may_find b c (Once b q day)
      → FindsAfter honest clean may_find a c (Once a q day)
  once_after_unchanged a b c q day first second =
      finds_after_unchanged (Once b q day) (Once a q day) first second
      (λ h calls same. between_once (committed a) (history a) calls q day (terms a).interval
      (first_law a h) same)
      (λ h calls is. (
        grows_trans (committed a) (committed b) calls (first.stays_committed h) is.0,
        subst (λ (l : List Entry). Grows calls (applied_once l ((q, day) ∷ []) (terms a).interval))
            (first.same_history h)
            (subst (λ (t : Terms). Grows calls (applied_once (history b) ((q, day) ∷ [])
            t.interval)) (first.same_terms h) is.1),
      ))

  -- A read, and then a new request's call that was kept, or was about to be.
  pub kept_once : (a b c : B) (q : Request) (day : ℕ) (entry : Entry)
      → Unchanged history committed terms honest clean may_find a b
      → FindsAfter honest clean may_find b c (IsPerhapsWith (history b) entry)
      → (honest b → history b ++ entry ∷ []
      ≡ applied_once (history a) ((q, day) ∷ []) (terms a).interval)
      → FindsAfter honest clean may_find a c (Once a q day)
  kept_once a b c q day entry first second applied =
      finds_after_unchanged (IsPerhapsWith (history b) entry) (Once a q day) first second
      (λ h calls same. between_once (committed a) (history a) calls q day (terms a).interval
      (first_law a h) same)
      (λ h calls is. ⊎_elim
      (λ (same : calls ≡ history b). between_once (committed a) (history a) calls q day
      (terms a).interval (first_law a (first.was_honest h)) (same ∙ first.same_history h))
      (λ (grown : calls ≡ history b ++ entry ∷ []). (
        grows_trans (committed a) (history b) calls
            (grows_trans (committed a) (committed b) (history b) (first.stays_committed h)
            (first_law b h)) (entry ∷ [], grown),
        grows_same calls (applied_once (history a) ((q, day) ∷ []) (terms a).interval)
            (sym (grown ∙ applied h)),
      ))
      is)

module _ {B : Type 0} (terms : B → Terms) (history committed : B → List Entry)
    (honest clean : B → Type 0) (may_find : B → Option (List Entry) → Type 0) where
  abbrev Stops : B → B → List Dated → Type 0
  Stops = StopsAfter terms history committed honest clean may_find

  pub stops_none : (a : B) (ds : List Dated) → Stops a a ds
  stops_none a ds = record {
    was_clean = λ c. c;
    finds = λ c found may. inl may;
  }

  pub stops_same : (a b : B) (ds : List Dated) → b ≡ a → Stops a b ds
  stops_same a b ds same = subst (λ (x : B). Stops a x ds) (sym same) (stops_none a ds)

  pub stops_committed : (a b : B) → CommitsSome history committed terms honest clean may_find a b
      → Stops a b []
  stops_committed a b commits_some = record {
    was_clean = commits_some.stop.was_clean;
    finds = λ c found may. ⊎_elim inl (λ it. inr (
      it.0,
      (
        [],
        history a,
        none,
        ([], asked_none, refl),
        it.1,
      ),
    )) (commits_some.stop.finds c found may);
  }

  -- One request that was applied, or was about to be.
  pub stops_one : (a b : B) (bytes : List ℕ) (day : ℕ) (q : Request) → Asks bytes q
      → FindsAfter honest clean may_find a b (IsBetween (committed a)
      (applied_once (history a) ((q, day) ∷ []) (terms a).interval))
      → Stops a b ((bytes, day) ∷ [])
  stops_one a b bytes day q asks stop = record {
    was_clean = stop.was_clean;
    finds = λ c found may. ⊎_elim inl
        (λ it. inr (
          it.0,
          (
            (bytes, day) ∷ [],
            applied_once (history a) ((q, day) ∷ []) (terms a).interval,
            with none,
            ((q, day) ∷ [], asked asks asked_none, refl),
            it.1,
          ),
        ))
        (stop.finds c found may);
  }

  -- Deliveries, and then more. If the book was honest in between, the first ones were served.
  pub stops_trans : (a b c : B) (ds es : List Dated) (ans : List Answer) → Stops a b ds
      → (honest b → honest a) → (honest b → terms b ≡ terms a)
      → (honest b → Served (history a) (terms a) ds ans (history b))
      → (honest b → Grows (committed a) (committed b))
      → Stops b c es → Stops a c (ds ++ es)
  stops_trans a b c ds es ans first was_honest same_terms served stays second = record {
    was_clean = λ d. first.was_clean (second.was_clean d);
    finds = λ d found may. ⊎_elim
        (λ was. ⊎_elim inl
        (λ it. inr (it.0, (it.1.0, it.1.1, some_more es it.1.2, it.1.3, it.1.4)))
        (first.finds (second.was_clean d) found was))
        (λ it.
        let more : List Dated = it.1.0 in
        let whole : List Entry = it.1.1 in
        let once : IsOnce (history b) more (terms a).interval whole =
        subst (λ (t : Terms). IsOnce (history b) more t.interval whole) (same_terms it.0)
        it.1.3 in
        inr (
          was_honest it.0,
          (
            not_faulted ds ans ++ more,
            whole,
            some_append (some_served ds ans) it.1.2,
            IsOnce-append (history a) (history b) whole (not_faulted ds ans) more (terms a).interval
                (served it.0).once_each once,
            (
              it.1.4.0,
              it.1.4.1,
              (
                grows_trans (committed a) (committed b) it.1.4.0 (stays it.0)
                    it.1.4.2.0,
                it.1.4.2.1,
              ),
            ),
          ),
        ))
        (second.finds d found may);
  }

  -- One more delivery of a run.
  pub stops_more : (a b c : B) (ds : List Delivery) (d : Delivery) (ans : List Answer)
      → Stops a b (map dated ds) → (honest b → honest a) → (honest b → terms b ≡ terms a)
      → (honest b → Served (history a) (terms a) (map dated ds) ans (history b))
      → (honest b → Grows (committed a) (committed b))
      → Stops b c (dated d ∷ []) → Stops a c (map dated (ds ++ d ∷ []))
  stops_more a b c ds d ans first was_honest same_terms served stays second =
      subst (λ (l : List Dated). Stops a c l) (sym (map-append dated ds (d ∷ [])))
      (stops_trans a b c (map dated ds) (dated d ∷ []) ans first was_honest same_terms served stays
      second)

module _ {B : Type 0} (faults : B → Faults) (honest : B → Type 0) (terms : B → Terms)
    (history committed : B → List Entry) (clean : B → Type 0)
    (may_find : B → Option (List Entry) → Type 0) where
  abbrev StopsIn : B → B → List Dated → Type 0
  StopsIn = StopsAfter terms history committed honest clean may_find

  abbrev Handled : ℕ → B → B → List ℕ → Answer → Type 0
  Handled day before after b answer = Handles faults honest terms history committed clean may_find
      before after day b answer

  abbrev sent : ℕ → List Exchange → List Dated
  sent day ts = map (λ (t : Exchange). (t.packet, day)) ts

  abbrev told : List Exchange → List Answer
  told ts = map (λ (t : Exchange). t.answer) ts

  of_list : (a b : B) (ds es : List Dated) → es ≡ ds → StopsIn a b ds → StopsIn a b es
  of_list a b ds es same stops = subst (λ (l : List Dated). StopsIn a b l) (sym same) stops

  stops_taken : (day : ℕ) (old new : B) (ts : List Exchange)
      → HandlesAll (Handled day) old ts new → StopsIn old new (sent day ts)
  stops_taken day old _ _ handled_none = stops_none terms history committed honest clean may_find
      old []
  stops_taken day old new _ (handled_more {between = between} {taken = ts} next takes
      last) =
      let upto : honest between → Upto faults honest terms history committed clean may_find
      (history old) (terms old) (committed old) (sent day ts) (told ts) between =
      λ h. upto_taken faults honest terms history committed clean may_find (history old)
      (terms old) (committed old) day [] [] old between ts takes h
      (here faults honest terms history committed clean may_find old) in
      of_list old new (sent day ts ++ (next.packet, day) ∷ []) (sent day (ts ++ next ∷ []))
      (map-append (λ (t : Exchange). (t.packet, day)) ts (next ∷ []))
      (stops_trans terms history committed honest clean may_find old between new (sent day ts)
      ((next.packet, day) ∷ []) (told ts) (stops_taken day old between ts takes)
      (honest_taken faults honest terms history committed clean may_find day old between ts
      takes)
      (λ h. (upto h).same_terms) (λ h. (upto h).served) (λ h. (upto h).stays_committed)
      last.stop)

  stops_answered : (between new : B) (ts : List Exchange) (commit_result : Result (Unit {0}) BookFault)
      → CommitsIfPending faults honest terms history committed clean may_find between new ts
      commit_result → StopsIn between new []
  stops_answered between new ts commit_result (inr it) =
      stops_same terms history committed honest clean may_find between new [] it.0
  stops_answered between new ts commit_result (inl it) =
      stops_committed terms history committed honest clean may_find between new it.1.commits_some

  pub stops_batch : (old new : Trace × B) (batch : DatedBatch)
      → IsBatch faults honest terms history committed clean may_find old batch new
      → StopsIn old.1 new.1 (sent batch.day batch.taken)
  stops_batch old new batch (most, it) =
      let taken = batch.taken in
      let middle = it.between.1 in
      let upto : honest middle → Upto faults honest terms history committed clean may_find
      (history old.1) (terms old.1) (committed old.1) (sent batch.day taken) (told taken) middle =
      λ h. upto_taken faults honest terms history committed clean may_find (history old.1)
      (terms old.1) (committed old.1) batch.day [] [] old.1 middle taken it.takes.handles h
      (here faults honest terms history committed clean may_find old.1) in
      of_list old.1 new.1 (sent batch.day taken ++ []) (sent batch.day taken)
      (sym (append-nil (sent batch.day taken)))
      (stops_trans terms history committed honest clean may_find old.1 middle new.1
      (sent batch.day taken) [] (told taken) (stops_taken batch.day old.1 middle taken
      it.takes.handles)
      (honest_taken faults honest terms history committed clean may_find batch.day old.1 middle
      taken it.takes.handles)
      (λ h. (upto h).same_terms) (λ h. (upto h).served) (λ h. (upto h).stays_committed)
      (stops_answered middle new.1 taken it.answers.commit_result it.answers.commits))

  pub stops_batches : (old new : Trace × B) (batches : List DatedBatch)
      → BatchesLead (IsBatch faults honest terms history committed clean may_find) old batches new
      → StopsIn old.1 new.1 (deliveries_in batches)
  unfolding BatchesLead
  stops_batches old new [] same = stops_same terms history committed honest clean may_find
      old.1
      new.1 [] (ap (λ (s : Trace × B). s.1) same)
  stops_batches old new (batch ∷ batches) (next, one, rest) =
      let upto : honest next.1 → Upto faults honest terms history committed clean may_find
      (history old.1) (terms old.1) (committed old.1) (sent batch.day batch.taken)
      (told batch.taken) next.1 =
      λ h. upto_batch faults honest terms history committed clean may_find (history old.1)
      (terms old.1) (committed old.1) [] [] old next batch one h
      (here faults honest terms history committed clean may_find old.1) in
      stops_trans terms history committed honest clean may_find old.1 next.1 new.1
      (sent batch.day batch.taken) (deliveries_in batches) (told batch.taken)
      (stops_batch old next batch one)
      (honest_batch faults honest terms history committed clean may_find old next batch one)
      (λ h. (upto h).same_terms) (λ h. (upto h).served) (λ h. (upto h).stays_committed)
      (stops_batches next new batches rest)

  pub survived : ((book : B) → honest book → IsLegal (history book) (terms book))
      → ((book : B) → honest book → Grows (committed book) (history book))
      → ((book : B) → honest book → (found : Option (List Entry)) → may_find book found
      → found ≡ Some (committed book))
      → (old new : Trace × B)
      → SurvivesStop faults honest terms history committed clean may_find old new
  survived legal first_law found_law old new first rest between before after h c found may =
      let all = all_composed faults honest terms history committed clean may_find legal old
      between first before h in
      let ds = deliveries_in first in
      let ans = answers_in first in
      let es = deliveries_in rest in
      let among : IsFoundAmong (committed between.1) (history old.1) (terms old.1).interval
      (ds ++ es) found =
      ⊎_elim
      (λ was. (
        not_faulted ds ans,
        history between.1,
        some_more es (some_served ds ans),
        all.served.once_each,
        (
          committed between.1,
          found_law between.1 h found was,
          (grows_none (committed between.1), first_law between.1 h),
        ),
      ))
      (λ it. (
        not_faulted ds ans ++ it.1.0,
        it.1.1,
        some_append (some_served ds ans) it.1.2,
        IsOnce-append (history old.1) (history between.1) it.1.1 (not_faulted ds ans) it.1.0
            (terms old.1).interval all.served.once_each
            (subst (λ (t : Terms). IsOnce (history between.1) it.1.0 t.interval it.1.1)
            all.same_terms
            it.1.3),
        it.1.4,
      ))
      ((stops_batches between new rest after).finds c found may) in (
        among,
        λ calls is.
            let same : among.4.0 ≡ calls = same_Some among.4.0 calls (sym among.4.1 ∙ is) in
            let grew : Grows (committed between.1) calls =
            subst (Grows (committed between.1)) same among.4.2.0 in
            all_sent calls ds (turns_in first) (all_more (committed between.1) calls ds ds
            (turns_in first) grew (λ d inside. inside) all.owed),
      )

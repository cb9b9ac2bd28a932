-- Every step leaves a sound world sound.
use Rattle.std.proofs.Common.{◌≡◌, ◌≢◌, ◌∙◌, inl, inr, ℕ, ◌<◌, ◌≤◌, Bool, true, false, cond, List}
use Rattle.std.proofs.Common.{[], ◌∷◌, ◌++◌, get_or, Option, Some, None, refl, sym, ap, subst}
use Rattle.std.proofs.Common.{arith}
use Rattle.std.specs.Prelude.{All, Contains, slice_get, slice_set, is_some, nat_lt, take, Result}
use Rattle.std.specs.Prelude.{Ok, Err, OnOk, IfErr}
use Rattle.std.specs.Option.{option_or}
use Rattle.std.proofs.lemmas.Bool.{ltb-false}
use Rattle.std.proofs.lemmas.Bool.Decides.{eqb_tells}
use Rattle.std.proofs.lemmas.List.Folds.{find-append}
use Rattle.std.proofs.lemmas.List.Elements.{All-push, All-weaker, All-contains, All-get_or}
use Rattle.std.proofs.lemmas.List.Elements.{Contains-push, Contains-append_left}
use Rattle.std.proofs.lemmas.List.Quantifiers.{all_pairs_push}
use Rattle.std.proofs.lemmas.Option.{none-some, same_Some, slice_get_within, get_or_from_slice_get}
use Rattle.s10_wire.specs.declared.body.Body.{Body}
use Rattle.s10_wire.specs.declared.request.Request.{Request}
use Rattle.s10_wire.specs.declared.outcome.Outcome.{Outcome}
use Rattle.s10_wire.specs.Datagrams.{Replies}
use Rattle.s10_wire.proofs.Replied.{one_reply}
use Rattle.s10_history.specs.declared.entry.Entry.{Entry}
use Rattle.s10_book.specs.declared.faults.Faults.{Faults}
use Rattle.s10_history.specs.Settings.{Terms}
use Rattle.s10_history.specs.History.{has_key, find_entry}
use Rattle.s10_book.specs.Once.{applied_once}
use Rattle.s10_ends.specs.declared.client.SubmitFault.{SubmitFault}
use Rattle.s10_ends.specs.declared.client.SubmitFault.TheVariants.{Busy, NumbersSpent}
use Rattle.s10_ends.specs.Served.{GivesOutcome, GivesIn, IsOwed, IsReplyIn}
use Rattle.s10_ends.specs.Client.{ClientState, next_number, next_request, after_submit}
use Rattle.s10_ends.specs.Client.{submit_fault, without_pending}
use Rattle.s10_world.specs.declared.event.Event.{Event}
use Rattle.s10_world.specs.declared.event.Event.TheVariants.{Submit, Resend, GiveUp, ToServer}
use Rattle.s10_world.specs.declared.event.Event.TheVariants.{Strange, ToClient}
use Rattle.s10_world.specs.World.{Acceptance, WorldState, after_submit_by, after_give_up_by}
use Rattle.s10_world.specs.World.{SendsPending, Resends, ServesRequest, ReachesServer}
use Rattle.s10_world.specs.World.{DeliversRequest, DeliversReply, Step, Steps}
use Rattle.s10_world.specs.declared.network.WorldFault.{WorldFault}
use Rattle.s10_world.specs.Parts.{place_of}
use Rattle.s10_world.specs.Sound.{IsTakenBy, IsOfClient, IsAwaited}
use Rattle.s10_world.specs.Sound.{IsSoundWorld}
use Rattle.s10_world.proofs.Places.{after_set, set_here, set_elsewhere}
use Rattle.s10_ends.proofs.Applied.{once_one}

-- A property of all elements holds of the one at an index.
pub all_at : {X : Type 0} (P : X → Type 0) (xs : List X) (i : ℕ) (x : X) → All P xs
    → slice_get xs i ≡ Some x → P x
all_at P xs i x all is = subst P (get_or_from_slice_get xs i x x is)
    (All-get_or P xs i x (slice_get_within xs i x is) all)

-- A submit is accepted if no request is pending and a number is left.
free_at : (p : Option Request) (b : Bool)
    → cond (is_some p) (Some Busy) (cond b (Some NumbersSpent) None) ≡ None → (p ≡ None)
    × (b ≡ false)
free_at (Some q) b is = absurd (none-some _ (sym is))
free_at None true is = absurd (none-some _ (sym is))
free_at None false is = (refl, refl)

free : (c : ClientState) → submit_fault c ≡ None → (c.pending ≡ None) × (next_number c ≤ c.last)
free c is = let both = free_at c.pending (nat_lt c.last (next_number c)) is in
    (both.0, ltb-false _ _ both.1)

-- d is the client c at a later time: same customer and numbers, and at least as many numbers used.
abbrev IsLater : ClientState → ClientState → Type 0
IsLater c d = (d.customer ≡ c.customer) × (d.first ≡ c.first) × (d.last ≡ c.last)
    × (c.taken ≤ d.taken)

taken_later : (c d : ClientState) (q : Request) → IsLater c d → IsTakenBy c q → IsTakenBy d q
taken_later c d q later taken = (taken.0 ∙ sym later.0, omega arith, omega arith, omega arith)

-- A request of a client is a request of the same client later.
of_client_later : (clients : List ClientState) (k : ℕ) (c d : ClientState) (s : ℕ × Request)
    → slice_get clients k ≡ Some c → IsLater c d
    → IsOfClient clients s → IsOfClient (slice_set clients k d) s
of_client_later clients k c d s there later is = elim (eqb_tells s.0 k) [
  | inl e ↦
      let same : is.0 ≡ c = same_Some is.0 c (sym is.1 ∙ ap (slice_get clients) e.1 ∙ there) in (
        d,
        ap (slice_get (slice_set clients k d)) e.1 ∙ set_here clients k c d there,
        taken_later c d s.1 later (subst (λ (x : ClientState). IsTakenBy x s.1) same is.2),
      )
  | inr e ↦ (is.0, set_elsewhere clients k s.0 is.0 d e.1 is.1, is.2)
]

-- The numbers of a client's requests are below its next number.
below_next : (clients : List ClientState) (k : ℕ) (c : ClientState) (s : ℕ × Request)
    → slice_get clients k ≡ Some c → IsOfClient clients s → s.0 ≡ k → s.1.number < next_number c
below_next clients k c s there is e =
    let same : is.0 ≡ c = same_Some is.0 c (sym is.1 ∙ ap (slice_get clients) e ∙ there) in
    subst (λ (x : ClientState). s.1.number < next_number x) same is.2.2

accepted_below : (w : WorldState) (k : ℕ) (c : ClientState) → IsSoundWorld w → slice_get w.clients k
    ≡ Some c → All (λ a. a.client ≡ k → a.request.number < next_number c) w.accepted
accepted_below w k c sound there =
    All-weaker (λ a. Contains w.submitted (a.client, a.request)) (λ a. a.client ≡ k
    → a.request.number < next_number c)
    (λ a is e. below_next w.clients k c (a.client, a.request) there
    (All-contains (IsOfClient w.clients) w.submitted (a.client, a.request) sound.taken is) e)
    w.accepted sound.submitted

awaited_same : (w : WorldState) (k j : ℕ) (c d : ClientState) (q p : Request) → j ≡ k → d ≡ c
    → p ≡ q → IsAwaited w k c q → IsAwaited w j d p
awaited_same w k j c d q p place client request is = rw (place, client, request) is

sound_submit : (w : WorldState) (k : ℕ) (c : ClientState) (body : Body) → slice_get w.clients k
    ≡ Some c → next_number c ≤ c.last → IsSoundWorld w
    → IsSoundWorld (record w {
      submitted = w.submitted ++ (k, next_request c body) ∷ [];
      clients = slice_set w.clients k (after_submit c body);
    })
sound_submit w k c body there left sound =
    let q : Request = next_request c body in
    let d : ClientState = after_submit c body in
    let next : WorldState = record w {
      submitted = w.submitted ++ (k, q) ∷ [];
      clients = slice_set w.clients k d;
    } in
    let own : IsOfClient next.clients (k, q) = (
      d,
      set_here w.clients k c d there,
      (refl, omega arith, omega arith, left),
    ) in
    let latest : IsAwaited next k d q = (
      Contains-push w.submitted (k, q),
      omega arith,
      accepted_below w k c sound there,
    ) in
    record {
      replied = sound.replied;
      taken = All-push (IsOfClient next.clients) w.submitted (k, q)
          (All-weaker (IsOfClient w.clients) (IsOfClient next.clients)
          (λ s. of_client_later w.clients k c d s there (refl, refl, refl, omega arith))
          w.submitted sound.taken) own;
      in_turn = all_pairs_push (λ s u. s.0 ≡ u.0 → s.1.number < u.1.number) w.submitted (k, q)
          sound.in_turn
          (λ i s lt e. below_next w.clients k c (get_or w.submitted i s) there
          (All-get_or (IsOfClient w.clients) w.submitted i s lt sound.taken) e);
      awaited = λ j x p is pending. elim (after_set w.clients k d j x is) [
        | inl e ↦ awaited_same next k j d x q p e.0 e.1
            (same_Some p q (sym pending ∙ ap (λ (y : ClientState). y.pending) e.1)) latest
        | inr e ↦ let was = sound.awaited j x p e.1 pending in
            (Contains-append_left w.submitted ((k, q) ∷ []) (j, p) was.0, was.1, was.2)
      ];
      submitted = All-weaker (λ a. Contains w.submitted (a.client, a.request))
          (λ a. Contains next.submitted (a.client, a.request))
          (λ a. Contains-append_left w.submitted ((k, q) ∷ []) (a.client, a.request)) w.accepted
          sound.submitted;
      accepted_in_turn = sound.accepted_in_turn;
      given = sound.given;
    }

submit_at : (w : WorldState) (k : ℕ) (c : ClientState) (body : Body) (fault : Option SubmitFault)
    → slice_get w.clients k ≡ Some c → submit_fault c ≡ fault → IsSoundWorld w
    → IsSoundWorld
    (cond (is_some fault) w (record w {
      submitted = w.submitted ++ (k, next_request c body)
          ∷ [];
      clients = slice_set w.clients k (after_submit c body);
    }))
submit_at w k c body (Some fault) there is sound = sound
submit_at w k c body None there is sound = sound_submit w k c body there (free c is).1 sound

sound_submit_by : (w : WorldState) (k : ℕ) (body : Body) (client : Option ClientState)
    → slice_get w.clients k ≡ client → IsSoundWorld w
    → IsSoundWorld (after_submit_by w k body client)
sound_submit_by w k body None there sound = sound
sound_submit_by w k body (Some c) there sound = submit_at w k c body (submit_fault c) there refl
    sound

-- A pending request at another index stays awaited.
awaited_idle : (w : WorldState) (k j : ℕ) (c x : ClientState) (p : Request) → IsSoundWorld w
    → slice_get (slice_set w.clients k (without_pending c)) j ≡ Some x → x.pending ≡ Some p
    → (j ≢ k) × IsAwaited w j x p
awaited_idle w k j c x p sound is pending = elim (after_set w.clients k (without_pending c) j x is) [
  | inl e ↦ absurd (none-some p (sym (ap (λ (y : ClientState). y.pending) e.1) ∙ pending))
  | inr e ↦ (e.0, sound.awaited j x p e.1 pending)
]

idle_taken : (w : WorldState) (k : ℕ) (c : ClientState) → IsSoundWorld w → slice_get w.clients k
    ≡ Some c → All (IsOfClient (slice_set w.clients k (without_pending c))) w.submitted
idle_taken w k c sound there =
    All-weaker (IsOfClient w.clients) (IsOfClient (slice_set w.clients k (without_pending c)))
    (λ s. of_client_later w.clients k c (without_pending c) s there (
      refl,
      refl,
      refl,
      omega arith,
    )) w.submitted sound.taken

sound_give_up_by : (w : WorldState) (k : ℕ) (client : Option ClientState) → slice_get w.clients k
    ≡ client → IsSoundWorld w → IsSoundWorld (after_give_up_by w k client)
sound_give_up_by w k None there sound = sound
sound_give_up_by w k (Some c) there sound =
    record {
      replied = sound.replied;
      taken = idle_taken w k c sound there;
      in_turn = sound.in_turn;
      awaited = λ j x p is pending. (awaited_idle w k j c x p sound is pending).1;
      submitted = sound.submitted;
      accepted_in_turn = sound.accepted_in_turn;
      given = sound.given;
    }

sound_same : (w w' : WorldState) → w' ≡ w → IsSoundWorld w → IsSoundWorld w'
sound_same w w' same sound = subst IsSoundWorld (sym same) sound

-- What clients sent, and the faults counted, are no part of it.
sound_but : (w : WorldState) (asked : List (List ℕ)) (faults : Faults) → IsSoundWorld w
    → IsSoundWorld (record w { asked = asked; faults = faults })
sound_but w asked faults sound =
    record {
      replied = sound.replied;
      taken = sound.taken;
      in_turn = sound.in_turn;
      awaited = sound.awaited;
      submitted = sound.submitted;
      accepted_in_turn = sound.accepted_in_turn;
      given = sound.given;
    }

sound_sends : (w w' : WorldState) (pending : Option Request) → SendsPending w pending w'
    → IsSoundWorld w → IsSoundWorld w'
sound_sends w w' None is sound = sound_same w w' is sound
sound_sends w w' (Some q) is sound = sound_same (record w { asked = w.asked ++ is.0 ∷ [] }) w' is.2
    (sound_but w (w.asked ++ is.0 ∷ []) w.faults sound)

sound_resends : (w w' : WorldState) (client : Option ClientState) → Resends w client w'
    → IsSoundWorld w → IsSoundWorld w'
sound_resends w w' None is sound = sound_same w w' is sound
sound_resends w w' (Some c) is sound = sound_sends w w' c.pending is sound

-- A longer history gives the outcomes that it gave before.
gives_first : (kept more : Option Entry) (q : Request) (o : Outcome) → GivesOutcome kept q o
    → GivesOutcome (option_or kept more) q o
gives_first None more q o is = absurd is
gives_first (Some e) more q o is = is

gives_grown : (b : Bool) (h : List Entry) (e : Entry) (q : Request) (o : Outcome) → GivesIn h q o
    → GivesIn (cond b h (h ++ e ∷ [])) q o
gives_grown true h e q o is = is
gives_grown false h e q o is = rw (find-append (has_key q.customer q.number) h (e ∷ []))
    (gives_first (find_entry h q.customer q.number) _ q o is)

pub gives_later : (h : List Entry) (p : Request) (day n : ℕ) (q : Request) (o : Outcome)
    → GivesIn h q o → GivesIn (applied_once h ((p, day) ∷ []) n) q o
gives_later h p day n q o is = subst (λ (l : List Entry). GivesIn l q o) (sym (once_one h p day n))
    (gives_grown (is_some (find_entry h p.customer p.number)) h _ q o is)

sound_replied : (w : WorldState) (b f : List ℕ) (p : Request) (day n : ℕ)
    → IsOwed (applied_once w.history ((p, day) ∷ []) n) b f → IsSoundWorld w
    → IsSoundWorld (record w {
      history = applied_once w.history ((p, day) ∷ []) n;
      replied = w.replied ++ f ∷ [];
    })
sound_replied w b f p day n owed sound =
    let h = applied_once w.history ((p, day) ∷ []) n in
    record {
      replied = All-push (IsReplyIn h) w.replied f
          (All-weaker (IsReplyIn w.history) (IsReplyIn h)
          (λ x is. (is.0, is.1, gives_later w.history p day n is.0 is.1 is.2, is.3)) w.replied
          sound.replied)
          (owed.0, owed.1, owed.3, owed.4);
      taken = sound.taken;
      in_turn = sound.in_turn;
      awaited = sound.awaited;
      submitted = sound.submitted;
      accepted_in_turn = sound.accepted_in_turn;
      given = All-weaker (λ a. GivesIn w.history a.request a.outcome)
          (λ a. GivesIn h a.request a.outcome) (λ a. gives_later w.history p day n a.request
          a.outcome) w.accepted sound.given;
    }

sound_serves : (t : Terms) (w w' : WorldState) (b : List ℕ) (q : Request) (day : ℕ)
    → ServesRequest t w b q day w' → IsSoundWorld w → IsSoundWorld w'
sound_serves t w w' b q day serves sound = elim serves [
  | inl fault ↦ sound_same (record w { faults = w'.faults }) w' fault.1
      (sound_but w w.asked w'.faults sound)
  | inr other ↦ elim other [
    | inl full ↦ sound_same w w' full.1 sound
    | inr replied ↦ sound_same _ w' replied.3 (sound_replied w b replied.1 q day t.interval
        replied.2 sound)
  ]
]

sound_reaches : (t : Terms) (w w' : WorldState) (b : List ℕ) (day : ℕ) → ReachesServer t w b day w'
    → IsSoundWorld w → IsSoundWorld w'
sound_reaches t w w' b day reaches sound = elim reaches [
  | inl nothing ↦ sound_same w w' nothing.1 sound
  | inr asks ↦ sound_serves t w w' b asks.0 day asks.2 sound
]

sound_request : (t : Terms) (w w' : WorldState) (b : Option (List ℕ)) (day : ℕ)
    → DeliversRequest t w b day w' → IsSoundWorld w → IsSoundWorld w'
sound_request t w w' None day is sound = sound_same w w' is sound
sound_request t w w' (Some b) day is sound = sound_reaches t w w' b day is sound

-- The reply is one that the history gives to the request in its bytes.
given_by : (h : List Entry) (b : List ℕ) (q : Request) (o : Outcome) → IsReplyIn h b → Replies b q o
    → GivesIn h q o
given_by h b q o is replies =
    let same = one_reply b is.0 q is.1 o is.3 replies in
    subst (λ (x : Request). GivesIn h x o) same.0 (subst (λ (u : Outcome). GivesIn h is.0 u) same.1
    is.2)

sound_accept : (w : WorldState) (k : ℕ) (c : ClientState) (q : Request) (o : Outcome)
    → slice_get w.clients k ≡ Some c → c.pending ≡ Some q → GivesIn w.history q o → IsSoundWorld w
    → IsSoundWorld (record w {
      accepted = w.accepted ++ record {
        client = k;
        request = q;
        outcome = o;
      } ∷ [];
      clients = slice_set w.clients k (without_pending c);
    })
sound_accept w k c q o there pending gives sound =
    let a : Acceptance = record { client = k; request = q; outcome = o } in
    let mine = sound.awaited k c q there pending in
    record {
      replied = sound.replied;
      taken = idle_taken w k c sound there;
      in_turn = sound.in_turn;
      awaited = λ j x p is waits.
          let was = awaited_idle w k j c x p sound is waits in (
            was.1.0,
            was.1.1,
            All-push (λ y. y.client ≡ j → y.request.number < p.number) w.accepted a
                was.1.2 (λ e. absurd (was.0 (sym e))),
          );
      submitted = All-push (λ y. Contains w.submitted (y.client, y.request)) w.accepted a
          sound.submitted mine.0;
      accepted_in_turn = all_pairs_push (λ x y. x.client ≡ y.client
          → x.request.number < y.request.number) w.accepted a sound.accepted_in_turn
          (λ i d lt e. All-get_or (λ y. y.client ≡ k → y.request.number < q.number) w.accepted i d
          lt mine.2 e);
      given = All-push (λ y. GivesIn w.history y.request y.outcome) w.accepted a sound.given gives;
    }

sound_reply : (w w' : WorldState) (k i : ℕ) (client : Option ClientState) (b : Option (List ℕ))
    → slice_get w.clients k ≡ client → slice_get w.replied i ≡ b
    → DeliversReply w k client b w' → IsSoundWorld w → IsSoundWorld w'
sound_reply w w' k i None b there came is sound = sound_same w w' is sound
sound_reply w w' k i (Some c) None there came is sound = sound_same w w' is sound
sound_reply w w' k i (Some c) (Some b) there came is sound = elim is [
  | inl own ↦ sound_same _ w' own.3 (sound_accept w k c own.0 own.1 there own.2.0
      (given_by w.history b own.0 own.1 (all_at (IsReplyIn w.history) w.replied i b sound.replied
      came) own.2.1) sound)
  | inr other ↦ sound_same w w' other.1 sound
]

step_sound : (t : Terms) (w w' : WorldState) (e : Event) → Step t w e w' → IsSoundWorld w
    → IsSoundWorld w'
step_sound t w w' (Submit k body) is sound =
    sound_same (after_submit_by w k body (slice_get w.clients k)) w' is
    (sound_submit_by w k body (slice_get w.clients k) refl sound)
step_sound t w w' (Resend k) is sound = sound_resends w w' (slice_get w.clients k) is sound
step_sound t w w' (GiveUp k) is sound = sound_same (after_give_up_by w k (slice_get w.clients k)) w'
    is (sound_give_up_by w k (slice_get w.clients k) refl sound)
step_sound t w w' (ToServer index day) is sound = sound_request t w w' (slice_get w.asked index) day
    is sound
step_sound t w w' (Strange packet day) is sound = sound_reaches t w w' packet day is sound
step_sound t w w' (ToClient k index) is sound = sound_reply w w' k index (slice_get w.clients k)
    (slice_get w.replied index) refl refl is sound

pub steps_sound : (t : Terms) (w w' : WorldState) (es : List Event) → Steps t w es w'
    → IsSoundWorld w → IsSoundWorld w'
steps_sound t w w' [] is sound = sound_same w w' is sound
steps_sound t w w' (e ∷ es) is sound =
    steps_sound t is.0 w' es is.2 (step_sound t w is.0 e is.1 sound)

-- The world is sound after a run that ended, or that stopped before an event.
pub run_sound : (t : Terms) (w w' : WorldState) (es : List Event) (r : Result (Unit {0}) WorldFault)
    → OnOk r (Steps t w es w')
    → IfErr r (λ fault. Steps t w (take (place_of fault) es) w') → IsSoundWorld w → IsSoundWorld w'
run_sound t w w' es (Ok done) ok stopped sound = steps_sound t w w' es ok sound
run_sound t w w' es (Err fault) ok stopped sound = steps_sound t w w' (take (place_of fault) es)
    stopped sound

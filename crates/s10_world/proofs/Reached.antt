-- Lemmas about the worlds that the steps reach from a start.
use Rattle.std.proofs.Common.{◌≡◌, ◌∙◌, ◌⊎◌, inl, inr, ℕ, ◌<◌, Bool, true, false, cond, max, List}
use Rattle.std.proofs.Common.{[], ◌∷◌, length, Option, Some, None, refl, sym, ap, subst, arith}
use Rattle.std.specs.Prelude.{slice_get, is_some, IsSome}
use Rattle.std.proofs.lemmas.List.Elements.{All-nil, All-same}
use Rattle.std.proofs.lemmas.Option.{none-some}
use Rattle.s10_wire.specs.declared.body.Body.{Body}
use Rattle.s10_wire.specs.declared.request.Request.{Request}
use Rattle.s10_history.specs.declared.entry.Entry.{Entry}
use Rattle.s10_history.specs.Settings.{Terms}
use Rattle.s10_history.specs.History.{find_entry, day_of}
use Rattle.s10_book.specs.Once.{entry_for, applied}
use Rattle.s10_book.specs.Rules.{IsLegal}
use Rattle.s10_book.proofs.Push.{IsLegal-push}
use Rattle.s10_book.proofs.Own.{own}
use Rattle.s10_ends.specs.Served.{IsReplyIn}
use Rattle.s10_ends.specs.Client.{ClientState, IsNew, submit_fault}
use Rattle.s10_world.specs.declared.event.Event.{Event}
use Rattle.s10_world.specs.declared.event.Event.TheVariants.{Submit, Resend, GiveUp, ToServer}
use Rattle.s10_world.specs.declared.event.Event.TheVariants.{Strange, ToClient}
use Rattle.s10_world.specs.World.{WorldState, after_submit_by, after_give_up_by, SendsPending}
use Rattle.s10_world.specs.World.{Resends, ServesRequest, ReachesServer, DeliversRequest}
use Rattle.s10_world.specs.World.{DeliversReply, Step, Steps}
use Rattle.s10_world.specs.Sound.{IsOfClient, IsStart, IsSoundWorld}
use Rattle.s10_ends.proofs.Applied.{once_one}
use Rattle.s10_world.proofs.Kept.{all_at}

none_within : {X : Type 0} (xs : List X) (j : ℕ) → xs ≡ [] → ¬ (j < length xs)
none_within xs j empty within = let none : length xs ≡ 0 = ap length empty in
    omega (arith, within, none)

pub start_sound : (w : WorldState) → IsStart w → IsSoundWorld w
start_sound w start =
    record {
      replied = All-same (IsReplyIn w.history) w.replied [] start.replied
          (All-nil (IsReplyIn w.history));
      taken = All-same (IsOfClient w.clients) w.submitted [] start.submitted
          (All-nil (IsOfClient w.clients));
      in_turn = λ i j d before within. absurd (none_within w.submitted j start.submitted within);
      awaited = λ k c q there pending. absurd
          (none-some q (sym (all_at IsNew w.clients k c start.clients there).1 ∙ pending));
      submitted = λ k d within. absurd (none_within w.accepted k start.accepted within);
      accepted_in_turn = λ i j d before within. absurd (none_within w.accepted j start.accepted
          within);
      given = λ k d within. absurd (none_within w.accepted k start.accepted within);
    }

legal_same : (t : Terms) (w w' : WorldState) → w'.history ≡ w.history → IsLegal w.history t
    → IsLegal w'.history t
legal_same t w w' same legal = subst (λ (h : List Entry). IsLegal h t) (sym same) legal

applied_at : (h : List Entry) (t : Terms) (q : Request) (day : ℕ) (kept : Option Entry)
    → find_entry h q.customer q.number ≡ kept
    → (length h < t.limit) ⊎ IsSome kept → IsLegal h t
    → IsLegal (cond (is_some kept) h (applied t.interval h (q, day))) t
applied_at h t q day (Some e) is room legal = legal
applied_at h t q day None is (inr known) legal = absurd (none-some known (cc))
applied_at h t q day None is (inl left) legal =
    IsLegal-push h t (entry_for h q t.interval (max (day_of h) day)) legal
    (record { new_key = is; in_order = omega arith; room = left; right = refl })

legal_serves : (t : Terms) (w w' : WorldState) (b : List ℕ) (q : Request) (day : ℕ)
    → ServesRequest t w b q day w' → IsLegal w.history t → IsLegal w'.history t
legal_serves t w w' b q day serves legal = elim serves [
  | inl fault ↦ legal_same t w w' (ap (λ (v : WorldState). v.history) fault.1) legal
  | inr other ↦ elim other [
    | inl full ↦ legal_same t w w' (ap (λ (v : WorldState). v.history) full.1) legal
    | inr replied ↦
        let after : w'.history ≡ cond (is_some (find_entry w.history q.customer q.number)) w.history
        (applied t.interval w.history (q, day)) =
        ap (λ (v : WorldState). v.history) replied.3 ∙ once_one w.history q day t.interval in
        subst (λ (h : List Entry). IsLegal h t) (sym after)
        (applied_at w.history t q day (find_entry w.history q.customer q.number) refl replied.0
        legal)
  ]
]

legal_reaches : (t : Terms) (w w' : WorldState) (b : List ℕ) (day : ℕ) → ReachesServer t w b day w'
    → IsLegal w.history t → IsLegal w'.history t
legal_reaches t w w' b day reaches legal = elim reaches [
  | inl nothing ↦ legal_same t w w' (ap (λ (v : WorldState). v.history) nothing.1) legal
  | inr asks ↦ legal_serves t w w' b asks.0 day asks.2 legal
]

legal_request : (t : Terms) (w w' : WorldState) (b : Option (List ℕ)) (day : ℕ)
    → DeliversRequest t w b day w' → IsLegal w.history t → IsLegal w'.history t
legal_request t w w' None day is legal = legal_same t w w' (ap (λ (v : WorldState). v.history) is)
    legal
legal_request t w w' (Some b) day is legal = legal_reaches t w w' b day is legal

chosen_history : (b : Bool) (x y : WorldState) → y.history ≡ x.history → (cond b x y).history
    ≡ x.history
chosen_history true x y same = refl
chosen_history false x y same = same

submit_history : (w : WorldState) (k : ℕ) (body : Body) (client : Option ClientState)
    → (after_submit_by w k body client).history ≡ w.history
submit_history w k body None = refl
submit_history w k body (Some c) = chosen_history (is_some (submit_fault c)) w _ refl

give_up_history : (w : WorldState) (k : ℕ) (client : Option ClientState)
    → (after_give_up_by w k client).history ≡ w.history
give_up_history w k None = refl
give_up_history w k (Some c) = refl

sends_history : (w w' : WorldState) (pending : Option Request) → SendsPending w pending w'
    → w'.history ≡ w.history
sends_history w w' None is = ap (λ (v : WorldState). v.history) is
sends_history w w' (Some q) is = ap (λ (v : WorldState). v.history) is.2

resends_history : (w w' : WorldState) (client : Option ClientState) → Resends w client w'
    → w'.history ≡ w.history
resends_history w w' None is = ap (λ (v : WorldState). v.history) is
resends_history w w' (Some c) is = sends_history w w' c.pending is

reply_history : (w w' : WorldState) (k : ℕ) (client : Option ClientState) (b : Option (List ℕ))
    → DeliversReply w k client b w' → w'.history ≡ w.history
reply_history w w' k None b is = ap (λ (v : WorldState). v.history) is
reply_history w w' k (Some c) None is = ap (λ (v : WorldState). v.history) is
reply_history w w' k (Some c) (Some b) is = elim is [
  | inl own ↦ ap (λ (v : WorldState). v.history) own.3
  | inr other ↦ ap (λ (v : WorldState). v.history) other.1
]

step_legal : (t : Terms) (w w' : WorldState) (e : Event) → Step t w e w' → IsLegal w.history t
    → IsLegal w'.history t
step_legal t w w' (Submit k body) is legal =
    legal_same t w w' (ap (λ (v : WorldState). v.history) is ∙ submit_history w k body
    (slice_get w.clients k)) legal
step_legal t w w' (Resend k) is legal =
    legal_same t w w' (resends_history w w' (slice_get w.clients k) is) legal
step_legal t w w' (GiveUp k) is legal = legal_same t w w' (ap (λ (v : WorldState). v.history) is
    ∙ give_up_history w k (slice_get w.clients k)) legal
step_legal t w w' (ToServer index day) is legal = legal_request t w w' (slice_get w.asked index) day
    is legal
step_legal t w w' (Strange packet day) is legal = legal_reaches t w w' packet day is legal
step_legal t w w' (ToClient k index) is legal =
    legal_same t w w' (reply_history w w' k (slice_get w.clients k) (slice_get w.replied index) is)
    legal

pub steps_legal : (t : Terms) (w w' : WorldState) (es : List Event) → Steps t w es w'
    → IsLegal w.history t → IsLegal w'.history t
steps_legal t w w' [] is legal = legal_same t w w' (ap (λ (v : WorldState). v.history) is) legal
steps_legal t w w' (e ∷ es) is legal =
    steps_legal t is.0 w' es is.2 (step_legal t w is.0 e is.1 legal)

-- One request applied to a history.
use Rattle.std.proofs.Common.{◌≡◌, ℕ, Bool, true, false, cond, eqb, List, [], ◌∷◌, ◌++◌, map}
use Rattle.std.proofs.Common.{max, Some, None, refl, sym, ap, ◌∙◌}
use Rattle.std.specs.Prelude.{find, fold, is_some}
use Rattle.std.specs.List.{list_any}
use Rattle.std.proofs.lemmas.Bool.{and_from, eq-eqb, cond-true}
use Rattle.std.proofs.lemmas.List.Folds.{find-append}
use Rattle.std.specs.Option.{option_or}
use Rattle.s10_wire.specs.Kind.{fits}
use Rattle.s10_wire.specs.declared.body.Body.{Body}
use Rattle.s10_wire.specs.declared.body.Body.TheVariants.{Grant, Draw, Void, Query, DrawMany}
use Rattle.s10_wire.specs.declared.body.Body.TheVariants.{Withdraw}
use Rattle.s10_wire.specs.declared.request.Request.{Request}
use Rattle.s10_wire.specs.declared.outcome.Outcome.{Outcome}
use Rattle.s10_wire.specs.declared.outcome.Outcome.TheVariants.{NumberReused}
use Rattle.s10_history.specs.declared.entry.Entry.{Entry}
use Rattle.s10_history.specs.History.{has_key, find_entry, day_of}
use Rattle.s10_book.specs.Rules.{answer_of}
use Rattle.s10_book.specs.Once.{same_key, entry_for, applied, applied_once}
use Rattle.s10_book.proofs.Granting.{any_at}

-- The key of a request occurs among the requests if its call is kept.
pub any_kept : (q : Request) (h : List Entry) → list_any (same_key q) (map (λ e. e.request) h)
    ≡ is_some (find_entry h q.customer q.number)
any_kept q [] = refl
any_kept q (e ∷ es) = any_at (has_key q.customer q.number e) _ e _ (any_kept q es)

one_at : (b : Bool) (h : List Entry) (n : ℕ) (p : Request × ℕ)
    → fold (applied n) h (cond b [] (p ∷ [])) ≡ cond b h (applied n h p)
one_at true h n p = refl
one_at false h n p = refl

-- One request is applied if its key is new.
pub once_one : (h : List Entry) (q : Request) (t n : ℕ) → applied_once h ((q, t) ∷ []) n
    ≡ cond (is_some (find_entry h q.customer q.number)) h (applied n h (q, t))
once_one h q t n = one_at (list_any (same_key q) (map (λ e. e.request) h)) h n (q, t)
    ∙ ap (λ b. cond b h (applied n h (q, t))) (any_kept q h)

-- Applying a kept request changes nothing.
pub once_kept : (h : List Entry) (q : Request) (t n : ℕ) (e : Entry)
    → find_entry h q.customer q.number ≡ Some e → applied_once h ((q, t) ∷ []) n ≡ h
once_kept h q t n e is = once_one h q t n ∙ ap (λ o. cond (is_some o) h (applied n h (q, t))) is

-- Applying a new request adds it with its outcome.
pub once_new : (h new : List Entry) (q : Request) (t d n : ℕ) (o : Outcome)
    → find_entry h q.customer q.number ≡ None → d ≡ max (day_of h) t → o ≡ answer_of h q d n
    → new ≡ h ++ record { request = q; day = d; outcome = o } ∷ []
    → new ≡ applied_once h ((q, t) ∷ []) n
once_new h new q t d n o none day is grown =
    grown ∙ ap (λ x. h ++ record { request = q; day = d; outcome = x } ∷ []) is
    ∙ ap (λ x. h ++ entry_for h q n x ∷ []) day
    ∙ sym (once_one h q t n ∙ ap (λ x. cond (is_some x) h (applied n h (q, t))) none)

kept_at : (b : Bool) (e : Entry) → b ≡ true → cond b (Some e) None ≡ Some e
kept_at b e is = cond-true b (Some e) None is

-- A new request that was added is kept under its key.
pub kept_new : (h new : List Entry) (e : Entry) → find_entry h e.request.customer e.request.number
    ≡ None → new ≡ h ++ e ∷ [] → find_entry new e.request.customer e.request.number ≡ Some e
kept_new h new e none grown =
    ap (λ l. find_entry l e.request.customer e.request.number) grown
    ∙ find-append (has_key e.request.customer e.request.number) h (e ∷ [])
    ∙ ap (λ o. option_or o (find (has_key e.request.customer e.request.number) (e ∷ []))) none
    ∙ kept_at (has_key e.request.customer e.request.number e) e
    (and_from (eqb e.request.customer e.request.customer)
    (eqb e.request.number e.request.number) (eq-eqb _ _ refl) (eq-eqb _ _ refl))

-- NumberReused fits every request.
pub reused_fits : (b : Body) → fits b NumberReused ≡ true
reused_fits (Grant holder service country first last) = refl
reused_fits (Draw service country) = refl
reused_fits (Void id) = refl
reused_fits (Query id) = refl
reused_fits (DrawMany service country count) = refl
reused_fits (Withdraw range) = refl

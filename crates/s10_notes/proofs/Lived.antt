-- No number of a life is sent with two requests.
use Rattle.std.proofs.Common.{◌≡◌, ◌+◌, ◌<◌, List, [], ◌∷◌, Some, None, sym, ap, ◌∙◌}
use Rattle.std.proofs.Common.{arith, inl, inr}
use Rattle.std.proofs.lemmas.Option.{same_Some, none-some}
use Rattle.s10_wire.specs.declared.body.Body.{Body}
use Rattle.s10_wire.specs.declared.request.Request.{Request}
use Rattle.s10_notes.specs.Notes.{NotesState, after_take, next_request, without_request}
use Rattle.s10_notes.specs.Lives.{Life, WasSent, UsesOnce}
use Rattle.s10_notes.specs.Lives.Life.{begun, taken, sent_open, answered}

-- The open request has the number before the next one.
record Used (n : NotesState) (sent : List Request) : Type 0 where
  uses : UsesOnce n sent
  latest : (r : Request) → n.request ≡ Some r → r.number + 1 ≡ n.next

used_at_first : (first : NotesState) → first.request ≡ None → Used first []
used_at_first first idle = record {
  uses = record {
    next = λ q h. absurd h;
    own = λ q r h. absurd h;
    once = λ p q h. absurd h;
  };
  latest = λ r is. absurd (none-some r (sym idle ∙ is));
}

used_after_take : (n : NotesState) (sent : List Request) (body : Body) → Used n sent
    → Used (after_take n body) sent
used_after_take n sent body u = record {
  uses = record {
    next = λ q h. let low = u.uses.next q h in omega (arith, low);
    own = λ q r h is same.
        let low = u.uses.next q h in
        let this : r.number ≡ n.next = sym (ap (λ (x : Request). x.number)
        (same_Some (next_request n body) r is)) in
        absurd (omega (arith, low, this, same));
    once = u.uses.once;
  };
  latest = λ r is. let this : n.next ≡ r.number = ap (λ (x : Request). x.number)
      (same_Some (next_request n body) r is) in omega (arith, this);
}

used_after_send : (n : NotesState) (sent : List Request) (q : Request) → n.request ≡ Some q
    → Used n sent → Used n (q ∷ sent)
used_after_send n sent q open_one u = record {
  uses = record { next = next; own = own; once = once };
  latest = u.latest;
}
  where
    next : (p : Request) → WasSent p (q ∷ sent) → p.number < n.next
    next p (inl is) = let number : p.number ≡ q.number = ap (λ (x : Request). x.number) is in
        let this = u.latest q open_one in omega (arith, number, this)
    next p (inr h) = u.uses.next p h

    own : (p r : Request) → WasSent p (q ∷ sent) → n.request ≡ Some r → p.number ≡ r.number → p ≡ r
    own p r (inl is) other same = is ∙ same_Some q r (sym open_one ∙ other)
    own p r (inr h) other same = u.uses.own p r h other same

    once : (p r : Request) → WasSent p (q ∷ sent) → WasSent r (q ∷ sent) → p.number ≡ r.number
        → p ≡ r
    once p r (inl p_is) (inl r_is) same = p_is ∙ sym r_is
    once p r (inl p_is) (inr h) same = p_is ∙ sym (u.uses.own r q h open_one
        (sym same ∙ ap (λ (x : Request). x.number) p_is))
    once p r (inr h) (inl r_is) same = u.uses.own p q h open_one
        (same ∙ ap (λ (x : Request). x.number) r_is) ∙ sym r_is
    once p r (inr h) (inr k) same = u.uses.once p r h k same

used_after_answer : (n : NotesState) (sent : List Request) → Used n sent
    → Used (without_request n) sent
used_after_answer n sent u = record {
  uses = record {
    next = u.uses.next;
    own = λ q r h is. absurd (none-some r is);
    once = u.uses.once;
  };
  latest = λ r is. absurd (none-some r is);
}

used : (first n : NotesState) (sent : List Request) → first.request ≡ None → Life first n sent
    → Used n sent
used first n sent idle begun = used_at_first first idle
used first n sent idle (taken {n = m} l body free) = used_after_take m sent body
    (used first m sent idle l)
used first n sent idle (sent_open {sent = before} l q open_one) = used_after_send n before q open_one
    (used first n before idle l)
used first n sent idle (answered {n = m} l) = used_after_answer m sent (used first m sent idle l)

pub used_once : (first n : NotesState) (sent : List Request) → first.request ≡ None
    → Life first n sent → UsesOnce n sent
used_once first n sent idle l = (used first n sent idle l).uses

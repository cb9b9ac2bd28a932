-- Lemmas about the book of a near link after calls over it.
use Rattle.std.proofs.Common.{◌≡◌, ◌∙◌, refl, sym, ap, subst, ℕ, List, [], ◌∷◌, ◌++◌, Option, Some}
use Rattle.std.proofs.Common.{None, Result, Ok, Err, inl, inr}
use Rattle.std.proofs.lemmas.List.Elements.{All-nil, All-push}
use Rattle.s10_link.specs.declared.trace.Trace.{Trace}
use Rattle.s10_link.specs.Link.{LeadsTo}
use Rattle.s10_link.specs.Link.LeadsTo.{none, more}
use Rattle.s10_history.specs.declared.entry.Entry.{Entry}
use Rattle.s10_link.specs.declared.link_fault.LinkFault.{LinkFault}
use Rattle.s10_book.specs.declared.faults.Faults.{Faults}
use Rattle.s10_history.specs.Settings.{Terms}
use Rattle.s10_ends.specs.declared.answer.Answer.{Answer}
use Rattle.s10_ends.specs.declared.exchange.Exchange.{Exchange}
use Rattle.s10_ends.specs.NearEnds.{NearEnds}
use Rattle.s10_ends.specs.declared.server.Server.{Server}
use Rattle.s10_ends.specs.Served.{Dated, Served}
use Rattle.s10_ends.specs.Server.{book_of}
use Rattle.s10_ends.specs.Turn.{Turn, Handles, Takes, AnswersTaken, ServesOne}
use Rattle.s10_ends.specs.NearLink.{IsNearStep, ServedOn}
use Rattle.s10_ends.proofs.Whole.{Served-nil, Served-push}

none_on : (day : ℕ) (h : List Entry) (t : Terms) → ServedOn day h t h
none_on day h t = record {
  deliveries = [];
  answers = [];
  days = All-nil (λ (d : Dated). d.1 ≡ day);
  served = Served-nil h t;
}

one_more_on : (day : ℕ) (h h1 h2 : List Entry) (t t1 : Terms) (b : List ℕ) (answer : Answer)
    → ServedOn day h t h1 → t1 ≡ t → Served h1 t1 ((b, day) ∷ []) (answer ∷ []) h2
    → ServedOn day h t h2
one_more_on day h h1 h2 t t1 b answer before same one = record {
  deliveries = before.deliveries ++ (b, day) ∷ [];
  answers = before.answers ++ answer ∷ [];
  days = All-push (λ (d : Dated). d.1 ≡ day) before.deliveries (b, day) before.days refl;
  served = Served-push h h1 h2 t before.deliveries before.answers (b, day) answer before.served
      (subst (λ (u : Terms). Served h1 u ((b, day) ∷ []) (answer ∷ []) h2) same one);
}

module _ {B F N : Type 0} (faults : B → Faults) (honest : B → Type 0) (terms : B → Terms)
    (history committed : B → List Entry) (clean : B → Type 0)
    (may_find : B → Option (List Entry) → Type 0) (far : F → Trace) (near : N → Trace)
    (far_step : F → F → Type 0) where
  -- The book before and after datagrams of that day.
  pub record LedOn (day : ℕ) (old new : B) : Type 0 where
    pub was_honest : honest new → honest old
    pub same_terms : honest new → terms new ≡ terms old
    pub served : honest new → ServedOn day (history old) (terms old) (history new)

  not_led : (day : ℕ) (book : B) → LedOn day book book
  not_led day book = record {
    was_honest = λ h. h;
    same_terms = λ h. refl;
    served = λ h. none_on day (history book) (terms book);
  }

  still : (day : ℕ) (old between new : B) → LedOn day old between → new ≡ between
      → LedOn day old new
  still day old between new led same = subst (λ (b : B). LedOn day old b) (sym same) led

  handled : (day : ℕ) (old between new : B) (b : List ℕ) (answer : Answer) → LedOn day old between
      → Handles faults honest terms history committed clean may_find between new day b answer →
      LedOn day old new
  handled day old between new b answer led handles = record {
    was_honest = λ h. led.was_honest (handles.was_honest h);
    same_terms = λ h. handles.same_terms h ∙ led.same_terms (handles.was_honest h);
    served = λ h.
        let before = handles.was_honest h in
        one_more_on day (history old) (history between) (history new) (terms old) (terms between) b
        answer (led.served before) (led.same_terms before) (handles.served h);
  }

  -- The book after a turn that handled one datagram on the day, or received none.
  turned : (day : ℕ) (book : B) (old between new : Trace × B)
      (taken : Result (Option Exchange) LinkFault) (turn : Turn) → LedOn day book old.1
      → Takes (λ before after b answer. Handles faults honest terms history committed clean may_find
      before after
      day b answer) old between taken → AnswersTaken between new taken turn → LedOn day book new.1
  turned day book old between new (Ok None) turn led takes answers =
      still day book old.1 new.1 led (ap (λ (s : Trace × B). s.1) answers.0 ∙ takes.1)
  turned day book old between new (Ok (Some t)) turn led takes answers =
      still day book between.1 new.1
      (handled day book old.1 between.1 t.packet t.answer led takes.1) answers.0
  turned day book old between new (Err fault) turn led takes answers =
      still day book old.1 new.1 led (ap (λ (s : Trace × B). s.1) answers.0 ∙ takes.1)

  served : (day : ℕ) (book : B) (old new : Trace × B) (turn : Turn) → LedOn day book old.1
      → ServesOne faults honest terms history committed clean may_find day old new turn → LedOn day
      book new.1
  served day book old new turn led one = turned day book old one.between new one.taken turn led
      one.takes one.answers

  abbrev Step : NearEnds B F N → NearEnds B F N → Type 0
  Step = IsNearStep faults honest terms history committed clean may_find far near far_step

  pub day_stays : (old new : NearEnds B F N) → LeadsTo Step old new → new.day ≡ old.day
  day_stays old _ none = refl
  day_stays old new (more {between = between} led step) = step.day ∙ day_stays old between led

  stepped : (day : ℕ) (book : B) (old new : NearEnds B F N) → old.day ≡ day
      → LedOn day book (book_of old.server) → Step old new → LedOn day book (book_of new.server)
  stepped day book old new is led step = elim step.call [
    | inl w ↦ served day book (far old.far, book_of old.server) (far new.far, book_of new.server)
        w.0 led
        (subst (λ (d : ℕ). ServesOne faults honest terms history committed clean may_find d (
          far old.far,
          book_of old.server,
        ) (far new.far, book_of new.server) w.0) is w.2)
    | inr w ↦ still day book (book_of old.server) (book_of new.server) led
        (ap (λ (s : Server B). book_of s) w.3)
  ]

  -- The book of the link after calls over it.
  pub near_led : (old new : NearEnds B F N) → LeadsTo Step old new
      → LedOn old.day (book_of old.server) (book_of new.server)
  near_led old _ none = not_led old.day (book_of old.server)
  near_led old new (more {between = between} led step) = stepped old.day (book_of old.server)
      between new (day_stays old between led) (near_led old between led) step

  -- If the book is honest, all its calls are committed.
  abbrev pub Whole : B → Type 0
  Whole book = honest book → committed book ≡ history book

  was_honest : (old new : NearEnds B F N) → Step old new → honest (book_of new.server)
      → honest (book_of old.server)
  was_honest old new step = (stepped old.day (book_of old.server) old new refl
      (not_led old.day (book_of old.server)) step).was_honest

  stepped_whole : (old new : NearEnds B F N) → Step old new → Whole (book_of old.server)
      → Whole (book_of new.server)
  stepped_whole old new step whole = elim step.call [
    | inl w ↦ λ h. w.3 h (whole (was_honest old new step h))
    | inr w ↦ subst Whole (sym (ap (λ (s : Server B). book_of s) w.3)) whole
  ]

  -- All calls of the book are committed after calls over the link if they were before.
  pub near_whole : (old new : NearEnds B F N) → LeadsTo Step old new → Whole (book_of old.server)
      → Whole (book_of new.server)
  near_whole old _ none whole = whole
  near_whole old new (more {between = between} led step) whole =
      stepped_whole between new step (near_whole old between led whole)

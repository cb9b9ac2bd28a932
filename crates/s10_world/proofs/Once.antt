-- Lemmas about what one delivery does to a history.
use Rattle.std.proofs.Common.{◌≡◌, ◌∙◌, ℕ, ◌<◌, ◌≤◌, cond, List, [], ◌∷◌}
use Rattle.std.proofs.Common.{◌++◌, length, Option, Some, None, refl, ap, arith, inl, inr}
use Rattle.std.specs.Prelude.{is_some, ◌⊎◌, IsSome}
use Rattle.std.proofs.lemmas.List.{length_push}
use Rattle.s10_wire.specs.declared.request.Request.{Request}
use Rattle.s10_wire.specs.Datagrams.{Asks}
use Rattle.s10_wire.proofs.Asked.{one_request}
use Rattle.s10_history.specs.declared.entry.Entry.{Entry}
use Rattle.s10_ends.specs.Served.{Dated, AskNothing, AreAsked}
use Rattle.s10_ends.specs.Served.AreAsked.{none, nothing, request}

-- The requests of deliveries, by the first delivery.
abbrev Inverted : List Dated → List (Request × ℕ) → Type 0
Inverted [] asked = asked ≡ []
Inverted (d ∷ ds) asked = (AskNothing d.0 × AreAsked ds asked)
    ⊎ ((q : Request) × (rest : List (Request × ℕ)) × Asks d.0 q × AreAsked ds rest
    × (asked ≡ (q, d.1) ∷ rest))

inverted : {ds : List Dated} {asked : List (Request × ℕ)} → AreAsked ds asked → Inverted ds asked
inverted none = refl
inverted (nothing asks rest) = inl (asks, rest)
inverted (request asks rest) = inr (_, _, asks, rest, refl)

pub none_asked : (asked : List (Request × ℕ)) → AreAsked [] asked → asked ≡ []
none_asked asked are = inverted are

-- One delivery that asks something asks only that.
pub one_asked : (b : List ℕ) (day : ℕ) (asked : List (Request × ℕ)) (q : Request) → Asks b q
    → AreAsked ((b, day) ∷ []) asked → asked ≡ (q, day) ∷ []
one_asked b day asked q asks are = elim (inverted are) [
  | inl w ↦ absurd (w.0 q asks)
  | inr w ↦ w.4 ∙ ap (λ l. (w.0, day) ∷ l) (none_asked w.1 w.3)
      ∙ ap (λ (p : Request). (p, day) ∷ []) (one_request b w.0 q w.2 asks)
]

-- If a history with one more call is within the limit, there was room for it before.
pub room_at : (o : Option Entry) (h : List Entry) (e : Entry) (limit : ℕ)
    → length (cond (is_some o) h (h ++ e ∷ [])) ≤ limit → (length h < limit) ⊎ IsSome o
room_at (Some kept) h e limit few = inr refl
room_at None h e limit few = inl (omega (arith, few, length_push h e))

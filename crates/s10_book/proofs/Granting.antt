-- When a Grant is done.
use Rattle.std.proofs.Common.{◌≡◌, ℕ, ◌+◌, ◌≤◌, Bool, true, false, cond, eqb, ltb, ◌||◌, List, []}
use Rattle.std.proofs.Common.{◌∷◌, Option, Some, refl, sym, ap, ◌∙◌, length}
use Rattle.std.specs.Prelude.{find, is_some}
use Rattle.std.specs.List.{list_any}
use Rattle.std.proofs.lemmas.Bool.{eq-eqb, ne_eqb, le-ltb, or_from}
use Rattle.s10_wire.specs.declared.outcome.Outcome.TheVariants.{Overlap, Granted}
use Rattle.s10_history.specs.declared.entry.Entry.{Entry}
use Rattle.s10_history.specs.declared.range.Range.{Range}
use Rattle.s10_history.specs.History.{ranges_of, overlaps}
use Rattle.s10_book.specs.Rules.{grant_answer}

-- One more element of a search.
pub any_at : {A : Type 0} (b rest : Bool) (x : A) (o : Option A) → rest ≡ is_some o
    → (b || rest) ≡ is_some (cond b (Some x) o)
any_at true rest x o e = refl
any_at false rest x o e = e

pub any_find : {A : Type 0} (p : A → Bool) (xs : List A) → list_any p xs ≡ is_some (find p xs)
any_find p [] = refl
any_find p (x ∷ xs) = any_at (p x) _ x _ (any_find p xs)

pub grant_of_post : (h : List Entry) (customer holder : ℕ) (s c : ℕ × ℕ) (first lst : ℕ) (b : Bool)
    → customer ≡ 0 → (holder ≡ 0 → ⊥) → first ≤ lst
    → list_any (overlaps s c first lst) (ranges_of h) ≡ b
    → grant_answer h customer holder s c first lst
    ≡ cond b Overlap (Granted (length (ranges_of h) + 1))
grant_of_post h customer holder s c first lst b post someone order any =
    rw (
      eq-eqb customer 0 post,
      or_from (eqb holder 0) (ltb lst first) (ne_eqb holder 0 someone)
          (le-ltb lst first order),
      any,
    ) refl

-- The test of a look-up.
pub any_is : (p : Range → Bool) (rs : List Range) (o : Option Range) (b : Bool) → o ≡ find p rs
    → is_some o ≡ b → list_any p rs ≡ b
any_is p rs o b e t = any_find p rs ∙ sym (ap is_some e) ∙ t

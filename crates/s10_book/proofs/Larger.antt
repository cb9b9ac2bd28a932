-- The outcome of a DrawMany, by the open ranges of the customer.
use Rattle.std.proofs.Common.{◌≡◌, ℕ, true, false, List, [], ◌∷◌, Option, Some, None, refl, sym, ap}
use Rattle.std.proofs.Common.{◌∙◌, arith}
use Rattle.std.specs.Prelude.{find, filter, is_some}
use Rattle.s10_core.specs.declared.id.Id.{Id}
use Rattle.s10_wire.specs.declared.outcome.Outcome.{Outcome}
use Rattle.s10_wire.specs.declared.outcome.Outcome.TheVariants.{DrawnMany, NoRange, NoneFree}
use Rattle.s10_history.specs.declared.entry.Entry.{Entry}
use Rattle.s10_history.specs.declared.range.Range.{Range}
use Rattle.s10_history.specs.History.{ranges_of, is_open, ranges_open}
use Rattle.s10_book.specs.Rules.{outcome_of_draws, draw_many_answer, successive_draws}
use Rattle.s10_history.proofs.Numbering.{above, numbered, filter_above, next_above, filter_none}

-- The outcome for a customer who holds an open range.
abbrev pub told_of : ℕ → Option (List Id) → Outcome
told_of day None = NoneFree
told_of day (Some ids) = DrawnMany day ids

told_after : (day : ℕ) (r : Range) (rs : List Range) (row : Option (List Id))
    → outcome_of_draws day (r ∷ rs) row ≡ told_of day row
told_after day r rs None = refl
told_after day r rs (Some ids) = refl

-- The customer holds an open range.
pub many_told : (h : List Entry) (customer : ℕ) (s c : ℕ × ℕ) (count day n : ℕ) (o : Option Range)
    (row : Option (List Id)) → is_some o ≡ true → o ≡ find (above (is_open h customer s c) 0)
    (ranges_of h)
    → row ≡ successive_draws h customer s c day n count → told_of day row ≡ draw_many_answer h
    customer s c count day n
many_told h customer s c count day n None row some found e = absurd cc
many_told h customer s c count day n (Some r) row some found e =
    let rs : List Range = filter (above (is_open h customer s c) r.num) (ranges_of h) in
    let held : ranges_open h customer s c ≡ r ∷ filter (above (is_open h customer s c) r.num)
    (ranges_of h) =
    sym (filter_above (is_open h customer s c) 0 1 (ranges_of h) (omega arith) (numbered 1 h))
    ∙ next_above (is_open h customer s c) 0 1 (ranges_of h) r (numbered 1 h) (sym found) in
    sym (ap (λ (l : List Range). outcome_of_draws day l (successive_draws h customer s c day n
    count)) held
    ∙ told_after day r (filter (above (is_open h customer s c) r.num) (ranges_of h))
    (successive_draws h customer s c day n count) ∙ ap (told_of day) (sym e))

-- The customer holds no open range.
pub many_nowhere : (h : List Entry) (customer : ℕ) (s c : ℕ × ℕ) (count day n : ℕ)
    (o : Option Range) → is_some o ≡ false → o ≡ find (above (is_open h customer s c) 0)
    (ranges_of h) → NoRange ≡ draw_many_answer h customer s c count day n
many_nowhere h customer s c count day n (Some r) none found = absurd cc
many_nowhere h customer s c count day n None none found =
    let empty : ranges_open h customer s c ≡ [] =
    sym (filter_above (is_open h customer s c) 0 1 (ranges_of h) (omega arith) (numbered 1 h))
    ∙ filter_none (above (is_open h customer s c) 0) (ranges_of h) (sym found) in
    sym (ap (λ (l : List Range). outcome_of_draws day l (successive_draws h customer s c day n
    count)) empty)

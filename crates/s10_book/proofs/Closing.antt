-- Calls that leave the open ranges unchanged.
use Rattle.std.proofs.Common.{◌≡◌, ℕ, ◌+◌, Bool, false, not, ◌&&◌, ◌||◌, List, [], ◌∷◌, ◌++◌}
use Rattle.std.proofs.Common.{length, refl, ap, ◌∙◌}
use Rattle.std.specs.Prelude.{filter}
use Rattle.std.proofs.lemmas.List.Folds.{list_any-append}
use Rattle.s10_core.specs.declared.id.Id.{Id}
use Rattle.s10_history.specs.declared.entry.Entry.{Entry}
use Rattle.s10_history.specs.History.{ranges_of, range_of_grant, withdraws, is_closed, is_held}
use Rattle.s10_history.specs.History.{is_open, ranges_open}
use Rattle.s10_book.specs.Rules.{draw_done}
use Rattle.s10_book.specs.Promises.{without_number}
use Rattle.s10_history.proofs.Push.{same_ranges}
use Rattle.s10_history.proofs.Voided.{or_none}
use Rattle.std.proofs.lemmas.List.Elements.{filter_agree}

-- A call that withdraws no range closes none.
pub closed_push : (h : List Entry) (e : Entry) (num : ℕ) → withdraws num e.request.body e.outcome
    ≡ false → is_closed (h ++ e ∷ []) num ≡ is_closed h num
closed_push h e num none =
    list_any-append (λ (f : Entry). withdraws num f.request.body f.outcome) h (e ∷ [])
    ∙ ap (λ (b : Bool). is_closed h num || (b || false)) none ∙ or_none (is_closed h num) false refl

-- A Done Draw creates no range.
pub draw_ranges : (g : List Entry) (e : Entry) (customer : ℕ) (s c : ℕ × ℕ) (day : ℕ) (x : Id)
    → without_number e ≡ draw_done customer s c day x → ranges_of (g ++ e ∷ []) ≡ ranges_of g
draw_ranges g e customer s c day x is =
    same_ranges g e (ap (λ (f : Entry). range_of_grant (1 + length (ranges_of g)) f.request.body
    f.outcome) is)

-- A Done Draw closes no range.
pub draw_open : (g : List Entry) (e : Entry) (customer : ℕ) (s c : ℕ × ℕ) (day : ℕ) (x : Id)
    → without_number e ≡ draw_done customer s c day x → ranges_open (g ++ e ∷ []) customer s c
    ≡ ranges_open g customer s c
draw_open g e customer s c day x is =
    filter_agree (is_open (g ++ e ∷ []) customer s c) (is_open g customer s c)
    (λ r. ap (λ (b : Bool). is_held customer s c r && not b)
    (closed_push g e r.num (ap (λ (f : Entry). withdraws r.num f.request.body f.outcome) is)))
    (ranges_of (g ++ e ∷ []))
    ∙ ap (filter (is_open g customer s c)) (draw_ranges g e customer s c day x is)

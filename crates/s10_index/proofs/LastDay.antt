-- The day of a history is that of its last call.
use Rattle.std.proofs.Common.{◌≡◌, ◌∙◌, ◌-◌, List, [], ◌∷◌, Some, None, length, refl, sym, ap}
use Rattle.std.proofs.Common.{arith}
use Rattle.std.specs.Prelude.{slice_get}
use Rattle.std.proofs.lemmas.Option.{none-some, same_Some, slice_get-get_or}
use Rattle.s10_history.specs.declared.entry.Entry.{Entry}
use Rattle.s10_history.specs.History.{day_of}

one_less : (d : Entry) (h : List Entry) → length (d ∷ h) - 1 ≡ length h
one_less d h = omega arith

day_after : (d : Entry) (h : List Entry) (e : Entry) → slice_get (d ∷ h) (length h) ≡ Some e
    → e.day ≡ day_of (d ∷ h)
day_after d [] e last = ap (λ (x : Entry). x.day) (sym (same_Some d e last))
day_after d (f ∷ h) e last = day_after f h e last

pub day_last : (h : List Entry) (e : Entry) → slice_get h (length h - 1) ≡ Some e → e.day ≡ day_of h
day_last [] e last = absurd (none-some e last)
day_last (d ∷ h) e last = day_after d h e (ap (slice_get (d ∷ h)) (sym (one_less d h)) ∙ last)

pub no_day : (h : List Entry) → slice_get h (length h - 1) ≡ None → 0 ≡ day_of h
no_day [] none = refl
no_day (d ∷ h) none =
    absurd (none-some _ (sym none ∙ slice_get-get_or (d ∷ h) (length (d ∷ h) - 1) d (omega arith)))

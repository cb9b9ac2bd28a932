-- Each distinct request applied once, in order of first arrival.
use Rattle.std.specs.Prelude.{ℕ, max, ◌==◌, Bool, ◌&&◌, if◌then◌else◌, List, [], ◌∷◌, ◌++◌, map}
use Rattle.std.specs.Prelude.{fold}
use Rattle.std.specs.List.{list_any}
use Rattle.s10_wire.specs.declared.request.Request.{Request}
use Rattle.s10_history.specs.declared.entry.Entry.{Entry}
use Rattle.s10_history.specs.History.{day_of}
use Rattle.s10_book.specs.Rules.{answer_of}

-- Whether two requests have the same key.
abbrev pub same_key : Request → Request → Bool
same_key q r = (r.customer == q.customer) && (r.number == q.number)

-- The requests, each with its day, whose key is not among those seen and not in an earlier request.
abbrev pub first_arrivals : List Request → List (Request × ℕ) → List (Request × ℕ)
first_arrivals seen [] = []
first_arrivals seen (p ∷ ps) = if list_any (same_key p.0) seen then first_arrivals seen ps
    else p ∷ first_arrivals (seen ++ p.0 ∷ []) ps

-- The call of a new request on a day.
abbrev pub entry_for : List Entry → Request → ℕ → ℕ → Entry
entry_for h q interval day = record { request = q; day = day; outcome = answer_of h q day interval }

-- The history after a new request is applied, on the later of its day and the history's.
abbrev pub applied : ℕ → List Entry → Request × ℕ → List Entry
applied interval h p = h ++ entry_for h p.0 interval (max (day_of h) p.1) ∷ []

-- The history after each first arrival is applied once, in order.
abbrev pub applied_once : List Entry → List (Request × ℕ) → ℕ → List Entry
applied_once h ps interval = fold (applied interval) h (first_arrivals (map (λ e. e.request) h) ps)

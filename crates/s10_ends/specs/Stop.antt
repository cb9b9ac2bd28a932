-- What an opening may find if the server is stopped.
use Rattle.std.specs.Prelude.{◌⊎◌, ℕ, List, [], ◌∷◌, Option}
use Rattle.s10_history.specs.declared.entry.Entry.{Entry}
use Rattle.s10_history.specs.Settings.{Terms}
use Rattle.s10_book.specs.Book.{IsBetween, FindsCalls}
use Rattle.s10_ends.specs.Served.{Dated, IsOnce}

-- The first deliveries are some of the second ones, in the same order.
pub data AreSome : List Dated → List Dated → Type 0 where
  none : AreSome [] []
  without : {d : Dated} {some all : List Dated} → AreSome some all → AreSome some (d ∷ all)
  with : {d : Dated} {some all : List Dated} → AreSome some all → AreSome (d ∷ some) (d ∷ all)

-- An opening finds the committed calls and perhaps more: a beginning of what each distinct request
-- of some of the deliveries once, in order of first arrival, makes of the history.
abbrev pub IsFoundAmong : List Entry → List Entry → ℕ → List Dated → Option (List Entry) → Type 0
IsFoundAmong committed h interval deliveries found = (some : List Dated) × (whole : List Entry)
    × AreSome some deliveries × IsOnce h some interval whole
    × FindsCalls (IsBetween committed whole) found

-- After these deliveries and a stop, an opening may find what it could find before them or, if the
-- book was honest, its committed calls and perhaps more: pending ones, and those of the deliveries.
-- The store is still clean only if it was clean before.
pub record StopsAfter {B : Type 0} (terms : B → Terms) (history committed : B → List Entry)
    (honest clean : B → Type 0) (may_find : B → Option (List Entry) → Type 0) (before after : B)
    (deliveries : List Dated) : Type 0 where
  pub was_clean : clean after → clean before
  pub finds : clean after → (found : Option (List Entry)) → may_find after found
      → may_find before found ⊎ (honest before
      × IsFoundAmong (committed before) (history before) (terms before).interval deliveries found)

-- Which calls of a book are committed, and what a commit does to it.
use Rattle.std.specs.Prelude.{◌≡◌, ℕ, List, Option}
use Rattle.s10_history.specs.declared.entry.Entry.{Entry}
use Rattle.s10_history.specs.History.{find_entry}
use Rattle.s10_history.specs.Settings.{Terms}
use Rattle.s10_book.specs.Book.{Grows, FindsAfter, IsBetween}

-- A key has no pending call if the committed calls have the same entry for it as the history.
abbrev pub IsCommittedCall : List Entry → List Entry → ℕ → ℕ → Type 0
IsCommittedCall committed h customer number = find_entry committed customer number
    ≡ find_entry h customer number

-- A call commits some of the pending calls: all, the first of them, or none. A book that is honest
-- at its end was honest at its start, with the same history and terms, and its committed calls are
-- still committed. After a stop, an opening may find the committed calls with any number of the
-- pending ones that follow them.
pub record CommitsSome {B : Type 0} (history committed : B → List Entry) (terms : B → Terms)
    (honest clean : B → Type 0) (may_find : B → Option (List Entry) → Type 0) (before after : B) :
    Type 0 where
  pub was_honest : honest after → honest before
  pub same_history : honest after → history after ≡ history before
  pub same_terms : honest after → terms after ≡ terms before
  pub stays_committed : honest after → Grows (committed before) (committed after)
  pub stop : FindsAfter honest clean may_find before after
      (IsBetween (committed before) (history before))

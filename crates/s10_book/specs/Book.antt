-- What a call of a book leaves unchanged. Clauses on a history hold if the book is honest as the
-- call ends.
use Rattle.std.specs.Prelude.{◌≡◌, ◌⊎◌, ◌++◌, ◌∷◌, [], List, Option, Some}
use Rattle.s10_history.specs.declared.entry.Entry.{Entry}
use Rattle.s10_history.specs.Settings.{Terms}

-- The calls after begin with those before.
abbrev pub Grows : List Entry → List Entry → Type 0
Grows before after = (rest : List Entry) × (after ≡ before ++ rest)

-- The found calls are these, or these followed by the entry.
abbrev pub IsPerhapsWith : List Entry → Entry → List Entry → Type 0
IsPerhapsWith calls entry found = (found ≡ calls) ⊎ (found ≡ calls ++ entry ∷ [])

-- The found calls begin with the committed ones, and the whole begins with them.
abbrev pub IsBetween : List Entry → List Entry → List Entry → Type 0
IsBetween committed whole found = Grows committed found × Grows found whole

-- An opening finds such calls.
abbrev pub FindsCalls : (List Entry → Type 0) → Option (List Entry) → Type 0
FindsCalls IsSuch found = (calls : List Entry) × (found ≡ Some calls) × IsSuch calls

-- After a stop, an opening may find what it could find before the call or, if the book was honest,
-- such calls. The store is still clean only if it was clean before.
pub record FindsAfter {B : Type 0} (honest clean : B → Type 0)
    (may_find : B → Option (List Entry) → Type 0) (before after : B)
    (IsSuch : List Entry → Type 0) : Type 0 where
  pub was_clean : clean after → clean before
  pub finds : clean after → (found : Option (List Entry)) → may_find after found
      → may_find before found ⊎ (honest before × FindsCalls IsSuch found)

-- A call leaves a book unchanged if one that is honest at its end was honest at its start, with the
-- same history and terms, and if its committed calls are still committed. It may commit all calls.
pub record Unchanged {B : Type 0} (history committed : B → List Entry) (terms : B → Terms)
    (honest clean : B → Type 0) (may_find : B → Option (List Entry) → Type 0) (before after : B) :
    Type 0 where
  pub was_honest : honest after → honest before
  pub same_history : honest after → history after ≡ history before
  pub same_terms : honest after → terms after ≡ terms before
  pub stays_committed : honest after → Grows (committed before) (committed after)
  pub stop : FindsAfter honest clean may_find before after (λ calls. calls ≡ history before)

-- What reading a byte or a line does to a reader's remaining bytes, if these are known.
use Rattle.std.specs.Prelude.{◌≡◌, ◌≢◌, ℕ, zero, suc, ◌==◌, if◌then◌else◌, ◌<◌, ◌≤◌, ⊤, List, [], ◌∷◌, length, take, Option, Some}
use Rattle.std.specs.Prelude.{None, All}
use Rattle.std.specs.Io.KnownBytes.{Consumes, IsAtEnd}
use Rattle.s10_jobs.specs.declared.line_reader.NextLine.{NextLine}
use Rattle.s10_jobs.specs.declared.line_reader.NextLine.TheVariants.{End, Whole, Long}
use Rattle.s10_jobs.specs.InputLines.{lines_of}

-- The next byte was read, or there was none.
abbrev pub ReadsByte : Option (List ℕ) → Option (List ℕ) → Option ℕ → Type 0
ReadsByte old new None = IsAtEnd old × Consumes old new []
ReadsByte old new (Some b) = Consumes old new (b ∷ [])

-- A line in the buffer has at most 1,036 bytes.
abbrev pub FitsIn : NextLine → Type 0
FitsIn End = ⊤
FitsIn (Whole n) = n ≤ 1036
FitsIn Long = ⊤

-- The next line is in the buffer, or the input is at its end, or the line is too long.
abbrev pub TakesLine : List ℕ → List ℕ → List ℕ → NextLine → Type 0
TakesLine old new buffer End = (old ≡ []) × (new ≡ [])
TakesLine old new buffer (Whole n) = lines_of old ≡ take n buffer ∷ lines_of new
TakesLine old new buffer Long = (line : List ℕ) × (more : List (List ℕ))
    × (lines_of old ≡ line ∷ more) × (1036 < length line)

-- The same for a reader whose remaining bytes may be unknown.
abbrev pub ReadsLine : Option (List ℕ) → Option (List ℕ) → List ℕ → NextLine → Type 0
ReadsLine None new buffer next = ⊤
ReadsLine (Some old) None buffer next = ⊥
ReadsLine (Some old) (Some new) buffer next = TakesLine old new buffer next

-- The bytes after the first line feed, or after the first `most` bytes if these have none.
unfoldable pub after_line : ℕ → List ℕ → List ℕ
after_line most [] = []
after_line zero (b ∷ bs) = b ∷ bs
after_line (suc most) (b ∷ bs) = if b == 10 then bs else after_line most bs

-- The next line was read: up to its line feed or the end of the input, but not beyond byte 1,037.
abbrev pub ReadsNoFurther : Option (List ℕ) → Option (List ℕ) → Type 0
ReadsNoFurther None new = ⊤
ReadsNoFurther (Some old) None = ⊥
ReadsNoFurther (Some old) (Some new) = new ≡ after_line 1037 old

-- The first bytes of the next line were read: no line feed, and no more than a line may have.
pub record BeginsLine (old new : Option (List ℕ)) : Type 0 where
  pub begun : List ℕ
  pub taken : Consumes old new begun
  pub unbroken : All (λ b. b ≢ 10) begun
  pub short : length begun ≤ 1036

-- How the reading of an input's lines stops early.
use Rattle.std.specs.Prelude.{◌≡◌, ℕ, ◌-◌, ◌≤◌, List, ◌++◌, take, drop, Option, Some, ⊤}
use Rattle.std.specs.Prelude.{if◌then◌else◌, nat_le}
use Rattle.s10_jobs.specs.InputLines.{lines_of, NoneRefused, IsFirstRefused}
use Rattle.s10_jobs.specs.LineReader.{after_line, BeginsLine}
use Rattle.s10_jobs.specs.declared.input_fault.InputFault.{InputFault}
use Rattle.s10_jobs.specs.declared.input_fault.InputFault.TheVariants.{Line, Read, Write}

-- The input failed after n lines, of which none is refused, or inside the next line. No more of
-- that line was read than a line may have, and nothing after the last line allowed.
pub record StopsInLine (Refuses : List ℕ → ℕ → Type 0) (bytes : List ℕ) (left : Option (List ℕ))
    (done : ℕ) : Type 0 where
  pub read : List ℕ
  pub rest : List ℕ
  pub parts : bytes ≡ read ++ rest
  pub unread_lines : lines_of rest ≡ drop done (lines_of bytes)
  pub none_refused : NoneRefused Refuses (take done (lines_of bytes))
  pub stopped : BeginsLine (Some rest) left
  pub counted : 1000000 ≤ done → left ≡ Some rest

-- The most bytes that are read of the line with this number, its line feed included: 1,037, but of
-- line 1,000,001 only the first.
abbrev pub most_of : ℕ → ℕ
most_of number = if nat_le number 1000000 then 1037 else 1

-- The line with this number was refused, and nothing was read beyond it: neither after its line feed
-- nor more bytes than are read of a line.
pub record StopsAfterLine (bytes : List ℕ) (left : Option (List ℕ)) (number : ℕ) : Type 0 where
  pub read : List ℕ
  pub rest : List ℕ
  pub parts : bytes ≡ read ++ rest
  pub unread_lines : lines_of rest ≡ drop (number - 1) (lines_of bytes)
  pub stopped : left ≡ Some (after_line (most_of number) rest)

-- What was done, `Shows`, is that of the lines before the one at which the reading stopped. `left` is
-- what remains of the input.
abbrev pub StopsBy : (List ℕ → ℕ → Type 0) → (List (List ℕ) → Type 0) → List ℕ → Option (List ℕ)
    → InputFault → Type 0
StopsBy Refuses Shows bytes left (Line number) = IsFirstRefused Refuses (lines_of bytes) number
    × Shows (take (number - 1) (lines_of bytes)) × StopsAfterLine bytes left number
StopsBy Refuses Shows bytes left Read = (done : ℕ) × Shows (take done (lines_of bytes))
    × StopsInLine Refuses bytes left done
StopsBy Refuses Shows bytes left Write = ⊤

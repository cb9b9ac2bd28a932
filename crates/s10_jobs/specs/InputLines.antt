-- The lines of an input, and the deliveries in them.
use Rattle.std.specs.Prelude.{◌≡◌, ◌≢◌, ℕ, ◌+◌, ◌-◌, ◌^◌, ◌<◌, ◌==◌, nat_lt, nat_le, ◌&&◌, ◌⊎◌}
use Rattle.std.specs.Prelude.{if◌then◌else◌, List, [], ◌∷◌, ◌++◌, length, take, drop, slice_get}
use Rattle.std.specs.Prelude.{slice_index, filter_map, position, Option, Some, None}
use Rattle.std.specs.List.{list_all}
use Rattle.std.specs.Char.{is_ascii_digit}
use Rattle.std.specs.Result.{result_ok}
use Rattle.hex.specs.Hex.{decode_of}
use Rattle.s10_core.specs.Serial.{number_of}
use Rattle.s10_ends.specs.Served.{Dated}

-- The last piece counts if it is not empty.
abbrev pub last_piece : List ℕ → List (List ℕ)
last_piece [] = []
last_piece (b ∷ bs) = (b ∷ bs) ∷ []

-- The pieces between line feeds. The first piece begins with `front`, followed by the given bytes.
unfoldable pub pieces : List ℕ → List ℕ → List (List ℕ)
pieces front [] = last_piece front
pieces front (b ∷ bs) = if b == 10 then front ∷ pieces [] bs else pieces (front ++ b ∷ []) bs

-- The lines of an input: the pieces between its line feeds.
abbrev pub lines_of : List ℕ → List (List ℕ)
lines_of bytes = pieces [] bytes

-- A line without one carriage return at its end.
abbrev pub without_return : List ℕ → List ℕ
without_return line = if slice_index line (length line - 1) == 13 then take (length line - 1) line
    else line

-- DAY: one to ten digits, at most 4294967295.
abbrev pub day_of_text : List ℕ → Option ℕ
day_of_text text =
    if nat_le 1 (length text) && nat_le (length text) 10 && list_all is_ascii_digit text
    && nat_lt (number_of text) (2 ^ 32)
    then Some (number_of text) else None

-- HEX: an even number of hexadecimal digits, 0 to 1024.
abbrev pub bytes_in : List ℕ → Option (List ℕ)
bytes_in text = if nat_le (length text) 1024 then result_ok (decode_of text) else None

-- Bytes with their day, if both exist.
abbrev pub dated_by : Option ℕ → Option (List ℕ) → Option Dated
dated_by (Some day) (Some bytes) = Some (bytes, day)
dated_by (Some day) None = None
dated_by None bytes = None

-- A text that is split at the index of a space, with a day before the space and bytes after it.
abbrev pub parted_at : Option ℕ → List ℕ → Option Dated
parted_at None text = None
parted_at (Some at) text = dated_by (day_of_text (take at text)) (bytes_in (drop (at + 1) text))

-- The delivery in a line: DAY, one space, HEX.
abbrev pub delivery_in : List ℕ → Option Dated
delivery_in line = let text = without_return line in parted_at (position (λ b. b == 32) text) text

-- The deliveries in lines, in their order.
abbrev pub deliveries_in : List (List ℕ) → List Dated
deliveries_in lines = filter_map delivery_in lines

-- The line with that number, from 1, is past a limit: it has more than 1,036 bytes, or is past line
-- 1,000,000.
abbrev pub IsPastLimits : List ℕ → ℕ → Type 0
IsPastLimits line number = (1036 < length line) ⊎ (1000000 < number)

-- The line with that number is no line of a replay: it is past a limit, or is neither empty nor a
-- delivery.
abbrev pub IsNoDelivery : List ℕ → ℕ → Type 0
IsNoDelivery line number = IsPastLimits line number
    ⊎ ((without_return line ≢ []) × (delivery_in line ≡ None))

-- `Refuses` says which line with which number is refused.
module _ (Refuses : List ℕ → ℕ → Type 0) where
  -- None of the lines is refused.
  abbrev pub NoneRefused : List (List ℕ) → Type 0
  NoneRefused lines = (k : ℕ) (line : List ℕ) → slice_get lines k ≡ Some line
      → ¬ Refuses line (k + 1)

  -- The line with that number is the first that is refused.
  pub record IsFirstRefused (lines : List (List ℕ)) (number : ℕ) : Type 0 where
    pub line : List ℕ
    pub there : slice_get lines (number - 1) ≡ Some line
    pub counted : 0 < number
    pub refused : Refuses line number
    pub none_before : NoneRefused (take (number - 1) lines)

-- A text before its first space. Without a space it is the whole text.
abbrev pub word_before : Option ℕ → List ℕ → List ℕ
word_before None text = text
word_before (Some at) text = take at text

-- A text after its first space. Without a space nothing is after it.
abbrev pub rest_after : Option ℕ → List ℕ → List ℕ
rest_after None text = []
rest_after (Some at) text = drop (at + 1) text

abbrev pub first_word : List ℕ → List ℕ
first_word text = word_before (position (λ b. b == 32) text) text

abbrev pub after_word : List ℕ → List ℕ
after_word text = rest_after (position (λ b. b == 32) text) text

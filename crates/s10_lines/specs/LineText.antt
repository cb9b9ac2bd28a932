-- A line as it grows: the text that it is so far, if it has space for it.
use Rattle.std.specs.Prelude.{◌≡◌, ◌⊎◌, ◌≤◌, ◌<◌, ℕ, List, ◌++◌, length, true, false}
use Rattle.s10_lines.specs.declared.line_text.LineText.{LineText}

-- The line is this text, or this text is longer than 512 characters and lost.
abbrev pub Holds : LineText → List ℕ → Type 0
Holds line text = ((line.is_whole ≡ true) × (line.text.items ≡ text))
    ⊎ ((line.is_whole ≡ false) × (512 < length text))

-- Whatever text the line was, it is now that text and these characters after it.
abbrev pub Grows : LineText → LineText → List ℕ → Type 0
Grows before after more = (text : List ℕ) → Holds before text → Holds after (text ++ more)

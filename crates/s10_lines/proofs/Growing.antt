-- Texts that a line has one after another.
use Rattle.std.proofs.Common.{◌≡◌, ℕ, List, [], ◌∷◌, ◌++◌, sym, ap, subst}
use Rattle.std.proofs.Common.{append_assoc, append-nil}
use Rattle.std.specs.Prelude.{codes}
use Rattle.s10_lines.specs.declared.line_text.LineText.{LineText}
use Rattle.s10_lines.specs.Lines.{spaced, line_of}
use Rattle.s10_lines.specs.LineText.{Holds, Grows}
use Rattle.s10_lines.proofs.Writing.{spaced-append}

Grows-then : (u v w : LineText) (a b : List ℕ) → Grows u v a → Grows v w b → Grows u w (a ++ b)
Grows-then u v w a b first second text held =
    let P : List ℕ → Type 0 = λ whole. Holds w whole in
    subst P (append_assoc text a b) (second (text ++ a) (first text held))

-- Words added after others are all of them, in order.
pub words_then : (u v w : LineText) (words more : List (List ℕ)) → Grows u v (spaced words)
    → Grows v w (spaced more) → Grows u w (spaced (words ++ more))
words_then u v w words more first second =
    let P : List ℕ → Type 0 = λ text. Grows u w text in
    subst P (sym (spaced-append words more)) (Grows-then u v w (spaced words) (spaced more) first
    second)

-- A word may be replaced by an equal one.
pub same_word : (u v : LineText) (a b : List ℕ) → a ≡ b → Grows u v (spaced (a ∷ []))
    → Grows u v (spaced (b ∷ []))
same_word u v a b e added = let P : List ℕ → Type 0 = λ word. Grows u v (spaced (word ∷ [])) in
    subst P e added

-- A first word, other words and a line feed are a line.
pub line_follows : (u v w x : LineText) (first : List ℕ) (words : List (List ℕ)) → Holds u []
    → Grows u v first → Grows v w (spaced words) → Grows w x (codes "\n")
    → Holds x (line_of first words)
line_follows u v w x first words none a b c = c (first ++ spaced words) (b first (a [] none))

-- No words change nothing.
pub Grows-nothing : (u : LineText) → Grows u u (spaced [])
unfolding spaced
Grows-nothing u text held = let P : List ℕ → Type 0 = λ whole. Holds u whole in
    subst P (sym (append-nil text)) held

spaced-word : (word : List ℕ) → spaced (word ∷ []) ≡ 32 ∷ word
unfolding spaced
spaced-word word = ap (λ (t : List ℕ). 32 ∷ t) (append-nil word)

-- A space and then a word are a word with a space before it.
pub word_added : (u v w : LineText) (word : List ℕ) → Grows u v (32 ∷ []) → Grows v w word
    → Grows u w (spaced (word ∷ []))
word_added u v w word space added =
    let P : List ℕ → Type 0 = λ text. Grows u w text in
    subst P (sym (spaced-word word)) (Grows-then u v w (32 ∷ []) word space added)

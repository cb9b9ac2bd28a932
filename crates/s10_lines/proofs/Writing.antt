-- Texts that a writer gets one after another.
use Rattle.std.proofs.Common.{◌≡◌, ℕ, List, [], ◌∷◌, ◌++◌, Option, Some, None, refl, sym, ap, subst}
use Rattle.std.proofs.Common.{◌∙◌, append_assoc, append-nil}
use Rattle.std.specs.Io.KnownBytes.{Appends}
use Rattle.std.specs.Prelude.{OnOk, codes, Result, Ok, Err}
use Rattle.s10_lines.specs.Lines.{spaced, line_of}

pub Appends-then : (u v w : Option (List ℕ)) (a b : List ℕ) → Appends u v a → Appends v w b
    → Appends u w (a ++ b)
Appends-then None v w a b x y = tt
Appends-then (Some xs) None w a b x y = absurd x
Appends-then (Some xs) (Some ys) None a b x y = y
Appends-then (Some xs) (Some ys) (Some zs) a b x y = y ∙ ap (λ (t : List ℕ). t ++ b) x
    ∙ append_assoc xs a b

pub spaced-append : (words more : List (List ℕ)) → spaced (words ++ more) ≡ spaced words ++ spaced more
unfolding spaced
spaced-append [] more = refl
spaced-append (word ∷ words) more =
    ap (λ (t : List ℕ). 32 ∷ word ++ t) (spaced-append words more)
    ∙ sym (append_assoc (32 ∷ word) (spaced words) (spaced more))

-- Words written after others are all of them, in order.
pub words_then : (u v w : Option (List ℕ)) (words more : List (List ℕ)) → Appends u v (spaced words)
    → Appends v w (spaced more) → Appends u w (spaced (words ++ more))
words_then u v w words more first second =
    let P : List ℕ → Type 0 = λ text. Appends u w text in
    subst P (sym (spaced-append words more)) (Appends-then u v w (spaced words) (spaced more) first
    second)

-- The same if a call whose result is returned unchanged writes the last of them.
pub words_follow : {T E : Type 0} (u v w : Option (List ℕ)) (words more : List (List ℕ))
    (r : Result T E)
    → Appends u v (spaced words) → OnOk r (Appends v w (spaced more))
    → OnOk r (Appends u w (spaced (words ++ more)))
words_follow u v w words more (Ok done) first second = words_then u v w words more first second
words_follow u v w words more (Err fault) first second = tt

-- A word may be replaced by an equal one.
pub same_word : {T E : Type 0} (u v : Option (List ℕ)) (a b : List ℕ) (r : Result T E) → a ≡ b
    → OnOk r (Appends u v (spaced (a ∷ []))) → OnOk r (Appends u v (spaced (b ∷ [])))
same_word u v a b r e written = let P : List ℕ → Type 0 =
    λ word. OnOk r (Appends u v (spaced (word ∷ []))) in subst P e written

-- A first word, other words and a line feed are a line.
pub line_follows : {T E : Type 0} (u v w x : Option (List ℕ)) (first : List ℕ)
    (words : List (List ℕ)) (r : Result T E)
    → Appends u v first → Appends v w (spaced words) → OnOk r (Appends w x (codes "\n"))
    → OnOk r (Appends u x (line_of first words))
line_follows u v w x first words (Ok done) a b c =
    Appends-then u w x (first ++ spaced words) (codes "\n") (Appends-then u v w first (spaced words)
    a b) c
line_follows u v w x first words (Err fault) a b c = tt

-- No words append nothing.
pub Appends-nothing : (u : Option (List ℕ)) → Appends u u (spaced [])
unfolding spaced
Appends-nothing None = tt
Appends-nothing (Some xs) = sym (append-nil xs)

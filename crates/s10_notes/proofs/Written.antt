-- Texts that are written one after another.
use Rattle.std.proofs.Common.{◌≡◌, ℕ, List, ◌++◌, Option, subst}
use Rattle.std.specs.Io.KnownBytes.{Appends}
use Rattle.std.specs.Prelude.{OnOk, Result, Ok, Err}
use Rattle.s10_lines.proofs.Writing.{Appends-then}

-- A call whose result is returned unchanged writes the last text.
pub last_written : {T E : Type 0} (u v w : Option (List ℕ)) (a b : List ℕ) (r : Result T E)
    → Appends u v a → OnOk r (Appends v w b) → OnOk r (Appends u w (a ++ b))
last_written u v w a b (Ok done) x y = Appends-then u v w a b x y
last_written u v w a b (Err fault) x y = tt

-- An equal text is written.
pub same_written : {T E : Type 0} (u v : Option (List ℕ)) (a b : List ℕ) (r : Result T E) → a ≡ b
    → OnOk r (Appends u v a) → OnOk r (Appends u v b)
same_written u v a b r e written = let P : List ℕ → Type 0 =
    λ text. OnOk r (Appends u v text) in subst P e written

-- What holds, holds of a result.
pub on_ok : {T E : Type 0} (P : Type 0) (r : Result T E) → P → OnOk r P
on_ok P (Ok done) holds = holds
on_ok P (Err fault) holds = tt

-- Bytes at an offset.
use Rattle.std.proofs.Common.{◌≡◌, ℕ, ◌+◌, ◌<◌, ◌≤◌, List, ◌∷◌, length, get_or, drop, refl, sym, ap}
use Rattle.std.proofs.Common.{◌∙◌, arith}
use Rattle.std.proofs.lemmas.List.{drop_more}

one_at : (b : List ℕ) (i j : ℕ) → i < length b → j ≡ i + 1 → drop i b ≡ get_or b i 0 ∷ drop j b
one_at b i j within next = drop_more b i 0 within ∙ ap (λ (n : ℕ). get_or b i 0 ∷ drop n b)
    (sym next)

pub two_at : (b : List ℕ) (at : ℕ) → at + 2 ≤ length b → drop at b ≡ get_or b at 0
    ∷ get_or b (at + 1) 0 ∷ drop (at + 2) b
two_at b at long = one_at b at (at + 1) (omega arith) refl ∙ ap (λ (l : List ℕ). get_or b at 0 ∷ l)
    (one_at b (at + 1) (at + 2) (omega arith) (omega arith))

pub four_at : (b : List ℕ) (at : ℕ) → at + 4 ≤ length b → drop at b ≡ get_or b at 0
    ∷ get_or b (at + 1) 0 ∷ get_or b (at + 2) 0 ∷ get_or b (at + 3) 0 ∷ drop (at + 4) b
four_at b at long =
    one_at b at (at + 1) (omega arith) refl
    ∙ ap (λ (l : List ℕ). get_or b at 0 ∷ l) (one_at b (at + 1) (at + 2) (omega arith) (omega arith)
    ∙ ap (λ (l : List ℕ). get_or b (at + 1) 0 ∷ l) (one_at b (at + 2) (at + 3) (omega arith)
    (omega arith)
    ∙ ap (λ (l : List ℕ). get_or b (at + 2) 0 ∷ l) (one_at b (at + 3) (at + 4) (omega arith)
    (omega arith))))

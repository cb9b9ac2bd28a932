use Rattle.std.proofs.Common.{ℕ, zero, suc, ◌+◌, ◌<◌, List, [], ◌∷◌, ◌++◌, get_or, take, drop, refl}
use Rattle.std.proofs.Common.{sym, ap, ◌∙◌, arith}
use Rattle.std.specs.Int.{w32, from_be_bytes}
use Rattle.std.proofs.lemmas.Nat.{be_bytes_4}
use Rattle.s10_wire.proofs.Bytes.{four_at}
use Rattle.s10_wire.proofs.fields.number_at.Goals as goal

each : (a b c d : ℕ) → a < 256 → b < 256 → c < 256 → d < 256 → (i : ℕ)
    → get_or (a ∷ b ∷ c ∷ d ∷ []) i 0 < 256
each a b c d ha hb hc hd zero = ha
each a b c d ha hb hc hd (suc zero) = hb
each a b c d ha hb hc hd (suc (suc zero)) = hc
each a b c d ha hb hc hd (suc (suc (suc zero))) = hd
each a b c d ha hb hc hd (suc (suc (suc (suc i)))) = omega arith

pub bounds-bytes-at : goal.bounds-bytes-at
bounds-bytes-at c = omega arith

pub overflow_add-at : goal.overflow_add-at
overflow_add-at c = omega arith

pub bounds-bytes-at-2 : goal.bounds-bytes-at-2
bounds-bytes-at-2 c = omega arith

pub overflow_add-at-2 : goal.overflow_add-at-2
overflow_add-at-2 c = omega arith

pub bounds-bytes-at-3 : goal.bounds-bytes-at-3
bounds-bytes-at-3 c = omega arith

pub overflow_add-at-3 : goal.overflow_add-at-3
overflow_add-at-3 c = omega arith

pub bounds-bytes-at-4 : goal.bounds-bytes-at-4
bounds-bytes-at-4 c = omega arith

pub from_be_bytes-requires : goal.from_be_bytes-requires
from_be_bytes-requires c = tt

pub returns-clause-value : goal.returns-clause-value
returns-clause-value c = c.from_be_bytes.ensures ∙ ap (λ (l : List ℕ). from_be_bytes w32 (take 4 l))
    (sym (four_at c.args.bytes.now c.args.at c.requires))

pub returns-clause-read : goal.returns-clause-read
returns-clause-read c =
    let b = c.args.bytes.now in
    let at = c.args.at in
    let fits = c.type_inv.bytes in
    let four : List ℕ = get_or b at 0 ∷ get_or b (at + 1) 0 ∷ get_or b (at + 2) 0
    ∷ get_or b (at + 3) 0 ∷ [] in
    four_at b at c.requires
    ∙ ap (λ (l : List ℕ). l ++ drop (at + 4) b)
    (sym (be_bytes_4 four c.from_be_bytes.result refl
    (each (get_or b at 0) (get_or b (at + 1) 0) (get_or b (at + 2) 0) (get_or b (at + 3) 0)
    (fits at).fits (fits (at + 1)).fits (fits (at + 2)).fits (fits (at + 3)).fits)
    c.from_be_bytes.ensures))

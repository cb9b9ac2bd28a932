-- The least of a part of a list of blocks.
use Rattle.std.proofs.Common.{◌≡◌, ℕ, ◌+◌, ◌<◌, ◌≤◌, List, [], length, get_or, Option, arith}
use Rattle.std.proofs.Common.{subst, sym}
use Rattle.std.specs.List.{concat}
use Rattle.s10_ranges.specs.declared.cursor.Cursor.{Cursor}
use Rattle.s10_ranges.specs.Blocks.{start_of, position_of, IsCursor}
use Rattle.s10_ranges.specs.Order.{IsLeastIn, lesser_of}
use Rattle.s10_ranges.proofs.Leasts.{least_joined, least_moved}
use Rattle.s10_ranges.proofs.Blocks.{start_next, start_ordered, index_at}

-- The least of a part of a block.
pub least_of_part : (bs : List (List ℕ)) (k from to : ℕ) (l : Option ℕ)
    → to ≤ length (get_or bs k []) → IsLeastIn (get_or bs k []) from to l
    → IsLeastIn (concat bs) (start_of bs k + from) (start_of bs k + to) l
least_of_part bs k from to l le least =
    least_moved (concat bs) (get_or bs k []) (start_of bs k) from to l
    (λ o lt. index_at bs k o (omega arith)) least

-- The least of a block.
pub least_of_block : (bs : List (List ℕ)) (k : ℕ) (block : List ℕ) (l : Option ℕ)
    → k < length bs → block ≡ get_or bs k [] → IsLeastIn block 0 (length block) l
    → IsLeastIn (concat bs) (start_of bs k) (start_of bs (k + 1)) l
least_of_block bs k block l lt is least =
    let P : ℕ → ℕ → Type 0 = λ i j. IsLeastIn (concat bs) i j l in
    let Q : List ℕ → Type 0 = λ b. IsLeastIn b 0 (length b) l in
    let part = least_of_part bs k 0 (length (get_or bs k [])) l (omega arith) (subst Q is least) in
    let from : start_of bs k + 0 ≡ start_of bs k = omega arith in
    let to : start_of bs k + length (get_or bs k []) ≡ start_of bs (k + 1) =
    sym (start_next bs k lt) in
    subst (λ j. P (start_of bs k) j) to
    (subst (λ i. P i (start_of bs k + length (get_or bs k []))) from part)

-- The least of three parts: the rest of a block, whole blocks, and the front of a block.
pub least_of_three : (bs : List (List ℕ)) (start end : Cursor) (n : ℕ) (a b c : Option ℕ)
    → IsCursor bs start → IsCursor bs end → start.block < end.block
    → n ≡ length (get_or bs start.block [])
    → IsLeastIn (concat bs) (start_of bs start.block + start.offset) (start_of bs start.block + n) a
    → IsLeastIn (concat bs) (start_of bs (start.block + 1)) (start_of bs end.block) b
    → IsLeastIn (concat bs) (start_of bs end.block + 0) (start_of bs end.block + end.offset) c
    → IsLeastIn (concat bs) (position_of bs start) (position_of bs end)
    (lesser_of (lesser_of a b) c)
least_of_three bs start end n a b c at to before is first middle last =
    let inside : start.block < length bs = omega (arith, before, to.within) in
    let next : start_of bs start.block + n ≡ start_of bs (start.block + 1) =
    omega (arith, start_next bs start.block inside, is) in
    let P : ℕ → Type 0 = λ i. IsLeastIn (concat bs) (position_of bs start) i a in
    let Q : ℕ → Type 0 = λ i. IsLeastIn (concat bs) i (position_of bs end) c in
    let rest = subst P next first in
    let front = subst Q (let e : start_of bs end.block + 0 ≡ start_of bs end.block = omega arith in e)
    last in
    let up = start_ordered bs (start.block + 1) end.block (omega arith) in
    let offset = at.inside inside in
    least_joined (concat bs) (position_of bs start) (start_of bs end.block) (position_of bs end)
    (lesser_of a b) c (omega (arith, up, next, is, offset)) (omega arith)
    (least_joined (concat bs) (position_of bs start) (start_of bs (start.block + 1))
    (start_of bs end.block) a b (omega (arith, next, is, offset)) up rest middle) front

-- A cursor in an earlier block has a lower position.
pub earlier_block : (bs : List (List ℕ)) (start end : Cursor) → IsCursor bs start → IsCursor bs end
    → end.block < start.block → position_of bs end ≤ position_of bs start
earlier_block bs start end at to before =
    let inside : end.block < length bs = omega (arith, before, at.within) in
    let offset = to.inside inside in
    omega (
      arith,
      offset,
      start_next bs end.block inside,
      start_ordered bs (end.block + 1) start.block (omega arith),
    )

-- Positions in lists of blocks.
use Rattle.std.proofs.Common.{◌≡◌, ◌∙◌, ℕ, zero, suc, ◌+◌, ◌-◌, ◌<◌, ◌≤◌, List, [], ◌∷◌, ◌++◌, ◌⊎◌}
use Rattle.std.proofs.Common.{true, false, ◌&&◌, ◌||◌, eqb, ltb}
use Rattle.std.proofs.Common.{length, get_or, set, take, drop, refl, sym, ap, ap₂, arith, inl, inr}
use Rattle.std.proofs.Common.{append_assoc, append-nil, add-one, length-append}
use Rattle.std.specs.Prelude.{insert, min, slice_range}
use Rattle.std.proofs.Math.Nat.{min-eq_left, min-eq_right}
use Rattle.std.specs.List.{concat}
use Rattle.std.proofs.lemmas.Bool.{cases_lt, cases_order}
use Rattle.std.proofs.lemmas.Bool.Decides.{nat_tests}
use Rattle.std.proofs.lemmas.List.{get_or_append_left, get_or-append-add, take-append-drop}
use Rattle.std.proofs.lemmas.List.{length-set, length-take-le, length-drop, take-set, take-append-le}
use Rattle.std.proofs.lemmas.List.{ext_get_or}
use Rattle.std.proofs.lemmas.List.{get_or-set_same, get_or-set_other, take-take}
use Rattle.std.proofs.lemmas.List.Edits.{insert-append_left, insert-append_right}
use Rattle.std.proofs.lemmas.List.Edits.{length-between, get_or-between, length-insert, get_or-insert_below, get_or-insert_at}
use Rattle.std.proofs.lemmas.List.Edits.{get_or-insert_above, insert_end}
use Rattle.s10_ranges.specs.declared.block.TheConstants.{BLOCK_SIZE, HALF}
use Rattle.s10_ranges.specs.declared.cursor.Cursor.{Cursor}
use Rattle.s10_ranges.specs.Blocks.{start_of, position_of, halved, AreBlocks, IsCursor}

-- The start of a block after the first.
start_more : (b : List ℕ) (bs : List (List ℕ)) (k : ℕ)
    → start_of (b ∷ bs) (suc k) ≡ length b + start_of bs k
unfolding start_of
start_more b bs k = length-append b (concat (take k bs))

-- The first block starts at the position 0.
pub start_zero : (bs : List (List ℕ)) → start_of bs 0 ≡ 0
unfolding start_of
start_zero bs = refl

-- A block starts after those before it.
start_suc : (bs : List (List ℕ)) (k : ℕ) → k < length bs
    → start_of bs (suc k) ≡ start_of bs k + length (get_or bs k [])
start_suc [] k lt = absurd (omega arith)
start_suc (b ∷ bs) zero lt = omega (arith, start_more b bs 0, start_zero bs, start_zero (b ∷ bs))
start_suc (b ∷ bs) (suc k) lt =
    let rest = start_suc bs k (omega arith) in
    omega (arith, start_more b bs (suc k), start_more b bs k, rest)

pub start_next : (bs : List (List ℕ)) (k : ℕ) → k < length bs
    → start_of bs (k + 1) ≡ start_of bs k + length (get_or bs k [])
start_next bs k lt = rw add-one (start_suc bs k lt)

start_of_none : (k : ℕ) → start_of [] (suc k) ≡ 0
unfolding start_of
start_of_none k = refl

-- The blocks end where the list ends.
pub start_end : (bs : List (List ℕ)) (k : ℕ) → length bs ≤ k → start_of bs k ≡ length (concat bs)
start_end [] zero le = start_zero []
start_end [] (suc k) le = start_of_none k
start_end (b ∷ bs) zero le = absurd (omega arith)
start_end (b ∷ bs) (suc k) le =
    let rest = start_end bs k (omega arith) in
    omega (arith, start_more b bs k, rest, length-append b (concat bs))

-- A later block starts later.
pub start_ordered : (bs : List (List ℕ)) (i j : ℕ) → i ≤ j → start_of bs i ≤ start_of bs j
start_ordered bs zero j le = omega (arith, start_zero bs)
start_ordered [] (suc i) j le =
    omega (arith, start_end [] (suc i) (omega arith), start_end [] j (omega arith))
start_ordered (b ∷ bs) (suc i) zero le = absurd (omega arith)
start_ordered (b ∷ bs) (suc i) (suc j) le =
    let rest = start_ordered bs i j (omega arith) in
    omega (arith, start_more b bs i, start_more b bs j, rest)

-- No block starts after the end.
pub start_within : (bs : List (List ℕ)) (k : ℕ) → start_of bs k ≤ length (concat bs)
start_within bs k = elim (cases_lt k (length bs)) [
  | inl lt ↦ let last = start_ordered bs k (length bs) (omega arith) in
      omega (arith, last, start_end bs (length bs) (omega arith))
  | inr ge ↦ omega (arith, start_end bs k ge)
]

-- The index at an offset of a block, in the list.
pub index_at : (bs : List (List ℕ)) (k o : ℕ) → o < length (get_or bs k [])
    → get_or (concat bs) (start_of bs k + o) 0 ≡ get_or (get_or bs k []) o 0
index_at [] k o lt = absurd (omega arith)
index_at (b ∷ bs) zero o lt =
    ap (λ i. get_or (b ++ concat bs) i 0) (let e : start_of (b ∷ bs) 0 + o ≡ o =
    omega (arith, start_zero (b ∷ bs)) in e) ∙ get_or_append_left b (concat bs) 0 o lt
index_at (b ∷ bs) (suc k) o lt =
    ap (λ i. get_or (b ++ concat bs) i 0) (let e : start_of (b ∷ bs) (suc k) + o
    ≡ length b + (start_of bs k + o) = omega (arith, start_more b bs k) in e)
    ∙ get_or-append-add b (concat bs) (start_of bs k + o) 0
    ∙ index_at bs k o lt

-- An index inserted in a block is inserted in the list.
pub concat_insert : (bs : List (List ℕ)) (k o n : ℕ) → k < length bs → o ≤ length (get_or bs k [])
    → concat (set bs k (insert (get_or bs k []) o n)) ≡ insert (concat bs) (start_of bs k + o) n
concat_insert [] k o n lt le = absurd (omega arith)
concat_insert (b ∷ bs) zero o n lt le =
    sym (insert-append_left b (concat bs) o n le)
    ∙ ap (λ i. insert (b ++ concat bs) i n) (let e : o ≡ start_of (b ∷ bs) 0 + o =
    omega (arith, start_zero (b ∷ bs)) in e)
concat_insert (b ∷ bs) (suc k) o n lt le =
    let at : ℕ = start_of (b ∷ bs) (suc k) + o in
    let from : length b ≤ at = omega (arith, start_more b bs k) in
    let rest : at - length b ≡ start_of bs k + o = omega (arith, start_more b bs k) in
    ap (λ xs. b ++ xs) (concat_insert bs k o n (omega arith) le
    ∙ ap (λ i. insert (concat bs) i n) (sym rest))
    ∙ sym (insert-append_right b (concat bs) (length b) at n refl from)

-- A split block has the same indices.
pub concat_halved : (bs : List (List ℕ)) (k : ℕ) → k < length bs
    → concat (halved bs k) ≡ concat bs
unfolding halved
concat_halved bs k lt = rw add-one (split bs k lt)
  where
    split : (bs : List (List ℕ)) (k : ℕ) → k < length bs
        → concat (insert (set bs k (take HALF (get_or bs k []))) (suc k)
        (drop HALF (get_or bs k []))) ≡ concat bs
    split [] k lt = absurd (omega arith)
    split (b ∷ bs) zero lt =
        sym (append_assoc (take HALF b) (drop HALF b) (concat bs))
        ∙ ap (λ xs. xs ++ concat bs) (take-append-drop HALF b)
    split (b ∷ bs) (suc k) lt = ap (λ xs. b ++ xs) (split bs k (omega arith))

-- The halves, and the blocks around them.
pub length_halved : (bs : List (List ℕ)) (k : ℕ) → k < length bs
    → length (halved bs k) ≡ length bs + 1
unfolding halved
length_halved bs k lt =
    let same = length-set bs k (take HALF (get_or bs k [])) in
    omega (
      arith,
      same,
      length-insert (set bs k (take HALF (get_or bs k []))) (k + 1)
          (drop HALF (get_or bs k [])) (omega (arith, same)),
    )

pub lower_half : (bs : List (List ℕ)) (k : ℕ) → k < length bs
    → get_or (halved bs k) k [] ≡ take HALF (get_or bs k [])
unfolding halved
lower_half bs k lt =
    let same = length-set bs k (take HALF (get_or bs k [])) in
    get_or-insert_below (set bs k (take HALF (get_or bs k []))) (k + 1) (drop HALF (get_or bs k []))
    [] k (omega arith) (omega (arith, same))
    ∙ get_or-set_same bs k (take HALF (get_or bs k [])) [] lt

pub upper_half : (bs : List (List ℕ)) (k : ℕ) → k < length bs
    → get_or (halved bs k) (k + 1) [] ≡ drop HALF (get_or bs k [])
unfolding halved
upper_half bs k lt =
    let same = length-set bs k (take HALF (get_or bs k [])) in
    get_or-insert_at (set bs k (take HALF (get_or bs k []))) (k + 1) (drop HALF (get_or bs k []))
    [] (omega (arith, same))

other_half : (bs : List (List ℕ)) (k j : ℕ) → k < length bs → j < k
    → get_or (halved bs k) j [] ≡ get_or bs j []
unfolding halved
other_half bs k j lt before =
    let same = length-set bs k (take HALF (get_or bs k [])) in
    get_or-insert_below (set bs k (take HALF (get_or bs k []))) (k + 1) (drop HALF (get_or bs k []))
    [] j (omega arith) (omega (arith, same))
    ∙ get_or-set_other bs k j (take HALF (get_or bs k [])) [] (omega arith)

later_half : (bs : List (List ℕ)) (k j : ℕ) → k < length bs → k < j
    → get_or (halved bs k) (j + 1) [] ≡ get_or bs j []
unfolding halved
later_half bs k j lt after =
    let same = length-set bs k (take HALF (get_or bs k [])) in
    get_or-insert_above (set bs k (take HALF (get_or bs k []))) (k + 1) (drop HALF (get_or bs k []))
    [] j (omega arith) (omega (arith, same))
    ∙ get_or-set_other bs k j (take HALF (get_or bs k [])) [] (omega arith)

-- What a test of the length says of each block of the split list.
each_half : (bs : List (List ℕ)) (k j : ℕ) → k < length bs → length (get_or bs k []) ≡ BLOCK_SIZE
    → j < length bs + 1
    → (length (get_or (halved bs k) j []) ≡ HALF)
    ⊎ ((i : ℕ) × (i < length bs) × (length (get_or (halved bs k) j []) ≡ length (get_or bs i [])))
each_half bs k j lt full in' =
    elim (cases_order j k) [
      | inl e ↦ inl (ap (λ i. length (get_or (halved bs k) i [])) e
          ∙ ap length (lower_half bs k lt)
          ∙ length-take-le HALF (get_or bs k []) (omega (arith, full)))
      | inr u ↦ elim u [
        | inl before ↦ inr (j, omega arith, ap length (other_half bs k j lt before))
        | inr gt ↦ elim (cases_order j (k + 1)) [
          | inl e ↦ inl (ap (λ i. length (get_or (halved bs k) i [])) e
              ∙ ap length (upper_half bs k lt)
              ∙ (let n = length-drop HALF (get_or bs k []) in omega (arith, full, n)))
          | inr v ↦ elim v [
            | inl lt' ↦ absurd (omega arith)
            | inr after ↦
                let i : ℕ = j - 1 in
                let up : i + 1 ≡ j = omega arith in
                inr (
                  i,
                  omega arith,
                  ap (λ n. length (get_or (halved bs k) n [])) (sym up)
                      ∙ ap length (later_half bs k i lt (omega arith)),
                )
          ]
        ]
      ]
    ]

-- A full block splits into blocks.
pub halved_blocks : (bs : List (List ℕ)) (k : ℕ) → AreBlocks bs → k < length bs
    → length (get_or bs k []) ≡ BLOCK_SIZE → AreBlocks (halved bs k)
halved_blocks bs k are lt full =
    let long = length_halved bs k lt in
    record {
      filled = λ j in'. elim (each_half bs k j lt full (omega (arith, long, in'))) [
        | inl half ↦ omega (arith, half)
        | inr old ↦ let fact = are.filled old.0 old.1 in omega (arith, fact, old.2)
      ];
      small = λ j in'. elim (each_half bs k j lt full (omega (arith, long, in'))) [
        | inl half ↦ omega (arith, half)
        | inr old ↦ let fact = are.small old.0 old.1 in omega (arith, fact, old.2)
      ];
    }

-- A split block starts where it started.
pub start_halved : (bs : List (List ℕ)) (k : ℕ) → k < length bs → start_of (halved bs k) k
    ≡ start_of bs k
unfolding halved start_of
start_halved bs k lt =
    let block = get_or bs k [] in
    let changed = set bs k (take HALF block) in
    let same = length-set bs k (take HALF block) in
    let long : length (take (k + 1) changed) ≡ k + 1 = length-take-le (k + 1) changed
    (omega (arith, same)) in
    ap (λ (xs : List (List ℕ)). length (concat xs)) (
    take-append-le k (take (k + 1) changed) (drop HALF block ∷ drop (k + 1) changed)
    (omega (arith, long))
    ∙ take-take k (k + 1) changed (omega arith) ∙ take-set bs k (take HALF block)
    )

-- The length of each half.
pub lower_length : (bs : List (List ℕ)) (k : ℕ) → k < length bs → length (get_or bs k [])
    ≡ BLOCK_SIZE → length (get_or (halved bs k) k []) ≡ HALF
lower_length bs k lt full = ap length (lower_half bs k lt)
    ∙ length-take-le HALF (get_or bs k []) (omega (arith, full))

pub upper_length : (bs : List (List ℕ)) (k : ℕ) → k < length bs → length (get_or bs k [])
    ≡ BLOCK_SIZE → length (get_or (halved bs k) (k + 1) []) ≡ HALF
upper_length bs k lt full = ap length (upper_half bs k lt)
    ∙ (let n = length-drop HALF (get_or bs k []) in omega (arith, full, n))

-- An index inserted in the lower half of a split block is inserted in the list.
pub insert_lower : (bs : List (List ℕ)) (k o n : ℕ) → k < length bs → length (get_or bs k [])
    ≡ BLOCK_SIZE → o ≤ HALF
    → concat (set (halved bs k) k (insert (get_or (halved bs k) k []) o n))
    ≡ insert (concat bs) (start_of bs k + o) n
insert_lower bs k o n lt full le =
    let long = length_halved bs k lt in
    let half = lower_length bs k lt full in
    concat_insert (halved bs k) k o n (omega (arith, long)) (omega (arith, half))
    ∙ ap₂ (λ xs i. insert xs (i + o) n) (concat_halved bs k lt) (start_halved bs k lt)

-- The same in the upper half.
pub insert_upper : (bs : List (List ℕ)) (k o n : ℕ) → k < length bs → length (get_or bs k [])
    ≡ BLOCK_SIZE → HALF < o → o ≤ length (get_or bs k [])
    → concat (set (halved bs k) (k + 1) (insert (get_or (halved bs k) (k + 1) []) (o - HALF) n))
    ≡ insert (concat bs) (start_of bs k + o) n
insert_upper bs k o n lt full above le =
    let long = length_halved bs k lt in
    let low = lower_length bs k lt full in
    let high = upper_length bs k lt full in
    let next = start_next (halved bs k) k (omega (arith, long)) in
    let at : start_of (halved bs k) (k + 1) + (o - HALF) ≡ start_of bs k + o =
    omega (arith, next, low, start_halved bs k lt, above) in
    concat_insert (halved bs k) (k + 1) (o - HALF) n (omega (arith, long))
    (omega (arith, high, full, le))
    ∙ ap₂ (λ xs i. insert xs i n) (concat_halved bs k lt) at

-- An index inserted at the end of the last block is at the end of the list.
pub insert_last : (bs : List (List ℕ)) (k o n : ℕ) → k + 1 ≡ length bs
    → o ≡ length (get_or bs k [])
    → concat (set bs k (insert (get_or bs k []) o n)) ≡ concat bs ++ n ∷ []
insert_last bs k o n last is =
    let lt : k < length bs = omega arith in
    let next = start_next bs k lt in
    let end : start_of bs k + o ≡ length (concat bs) =
    omega (arith, next, is, start_end bs (k + 1) (omega arith)) in
    concat_insert bs k o n lt (omega (arith, is)) ∙ ap (λ i. insert (concat bs) i n) end
    ∙ insert_end (concat bs) n

-- The end of the list, as a cursor.
pub insert_after : (bs : List (List ℕ)) (cursor : Cursor) (n : ℕ) → IsCursor bs cursor
    → cursor.block ≡ length bs → concat bs ++ n ∷ []
    ≡ insert (concat bs) (position_of bs cursor) n
insert_after bs cursor n at end =
    let is : length (concat bs) ≡ position_of bs cursor =
    omega (arith, at.end end, start_end bs cursor.block (omega (arith, end))) in
    sym (insert_end (concat bs) n) ∙ ap (λ i. insert (concat bs) i n) is

-- A cursor at an index is before the end.
pub before_end : (bs : List (List ℕ)) (k o : ℕ) → k < length bs → o < length (get_or bs k [])
    → start_of bs k + o < length (concat bs)
before_end bs k o lt inside =
    omega (arith, start_next bs k lt, start_within bs (k + 1), inside)

-- A cursor before the end is in a block.
pub cursor_inside : (bs : List (List ℕ)) (cursor : Cursor) → IsCursor bs cursor
    → position_of bs cursor < length (concat bs) → cursor.block < length bs
cursor_inside bs cursor at before = elim (cases_lt cursor.block (length bs)) [
  | inl lt ↦ lt
  | inr ge ↦ absurd (omega (arith, before, start_end bs cursor.block ge))
]

-- No cursor is after the end.
pub cursor_within : (bs : List (List ℕ)) (cursor : Cursor) → IsCursor bs cursor
    → position_of bs cursor ≤ length (concat bs)
cursor_within bs cursor at = elim (cases_lt cursor.block (length bs)) [
  | inl lt ↦ let fact = before_end bs cursor.block cursor.offset lt (at.inside lt) in
      omega (arith, fact)
  | inr ge ↦ let e : cursor.block ≡ length bs = omega (arith, ge, at.within) in
      omega (arith, at.end e, start_end bs cursor.block ge)
]

-- A block added at the end.
pub concat_push : (bs : List (List ℕ)) (b : List ℕ) → concat (bs ++ b ∷ []) ≡ concat bs ++ b
concat_push [] b = append-nil b
concat_push (c ∷ bs) b = ap (λ xs. c ++ xs) (concat_push bs b) ∙ sym (append_assoc c (concat bs) b)

-- What the test of two positions says.
test_before : (a b m n : ℕ) → (ltb a b || (eqb a b && ltb m n)) ≡ true
    → (a < b) ⊎ ((a ≡ b) × (m < n))
test_before a b m n holds = grind (arith, nat_tests)

test_not_before : (a b m n : ℕ) → (ltb a b || (eqb a b && ltb m n)) ≡ false
    → (b ≤ a) × (a ≡ b → n ≤ m)
test_not_before a b m n fails = (grind (arith, nat_tests), λ e. grind (arith, nat_tests))

-- A position that is not before another is at it or after it.
pub not_before_end : (bs : List (List ℕ)) (cursor end : Cursor) → IsCursor bs cursor
    → IsCursor bs end
    → (ltb cursor.block end.block || (eqb cursor.block end.block && ltb cursor.offset end.offset))
    ≡ false → position_of bs end ≤ position_of bs cursor
not_before_end bs cursor end at to fails =
    let test = test_not_before cursor.block end.block cursor.offset end.offset fails in
    elim (cases_lt end.block cursor.block) [
      | inl before ↦
          let inside : end.block < length bs = omega (arith, before, at.within) in
          omega (
            arith,
            to.inside inside,
            start_next bs end.block inside,
            start_ordered bs (end.block + 1) cursor.block (omega arith),
          )
      | inr ge ↦
          let e : cursor.block ≡ end.block = omega (arith, ge, test.0) in
          let same : start_of bs cursor.block ≡ start_of bs end.block = ap (start_of bs) e in
          omega (arith, same, test.1 e)
    ]

-- A position that is before another one is lower.
pub before_lower : (bs : List (List ℕ)) (cursor end : Cursor) → IsCursor bs cursor
    → IsCursor bs end
    → (ltb cursor.block end.block || (eqb cursor.block end.block && ltb cursor.offset end.offset))
    ≡ true → position_of bs cursor < position_of bs end
before_lower bs cursor end at to holds =
    elim (test_before cursor.block end.block cursor.offset end.offset holds) [
      | inl before ↦
          let inside : cursor.block < length bs = omega (arith, before, to.within) in
          omega (
            arith,
            at.inside inside,
            start_next bs cursor.block inside,
            start_ordered bs (cursor.block + 1) end.block (omega arith),
          )
      | inr here ↦
          let same : start_of bs cursor.block ≡ start_of bs end.block = ap (start_of bs) here.0 in
          omega (arith, same, here.1)
    ]

-- A part of a block, in the list.
pub part_of_block : (bs : List (List ℕ)) (k from to : ℕ) → k < length bs → from ≤ to
    → to ≤ length (get_or bs k [])
    → slice_range (get_or bs k []) from to
    ≡ slice_range (concat bs) (start_of bs k + from) (start_of bs k + to)
part_of_block bs k from to lt le within =
    let all : start_of bs k + to ≤ length (concat bs) =
    omega (arith, start_next bs k lt, start_within bs (k + 1), within) in
    let one = length-between (get_or bs k []) from to within in
    let two = length-between (concat bs) (start_of bs k + from) (start_of bs k + to) all in
    ext_get_or 0 (slice_range (get_or bs k []) from to)
    (slice_range (concat bs) (start_of bs k + from) (start_of bs k + to)) (omega (arith, one, two))
    (λ i here.
    let inside : from + i < to = omega (arith, one, here) in
    let assoc : start_of bs k + (from + i) ≡ start_of bs k + from + i = omega arith in
    get_or-between (get_or bs k []) from to i 0 inside
    ∙ sym (index_at bs k (from + i) (omega (arith, inside, within)))
    ∙ ap (λ j. get_or (concat bs) j 0) assoc
    ∙ sym (get_or-between (concat bs) (start_of bs k + from) (start_of bs k + to) i 0
    (omega (arith, inside))))

-- The part of a block before a later position is up to that position, or up to the next block.
pub part_here : (bs : List (List ℕ)) (cursor end : Cursor) → IsCursor bs end
    → cursor.block ≡ end.block → cursor.block < length bs
    → min (position_of bs end) (start_of bs (cursor.block + 1)) ≡ start_of bs cursor.block + end.offset
part_here bs cursor end to same lt =
    let start : start_of bs end.block ≡ start_of bs cursor.block = ap (start_of bs) (sym same) in
    let block : length (get_or bs end.block []) ≡ length (get_or bs cursor.block []) =
    ap (λ k. length (get_or bs k [])) (sym same) in
    let inside = to.inside (omega (arith, same, lt)) in
    let le : position_of bs end ≤ start_of bs (cursor.block + 1) =
    omega (arith, start_next bs cursor.block lt, inside, block, start) in
    min-eq_left le ∙ (let e : position_of bs end ≡ start_of bs cursor.block + end.offset =
    omega (arith, start) in e)

pub part_whole : (bs : List (List ℕ)) (cursor end : Cursor) → cursor.block < end.block
    → cursor.block < length bs → min (position_of bs end) (start_of bs (cursor.block + 1))
    ≡ start_of bs cursor.block + length (get_or bs cursor.block [])
part_whole bs cursor end before lt =
    let le : start_of bs (cursor.block + 1) ≤ position_of bs end =
    omega (arith, start_ordered bs (cursor.block + 1) end.block (omega arith)) in
    min-eq_right le ∙ start_next bs cursor.block lt

-- Lists in blocks.
use Rattle.std.proofs.Common.{◌≡◌, ◌∙◌, ℕ, zero, suc, ◌+◌, ◌-◌, ◌*◌, ◌/◌, ◌%◌, ◌<◌, ◌≤◌, List, []}
use Rattle.std.proofs.Common.{◌∷◌, ◌++◌, length, get_or, sym, ap, ap₂, subst, arith, inl, inr}
use Rattle.std.proofs.Common.{append_assoc, append-nil, length-append, Vec, Global}
use Rattle.std.specs.Prelude.{vec_capacity}
use Rattle.std.proofs.Math.ListN.{set}
use Rattle.std.proofs.lemmas.Bool.{cases_lt}
use Rattle.std.proofs.lemmas.List.{get_or_append_left, get_or-append_right, set-append_left}
use Rattle.std.proofs.lemmas.List.{set-append_right, nil_from_length}
use Rattle.s10_index.specs.Blocks.{items_in, AreFilled}

-- The items are as many as they are said to be.
pub items_count : {T : Type 0} (bs : List (Vec T Global)) (n : ℕ) → AreFilled bs n
    → length (items_in bs) ≡ n
items_count [] n filled = sym filled
items_count (b ∷ bs) n filled =
    omega (
      arith,
      length-append b.items (items_in bs),
      filled.0,
      items_count bs (n - 1024) filled.2,
    )

pub items_fit : {T : Type 0} (bs : List (Vec T Global)) (n : ℕ) → AreFilled bs n
    → n ≤ 1024 * length bs
items_fit [] n filled = omega (arith, filled)
items_fit (b ∷ bs) n filled = omega (arith, items_fit bs (n - 1024) filled.2)

low_block : (k : ℕ) → k < 1024 → k / 1024 ≡ 0
low_block k lt = omega (arith, lt)

low_rest : (k : ℕ) → k < 1024 → k % 1024 ≡ k
low_rest k lt = omega (arith, lt)

high_block : (k : ℕ) → 1024 ≤ k → k / 1024 ≡ suc ((k - 1024) / 1024)
high_block k le = omega (arith, le)

high_rest : (k : ℕ) → 1024 ≤ k → k % 1024 ≡ (k - 1024) % 1024
high_rest k le = omega (arith, le)

-- The item at an index is in the block of the index.
pub item_within : {T : Type 0} (bs : List (Vec T Global)) (n k : ℕ) (d : Vec T Global)
    → AreFilled bs n → k < n → k % 1024 < length (get_or bs (k / 1024) d).items
item_within [] n k d filled lt = absurd (omega (arith, filled, lt))
item_within {T} (b ∷ bs) n k d filled lt =
    elim (cases_lt k 1024) [
      | inl low ↦
          let e : length (get_or (b ∷ bs) (k / 1024) d).items ≡ length b.items =
          ap (λ (j : ℕ). length (get_or (b ∷ bs) j d).items) (low_block k low) in
          omega (arith, e, filled.0, low, lt, low_rest k low)
      | inr high ↦
          let e : length (get_or (b ∷ bs) (k / 1024) d).items
          ≡ length (get_or bs ((k - 1024) / 1024) d).items =
          ap (λ (j : ℕ). length (get_or (b ∷ bs) j d).items) (high_block k high) in
          omega (
            arith,
            e,
            high_rest k high,
            item_within bs (n - 1024) (k - 1024) d filled.2 (omega (arith, lt, high)),
          )
    ]

pub item_at : {T : Type 0} (bs : List (Vec T Global)) (n k : ℕ) (d : Vec T Global) (e : T)
    → AreFilled bs n → k < n
    → get_or (get_or bs (k / 1024) d).items (k % 1024) e ≡ get_or (items_in bs) k e
item_at [] n k d e filled lt = absurd (omega (arith, filled, lt))
item_at (b ∷ bs) n k d e filled lt =
    elim (cases_lt k 1024) [
      | inl low ↦
          ap₂ (λ (j i : ℕ). get_or (get_or (b ∷ bs) j d).items i e) (low_block k low)
          (low_rest k low)
          ∙ sym (get_or_append_left b.items (items_in bs) e k (omega (arith, filled.0, low, lt)))
      | inr high ↦
          ap₂ (λ (j i : ℕ). get_or (get_or (b ∷ bs) j d).items i e) (high_block k high)
          (high_rest k high)
          ∙ item_at bs (n - 1024) (k - 1024) d e filled.2 (omega (arith, lt, high))
          ∙ sym (get_or-append_right b.items (items_in bs) 1024 k e
          (omega (arith, filled.0, lt, high)) high)
    ]

-- A block with one item replaced.
pub set_item : {T : Type 0} (bs : List (Vec T Global)) (n k : ℕ) (d b' : Vec T Global) (v : T)
    → AreFilled bs n → k < n
    → b'.items ≡ set (get_or bs (k / 1024) d).items (k % 1024) v
    → items_in (set bs (k / 1024) b') ≡ set (items_in bs) k v
set_item [] n k d b' v filled lt is = absurd (omega (arith, filled, lt))
set_item {T} (b ∷ bs) n k d b' v filled lt is =
    elim (cases_lt k 1024) [
      | inl low ↦
          ap (λ (j : ℕ). items_in (set (b ∷ bs) j b')) (low_block k low)
          ∙ ap (λ (l : List T). l ++ items_in bs) (is
          ∙ ap₂ (λ (j i : ℕ). set (get_or (b ∷ bs) j d).items i v) (low_block k low)
          (low_rest k low))
          ∙ sym (set-append_left b.items (items_in bs) k v (omega (arith, filled.0, low, lt)))
      | inr high ↦
          ap (λ (j : ℕ). items_in (set (b ∷ bs) j b')) (high_block k high)
          ∙ ap (λ (l : List T). b.items ++ l)
          (set_item bs (n - 1024) (k - 1024) d b' v filled.2 (omega (arith, lt, high))
          (is ∙ ap₂ (λ (j i : ℕ). set (get_or (b ∷ bs) j d).items i v) (high_block k high)
          (high_rest k high)))
          ∙ sym (set-append_right b.items (items_in bs) 1024 k v
          (omega (arith, filled.0, lt, high)) high)
    ]

-- Another block in place of one, with as many items.
pub set_filled : {T : Type 0} (bs : List (Vec T Global)) (n j : ℕ) (d b' : Vec T Global)
    → AreFilled bs n → length b'.items ≡ length (get_or bs j d).items → 1024 ≤ vec_capacity b'
    → AreFilled (set bs j b') n
set_filled [] n j d b' filled same room = filled
set_filled (b ∷ bs) n zero d b' filled same room = (same ∙ filled.0, room, filled.2)
set_filled (b ∷ bs) n (suc j) d b' filled same room =
    (filled.0, filled.1, set_filled bs (n - 1024) j d b' filled.2 same room)

pub block_room : {T : Type 0} (bs : List (Vec T Global)) (n j : ℕ) (d : Vec T Global)
    → AreFilled bs n → j < length bs → 1024 ≤ vec_capacity (get_or bs j d)
block_room [] n j d filled lt = absurd (omega (arith, lt))
block_room (b ∷ bs) n zero d filled lt = filled.1
block_room (b ∷ bs) n (suc j) d filled lt =
    block_room bs (n - 1024) j d filled.2 (omega (arith, lt))

-- The block of the next item has room for it.
pub next_within : {T : Type 0} (bs : List (Vec T Global)) (n : ℕ) (d : Vec T Global)
    → AreFilled bs n → n < 1024 * length bs
    → length (get_or bs (n / 1024) d).items ≡ n % 1024
next_within [] n d filled lt = absurd (omega (arith, lt))
next_within (b ∷ bs) n d filled lt =
    elim (cases_lt n 1024) [
      | inl low ↦
          ap (λ (j : ℕ). length (get_or (b ∷ bs) j d).items) (low_block n low)
          ∙ omega (arith, filled.0, low, low_rest n low)
      | inr high ↦
          ap (λ (j : ℕ). length (get_or (b ∷ bs) j d).items) (high_block n high)
          ∙ next_within bs (n - 1024) d filled.2 (omega (arith, lt, high))
          ∙ sym (high_rest n high)
    ]

-- No items.
pub no_items : {T : Type 0} (bs : List (Vec T Global)) → AreFilled bs 0 → items_in bs ≡ []
no_items bs filled = nil_from_length (items_in bs) (items_count bs 0 filled)

-- A block with one item more.
pub push_item : {T : Type 0} (bs : List (Vec T Global)) (n : ℕ) (d b' : Vec T Global) (v : T)
    → AreFilled bs n → n < 1024 * length bs
    → b'.items ≡ (get_or bs (n / 1024) d).items ++ v ∷ []
    → items_in (set bs (n / 1024) b') ≡ items_in bs ++ v ∷ []
push_item [] n d b' v filled lt is = absurd (omega (arith, lt))
push_item {T} (b ∷ bs) n d b' v filled lt is =
    elim (cases_lt n 1024) [
      | inl low ↦
          let zero_left : n - 1024 ≡ 0 = omega (arith, low) in
          let rest : items_in bs ≡ [] = no_items bs (subst (AreFilled bs) zero_left filled.2) in
          ap (λ (j : ℕ). items_in (set (b ∷ bs) j b')) (low_block n low)
          ∙ ap (λ (l : List T). l ++ items_in bs) (is
          ∙ ap (λ (j : ℕ). (get_or (b ∷ bs) j d).items ++ v ∷ []) (low_block n low))
          ∙ ap (λ (l : List T). (b.items ++ v ∷ []) ++ l) rest
          ∙ append-nil (b.items ++ v ∷ [])
          ∙ ap (λ (l : List T). l ++ v ∷ []) (sym (ap (λ (l : List T). b.items ++ l) rest
          ∙ append-nil b.items))
      | inr high ↦
          ap (λ (j : ℕ). items_in (set (b ∷ bs) j b')) (high_block n high)
          ∙ ap (λ (l : List T). b.items ++ l)
          (push_item bs (n - 1024) d b' v filled.2 (omega (arith, lt, high))
          (is ∙ ap (λ (j : ℕ). (get_or (b ∷ bs) j d).items ++ v ∷ []) (high_block n high)))
          ∙ sym (append_assoc b.items (items_in bs) (v ∷ []))
    ]

pub push_filled : {T : Type 0} (bs : List (Vec T Global)) (n : ℕ) (d b' : Vec T Global)
    → AreFilled bs n → n < 1024 * length bs
    → length b'.items ≡ n % 1024 + 1 → 1024 ≤ vec_capacity b'
    → AreFilled (set bs (n / 1024) b') (n + 1)
push_filled [] n d b' filled lt is room = absurd (omega (arith, lt))
push_filled {T} (b ∷ bs) n d b' filled lt is room =
    elim (cases_lt n 1024) [
      | inl low ↦
          let P : ℕ → Type 0 = λ j. AreFilled (set (b ∷ bs) j b') (n + 1) in
          let none : n - 1024 ≡ n + 1 - 1024 = omega (arith, low) in
          subst P (sym (low_block n low)) (
            omega (arith, is, low, low_rest n low),
            room,
            subst (AreFilled bs) none filled.2,
          )
      | inr high ↦
          let P : ℕ → Type 0 = λ j. AreFilled (set (b ∷ bs) j b') (n + 1) in
          let next : n - 1024 + 1 ≡ n + 1 - 1024 = omega (arith, high) in
          let Q : ℕ → Type 0 = AreFilled (set bs ((n - 1024) / 1024) b') in
          subst P (sym (high_block n high)) (
            omega (arith, filled.0, high),
            filled.1,
            subst Q next (push_filled bs (n - 1024) d b' filled.2 (omega (arith, lt, high))
                (omega (arith, is, high_rest n high)) room),
          )
    ]

-- One more block, which is empty.
pub add_filled : {T : Type 0} (bs : List (Vec T Global)) (n : ℕ) (b : Vec T Global)
    → AreFilled bs n → b.items ≡ [] → 1024 ≤ vec_capacity b → AreFilled (bs ++ b ∷ []) n
add_filled [] n b filled none room =
    let zero_left : n - 1024 ≡ 0 = omega (arith, filled) in
    (ap length none ∙ omega (arith, filled), room, zero_left)
add_filled (c ∷ bs) n b filled none room =
    (filled.0, filled.1, add_filled bs (n - 1024) b filled.2 none room)

pub add_none : {T : Type 0} (bs : List (Vec T Global)) (b : Vec T Global) → b.items ≡ []
    → items_in (bs ++ b ∷ []) ≡ items_in bs
add_none {T} [] b none = ap (λ (l : List T). l ++ []) none
add_none {T} (c ∷ bs) b none = ap (λ (l : List T). c.items ++ l) (add_none bs b none)

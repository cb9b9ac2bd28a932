-- One more range in an order.
use Rattle.std.proofs.Common.{◌≡◌, ◌∙◌, ℕ, ◌+◌, ◌-◌, ◌<◌, ◌≤◌, ◌⊎◌, inl, inr, List, [], ◌∷◌, ◌++◌}
use Rattle.std.proofs.Common.{length, get_or, sym, ap, ap₂, subst, arith, length-append}
use Rattle.std.specs.Prelude.{insert}
use Rattle.std.proofs.lemmas.Bool.{cases_lt, cases_order}
use Rattle.std.proofs.lemmas.List.{get_or_push, get_or_append_left}
use Rattle.std.proofs.lemmas.List.Edits.{length-insert, get_or-insert_below, get_or-insert_at}
use Rattle.std.proofs.lemmas.List.Edits.{get_or-insert_above}
use Rattle.s10_history.specs.declared.range.Range.{Range}
use Rattle.s10_ranges.specs.Order.{range_at, IsOrder}
use Rattle.s10_ranges.specs.Sound.{IsSound, AreSound}

-- An element of the order with n inserted: an old one before it, n, or an old one after it.
abbrev pub Entry : List ℕ → ℕ → ℕ → ℕ → Type 0
Entry order at n j =
    ((j < at) × (get_or (insert order at n) j 0 ≡ get_or order j 0))
    ⊎ (((j ≡ at) × (get_or (insert order at n) j 0 ≡ n))
    ⊎ ((k : ℕ) × (k + 1 ≡ j) × (at ≤ k) × (get_or (insert order at n) j 0 ≡ get_or order k 0)))

pub entry : (order : List ℕ) (at n j : ℕ) → at ≤ length order → Entry order at n j
entry order at n j le =
    elim (cases_order j at) [
      | inl e ↦ inr (inl (
        e,
        ap (λ i. get_or (insert order at n) i 0) e
            ∙ get_or-insert_at order at n 0 le,
      ))
      | inr u ↦ elim u [
        | inl lt ↦ inl (lt, get_or-insert_below order at n 0 j lt le)
        | inr gt ↦
            let k : ℕ = j - 1 in
            let up : k + 1 ≡ j = omega arith in
            let from : at ≤ k = omega arith in
            inr (inr (
              k,
              up,
              from,
              ap (λ i. get_or (insert order at n) i 0) (sym up)
                  ∙ get_or-insert_above order at n 0 k from le,
            ))
      ]
    ]

-- The range at an old index, and the one at the new index.
old_range : (rs : List Range) (r d : Range) (k p : ℕ) → p ≡ k → k < length rs
    → get_or (rs ++ r ∷ []) p d ≡ get_or rs k d
old_range rs r d k p e lt = ap (λ i. get_or (rs ++ r ∷ []) i d) e ∙ get_or_append_left rs (r ∷ []) d
    k lt

new_range : (rs : List Range) (r d : Range) (n p : ℕ) → p ≡ n → n ≡ length rs
    → get_or (rs ++ r ∷ []) p d ≡ r
new_range rs r d n p e is = ap (λ i. get_or (rs ++ r ∷ []) i d) e ∙ get_or_push rs r d n (sym is)

grown_apart : (low high : Range → ℕ) (rs : List Range) (order : List ℕ) (r : Range) (at n : ℕ)
    → IsOrder low high rs order → at ≤ length order → n ≡ length rs
    → ((j : ℕ) (d : Range) → j < at → high (range_at rs order j d) < low r)
    → ((j : ℕ) (d : Range) → at ≤ j → j < length order → high r < low (range_at rs order j d))
    → (i j : ℕ) (d : Range) → i < j → j < length order + 1
    → high (range_at (rs ++ r ∷ []) (insert order at n) i d)
    < low (range_at (rs ++ r ∷ []) (insert order at n) j d)
grown_apart low high rs order r at n o le is below above i j d lt in' =
    elim (entry order at n i le) [
      | inl a ↦
          let ea = ap high (old_range rs r d (get_or order i 0) (get_or (insert order at n) i 0) a.1
          (o.places i (omega (arith, a.0)))) in
          elim (entry order at n j le) [
            | inl b ↦
                let eb = ap low (old_range rs r d (get_or order j 0)
                (get_or (insert order at n) j 0) b.1 (o.places j (omega (arith, b.0)))) in
                let fact = o.apart i j d lt (omega (arith, b.0)) in omega (arith, fact, ea, eb)
            | inr v ↦ elim v [
              | inl b ↦
                  let eb = ap low (new_range rs r d n (get_or (insert order at n) j 0) b.1 is) in
                  let fact = below i d a.0 in omega (arith, fact, ea, eb)
              | inr b ↦
                  let eb = ap low (old_range rs r d (get_or order b.0 0)
                  (get_or (insert order at n) j 0) b.3 (o.places b.0 (omega (arith, b.1)))) in
                  let fact = o.apart i b.0 d (omega (arith, a.0, b.2)) (omega (arith, b.1)) in
                  omega (arith, fact, ea, eb)
            ]
          ]
      | inr u ↦ elim u [
        | inl a ↦
            let ea = ap high (new_range rs r d n (get_or (insert order at n) i 0) a.1 is) in
            elim (entry order at n j le) [
              | inl b ↦ absurd (omega (arith, a.0, b.0, lt))
              | inr v ↦ elim v [
                | inl b ↦ absurd (omega (arith, a.0, b.0, lt))
                | inr b ↦
                    let eb = ap low (old_range rs r d (get_or order b.0 0)
                    (get_or (insert order at n) j 0) b.3 (o.places b.0 (omega (arith, b.1)))) in
                    let fact = above b.0 d b.2 (omega (arith, b.1)) in omega (arith, fact, ea, eb)
              ]
            ]
        | inr a ↦
            let ea = ap high (old_range rs r d (get_or order a.0 0) (get_or (insert order at n) i 0)
            a.3 (o.places a.0 (omega (arith, a.1)))) in
            elim (entry order at n j le) [
              | inl b ↦ absurd (omega (arith, a.1, a.2, b.0, lt))
              | inr v ↦ elim v [
                | inl b ↦ absurd (omega (arith, a.1, a.2, b.0, lt))
                | inr b ↦
                    let eb = ap low (old_range rs r d (get_or order b.0 0)
                    (get_or (insert order at n) j 0) b.3 (o.places b.0 (omega (arith, b.1)))) in
                    let fact = o.apart a.0 b.0 d (omega (arith, a.1, b.1, lt))
                    (omega (arith, b.1)) in omega (arith, fact, ea, eb)
              ]
            ]
      ]
    ]

grown_places : (low high : Range → ℕ) (rs : List Range) (order : List ℕ) (at n : ℕ)
    → IsOrder low high rs order → at ≤ length order → n ≡ length rs
    → (j : ℕ) → j < length order + 1 → get_or (insert order at n) j 0 < length rs + 1
grown_places low high rs order at n o le is j lt =
    elim (entry order at n j le) [
      | inl a ↦ let place = o.places j (omega (arith, a.0)) in omega (arith, place, a.1)
      | inr u ↦ elim u [
        | inl a ↦ omega (arith, a.1, is)
        | inr a ↦ let place = o.places a.0 (omega (arith, a.1)) in omega (arith, place, a.3)
      ]
    ]

grown_all : (low high : Range → ℕ) (rs : List Range) (order : List ℕ) (at n : ℕ)
    → IsOrder low high rs order → at ≤ length order → n ≡ length rs
    → (k : ℕ) → k < length rs + 1 → ((j : ℕ) → j < length order + 1 → get_or (insert order at n) j 0
    ≡ k → ⊥) → ⊥
grown_all low high rs order at n o le is k lt none =
    elim (cases_lt k (length rs)) [
      | inl old ↦ o.all k old (λ j jlt e. elim (cases_lt j at) [
        | inl before ↦ none j (omega arith) (get_or-insert_below order at n 0 j before le ∙ e)
        | inr ge ↦ none (j + 1) (omega arith) (get_or-insert_above order at n 0 j ge le ∙ e)
      ])
      | inr ge ↦ none at (omega arith) (get_or-insert_at order at n 0 le
          ∙ (let e : n ≡ k = omega (arith, is, ge, lt) in e))
    ]

-- An order with the index of a new range at its position is an order.
pub IsOrder-push : (low high : Range → ℕ) (rs : List Range) (order : List ℕ) (r : Range) (at n : ℕ)
    → IsOrder low high rs order → at ≤ length order → n ≡ length rs
    → ((j : ℕ) (d : Range) → j < at → high (range_at rs order j d) < low r)
    → ((j : ℕ) (d : Range) → at ≤ j → j < length order → high r < low (range_at rs order j d))
    → IsOrder low high (rs ++ r ∷ []) (insert order at n)
IsOrder-push low high rs order r at n o le is below above =
    let long : length (insert order at n) ≡ length order + 1 = length-insert order at n le in
    let more : length (rs ++ r ∷ []) ≡ length rs + 1 = length-append rs (r ∷ []) in
    record {
      size = omega (arith, long, more, o.size);
      places = λ j lt. let place = grown_places low high rs order at n o le is j
          (omega (arith, long, lt)) in omega (arith, place, more);
      apart = λ i j d lt in'. grown_apart low high rs order r at n o le is below above i j d lt
          (omega (arith, long, in'));
      all = λ k lt none. grown_all low high rs order at n o le is k (omega (arith, more, lt))
          (λ j jlt e. none j (omega (arith, long, jlt)) e);
    }

-- The same for lists that are equal to these.
pub IsOrder-grown : (low high : Range → ℕ) (rs rs0 rs' : List Range) (order order0 order' : List ℕ)
    (r : Range) (at n : ℕ) → IsOrder low high rs order → rs0 ≡ rs → order0 ≡ order
    → at ≤ length order0 → n ≡ length rs
    → ((j : ℕ) (d : Range) → j < at → high (range_at rs0 order0 j d) < low r)
    → ((j : ℕ) (d : Range) → at ≤ j → j < length order0 → high r < low (range_at rs0 order0 j d))
    → rs' ≡ rs ++ r ∷ [] → order' ≡ insert order at n → IsOrder low high rs' order'
IsOrder-grown low high rs rs0 rs' order order0 order' r at n o e0 f0 le is below above e1 f1 =
    let long : length order0 ≡ length order = ap length f0 in
    rw (e1, f1) (IsOrder-push low high rs order r at n o (omega (arith, long, le)) is
    (λ j d lt. let same = ap high (ap₂ (λ a b. range_at a b j d) e0 f0) in
    let fact = below j d lt in omega (arith, fact, same))
    (λ j d ge lt. let same = ap low (ap₂ (λ a b. range_at a b j d) e0 f0) in
    let fact = above j d ge (omega (arith, long, lt)) in omega (arith, fact, same)))

-- All ranges stay sound with a new one.
pub AreSound-push : (rs rs' : List Range) (r : Range) → AreSound rs → IsSound (length rs) r
    → rs' ≡ rs ++ r ∷ [] → AreSound rs'
AreSound-push rs rs' r sound new is =
    rw is (λ k d lt. elim (cases_lt k (length rs)) [
      | inl old ↦ rw (get_or_append_left rs (r ∷ []) d k old) (sound k d old)
      | inr ge ↦
          let e : length rs ≡ k = omega (arith, length-append rs (r ∷ []), ge, lt) in
          let P : ℕ → Type 0 = λ i. IsSound i r in
          rw (get_or_push rs r d k e) (subst P e new)
    ])

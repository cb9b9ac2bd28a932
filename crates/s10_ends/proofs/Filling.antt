-- Lemmas about a loop that fills a vector within its capacity.
use Rattle.std.proofs.Common.{◌≡◌, ℕ, ◌+◌, ◌<◌, ◌≤◌, List, [], ◌∷◌, ◌++◌, length, ap, arith}
use Rattle.std.proofs.Common.{length-append}

-- The capacity is enough for the next item.
pub room_for_next : (len capacity index most : ℕ) → len ≡ index → index < most → most ≤ capacity
    → len < capacity
room_for_next len capacity index most many some room = omega arith

pub room_for_first : {X : Type 0} (items : List X) (len capacity most : ℕ) → len ≡ length items
    → items ≡ [] → 1 ≤ most → most ≤ capacity → len < capacity
room_for_first items len capacity most held none some room = omega (arith, ap length none)

-- A push leaves the capacity unchanged.
pub room_kept : (before after most : ℕ) → most ≤ before → after ≡ before → most ≤ after
room_kept before after most room same = omega arith

-- A push adds one item.
pub one_longer : (before after index : ℕ) → before ≡ index → after ≡ before + 1 → after ≡ index + 1
one_longer before after index many more = omega arith

pub one_pushed : {X : Type 0} (items pushed : List X) (x : X) (index : ℕ) → length items ≡ index
    → pushed ≡ items ++ x ∷ [] → length pushed ≡ index + 1
one_pushed items pushed x index many is = omega (arith, ap length is, length-append items (x ∷ []))

pub first_pushed : {X : Type 0} (items : List X) (before after : ℕ) → before ≡ length items
    → items ≡ [] → after ≡ before + 1 → after ≡ 1
first_pushed items before after held none more = omega (arith, ap length none)

pub none_held : {X : Type 0} (items : List X) (len : ℕ) → len ≡ length items → items ≡ [] → len ≡ 0
none_held items len held none = omega (arith, ap length none)

-- An empty list has at most `most` items.
pub few_of_none : {X : Type 0} (items : List X) (most : ℕ) → items ≡ [] → length items ≤ most
few_of_none items most none = omega (arith, ap length none)

pub fewer : (held index most : ℕ) → held ≡ index → index < most → held < most
fewer held index most many some = omega arith

pub no_more_than : (held index most : ℕ) → held ≡ index → index < most → held ≤ most
no_more_than held index most many some = omega arith

-- The loop ended after `most` items.
pub all_held : (held index most : ℕ) → held ≡ index → index ≤ most → most ≤ index → held ≡ most
all_held held index most many past ended = omega arith

pub all_filled : (held len index most : ℕ) → len ≡ held → len ≡ index → index ≤ most → most ≤ index
    → held ≡ most
all_filled held len index most is many past ended = omega arith

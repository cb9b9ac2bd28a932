-- Which rows a write removes from a tree.
use Rattle.std.proofs.Common.{◌≡◌, ℤ, List, [], ◌∷◌, filter, Bool, true, not}
use Rattle.std.proofs.Common.{refl, ap, ◌∙◌, arith, int_eq, is_eq}
use Rattle.std.proofs.lemmas.Int.{ints}
use Rattle.std.specs.List.{AllByRecursion}
use Rattle.std.specs.List.Sorted.{IsPermutation}
use Rattle.sqlite_value.specs.declared.value.Value.{Value}
use Rattle.sqlite_value.specs.declared.value.Value.TheVariants.{Null, Int, Real, Text, Blob}
use Rattle.sqlite_value.specs.Order.{Row, value_cmp}
use Rattle.sqlite_value.proofs.OrderLemmas.{value_cmp-Int}
use Rattle.sqlite_trees.specs.Tree.{rowid, has_rowid}
use Rattle.sqlite_keyed.proofs.ListLemmas.{along_permutation}
use Rattle.sqlite_trees.specs.View.{is_int}
use Rattle.s10_statements.specs.Shown.{HasIntegerRowid}
use Rattle.std.proofs.lemmas.List.Elements.{recursion_from_All, filter_passes}

pub all_moved : {X : Type 0} (P : X → Type 0) (xs ys : List X) → IsPermutation xs ys
    → AllByRecursion P xs → AllByRecursion P ys
all_moved P = along_permutation (λ us vs. AllByRecursion P us → AllByRecursion P vs) (λ us h. h)
    (λ x us vs f h. (h.0, f h.1)) (λ x y us h. (h.1.0, (h.0, h.1.1)))
    (λ us vs ws f g h. g (f h))

-- The number of a row.
abbrev pub HasId : Row → Type 0
HasId r = (n : ℤ) × (rowid r ≡ Int n)

int_of : (v : Value) → is_int v ≡ true → (n : ℤ) × (v ≡ Int n)
int_of Null h = absurd (let e = h in cc)
int_of (Int n) h = (n, refl)
int_of (Real x) h = absurd (let e = h in cc)
int_of (Text t) h = absurd (let e = h in cc)
int_of (Blob b) h = absurd (let e = h in cc)

pub all_ids : (rows : List Row) → AllByRecursion HasIntegerRowid rows → AllByRecursion HasId rows
all_ids [] all = tt
all_ids (r ∷ rs) all = (int_of (rowid r) all.0, all_ids rs all.1)

pub same_int : (a b : ℤ) → int_eq a b ≡ true → a ≡ b
same_int a b h = grind (arith, ints)

pub has_id : (num n : ℤ) (r : Row) → rowid r ≡ Int n → has_rowid num r ≡ int_eq n num
has_id num n r e = ap (λ v. is_eq (value_cmp v (Int num))) e ∙ ap is_eq (value_cmp-Int n num)

-- What a filter keeps passes its test.
pub passing : {X : Type 0} (p : X → Bool) (xs : List X)
    → AllByRecursion (λ x. p x ≡ true) (filter p xs)
passing p xs = recursion_from_All (λ x. p x ≡ true) (filter p xs) (filter_passes p xs)

-- The row has another rowid.
abbrev pub stays : ℤ → Row → Bool
stays num r = not (has_rowid num r)

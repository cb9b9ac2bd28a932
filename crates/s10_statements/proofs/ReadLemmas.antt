-- What a read of one table shows.
use Rattle.std.proofs.Common.{◌≡◌, List, [], ◌∷◌, ◌++◌, map, filter, flat_map, Bool, true, false}
use Rattle.std.proofs.Common.{cond, refl, sym, ap, subst, ◌∙◌}
use Rattle.std.specs.List.{list_all}
use Rattle.std.specs.List.Sorted.{IsPermutation}
use Rattle.std.proofs.lemmas.List.Sorted.{IsPermutation-map, IsPermutation-trans}
use Rattle.sqlite_value.specs.Order.{Row}
use Rattle.sqlite_sql.specs.Term.{Env, holds}
use Rattle.sqlite_sql.specs.Query.{Query, Output, output}
use Rattle.sqlite_keyed.proofs.ListLemmas.{map-map, filter-map, IsPermutation-filter}
use Rattle.sqlite_keyed.proofs.ListLemmas.{map_same, filter_same, map_back}

picked : {A B : Type 0} (p : A → Bool) (f : A → B) (xs : List A)
    → flat_map (λ x. cond (p x) (f x ∷ []) []) xs ≡ map f (filter p xs)
picked p f [] = refl
picked {A} {B} p f (x ∷ xs) =
    elim (p x) as (λ b. cond b (f x ∷ []) [] ++ flat_map (λ y. cond (p y) (f y ∷ []) []) xs
    ≡ map f (cond b (x ∷ filter p xs) (filter p xs)))
    [ true ↦ ap (λ l. f x ∷ l) (picked p f xs) | false ↦ picked p f xs ]

-- The columns shown are these of a stored row, their first ones are the key, and the test is one of
-- them.
module _ (params : Row) (q : Query) (raw : List Row) (columns key : Row → Row) (test : Row → Bool)
    (outs : (r : Row) → output q (params ∷ r ∷ []) ≡ (key (columns r), columns r))
    (tests : (r : Row) → list_all (holds (params ∷ r ∷ [])) q.filter ≡ test (columns r)) where
  abbrev out : Row → Output
  out v = (key v, v)

  pub kept_are : (staged : List Env) (kept : List Output)
      → staged ≡ flat_map (λ r. cond (list_all (holds (params ∷ r ∷ [])) q.filter)
      ((params ∷ r ∷ []) ∷ []) []) raw
      → kept ≡ map (output q) staged → kept ≡ map out (filter test (map columns raw))
  kept_are staged kept s k =
      let f : Row → Env = λ r. params ∷ r ∷ [] in
      let p : Row → Bool = λ r. list_all (holds (params ∷ r ∷ [])) q.filter in
      let one : kept ≡ map (output q) (map f (filter p raw)) =
      k ∙ ap (map (output q)) (s ∙ picked p f raw) in
      let two : map (output q) (map f (filter p raw)) ≡ map (λ r. out (columns r)) (filter p raw) =
      map-map (output q) f (filter p raw) ∙ map_same _ _ outs (filter p raw) in
      let three : map (λ r. out (columns r)) (filter p raw)
      ≡ map out (map columns (filter (λ r. test (columns r)) raw)) =
      ap (map (λ r. out (columns r))) (filter_same p (λ r. test (columns r)) tests raw)
      ∙ sym (map-map out columns (filter (λ r. test (columns r)) raw)) in
      one ∙ two ∙ three ∙ ap (map out) (sym (filter-map test columns raw))

  seconds : (vs : List Row) → map (λ (o : Output). o.1) (map out vs) ≡ vs
  seconds [] = refl
  seconds (v ∷ vs) = ap (λ l. v ∷ l) (seconds vs)

  -- The rows that pass, in some order.
  pub rows_are : (kept ordered : List Output) (rows : List Row)
      → kept ≡ map out (filter test (map columns raw)) → IsPermutation kept ordered
      → rows ≡ map (λ (o : Output). o.1) ordered
      → IsPermutation (filter test (map columns raw)) rows
  rows_are kept ordered rows k same shown =
      let moved : IsPermutation
      (map (λ (o : Output). o.1) (map out (filter test (map columns raw))))
      (map (λ (o : Output). o.1) ordered) =
      IsPermutation-map (λ (o : Output). o.1) _ ordered (subst (λ l. IsPermutation l ordered) k
      same) in
      rw shown (subst (λ l. IsPermutation l (map (λ (o : Output). o.1) ordered))
      (seconds (filter test (map columns raw))) moved)

-- Typed rows that show as the rows that pass are those that pass.
pub selected : {X : Type 0} (shown : X → Row) (read : Row → X) → ((x : X) → read (shown x) ≡ x)
    → (test : Row → Bool) (p : X → Bool) → ((x : X) → test (shown x) ≡ p x)
    → (xs ys : List X) (vs : List Row) → IsPermutation (map shown xs) vs
    → IsPermutation (filter test vs) (map shown ys) → IsPermutation (filter p xs) ys
selected {X} shown read back test p agree xs ys vs has got =
    let all : IsPermutation (filter test (map shown xs)) (map shown ys) =
    IsPermutation-trans _ _ _ (IsPermutation-filter test _ _ has) got in
    let typed : filter test (map shown xs) ≡ map shown (filter p xs) = filter-map test shown xs
    ∙ ap (map shown) (filter_same (λ x. test (shown x)) p agree xs) in
    let turned : IsPermutation (map read (map shown (filter p xs))) (map read (map shown ys)) =
    IsPermutation-map read _ _ (rw (← typed) all) in
    rw (map_back shown read back (filter p xs), map_back shown read back ys) at turned

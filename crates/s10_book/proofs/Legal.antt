-- A legal history grew by one call after another.
use Rattle.std.proofs.Common.{◌≡◌, ℕ, zero, suc, ◌<◌, ◌≤◌, false, eqb, List, []}
use Rattle.std.proofs.Common.{◌∷◌, ◌++◌, Some, refl, sym, ap, arith, subst, length}
use Rattle.std.proofs.Common.{get_or, take, length-take, get_or-take, take_all, ◌∙◌, length-append}
use Rattle.std.specs.Prelude.{AllPairs, IsTrue, slice_get, ⊤}
use Rattle.std.proofs.lemmas.Bool.{both_ways, eqb-true, eq-eqb, and_parts}
use Rattle.std.proofs.lemmas.Bool.{and_from}
use Rattle.std.proofs.lemmas.Option.{slice_get-get_or}
use Rattle.std.proofs.lemmas.List.{take-append-le}
use Rattle.s10_history.specs.declared.entry.Entry.{Entry}
use Rattle.s10_history.specs.Settings.{Terms}
use Rattle.s10_history.specs.History.{has_key}
use Rattle.s10_book.specs.Rules.{IsLegal, MayFollow}
use Rattle.s10_book.proofs.Push.{IsLegal-push, IsLegal-nil, none_kept}

-- The element at an index, and the list up to it and with it.
pub element : {A : Type 0} (xs : List A) (n : ℕ) → n < length xs
    → (x : A) × (slice_get xs n ≡ Some x) × (take (suc n) xs ≡ take n xs ++ x ∷ [])
element [] n h = absurd (omega arith)
element (x ∷ xs) zero h = (x, refl, refl)
element (x ∷ xs) (suc n) h = let rest = element xs n (omega arith) in
    (rest.0, rest.1, ap (λ l. x ∷ l) rest.2)

-- Whether two calls have the same key does not depend on their order.
keys_turned : (d e : Entry) → has_key e.request.customer e.request.number d ≡ false
    → ¬ (IsTrue (has_key d.request.customer d.request.number e))
keys_turned d e other same =
    let both = and_parts (eqb e.request.customer d.request.customer)
    (eqb e.request.number d.request.number) same in
    both_ways (has_key e.request.customer e.request.number d) other
    (and_from (eqb d.request.customer e.request.customer) (eqb d.request.number e.request.number)
    (eq-eqb d.request.customer e.request.customer
    (sym (eqb-true e.request.customer d.request.customer both.0)))
    (eq-eqb d.request.number e.request.number
    (sym (eqb-true e.request.number d.request.number both.1))))

-- No two calls of a legal history have the same key.
pub legal_distinct : (h : List Entry) (t : Terms) → IsLegal h t
    → AllPairs (λ d e. ¬ (IsTrue (has_key d.request.customer d.request.number e))) h
legal_distinct h t legal = λ i j d lt within.
    let e = get_or h j d in
    let long : length (take j h) ≡ j = omega (arith, length-take j h) in
    let may = legal.follow j e (slice_get-get_or h j d within) in
    keys_turned (get_or h i d) e
    (subst (λ (x : Entry). has_key e.request.customer e.request.number x ≡ false)
    (get_or-take j h i d lt)
    (none_kept (has_key e.request.customer e.request.number) (take j h) may.new_key i d
    (omega (arith, long, lt))))

grown : (P : List Entry → Type 0) (h : List Entry) (t : Terms) → IsLegal h t → P []
    → ((g : List Entry) (e : Entry) → IsLegal g t → P g → MayFollow g t e → P (g ++ e ∷ []))
    → (n : ℕ) → n ≤ length h → IsLegal (take n h) t × P (take n h)
grown P h t legal base step zero le = (IsLegal-nil t, base)
grown P h t legal base step (suc n) le =
    let before = grown P h t legal base step n (omega arith) in
    let next = element h n (omega arith) in
    let may : MayFollow (take n h) t next.0 = legal.follow n next.0 next.1 in
    rw next.2 (
      IsLegal-push (take n h) t next.0 before.0 may,
      step (take n h) next.0 before.0 before.1 may,
    )

-- The first calls of a legal history are one.
pub IsLegal-first : (g rest : List Entry) (t : Terms) → IsLegal (g ++ rest) t → IsLegal g t
IsLegal-first g rest t legal = subst (λ (l : List Entry). IsLegal l t)
    (take-append-le (length g) g rest (omega arith) ∙ take_all (length g) g (omega arith))
    (grown (λ _. ⊤) (g ++ rest) t legal tt (λ _ _ _ _ _. tt) (length g)
    (omega (arith, length-append g rest))).0

-- A property of the empty history that each call preserves holds of every legal history.
pub legal_induction : (P : List Entry → Type 0) (h : List Entry) (t : Terms) → IsLegal h t → P []
    → ((g : List Entry) (e : Entry) → IsLegal g t → P g → MayFollow g t e → P (g ++ e ∷ [])) → P h
legal_induction P h t legal base step =
    subst P (take_all (length h) h (omega arith)) (grown P h t legal base step (length h)
    (omega arith)).1

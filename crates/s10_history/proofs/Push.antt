-- One more call at the end of a history.
use Rattle.std.proofs.Common.{◌≡◌, ℕ, ◌+◌, ◌≤◌, List, [], ◌∷◌, ◌++◌, Option, Some, None, refl, sym}
use Rattle.std.proofs.Common.{ap, ◌∙◌, arith, length, append-nil, append_assoc}
use Rattle.std.specs.Prelude.{option_to_list}
use Rattle.s10_history.specs.declared.entry.Entry.{Entry}
use Rattle.s10_history.specs.declared.range.Range.{Range}
use Rattle.s10_history.specs.declared.issuance.Issuance.{Issuance}
use Rattle.s10_history.specs.History.{ranges_from, ranges_of, range_of_grant, then_ranges}
use Rattle.s10_history.specs.Issues.{issues_from, issues_of, issues_at, carried_by}

granted : ℕ → Entry → Option Range
granted n e = range_of_grant n e.request.body e.outcome

single : (o : Option Range) → then_ranges o [] [] ≡ option_to_list o
single None = refl
single (Some r) = refl

then_push : (o : Option Range) (xs : List Entry) (e : Entry) (n : ℕ)
    → (ranges_from n (xs ++ e ∷ []) ≡ ranges_from n xs ++ option_to_list
    (range_of_grant (n + length (ranges_from n xs)) e.request.body e.outcome))
    → (ranges_from (n + 1) (xs ++ e ∷ []) ≡ ranges_from (n + 1) xs ++ option_to_list
    (range_of_grant (n + 1 + length (ranges_from (n + 1) xs)) e.request.body e.outcome))
    → then_ranges o (ranges_from n (xs ++ e ∷ [])) (ranges_from (n + 1) (xs ++ e ∷ []))
    ≡ then_ranges o (ranges_from n xs) (ranges_from (n + 1) xs) ++ option_to_list
    (range_of_grant (n + length (then_ranges o (ranges_from n xs) (ranges_from (n + 1) xs)))
    e.request.body e.outcome)
then_push None xs e n here next = here
then_push (Some r) xs e n here next =
    let same : n + 1 + length (ranges_from (n + 1) xs) ≡ n + length (r ∷ ranges_from (n + 1) xs) =
    omega arith in
    ap (λ l. r ∷ l)
    (next ∙ ap (λ m. ranges_from (n + 1) xs ++ option_to_list
    (range_of_grant m e.request.body e.outcome)) same)

pub ranges_from-push : (n : ℕ) (xs : List Entry) (e : Entry) → ranges_from n (xs ++ e ∷ [])
    ≡ ranges_from n xs ++ option_to_list (range_of_grant (n + length (ranges_from n xs))
    e.request.body e.outcome)
ranges_from-push n [] e =
    let same : n ≡ n + 0 = omega arith in
    single (range_of_grant n e.request.body e.outcome)
    ∙ ap (λ m. option_to_list (range_of_grant m e.request.body e.outcome)) same
ranges_from-push n (x ∷ xs) e = then_push (range_of_grant n x.request.body x.outcome) xs e n
    (ranges_from-push n xs e) (ranges_from-push (n + 1) xs e)

pub issues_from-push : (n : ℕ) (xs : List Entry) (e : Entry) → issues_from n (xs ++ e ∷ [])
    ≡ issues_from n xs ++ issues_at (n + length xs) e
issues_from-push n [] e =
    let same : n ≡ n + 0 = omega arith in
    append-nil (issues_at n e) ∙ ap (λ m. issues_at m e) same
issues_from-push n (x ∷ xs) e =
    let same : n + 1 + length xs ≡ n + length (x ∷ xs) = omega arith in
    ap (λ l. issues_at n x ++ l) (issues_from-push (n + 1) xs e
    ∙ ap (λ m. issues_from (n + 1) xs ++ issues_at m e) same)
    ∙ sym (append_assoc (issues_at n x) (issues_from (n + 1) xs)
    (issues_at (n + length (x ∷ xs)) e))

-- A call that carries no identifier leaves the issuances.
pub same_issues : (h : List Entry) (e : Entry) → carried_by e.outcome ≡ [] → issues_of (h ++ e ∷ [])
    ≡ issues_of h
same_issues h e none = issues_from-push 1 h e ∙ rw none (append-nil (issues_of h))

-- A call that adds no range leaves the ranges.
pub same_ranges : (h : List Entry) (e : Entry) → range_of_grant (1 + length (ranges_of h))
    e.request.body e.outcome ≡ None → ranges_of (h ++ e ∷ []) ≡ ranges_of h
same_ranges h e none = ranges_from-push 1 h e
    ∙ ap (λ (o : Option Range). ranges_of h ++ option_to_list o) none ∙ append-nil (ranges_of h)

then_few : (o : Option Range) (xs : List Entry) (n : ℕ) → length (ranges_from n xs) ≤ length xs
    → length (ranges_from (n + 1) xs) ≤ length xs
    → length (then_ranges o (ranges_from n xs) (ranges_from (n + 1) xs)) ≤ length xs + 1
then_few None xs n here next = omega arith
then_few (Some r) xs n here next = omega arith

-- There are at most as many ranges as calls.
pub length-ranges_from : (n : ℕ) (xs : List Entry) → length (ranges_from n xs) ≤ length xs
length-ranges_from n [] = omega arith
length-ranges_from n (x ∷ xs) =
    omega (
      arith,
      then_few (range_of_grant n x.request.body x.outcome) xs n
          (length-ranges_from n xs) (length-ranges_from (n + 1) xs),
    )

-- The stored ranges remain those of the history.
pub granted-push : (h new : List Entry) (rs rs' : List Range) (made : Option Range) (count : ℕ)
    (e : Entry) → rs ≡ ranges_of h → new ≡ h ++ e ∷ [] → count ≡ length rs
    → made ≡ range_of_grant (count + 1) e.request.body e.outcome → rs' ≡ rs ++ option_to_list made
    → rs' ≡ ranges_of new
granted-push h new rs rs' made count e are grown counted is after =
    let num : count + 1 ≡ 1 + length (ranges_of h) = omega (arith, counted, ap length are) in
    after ∙ ap (λ l. l ++ option_to_list made) are
    ∙ ap (λ o. ranges_of h ++ option_to_list o)
    (is ∙ ap (λ n. range_of_grant n e.request.body e.outcome) num)
    ∙ sym (ranges_from-push 1 h e) ∙ ap ranges_of (sym grown)

-- The stored issuances remain those of the history.
pub issued-push : (h new : List Entry) (is is' : List Issuance) (count : ℕ) (e : Entry)
    → is ≡ issues_of h → new ≡ h ++ e ∷ [] → count ≡ length h
    → is' ≡ is ++ issues_at (count + 1) e → is' ≡ issues_of new
issued-push h new is is' count e are grown counted after =
    let num : count + 1 ≡ 1 + length h = omega (arith, counted) in
    after ∙ ap (λ l. l ++ issues_at (count + 1) e) are
    ∙ ap (λ n. issues_of h ++ issues_at n e) num
    ∙ sym (issues_from-push 1 h e) ∙ ap issues_of (sym grown)

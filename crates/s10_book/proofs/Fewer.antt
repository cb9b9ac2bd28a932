-- If successive Draws are not all done, fewer serials are free than they ask for.
use Rattle.std.proofs.Common.{◌≡◌, ℕ, zero, suc, ◌+◌, ◌-◌, ◌<◌, ◌≤◌, Bool, true, false, cond, leb}
use Rattle.std.proofs.Common.{List, [], ◌∷◌, ◌++◌, Option, Some, None, Result, Ok, refl, sym, ap}
use Rattle.std.proofs.Common.{◌∙◌, ◌⊎◌, inl, inr, arith, subst, get_or}
use Rattle.std.specs.Prelude.{find, All, AllPairs, IfOk, Contains, count_by}
use Rattle.std.specs.List.{range_with_len}
use Rattle.std.specs.Option.{option_map}
use Rattle.std.proofs.lemmas.Bool.{both_ways, cases_Bool, cases_eq, leb-true, le-leb}
use Rattle.std.proofs.lemmas.Option.{none-some}
use Rattle.std.proofs.lemmas.List.Elements.{All-head, All-tail, All-push, All-weaker}
use Rattle.std.proofs.lemmas.List.Quantifiers.{all_pairs_push}
use Rattle.s10_core.specs.declared.id.Id.{Id}
use Rattle.s10_history.specs.declared.range.Range.{Range}
use Rattle.s10_history.specs.declared.issuance.Issuance.{Issuance}
use Rattle.s10_wire.specs.declared.body.Body.TheVariants.{DrawMany}
use Rattle.s10_wire.specs.declared.outcome.Outcome.{Outcome}
use Rattle.s10_wire.specs.declared.outcome.Outcome.TheVariants.{NoneFree}
use Rattle.s10_book.specs.declared.book_fault.BookFault.{BookFault}
use Rattle.s10_history.specs.declared.entry.Entry.{Entry}
use Rattle.s10_history.specs.Settings.{Terms}
use Rattle.s10_history.specs.History.{day_of, ranges_of, is_open, ranges_open, lies_in}
use Rattle.s10_history.specs.Issues.{issues_of, last_issuance_of, is_free, is_free_since, serials}
use Rattle.s10_history.specs.Issues.{pick_of, id_at}
use Rattle.s10_book.specs.Rules.{IsLegal, has_free_pick, free_serials, successive_draws}
use Rattle.s10_book.specs.Rules.{outcome_of_draws, draw_many_answer, FewFree}
use Rattle.s10_book.proofs.Apart.{Apart, apart}
use Rattle.s10_book.proofs.Own.{lies_at}
use Rattle.s10_book.proofs.Free.{pick_free}
use Rattle.s10_history.proofs.Numbering.{Contains-find, found_passes}
use Rattle.s10_book.proofs.Spaced.{InDays, sound}
use Rattle.std.proofs.lemmas.List.Sums.{sum_by-cons}
use Rattle.s10_book.proofs.Picking.{then_found, picks}
use Rattle.s10_book.proofs.Marks.{one_range, all_at_pick, at_serial}
use Rattle.s10_book.proofs.Carried.{Contains-filter}
use Rattle.s10_book.proofs.Taking.{drawn_on, row_of, last_here}
use Rattle.std.proofs.lemmas.List.Kept.{AllPairs-filter}
use Rattle.s10_book.proofs.Rows.{Ready, ready_next, last_other, last_outside, picks_here}

split_count : (p : ℕ → Bool) (low n : ℕ) → count_by p (range_with_len low (suc n))
    ≡ cond (p low) 1 0 + count_by p (range_with_len (low + 1) n)
split_count p low n = sum_by-cons (λ s. cond (p s) 1 0) low (range_with_len (low + 1) n)

count_same : (p q : ℕ → Bool) (low len : ℕ) → ((s : ℕ) → low ≤ s → s < low + len → p s ≡ q s)
    → count_by p (range_with_len low len) ≡ count_by q (range_with_len low len)
count_same p q low zero same = refl
count_same p q low (suc n) same =
    split_count p low n ∙ ap (λ b. cond b 1 0 + count_by p (range_with_len (low + 1) n))
    (same low (omega arith) (omega arith))
    ∙ ap (λ k. cond (q low) 1 0 + k)
    (count_same p q (low + 1) n (λ s le lt. same s (omega arith) (omega arith)))
    ∙ sym (split_count q low n)

count_none : (p : ℕ → Bool) (low len : ℕ) → ((s : ℕ) → low ≤ s → s < low + len → p s ≡ false)
    → count_by p (range_with_len low len) ≡ 0
count_none p low zero none = refl
count_none p low (suc n) none =
    let here : count_by p (range_with_len low (suc n))
    ≡ 0 + count_by p (range_with_len (low + 1) n) = split_count p low n
    ∙ ap (λ b. cond b 1 0 + count_by p (range_with_len (low + 1) n))
    (none low (omega arith) (omega arith)) in
    omega (arith, here, count_none p (low + 1) n (λ s le lt. none s (omega arith) (omega arith)))

-- One serial fewer passes the second test.
count_one : (p q : ℕ → Bool) (m low len : ℕ) → low ≤ m → m < low + len → p m ≡ true → q m ≡ false
    → ((s : ℕ) → (s ≡ m → ⊥) → p s ≡ q s) → count_by p (range_with_len low len)
    ≡ count_by q (range_with_len low len) + 1
count_one p q m low zero le lt yes' no' same = absurd (omega arith)
count_one p q m low (suc n) le lt yes' no' same =
    elim (cases_eq low m) [
      | inl e ↦
          let P : ℕ → Type 0 = λ k. p k ≡ true in
          let Q : ℕ → Type 0 = λ k. q k ≡ false in
          let rest : count_by p (range_with_len (low + 1) n)
          ≡ count_by q (range_with_len (low + 1) n) =
          count_same p q (low + 1) n
          (λ s above below. same s (λ f. omega (arith, above, e, f))) in
          let left : count_by p (range_with_len low (suc n))
          ≡ 1 + count_by p (range_with_len (low + 1) n) = split_count p low n
          ∙ ap (λ b. cond b 1 0 + count_by p (range_with_len (low + 1) n))
          (subst P (sym e) yes') in
          let right : count_by q (range_with_len low (suc n))
          ≡ 0 + count_by q (range_with_len (low + 1) n) = split_count q low n
          ∙ ap (λ b. cond b 1 0 + count_by q (range_with_len (low + 1) n))
          (subst Q (sym e) no') in
          omega (arith, rest, left, right)
      | inr ne ↦
          let rest : count_by p (range_with_len (low + 1) n)
          ≡ count_by q (range_with_len (low + 1) n) + 1 =
          count_one p q m (low + 1) n (omega arith) (omega arith) yes' no' same in
          let left : count_by p (range_with_len low (suc n)) ≡ cond (q low) 1 0 + count_by p
          (range_with_len (low + 1) n) = split_count p low n
          ∙ ap (λ b. cond b 1 0 + count_by p (range_with_len (low + 1) n)) (same low ne) in
          omega (arith, rest, left, split_count q low n)
    ]

free_other : (is : List Issuance) (y : Issuance) (x : Id) (day n : ℕ)
    → last_issuance_of (is ++ y ∷ []) x ≡ last_issuance_of is x → is_free is x day n
    ≡ is_free (is ++ y ∷ []) x day n
free_other is y x day n e = ap (λ o. is_free_since day n (option_map (λ (i : Issuance). i.day) o))
    (sym e)

taken_now : (is : List Issuance) (y : Issuance) (day n : ℕ) → y.day ≡ day → 1 ≤ n
    → is_free (is ++ y ∷ []) y.id day n ≡ false
taken_now is y day n on pos =
    ap (λ o. is_free_since day n (option_map (λ (i : Issuance). i.day) o))
    (last_here is y y.id refl) ∙ not_free
  where
    not_free : leb n (day - y.day) ≡ false
    not_free =
        elim (cases_Bool (leb n (day - y.day))) [
          | inl yes' ↦ absurd (omega (arith, leb-true n (day - y.day) yes', on, pos))
          | inr no' ↦ no'
        ]

free_in : List Issuance → ℕ → ℕ → Range → ℕ
free_in is day n r = count_by (λ serial. is_free is (id_at r serial) day n) (serials r)

free_outside_is : (r : Range) (is : List Issuance) (y : Issuance) (day n : ℕ)
    → lies_in r y.id ≡ false → free_in is day n r ≡ free_in (is ++ y ∷ []) day n r
unfolding free_in
free_outside_is r is y day n out =
    count_same (λ serial. is_free is (id_at r serial) day n)
    (λ serial. is_free (is ++ y ∷ []) (id_at r serial) day n) r.first (r.last + 1 - r.first)
    (λ s le lt. free_other is y (id_at r s) day n (last_outside r is y (id_at r s) out
    (at_serial r s le lt)))

free_inside_is : (r : Range) (is : List Issuance) (y : Issuance) (m day n : ℕ) → r.first ≤ m
    → m ≤ r.last → y.id ≡ id_at r m → y.day ≡ day → 1 ≤ n → is_free is (id_at r m) day n ≡ true
    → free_in is day n r ≡ free_in (is ++ y ∷ []) day n r + 1
unfolding free_in
free_inside_is r is y m day n low high e on pos free =
    let P : Id → Type 0 = λ x. is_free (is ++ y ∷ []) x day n ≡ false in
    count_one (λ serial. is_free is (id_at r serial) day n)
    (λ serial. is_free (is ++ y ∷ []) (id_at r serial) day n) m r.first (r.last + 1 - r.first)
    low (omega arith) free (subst P e (taken_now is y day n on pos))
    (λ s other. free_other is y (id_at r s) day n
    (last_other is y (id_at r s) (λ same. other (ap (λ (x : Id). x.serial) (sym same ∙ e)))))

total_outside : (rs : List Range) (is : List Issuance) (y : Issuance) (day n : ℕ)
    → All (λ r. lies_in r y.id ≡ false) rs → free_serials is day n rs ≡ free_serials (is ++ y ∷ [])
    day n rs
unfolding free_in
total_outside [] is y day n out = refl
total_outside (r ∷ rs) is y day n out =
    let here : free_in is day n r ≡ free_in (is ++ y ∷ []) day n r =
    free_outside_is r is y day n (All-head (λ s. lies_in s y.id ≡ false) r rs out) in
    let rest : free_serials is day n rs ≡ free_serials (is ++ y ∷ []) day n rs =
    total_outside rs is y day n (All-tail (λ s. lies_in s y.id ≡ false) r rs out) in
    ap (λ k. k + free_serials is day n rs) here ∙ ap (λ k. free_in (is ++ y ∷ []) day n r + k) rest

-- One more issuance of a range's free pick leaves at most one free serial fewer.
total_one : (rs : List Range) (is : List Issuance) (y : Issuance) (day n : ℕ) → AllPairs Apart rs
    → Ready rs is → y.day ≡ day → 1 ≤ n → ((r : Range) → Contains rs r → lies_in r y.id ≡ true
    → (y.id ≡ id_at r (pick_of is r)) × (has_free_pick is day n r ≡ true))
    → free_serials is day n rs ≤ free_serials (is ++ y ∷ []) day n rs + 1
unfolding free_in
total_one [] is y day n pairs ready on pos at = omega arith
total_one (r ∷ rs) is y day n pairs ready on pos at =
    let head : Contains (r ∷ rs) r = (0, omega arith, refl) in
    let more : (s : Range) → Contains rs s → Contains (r ∷ rs) s =
    λ s c. (suc c.0, omega (arith, c.1), c.2) in
    elim (cases_Bool (lies_in r y.id)) [
      | inl in' ↦
          let told = at r head in' in
          let turns = ready r head in
          let here : free_in is day n r ≡ free_in (is ++ y ∷ []) day n r + 1 =
          free_inside_is r is y (pick_of is r) day n turns.low turns.high told.0 on pos
          told.1 in
          let others : All (λ s. lies_in s y.id ≡ false) rs =
          (λ k d lt. not_true (lies_in (get_or rs k d) y.id)
          (pairs 0 (suc k) d (omega arith) (omega (arith, lt)) y.id in')) in
          let rest : free_serials is day n rs ≡ free_serials (is ++ y ∷ []) day n rs =
          total_outside rs is y day n others in
          omega (arith, here, rest)
      | inr out ↦
          let here : free_in is day n r ≡ free_in (is ++ y ∷ []) day n r =
          free_outside_is r is y day n out in
          let tails : AllPairs Apart rs = λ i j d lt lt'. pairs (suc i) (suc j) d (omega arith)
          (omega (arith, lt')) in
          let rest : free_serials is day n rs ≤ free_serials (is ++ y ∷ []) day n rs + 1 =
          total_one rs is y day n tails (λ s c. ready s (more s c)) on pos
          (λ s c. at s (more s c)) in
          omega (arith, here, rest)
    ]
  where
    not_true : (b : Bool) → (b ≡ true → ⊥) → b ≡ false
    not_true true wrong = absurd (wrong refl)
    not_true false wrong = refl

none_free_in : (is : List Issuance) (day n : ℕ) (r : Range) → InDays is → has_free_pick is day n r
    ≡ false → free_in is day n r ≡ 0
unfolding free_in
none_free_in is day n r days taken =
    count_none (λ serial. is_free is (id_at r serial) day n) r.first (r.last + 1 - r.first)
    (λ s le lt. at s (at_serial r s le lt) (cases_Bool (is_free is (id_at r s) day n)))
  where
    at : (s : ℕ) → lies_in r (id_at r s) ≡ true → (is_free is (id_at r s) day n ≡ true)
        ⊎ (is_free is (id_at r s) day n ≡ false) → is_free is (id_at r s) day n ≡ false
    at s lies (inl yes') =
        absurd (both_ways (has_free_pick is day n r) taken (pick_free is r (id_at r s) day n days
        lies yes'))
    at s lies (inr no') = no'

-- If no range has a free pick, no serial is free.
total_none : (rs : List Range) (is : List Issuance) (day n : ℕ) → InDays is
    → find (has_free_pick is day n) rs ≡ None → free_serials is day n rs ≡ 0
unfolding free_in
total_none [] is day n days none = refl
total_none (r ∷ rs) is day n days none =
    elim (cases_Bool (has_free_pick is day n r)) [
      | inl t ↦ absurd (none-some r (sym (rw t at none)))
      | inr f ↦ let here : free_in is day n r ≡ 0 = none_free_in is day n r days f in
          omega (arith, here, total_none rs is day n days (rw f at none))
    ]

rest_none : (x : Id) (row : Option (List Id)) → option_map (λ xs. x ∷ xs) row ≡ None → row ≡ None
rest_none x None is = refl
rest_none x (Some xs) is = absurd (none-some _ (sym is))

-- Successive picks fail only if fewer serials are free than they ask for.
pub fewer_free : (made : Id → Issuance) (day n : ℕ) (rs : List Range) → ((x : Id) → (made x).id ≡ x)
    → ((x : Id) → (made x).day ≡ day) → 1 ≤ n → AllPairs Apart rs
    → (k : ℕ) (is : List Issuance) → Ready rs is → InDays is → All (λ i. i.day ≤ day) is
    → picks made day n rs is k ≡ None → free_serials is day n rs < k
fewer_free made day n rs same on pos pairs zero is ready days upto e = absurd (none-some [] (sym e))
fewer_free made day n rs same on pos pairs (suc k) is ready days upto e =
    at (find (has_free_pick is day n) rs) refl e (fewer_free made day n rs same on pos pairs k)
  where
    at : (o : Option Range) → find (has_free_pick is day n) rs ≡ o
        → then_found o (λ r. option_map (λ xs. id_at r (pick_of is r) ∷ xs)
        (picks made day n rs (is ++ made (id_at r (pick_of is r)) ∷ []) k)) ≡ None
        → ((js : List Issuance) → Ready rs js → InDays js → All (λ i. i.day ≤ day) js
        → picks made day n rs js k ≡ None → free_serials js day n rs < k)
        → free_serials is day n rs < suc k
    at None found e' next = omega (arith, total_none rs is day n days found)
    at (Some r) found e' next =
        let there : Contains rs r = Contains-find (has_free_pick is day n) rs r found in
        let id : (made (id_at r (pick_of is r))).id ≡ id_at r (pick_of is r) =
        same (id_at r (pick_of is r)) in
        let today : (made (id_at r (pick_of is r))).day ≡ day = on (id_at r (pick_of is r)) in
        let free : has_free_pick is day n r ≡ true = found_passes (has_free_pick is day n) rs r
        found in
        let rest : free_serials (is ++ made (id_at r (pick_of is r)) ∷ []) day n rs < k =
        next (is ++ made (id_at r (pick_of is r)) ∷ [])
        (ready_next rs is r (made (id_at r (pick_of is r))) pairs ready there id)
        (all_pairs_push (λ i j. i.day ≤ j.day) is (made (id_at r (pick_of is r))) days
        (λ q d lt. omega (arith, upto q d lt, today)))
        (All-push (λ i. i.day ≤ day) is (made (id_at r (pick_of is r))) upto (omega (arith, today)))
        (rest_none (id_at r (pick_of is r))
        (picks made day n rs (is ++ made (id_at r (pick_of is r)) ∷ []) k) e') in
        let one : free_serials is day n rs ≤ free_serials (is ++ made (id_at r (pick_of is r)) ∷ [])
        day n rs + 1 =
        total_one rs is (made (id_at r (pick_of is r))) day n pairs ready today pos
        (λ s in_s lies.
        let same_range : r ≡ s = one_range rs r s (made (id_at r (pick_of is r))).id pairs there
        in_s (lies_mine r id there) lies in
        let P : Range → Type 0 = λ u. ((made (id_at r (pick_of is r))).id ≡ id_at u (pick_of is u))
        × (has_free_pick is day n u ≡ true) in
        subst P same_range (id, free)) in
        omega (arith, rest, one)
      where
        lies_mine : (u : Range) → (made (id_at r (pick_of is r))).id ≡ id_at u (pick_of is u)
            → Contains rs u → lies_in u (made (id_at r (pick_of is r))).id ≡ true
        lies_mine u id' in_u = let P : Id → Type 0 = λ x. lies_in u x ≡ true in
            subst P (sym id')
            (lies_at u (pick_of is u) (record {
              low = (ready u in_u).low;
              high = (ready u in_u).high;
            }))

no_row : (day : ℕ) (rs : List Range) (row : Option (List Id)) → outcome_of_draws day rs row
    ≡ NoneFree → row ≡ None
no_row day [] row is = cc
no_row day (r ∷ rs) None is = refl
no_row day (r ∷ rs) (Some ids) is = cc

-- `NoneFree` is the outcome only if fewer serials are free than the DrawMany asks for.
pub few_free : (h : List Entry) (t : Terms) → IsLegal h t → 1 ≤ t.interval
    → (customer : ℕ) (s c : ℕ × ℕ) (count day : ℕ) → day_of h ≤ day
    → draw_many_answer h customer s c count day t.interval ≡ NoneFree
    → FewFree h customer s c count day t.interval
few_free h t legal pos customer s c count day le is =
    let none : successive_draws h customer s c day t.interval count ≡ None =
    no_row day (ranges_open h customer s c) (successive_draws h customer s c day t.interval
    count) is in
    let known = sound h t legal in
    fewer_free (drawn_on day) day t.interval (ranges_open h customer s c) (λ x. refl) (λ x. refl)
    pos (AllPairs-filter Apart (is_open h customer s c) (ranges_of h) (apart h t legal)) count
    (issues_of h)
    (λ r in_r. all_at_pick h t legal r (Contains-filter (is_open h customer s c) (ranges_of h) r
    in_r)) known.days
    (All-weaker (λ i. i.day ≤ day_of h) (λ i. i.day ≤ day) (λ i up. omega arith) (issues_of h)
    known.upto)
    (sym (row_of h customer s c day t.interval count) ∙ none)

-- If the interval is 0, each pick is free.
free_at_once : (day : ℕ) (last : Option ℕ) → is_free_since day 0 last ≡ true
free_at_once day None = refl
free_at_once day (Some d) = le-leb 0 (day - d) (omega arith)

all_given : (made : Id → Issuance) (day : ℕ) (r : Range) (rs : List Range) (is : List Issuance)
    (k : ℕ) → ¬ (picks made day 0 (r ∷ rs) is k ≡ None)
all_given made day r rs is zero none = none-some [] (sym none)
all_given made day r rs is (suc k) none =
    all_given made day r rs (is ++ made (id_at r (pick_of is r)) ∷ []) k
    (rest_none (id_at r (pick_of is r))
    (picks made day 0 (r ∷ rs) (is ++ made (id_at r (pick_of is r)) ∷ []) k)
    (sym (picks_here made day 0 r rs is k
    (free_at_once day (option_map (λ (i : Issuance). i.day)
    (last_issuance_of is (id_at r (pick_of is r)))))) ∙ none))

some_interval : (made : Id → Issuance) (day n : ℕ) (rs : List Range) (is : List Issuance) (k : ℕ)
    → outcome_of_draws day rs (picks made day n rs is k) ≡ NoneFree → 1 ≤ n
some_interval made day n [] is k told = absurd cc
some_interval made day zero (r ∷ rs) is k told =
    absurd (all_given made day r rs is k (no_row day (r ∷ rs) (picks made day 0 (r ∷ rs) is k)
    told))
some_interval made day (suc n) (r ∷ rs) is k told = omega arith

-- The same for the result of a call of a book.
pub few_told : (h : List Entry) (t : Terms) → IsLegal h t → (customer : ℕ) (service country : ℕ × ℕ)
    (count day : ℕ) → day_of h ≤ day → (result : Result Outcome BookFault) (s c : ℕ × ℕ) (k : ℕ)
    → IfOk result (λ o. o ≡ draw_many_answer h customer service country count day t.interval)
    → DrawMany service country count ≡ DrawMany s c k → result ≡ Ok NoneFree
    → FewFree h customer s c k day t.interval
few_told h t legal customer service country count day le result s c k answer same is =
    let told : NoneFree ≡ draw_many_answer h customer service country count day t.interval =
    let P : Result Outcome BookFault → Type 0 =
    λ y. IfOk y (λ o. o ≡ draw_many_answer h customer service country count day t.interval) in
    subst P is answer in
    let es : service ≡ s = cc in
    let ec : country ≡ c = cc in
    let ek : count ≡ k = cc in
    let f : ℕ × ℕ → Outcome = λ p. draw_many_answer h customer p country count day t.interval in
    let g : ℕ × ℕ → Outcome = λ p. draw_many_answer h customer s p count day t.interval in
    let m : ℕ → Outcome = λ n. draw_many_answer h customer s c n day t.interval in
    let none : draw_many_answer h customer s c k day t.interval ≡ NoneFree =
    sym (told ∙ ap f es ∙ ap g ec ∙ ap m ek) in
    let row = ap (outcome_of_draws day (ranges_open h customer s c))
    (sym (row_of h customer s c day t.interval k)) ∙ none in
    few_free h t legal (some_interval (drawn_on day) day t.interval (ranges_open h customer s c)
    (issues_of h) k row) customer s c k day le none

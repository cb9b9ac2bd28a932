-- A walk over ranges that takes picks from each of them, until there are enough or no range
-- remains.
use Rattle.std.proofs.Common.{◌≡◌, ℕ, zero, suc, ◌-◌, ◌<◌, ◌≤◌, Bool, true, false, cond, leb, ltb}
use Rattle.std.proofs.Common.{◌&&◌, List, [], ◌∷◌, ◌++◌, map, Option, Some, None, refl, sym, ap}
use Rattle.std.proofs.Common.{◌∙◌, inl, inr, arith, subst, length, append-nil, append_assoc}
use Rattle.std.proofs.Common.{length-append}
use Rattle.std.specs.Prelude.{find, filter, AllPairs, Contains}
use Rattle.std.specs.Option.{option_map}
use Rattle.std.proofs.lemmas.Bool.{cases_Bool, cases_lt, leb-true, ltb-true, ltb-false, and_parts}
use Rattle.std.proofs.lemmas.List.{map-append}
use Rattle.std.proofs.lemmas.List.Elements.{All-contains, filter_passes}
use Rattle.s10_core.specs.declared.id.Id.{Id}
use Rattle.s10_history.specs.declared.entry.Entry.{Entry}
use Rattle.s10_history.specs.declared.range.Range.{Range}
use Rattle.s10_history.specs.declared.issuance.Issuance.{Issuance}
use Rattle.s10_history.specs.declared.issue.Issue.{Issue}
use Rattle.s10_history.specs.declared.candidate.Candidate.{Candidate}
use Rattle.s10_history.specs.Settings.{Terms}
use Rattle.s10_history.specs.History.{ranges_of, is_open, ranges_open, lies_in}
use Rattle.s10_history.specs.Issues.{issues_of, last_issuance_of, is_free_since, pick_of, id_at}
use Rattle.s10_history.specs.Issues.{serial_after, serial_after_steps, size_of, candidate_after_of}
use Rattle.s10_history.specs.Issues.{free_pick_of}
use Rattle.s10_book.specs.Rules.{IsLegal, has_free_pick, is_free_range, successive_draws}
use Rattle.std.proofs.lemmas.Option.{none-some, same_Some}
use Rattle.s10_history.proofs.Numbering.{above, Numbered, numbered, filter_above, next_above}
use Rattle.s10_history.proofs.Numbering.{filter_none, Contains-find, found_passes}
use Rattle.s10_book.proofs.Apart.{Apart, apart}
use Rattle.s10_book.proofs.Carried.{Contains-filter}
use Rattle.s10_book.proofs.Own.{lies_at}
use Rattle.s10_history.proofs.Issued.{last_issuance_of-push}
use Rattle.s10_book.proofs.Spaced.{id_itself}
use Rattle.s10_history.proofs.Issued.{free_last}
use Rattle.s10_book.proofs.Marks.{Turns, pick_turns, turns_inside, all_at_pick}
use Rattle.s10_book.proofs.Alike.{alike_itself, row_is}
use Rattle.s10_history.proofs.After.{IsAfterSteps, behind, after_within, after_apart, after_lap}
use Rattle.s10_book.proofs.Rows.{candidate_after_is, Ready, outside_other, ready_next, pick_outside}
use Rattle.s10_book.proofs.Rows.{last_other, last_outside, picks_here, picks_past}
use Rattle.s10_book.proofs.Picking.{picks}
use Rattle.s10_book.proofs.Narrowing.{picks_narrowed}

-- A range from which nothing was taken.
pub record Untouched (s : Range) (old is : List Issuance) : Type 0 where
  pub pick : pick_of is s ≡ pick_of old s
  pub last : (x : Id) → lies_in s x ≡ true → last_issuance_of is x ≡ last_issuance_of old x

-- A range from which k picks were taken on the day.
pub record Taken (r : Range) (day : ℕ) (old is : List Issuance) (k : ℕ) : Type 0 where
  pub few : k ≤ size_of r
  pub pick : pick_of is r ≡ serial_after_steps r (pick_of old r) k
  pub left : (j : ℕ) → k ≤ j → j < size_of r
      → last_issuance_of is (id_at r (serial_after_steps r (pick_of old r) j))
      ≡ last_issuance_of old (id_at r (serial_after_steps r (pick_of old r) j))
  pub first : 0 < k → (i : Issuance) × (last_issuance_of is (id_at r (pick_of old r)) ≡ Some i)
      × (i.day ≡ day)

-- The state of the walk: the picks so far, and those to come from this range and those after it.
pub record IsAt (rs : List Range) (p : Range → Bool) (made : Id → Issuance) (day n : ℕ)
    (old : List Issuance) (count : ℕ) (r : Range) (k : ℕ) (taken : List Id) : Type 0 where
  pub there : Contains rs r
  pub passes : p r ≡ true
  pub ready : Ready rs (old ++ map made taken)
  pub own : Taken r day old (old ++ map made taken) k
  pub others : (s : Range) → Contains rs s → r.num < s.num → Untouched s old (old ++ map made taken)
  pub few : length taken ≤ count
  pub some : 0 < length (filter p rs)
  pub whole : picks made day n (filter p rs) old count ≡ option_map (λ xs. taken ++ xs)
      (picks made day n (r ∷ filter (above p r.num) rs) (old ++ map made taken)
      (count - length taken))

-- The premises on the ranges and on the issuances.
pub record Given (rs : List Range) (made : Id → Issuance) (day n : ℕ) (old : List Issuance) :
    Type 0 where
  pub numbers : Numbered 1 rs
  pub pairs : AllPairs Apart rs
  pub ready : Ready rs old
  pub same : (x : Id) → (made x).id ≡ x
  pub same_day : (x : Id) → (made x).day ≡ day
  pub interval : 1 ≤ n

taken_none : (r : Range) (day : ℕ) (old is : List Issuance) → (r.first ≤ pick_of old r)
    × (pick_of old r ≤ r.last) → Untouched r old is → Taken r day old is 0
taken_none r day old is in' un = record {
  few = omega arith;
  pick = un.pick;
  left = λ j le lt. un.last (id_at r (serial_after_steps r (pick_of old r) j))
      (let w = after_within r (pick_of old r) j (serial_after_steps r (pick_of old r) j) in'.0 in'.1
      (omega arith) (behind r (pick_of old r) j in'.0 in'.1 (omega arith)) in
      lies_at r (serial_after_steps r (pick_of old r) j) (record { low = w.0; high = w.1 }));
  first = λ lt. absurd (omega (arith, lt));
}

no_more : (o : Option (List Id)) → o ≡ option_map (λ xs. [] ++ xs) o
no_more None = refl
no_more (Some xs) = refl

not_itself : (r s : Range) → r.num < s.num → s ≡ r → ⊥
not_itself r s lt e = omega (arith, lt, ap (λ (x : Range). x.num) e)

-- The walk begins at the first range.
pub at_first : (rs : List Range) (p : Range → Bool) (made : Id → Issuance) (day n : ℕ)
    (old : List Issuance) (count : ℕ) (r : Range) → Given rs made day n old → find (above p 0) rs
    ≡ Some r → IsAt rs p made day n old count r 0 []
at_first rs p made day n old count r given found =
    let there : Contains rs r = Contains-find (above p 0) rs r found in
    let same : filter p rs ≡ r ∷ filter (above p r.num) rs =
    sym (filter_above p 0 1 rs (omega arith) given.numbers)
    ∙ next_above p 0 1 rs r given.numbers found in
    let nil : old ≡ old ++ map made [] = sym (append-nil old) in
    let all : count ≡ count - 0 = omega arith in
    let R : List Issuance → Type 0 = Ready rs in
    let T : List Issuance → Type 0 = λ l. Taken r day old l 0 in
    let un : (s : Range) → Untouched s old old = λ s. record { pick = refl; last = λ x _. refl } in
    record {
      there = there;
      passes = (and_parts _ _ (found_passes (above p 0) rs r found)).1;
      ready = subst R nil given.ready;
      own = subst T nil (taken_none r day old old (
        (given.ready r there).low,
        (given.ready r there).high,
      ) (un r));
      others = λ s _ _. let U : List Issuance → Type 0 = Untouched s old in subst U nil (un s);
      few = omega arith;
      some = rw same (omega arith);
      whole = ap (λ l. picks made day n l old count) same
          ∙ ap (λ is. picks made day n (r ∷ filter (above p r.num) rs) is count) nil
          ∙ ap (picks made day n (r ∷ filter (above p r.num) rs) (old ++ map made [])) all
          ∙ no_more (picks made day n (r ∷ filter (above p r.num) rs) (old ++ map made [])
          (count - 0));
    }

-- The issuances with one more pick.
one_more : (made : Id → Issuance) (old : List Issuance) (taken : List Id) (x : Id)
    → old ++ map made taken ++ made x ∷ [] ≡ old ++ map made (taken ++ x ∷ [])
one_more made old taken x = append_assoc old (map made taken) (made x ∷ [])
    ∙ ap (λ (l : List Issuance). old ++ l) (sym (map-append made taken (x ∷ [])))

after_one : (taken : List Id) (x : Id) (o : Option (List Id))
    → option_map (λ xs. taken ++ xs) (option_map (λ xs. x ∷ xs) o)
    ≡ option_map (λ xs. (taken ++ x ∷ []) ++ xs) o
after_one taken x None = refl
after_one taken x (Some xs) = ap Some (sym (append_assoc taken (x ∷ []) xs))

pub last_here : (is : List Issuance) (y : Issuance) (x : Id) → y.id ≡ x
    → last_issuance_of (is ++ y ∷ []) x ≡ Some y
last_here is y x e =
    let P : Id → Type 0 = λ z. last_issuance_of (is ++ y ∷ []) z ≡ Some y in
    subst P e (last_issuance_of-push is y y.id ∙ rw (id_itself y.id) refl)

taken_more : (r : Range) (day : ℕ) (old is : List Issuance) (k : ℕ) (y : Issuance)
    → Turns r old (pick_of old r) → Turns r is (pick_of is r) → k < size_of r
    → y.id ≡ id_at r (pick_of is r) → y.day ≡ day → Taken r day old is k
    → Taken r day old (is ++ y ∷ []) (suc k)
taken_more r day old is k y before now lt e on own =
    let m : ℕ = pick_of old r in
    let at : (j : ℕ) → j ≤ size_of r
    → IsAfterSteps r (pick_of old r) j (serial_after_steps r (pick_of old r) j) =
    λ j le. behind r (pick_of old r) j before.low before.high le in
    let serial : y.id.serial ≡ serial_after_steps r (pick_of old r) k = ap (λ (x : Id). x.serial) e
    ∙ own.pick in
    let lies : lies_in r y.id ≡ true = (let P : Id → Type 0 = λ x. lies_in r x ≡ true in
    subst P (sym e) (lies_at r (pick_of is r) (record { low = now.low; high = now.high }))) in
    record {
      few = omega (arith, lt);
      pick = pick_turns r (is ++ y ∷ []) (serial_after r (pick_of is r))
          (turns_inside r is y (pick_of is r) lies (ap (λ (x : Id). x.serial) e) now)
          ∙ ap (serial_after r) own.pick;
      left = λ j le few.
          last_other is y (id_at r (serial_after_steps r (pick_of old r) j))
          (λ same. after_apart r (pick_of old r) k j _ _ before.low before.high (omega (arith, le))
          few (at k (omega (arith, lt))) (at j (omega (arith, few))) (sym serial
          ∙ ap (λ (x : Id). x.serial) same))
          ∙ own.left j (omega (arith, le)) few;
      first = λ _. elim (cases_lt 0 k) [
        | inl pos ↦
            let old_first = own.first pos in (
              old_first.0,
              last_other is y (id_at r (pick_of old r))
                  (λ same. after_apart r (pick_of old r) 0 k _ _ before.low before.high pos lt
                  (at 0 (omega arith)) (at k (omega (arith, lt)))
                  (sym (ap (λ (x : Id). x.serial) same) ∙ serial))
                  ∙ old_first.1,
              old_first.2,
            )
        | inr none ↦
            let z : k ≡ 0 = omega (arith, none) in
            let same : y.id ≡ id_at r (pick_of old r) =
            e ∙ ap (id_at r) (own.pick ∙ ap (serial_after_steps r (pick_of old r)) z) in
            (y, last_here is y (id_at r (pick_of old r)) same, on)
      ];
    }

untouched_still : (rs : List Range) (r s : Range) (old is : List Issuance) (y : Issuance)
    → AllPairs Apart rs → Ready rs is → Contains rs r → Contains rs s → r.num < s.num
    → y.id ≡ id_at r (pick_of is r) → Untouched s old is → Untouched s old (is ++ y ∷ [])
untouched_still rs r s old is y pairs ready in_r in_s lt e un =
    let out : lies_in s y.id ≡ false = outside_other rs is s r y.id pairs ready in_s in_r
    (λ same. omega (arith, lt, ap (λ (x : Range). x.num) same)) e in
    record {
      pick = pick_outside s is y (ready s in_s) out ∙ un.pick;
      last = λ x lies. last_outside s is y x out lies ∙ un.last x lies;
    }

-- The pick of the range is taken if it is free.
pub at_pick : (rs : List Range) (p : Range → Bool) (made : Id → Issuance) (day n : ℕ)
    (old : List Issuance) (count : ℕ) (r : Range) (k : ℕ) (taken : List Id) (x : Id)
    → Given rs made day n old
    → k < size_of r → length taken < count → x ≡ id_at r (pick_of (old ++ map made taken) r)
    → has_free_pick (old ++ map made taken) day n r ≡ true
    → IsAt rs p made day n old count r k taken → IsAt rs p made day n old count r (suc k)
    (taken ++ x ∷ [])
at_pick rs p made day n old count r k taken x given lt few e free at =
    let is : List Issuance = old ++ map made taken in
    let y : Id = id_at r (pick_of (old ++ map made taken) r) in
    let id : (made x).id ≡ id_at r (pick_of (old ++ map made taken) r) = given.same x ∙ e in
    let grown : old ++ map made taken ++ made x ∷ [] ≡ old ++ map made (taken ++ x ∷ []) =
    one_more made old taken x in
    let rest : List Range = filter (above p r.num) rs in
    let num : count - length taken ≡ suc (count - length (taken ++ x ∷ [])) =
    omega (arith, few, length-append taken (x ∷ [])) in
    let here : picks made day n (r ∷ filter (above p r.num) rs) (old ++ map made taken)
    (count - length taken)
    ≡ option_map (λ xs. x ∷ xs) (picks made day n (r ∷ filter (above p r.num) rs)
    (old ++ map made (taken ++ x ∷ [])) (count - length (taken ++ x ∷ []))) =
    ap (picks made day n (r ∷ filter (above p r.num) rs) (old ++ map made taken)) num
    ∙ picks_here made day n r (filter (above p r.num) rs) (old ++ map made taken)
    (count - length (taken ++ x ∷ [])) free
    ∙ ap (λ z. option_map (λ xs. z ∷ xs) (picks made day n (r ∷ filter (above p r.num) rs)
    (old ++ map made taken ++ made z ∷ []) (count - length (taken ++ x ∷ [])))) (sym e)
    ∙ ap (λ l. option_map (λ xs. x ∷ xs) (picks made day n (r ∷ filter (above p r.num) rs) l
    (count - length (taken ++ x ∷ [])))) grown in
    let R : List Issuance → Type 0 = Ready rs in
    let T : List Issuance → Type 0 = λ l. Taken r day old l (suc k) in
    record {
      there = at.there;
      passes = at.passes;
      ready = subst R grown (ready_next rs (old ++ map made taken) r (made x) given.pairs at.ready
          at.there id);
      own = subst T grown (taken_more r day old (old ++ map made taken) k (made x)
          (given.ready r at.there) (at.ready r at.there) lt id (given.same_day x) at.own);
      others = λ s in_s up.
          let U : List Issuance → Type 0 = Untouched s old in
          subst U grown (untouched_still rs r s old (old ++ map made taken) (made x) given.pairs
          at.ready at.there in_s up id (at.others s in_s up));
      few = omega (arith, few, length-append taken (x ∷ []));
      some = at.some;
      whole = at.whole ∙ ap (option_map (λ xs. taken ++ xs)) here ∙ after_one taken x _;
    }

-- A range with a number above that of another is not that range.
apart_above : (rs : List Range) (p : Range → Bool) (r s : Range)
    → Contains (filter (above p r.num) rs) s → Contains rs s × (s ≡ r → ⊥)
apart_above rs p r s in' =
    let passes : above p r.num s ≡ true = All-contains (λ y. above p r.num y ≡ true)
    (filter (above p r.num) rs) s (filter_passes (above p r.num) rs) in' in (
      Contains-filter (above p r.num) rs s in',
      not_itself r s (ltb-true r.num s.num (and_parts _ _ passes).0),
    )

past : (rs : List Range) (p : Range → Bool) (made : Id → Issuance) (day n : ℕ) (old : List Issuance)
    (count : ℕ) (r : Range) (k : ℕ) (taken : List Id) → Given rs made day n old
    → has_free_pick (old ++ map made taken) day n r ≡ false
    → IsAt rs p made day n old count r k taken
    → picks made day n (filter p rs) old count ≡ option_map (λ xs. taken ++ xs)
    (picks made day n (filter (above p r.num) rs) (old ++ map made taken)
    (count - length taken))
past rs p made day n old count r k taken given spent at =
    at.whole ∙ ap (option_map (λ xs. taken ++ xs))
    (picks_past made day n rs r (filter (above p r.num) rs) given.same given.pairs at.there
    (apart_above rs p r) (old ++ map made taken) (count - length taken) at.ready spent)

-- The walk continues with the next range.
pub at_next : (rs : List Range) (p : Range → Bool) (made : Id → Issuance) (day n : ℕ)
    (old : List Issuance) (count : ℕ) (r : Range) (k : ℕ) (taken : List Id) (s : Range)
    → Given rs made day n old
    → has_free_pick (old ++ map made taken) day n r ≡ false → find (above p r.num) rs ≡ Some s
    → IsAt rs p made day n old count r k taken → IsAt rs p made day n old count s 0 taken
at_next rs p made day n old count r k taken s given spent found at =
    let there : Contains rs s = Contains-find (above p r.num) rs s found in
    let passes = and_parts (ltb r.num s.num) (p s) (found_passes (above p r.num) rs s found) in
    let up : r.num < s.num = ltb-true r.num s.num passes.0 in
    record {
      there = there;
      passes = passes.1;
      ready = at.ready;
      own = taken_none s day old (old ++ map made taken) (
        (given.ready s there).low,
        (given.ready s there).high,
      ) (at.others s there up);
      others = λ u in_u higher. at.others u in_u (omega (arith, up, higher));
      few = at.few;
      some = at.some;
      whole = past rs p made day n old count r k taken given spent at
          ∙ ap (λ l. option_map (λ xs. taken ++ xs) (picks made day n l (old ++ map made taken)
          (count - length taken))) (next_above p r.num 1 rs s given.numbers found);
    }

-- No range remains.
pub at_last : (rs : List Range) (p : Range → Bool) (made : Id → Issuance) (day n : ℕ)
    (old : List Issuance) (count : ℕ) (r : Range) (k : ℕ) (taken : List Id)
    → Given rs made day n old
    → has_free_pick (old ++ map made taken) day n r ≡ false → find (above p r.num) rs ≡ None
    → length taken < count → IsAt rs p made day n old count r k taken
    → picks made day n (filter p rs) old count ≡ None
at_last rs p made day n old count r k taken given spent none few at =
    let num : count - length taken ≡ suc (count - length taken - 1) = omega (arith, few) in
    past rs p made day n old count r k taken given spent at
    ∙ ap (λ l. option_map (λ xs. taken ++ xs) (picks made day n l (old ++ map made taken)
    (count - length taken))) (filter_none (above p r.num) rs none)
    ∙ ap (λ c. option_map (λ xs. taken ++ xs) (picks made day n [] (old ++ map made taken) c)) num

-- There are enough picks.
pub at_end : (rs : List Range) (p : Range → Bool) (made : Id → Issuance) (day n : ℕ)
    (old : List Issuance) (count : ℕ) (r : Range) (k : ℕ) (taken : List Id) → count ≤ length taken
    → IsAt rs p made day n old count r k taken → picks made day n (filter p rs) old count
    ≡ Some taken
at_end rs p made day n old count r k taken enough at =
    let num : count - length taken ≡ 0 = omega (arith, enough) in
    at.whole ∙ ap (λ c. option_map (λ xs. taken ++ xs)
    (picks made day n (r ∷ filter (above p r.num) rs) (old ++ map made taken) c)) num
    ∙ ap Some (append-nil taken)

-- The test of the candidate's last issue is the test of its range.
pub at_candidate : (h : List Entry) (t : Terms) (p : Range → Bool) (made : Id → Issuance)
    (day n count : ℕ) (r : Range) (k : ℕ) (taken : List Id) (found : Candidate) (b : Bool)
    → IsLegal h t → k < size_of r
    → found ≡ candidate_after_of h r k
    → b ≡ is_free_since day n (option_map (λ (i : Issue). i.day) found.issue)
    → IsAt (ranges_of h) p made day n (issues_of h) count r k taken
    → (has_free_pick (issues_of h ++ map made taken) day n r ≡ b)
    × (found.serial ≡ pick_of (issues_of h ++ map made taken) r)
at_candidate h t p made day n count r k taken found b legal lt e test at =
    let old : List Issuance = issues_of h in
    let s : ℕ = serial_after_steps r (pick_of (issues_of h) r) k in
    let is = e ∙ candidate_after_is h t r k legal at.there in
    let last : Issuance → Issue = λ i. record {
      day = i.day;
      voided = false;
      customer = i.customer;
      number = i.number;
    } in (
      ap (λ v. is_free_since day n (option_map (λ (i : Issuance). i.day)
          (last_issuance_of (issues_of h ++ map made taken) (id_at r v)))) at.own.pick
          ∙ ap (λ o. is_free_since day n (option_map (λ (i : Issuance). i.day) o))
          (at.own.left k (omega arith) lt)
          ∙ sym (test ∙ ap (λ (c : Candidate). is_free_since day n
          (option_map (λ (i : Issue). i.day) c.issue)) is
          ∙ free_last day n
          (last_issuance_of (issues_of h)
          (id_at r (serial_after_steps r (pick_of (issues_of h) r) k))) _ (λ _. refl)),
      ap (λ (c : Candidate). c.serial) is ∙ sym at.own.pick,
    )

-- A range all of whose serials were taken gives none.
pub at_round : (rs : List Range) (p : Range → Bool) (made : Id → Issuance) (day n : ℕ)
    (old : List Issuance) (count : ℕ) (r : Range) (k : ℕ) (taken : List Id)
    → Given rs made day n old → size_of r ≤ k
    → IsAt rs p made day n old count r k taken → has_free_pick (old ++ map made taken) day n r
    ≡ false
at_round rs p made day n old count r k taken given all at =
    let turns = given.ready r at.there in
    let whole : k ≡ size_of r = omega (arith, all, at.own.few) in
    let first = at.own.first (omega (arith, all, turns.low, turns.high)) in
    let round : serial_after_steps r (pick_of old r) k ≡ pick_of old r =
    after_lap r (pick_of old r) k _ turns.low turns.high whole
    (behind r (pick_of old r) k turns.low turns.high at.own.few) in
    ap (λ v. is_free_since day n (option_map (λ (i : Issuance). i.day)
    (last_issuance_of (old ++ map made taken) (id_at r v)))) (at.own.pick ∙ round)
    ∙ ap (λ o. is_free_since day n (option_map (λ (i : Issuance). i.day) o)) first.1
    ∙ not_free first.0.day first.2
  where
    not_free : (d : ℕ) → d ≡ day → leb n (day - d) ≡ false
    not_free d same =
        elim (cases_Bool (leb n (day - d))) [
          | inl yes' ↦ absurd (omega (arith, leb-true n (day - d) yes', same, given.interval))
          | inr no' ↦ no'
        ]

-- An issuance of the identifier on the day.
abbrev pub drawn_on : ℕ → Id → Issuance
drawn_on day x = record { id = x; day = day; customer = 0; number = 0; arrival = 0 }

-- The ranges and the issuances of a legal history satisfy the premises.
pub given_legal : (h : List Entry) (t : Terms) (day n : ℕ) → IsLegal h t → 1 ≤ n
    → Given (ranges_of h) (drawn_on day) day n (issues_of h)
given_legal h t day n legal pos = record {
  numbers = numbered 1 h;
  pairs = apart h t legal;
  ready = all_at_pick h t legal;
  same = λ x. refl;
  same_day = λ x. refl;
  interval = pos;
}

test_at : (b c : Bool) (y x : Id) (o : Option Id) → o ≡ cond (b && c) (Some y) None → o ≡ Some x
    → (b ≡ true) × (c ≡ true) × (y ≡ x)
test_at true true y x o e is = (refl, refl, same_Some y x (sym e ∙ is))
test_at true false y x o e is = absurd (none-some x (sym e ∙ is))
test_at false true y x o e is = absurd (none-some x (sym e ∙ is))
test_at false false y x o e is = absurd (none-some x (sym e ∙ is))

-- The walk continues if a pick was given.
pub at_given : (h : List Entry) (t : Terms) (p : Range → Bool) (day n count : ℕ) (r : Range) (k : ℕ)
    (taken : List Id) (o : Option Id) (x : Id) → IsLegal h t → 1 ≤ n → length taken < count
    → o ≡ free_pick_of h r k day n → o ≡ Some x → IsAt (ranges_of h) p (drawn_on day) day n
    (issues_of h) count r k taken → IsAt (ranges_of h) p (drawn_on day) day n (issues_of h)
    count r (suc k) (taken ++ x ∷ [])
at_given h t p day n count r k taken o x legal pos few e is at =
    let c : Candidate = candidate_after_of h r k in
    let test = test_at (ltb k (size_of r))
    (is_free_since day n (option_map (λ (i : Issue). i.day) (candidate_after_of h r k).issue))
    (id_at r (candidate_after_of h r k).serial) x o e is in
    let lt : k < size_of r = ltb-true k (size_of r) test.0 in
    let told = at_candidate h t p (drawn_on day) day n count r k taken (candidate_after_of h r k)
    true legal lt refl (sym test.1) at in
    at_pick (ranges_of h) p (drawn_on day) day n (issues_of h) count r k taken x
    (given_legal h t day n legal pos) lt few (sym test.2 ∙ ap (id_at r) told.1) told.0 at

untaken : (h : List Entry) (t : Terms) (p : Range → Bool) (day n count : ℕ) (r : Range) (k : ℕ)
    (taken : List Id) (b c : Bool) → IsLegal h t → 1 ≤ n → b ≡ ltb k (size_of r)
    → c ≡ is_free_since day n (option_map (λ (i : Issue). i.day) (candidate_after_of h r k).issue)
    → cond (b && c) (Some (id_at r (candidate_after_of h r k).serial)) None ≡ None
    → IsAt (ranges_of h) p (drawn_on day) day n (issues_of h) count r k taken
    → has_free_pick (issues_of h ++ map (drawn_on day) taken) day n r ≡ false
untaken h t p day n count r k taken true true legal pos e f is at =
    absurd (none-some (id_at r (candidate_after_of h r k).serial) (sym is))
untaken h t p day n count r k taken true false legal pos e f is at =
    (at_candidate h t p (drawn_on day) day n count r k taken (candidate_after_of h r k) false legal
    (ltb-true k (size_of r) (sym e)) refl f at).0
untaken h t p day n count r k taken false c legal pos e f is at =
    at_round (ranges_of h) p (drawn_on day) day n (issues_of h) count r k taken
    (given_legal h t day n legal pos) (ltb-false k (size_of r) (sym e)) at

-- No pick was given.
pub at_none_given : (h : List Entry) (t : Terms) (p : Range → Bool) (day n count : ℕ) (r : Range)
    (k : ℕ) (taken : List Id) (o : Option Id) → IsLegal h t → 1 ≤ n → o ≡ free_pick_of h r k day n
    → o ≡ None
    → IsAt (ranges_of h) p (drawn_on day) day n (issues_of h) count r k taken
    → has_free_pick (issues_of h ++ map (drawn_on day) taken) day n r ≡ false
at_none_given h t p day n count r k taken o legal pos e is at = untaken h t p day n count r k taken
    _ _ legal pos refl refl (sym e ∙ is) at

pub row_of : (h : List Entry) (customer : ℕ) (s c : ℕ × ℕ) (day n count : ℕ)
    → successive_draws h customer s c day n count ≡ picks (drawn_on day) day n
    (ranges_open h customer s c) (issues_of h) count
row_of h customer s c day n count = row_is (drawn_on day) customer s c day n (λ x. refl) (λ x. refl)
    count h (issues_of h) (alike_itself (issues_of h))

-- Successive Draws take their picks from the ranges whose pick is free before them.
pub free_row_of : (h : List Entry) (t : Terms) (customer : ℕ) (s c : ℕ × ℕ) (day n count : ℕ)
    → IsLegal h t → successive_draws h customer s c day n count ≡ picks (drawn_on day) day n
    (filter (is_free_range h customer s c day n) (ranges_of h)) (issues_of h) count
free_row_of h t customer s c day n count legal =
    row_of h customer s c day n count
    ∙ picks_narrowed (drawn_on day) day n (ranges_of h) (is_open h customer s c) (issues_of h)
    (issues_of h) count (λ x. refl) (apart h t legal) (all_at_pick h t legal) (λ k d lt used. used)

-- The walk has enough picks.
pub walked : (h : List Entry) (t : Terms) (customer : ℕ) (s c : ℕ × ℕ) (day n count : ℕ) (r : Range)
    (k : ℕ) (taken : List Id) → IsLegal h t → count ≤ length taken
    → IsAt (ranges_of h) (is_free_range h customer s c day n) (drawn_on day) day n (issues_of h)
    count r k taken
    → Some taken ≡ successive_draws h customer s c day n count
walked h t customer s c day n count r k taken legal enough at =
    sym (free_row_of h t customer s c day n count legal
    ∙ at_end (ranges_of h) (is_free_range h customer s c day n) (drawn_on day) day n (issues_of h)
    count r k taken enough at)

-- No range remains before there are enough picks.
pub walked_out : (h : List Entry) (t : Terms) (customer : ℕ) (s c : ℕ × ℕ) (day n count : ℕ)
    (r : Range) (k : ℕ) (taken : List Id) → IsLegal h t → 1 ≤ n → length taken < count
    → has_free_pick (issues_of h ++ map (drawn_on day) taken) day n r ≡ false
    → find (above (is_free_range h customer s c day n) r.num) (ranges_of h) ≡ None
    → IsAt (ranges_of h) (is_free_range h customer s c day n) (drawn_on day) day n (issues_of h)
    count r k taken
    → None ≡ successive_draws h customer s c day n count
walked_out h t customer s c day n count r k taken legal pos few spent none at =
    sym (free_row_of h t customer s c day n count legal
    ∙ at_last (ranges_of h) (is_free_range h customer s c day n) (drawn_on day) day n (issues_of h)
    count r k taken (given_legal h t day n legal pos) spent none few at)

pub no_picks : (day n count : ℕ) (is : List Issuance) → 1 ≤ count
    → picks (drawn_on day) day n [] is count ≡ None
no_picks day n zero is some = absurd (omega (arith, some))
no_picks day n (suc k) is some = refl

-- There is no range whose pick is free.
pub walked_nowhere : (h : List Entry) (t : Terms) (customer : ℕ) (s c : ℕ × ℕ) (day n count : ℕ)
    → IsLegal h t → 1 ≤ count
    → find (above (is_free_range h customer s c day n) 0) (ranges_of h) ≡ None
    → None ≡ successive_draws h customer s c day n count
walked_nowhere h t customer s c day n count legal some none =
    let p : Range → Bool = is_free_range h customer s c day n in
    let empty : filter p (ranges_of h) ≡ [] =
    sym (filter_above p 0 1 (ranges_of h) (omega arith) (numbered 1 h))
    ∙ filter_none (above p 0) (ranges_of h) none in
    sym (free_row_of h t customer s c day n count legal
    ∙ ap (λ l. picks (drawn_on day) day n l (issues_of h) count) empty
    ∙ no_picks day n count (issues_of h) some)

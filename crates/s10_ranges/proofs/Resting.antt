-- What the rests of ranges say of a growing history.
use Rattle.std.proofs.Common.{◌≡◌, ◌∙◌, ℕ, zero, suc, ◌+◌, ◌-◌, ◌<◌, ◌≤◌, eqb, ltb, Bool, true, false, not}
use Rattle.std.proofs.Common.{cond, List, [], ◌∷◌, ◌++◌, Option, Some, None, length, get_or, set}
use Rattle.std.proofs.Common.{refl, sym, ap, subst, arith, inl, inr, append-nil}
use Rattle.std.proofs.lemmas.List.{length-append}
use Rattle.std.specs.Prelude.{Contains, is_some, option_to_list}
use Rattle.std.specs.Option.{option_map}
use Rattle.std.proofs.lemmas.Bool.{false≢true, and_parts, and_cases, and_left, and_right, or_left}
use Rattle.std.proofs.lemmas.Bool.{eqb-true, ltb-true, lt-leb, le-leb, leb-true, not_from_true, not-false, cases_lt, cases_eq}
use Rattle.std.proofs.lemmas.Option.{none-some}
use Rattle.std.proofs.lemmas.List.{get_or_append_left, get_or-set_same, get_or-set_other, length-set}
use Rattle.std.proofs.lemmas.List.{get_or_default}
use Rattle.std.proofs.lemmas.List.Elements.{Contains-get_or}
use Rattle.std.proofs.lemmas.List.Folds.{list_any-append}
use Rattle.std.proofs.Math.Seq.{get_or-append_seam}
use Rattle.s10_core.specs.declared.id.Id.{Id}
use Rattle.s10_wire.specs.declared.body.Body.{Body}
use Rattle.s10_wire.specs.declared.body.Body.TheVariants.{Grant}
use Rattle.s10_wire.specs.declared.outcome.Outcome.{Outcome}
use Rattle.s10_wire.specs.declared.outcome.Outcome.TheVariants.{Granted}
use Rattle.s10_history.specs.declared.entry.Entry.{Entry}
use Rattle.s10_history.specs.declared.range.Range.{Range}
use Rattle.s10_history.specs.declared.issuance.Issuance.{Issuance}
use Rattle.s10_history.specs.Settings.{Terms}
use Rattle.s10_history.specs.History.{day_of, ranges_of, range_of_grant, withdraws, is_closed}
use Rattle.s10_history.specs.History.{is_held, is_open}
use Rattle.s10_history.specs.Issues.{issues_of, is_of, last_issuance_of, pick_of, id_at}
use Rattle.s10_history.specs.Issues.{is_free_since}
use Rattle.s10_history.proofs.Issued.{last_all, last_issuance_of-push}
use Rattle.s10_history.proofs.Push.{ranges_from-push}
use Rattle.s10_history.proofs.Numbering.{Numbered, numbered}
use Rattle.s10_book.specs.Rules.{IsLegal, MayFollow, has_free_pick, is_free_range}
use Rattle.s10_book.proofs.Carried.{made_by, after_call}
use Rattle.s10_book.proofs.Spaced.{sound}
use Rattle.s10_book.proofs.Passing.{Narrows}
use Rattle.s10_ranges.specs.declared.mark.Mark.{Mark}
use Rattle.s10_ranges.specs.declared.rest.Rest.{Rest}
use Rattle.s10_ranges.specs.declared.rest.Rest.TheVariants.{Unknown, Issued, Closed}
use Rattle.s10_ranges.specs.declared.ranges.Ranges.{Ranges}
use Rattle.s10_ranges.specs.Mirror.{Mirrors}
use Rattle.s10_ranges.specs.Sound.{AreSound}
use Rattle.s10_ranges.specs.Rests.{is_resting, is_resting_at, rests_on, is_awake, is_issued_since, is_rest_of}
use Rattle.s10_ranges.specs.Rests.{IsRestOf, AreRests}
use Rattle.s10_ranges.proofs.Marked.{mark_held}

-- The identifier was last issued on that day, or later.
abbrev pub IsIssuedSince : List Issuance → Id → ℕ → Type 0
IsIssuedSince is x day = (i : Issuance) × (last_issuance_of is x ≡ Some i) × (day ≤ i.day)

since_passes : (is : List Issuance) (x : Id) (day : ℕ)
    → is_issued_since (last_issuance_of is x) day ≡ true → IsIssuedSince is x day
since_passes is x day passes = at (last_issuance_of is x) refl passes
  where
    at : (o : Option Issuance) → last_issuance_of is x ≡ o → is_issued_since o day ≡ true
        → IsIssuedSince is x day
    at None e hit = absurd (false≢true hit)
    at (Some i) e hit = (i, e, leb-true day i.day hit)

pub passes_since : (is : List Issuance) (x : Id) (day : ℕ) → IsIssuedSince is x day
    → is_issued_since (last_issuance_of is x) day ≡ true
passes_since is x day since =
    ap (λ o. is_issued_since o day) since.1 ∙ le-leb day since.0.day since.2

-- One more issuance, on no earlier day.
since_more : (is : List Issuance) (y : Issuance) (x : Id) (day : ℕ) → day ≤ y.day
    → IsIssuedSince is x day → IsIssuedSince (is ++ y ∷ []) x day
since_more is y x day le since = at (is_of x y) refl
  where
    at : (b : Bool) → is_of x y ≡ b → IsIssuedSince (is ++ y ∷ []) x day
    at true e = (
      y,
      last_issuance_of-push is y x ∙ ap (λ c. cond c (Some y) (last_issuance_of is x)) e,
      le,
    )
    at false e = (
      since.0,
      last_issuance_of-push is y x ∙ ap (λ c. cond c (Some y) (last_issuance_of is x)) e ∙ since.1,
      since.2,
    )

-- An identifier that was issued on a day was last issued then or later, also after one more call.
since_follows : (h : List Entry) (t : Terms) (e : Entry) → IsLegal h t → MayFollow h t e → (x : Id)
    (day : ℕ) → IsIssuedSince (issues_of h) x day → IsIssuedSince (issues_of (h ++ e ∷ [])) x day
since_follows h t e legal may x day since =
    let before : since.0.day ≤ day_of h =
    last_all (λ (i : Issuance). i.day ≤ day_of h) (is_of x) None (issues_of h) since.0
    (sound h t legal).upto (λ m s. absurd (none-some m s)) since.1 in
    after_call (λ is. IsIssuedSince is x day) h t e may since
    (λ is c picked was. since_more is (made_by e (1 + length h) c) x day
    (omega (arith, picked.same_day, before, since.2, may.in_order)) was)

rest_follows : (h : List Entry) (t : Terms) (e : Entry) → IsLegal h t → MayFollow h t e
    → (r : Range) (rest : Rest) → IsRestOf h r rest → IsRestOf (h ++ e ∷ []) r rest
rest_follows h t e legal may r Unknown is = refl
rest_follows h t e legal may r (Issued serial day) since =
    passes_since (issues_of (h ++ e ∷ [])) (id_at r serial) day
    (since_follows h t e legal may (id_at r serial) day
    (since_passes (issues_of h) (id_at r serial) day since))
rest_follows h t e legal may r Closed closed =
    list_any-append (λ (f : Entry). withdraws r.num f.request.body f.outcome) h (e ∷ [])
    ∙ or_left _ _ closed

unknown_rest : (h : List Entry) (r : Range) (rest : Rest) → rest ≡ Unknown → IsRestOf h r rest
unknown_rest h r rest is = ap (is_rest_of h r) is

-- Whether a call creates a range does not depend on the number of the range.
made_any : (n m : ℕ) (b : Body) (o : Outcome) → is_some (range_of_grant n b o)
    ≡ is_some (range_of_grant m b o)
made_any n m (Grant holder service country first last) (Granted k) = refl
made_any n m b o = refl

rests_then : (h : List Entry) (t : Terms) (e : Entry) (rests : List Rest) (made : Option Range)
    → IsLegal h t → MayFollow h t e → ranges_of (h ++ e ∷ []) ≡ ranges_of h ++ option_to_list made
    → AreRests h rests
    → AreRests (h ++ e ∷ []) (rests ++ cond (is_some made) (Unknown ∷ []) [])
rests_then h t e rests None legal may same was =
    let ranges : ranges_of (h ++ e ∷ []) ≡ ranges_of h = same ∙ append-nil (ranges_of h) in
    let none : rests ++ [] ≡ rests = append-nil rests in
    rw none (record {
      count = was.count ∙ ap length (sym ranges);
      each = λ k d lt. rw ranges (rest_follows h t e legal may (get_or (ranges_of h) k d)
          (get_or rests k Unknown) (was.each k d (omega (arith, lt, ap length ranges))));
    })
rests_then h t e rests (Some r) legal may same was =
    record {
      count = omega (
        arith,
        length-append rests (Unknown ∷ []),
        ap length same,
        length-append (ranges_of h) (r ∷ []),
        was.count,
      );
      each = λ k d lt. elim (cases_lt k (length (ranges_of h))) [
        | inl low ↦
            let one : get_or (ranges_of (h ++ e ∷ [])) k d ≡ get_or (ranges_of h) k d =
            ap (λ l. get_or l k d) same ∙ get_or_append_left (ranges_of h) (r ∷ []) d k low in
            let two : get_or (rests ++ Unknown ∷ []) k Unknown ≡ get_or rests k Unknown =
            get_or_append_left rests (Unknown ∷ []) Unknown k (omega (arith, low, was.count)) in
            rw (one, two) (rest_follows h t e legal may (get_or (ranges_of h) k d)
            (get_or rests k Unknown) (was.each k d low))
        | inr high ↦
            let last : k ≡ length rests = omega (
              arith,
              high,
              lt,
              ap length same,
              length-append (ranges_of h) (r ∷ []),
              was.count,
            ) in
            unknown_rest (h ++ e ∷ []) (get_or (ranges_of (h ++ e ∷ [])) k d)
            (get_or (rests ++ Unknown ∷ []) k Unknown)
            (ap (λ i. get_or (rests ++ Unknown ∷ []) i Unknown) last
            ∙ get_or-append_seam rests Unknown [] Unknown)
      ];
    }

-- After one more call the rests are the same, with an unknown one if the call creates a range.
pub rests_follow : (h : List Entry) (t : Terms) (e : Entry) (rests : List Rest) → IsLegal h t
    → MayFollow h t e → AreRests h rests
    → AreRests (h ++ e ∷ [])
    (rests ++ cond (is_some (range_of_grant 1 e.request.body e.outcome)) (Unknown ∷ []) [])
rests_follow h t e rests legal may was =
    let n : ℕ = 1 + length (ranges_of h) in
    let P : Bool → Type 0 = λ b. AreRests (h ++ e ∷ []) (rests ++ cond b (Unknown ∷ []) []) in
    subst P (made_any (1 + length (ranges_of h)) 1 e.request.body e.outcome)
    (rests_then h t e rests (range_of_grant (1 + length (ranges_of h)) e.request.body e.outcome)
    legal may (ranges_from-push 1 h e) was)

number_at : (n : ℕ) (rs : List Range) (k : ℕ) (d : Range) → Numbered n rs → k < length rs
    → (get_or rs k d).num ≡ n + k
number_at n [] k d h lt = absurd (omega arith)
number_at n (r ∷ rs) zero d h lt = omega (arith, h.0)
number_at n (r ∷ rs) (suc k) d h lt =
    let rest = number_at (n + 1) rs k d h.1 (omega arith) in
    omega (arith, rest)

-- The number of a range of the history is one more than its index.
place_of : (h : List Entry) (r : Range) → (there : Contains (ranges_of h) r) → r.num ≡ there.0 + 1
place_of h r there =
    let at = number_at 1 (ranges_of h) there.0 r (numbered 1 h) there.1 in
    let e : (get_or (ranges_of h) there.0 r).num ≡ r.num = ap (λ (x : Range). x.num) there.2 in
    omega (arith, at, e)

-- The rest of one range is set.
pub rests_set : (h : List Entry) (rests : List Rest) (place : ℕ) (r : Range) (rest : Rest)
    → AreRests h rests → Contains (ranges_of h) r → r.num ≡ place + 1 → IsRestOf h r rest
    → AreRests h (set rests place rest)
rests_set h rests place r rest was there num is =
    let at : there.0 ≡ place = let found = place_of h r there in omega (arith, found, num) in
    record {
      count = length-set rests place rest ∙ was.count;
      each = λ k d lt. elim (cases_eq k place) [
        | inl same ↦
            let one : get_or (ranges_of h) k d ≡ r =
            ap (λ i. get_or (ranges_of h) i d) (same ∙ sym at)
            ∙ get_or_default (ranges_of h) there.0 d r there.1 ∙ there.2 in
            let two : get_or (set rests place rest) k Unknown ≡ rest =
            ap (λ i. get_or (set rests place rest) i Unknown) same
            ∙ get_or-set_same rests place rest Unknown
            (omega (arith, same, lt, was.count)) in
            rw (one, two) is
        | inr other ↦
            let two : get_or (set rests place rest) k Unknown ≡ get_or rests k Unknown =
            get_or-set_other rests place k rest Unknown other in
            rw two (was.each k d lt)
      ];
    }

-- A range gives nothing while its rest lasts.
rest_gives : (h : List Entry) (customer : ℕ) (s c : ℕ × ℕ) (day n : ℕ) (r : Range) (rest : Rest)
    → IsRestOf h r rest → is_resting rest (pick_of (issues_of h) r) day n ≡ true
    → is_free_range h customer s c day n r ≡ false
rest_gives h customer s c day n r Unknown is resting = absurd (false≢true resting)
rest_gives h customer s c day n r Closed closed resting =
    and_left (is_open h customer s c r) (has_free_pick (issues_of h) day n r)
    (and_right (is_held customer s c r) (not (is_closed h r.num))
    (not_from_true (is_closed h r.num) closed))
rest_gives h customer s c day n r (Issued serial last) known resting =
    let since = since_passes (issues_of h) (id_at r serial) last known in
    let test = and_parts (eqb serial (pick_of (issues_of h) r)) (ltb (day - last) n) resting in
    let same : serial ≡ pick_of (issues_of h) r =
    eqb-true serial (pick_of (issues_of h) r) test.0 in
    let few : day - last < n = ltb-true (day - last) n test.1 in
    let found : last_issuance_of (issues_of h) (id_at r (pick_of (issues_of h) r)) ≡ Some since.0 =
    ap (λ v. last_issuance_of (issues_of h) (id_at r v)) (sym same) ∙ since.1 in
    let used : has_free_pick (issues_of h) day n r ≡ false =
    ap (λ o. is_free_since day n (option_map (λ (i : Issuance). i.day) o)) found
    ∙ lt-leb n (day - since.0.day) (omega (arith, few, since.2)) in
    and_right (is_open h customer s c r) (has_free_pick (issues_of h) day n r) used

-- A range that rests gives nothing.
resting_gives : (h : List Entry) (ranges : Ranges) (rests : List Rest) (customer : ℕ)
    (s c : ℕ × ℕ) (day n : ℕ) (r : Range) → AreSound ranges.ranges.items → Mirrors ranges h
    → AreRests h rests → Contains (ranges_of h) r → rests_on ranges.marks.items rests day n r ≡ true
    → is_free_range h customer s c day n r ≡ false
resting_gives h ranges rests customer s c day n r sound mirrors known there resting =
    let num = place_of h r there in
    let at : r.num - 1 ≡ there.0 = omega (arith, num) in
    let is : IsRestOf h r (get_or rests (r.num - 1) Unknown) =
    rw (at, sym there.2) (known.each there.0 r there.1) in
    rest_gives h customer s c day n r (get_or rests (r.num - 1) Unknown) is
    (sym (ap (λ (o : Option Mark). is_resting_at o (get_or rests (r.num - 1) Unknown) day n)
    (mark_held ranges h r sound mirrors there)) ∙ resting)

-- A range that is free is awake.
pub awake_narrows : (h : List Entry) (ranges : Ranges) (rests : List Rest) (customer : ℕ)
    (s c : ℕ × ℕ) (day n : ℕ) → AreSound ranges.ranges.items → Mirrors ranges h → AreRests h rests
    → Narrows (is_awake ranges.marks.items rests customer s c day n)
    (is_free_range h customer s c day n) (ranges_of h)
awake_narrows h ranges rests customer s c day n sound mirrors known = λ k d lt fails.
    let r = get_or (ranges_of h) k d in
    elim (and_cases (is_held customer s c r) (not (rests_on ranges.marks.items rests day n r))
    fails) [
      | inl other ↦ and_left (is_open h customer s c r) (has_free_pick (issues_of h) day n r)
          (and_left (is_held customer s c r) (not (is_closed h r.num)) other)
      | inr asleep ↦ resting_gives h ranges rests customer s c day n r sound mirrors known
          (Contains-get_or (ranges_of h) k d lt)
          (not-false (rests_on ranges.marks.items rests day n r) asleep)
    ]

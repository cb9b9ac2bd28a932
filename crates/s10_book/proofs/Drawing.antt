-- The outcome of a Draw, by what the reads of a book find.
use Rattle.std.proofs.Common.{◌≡◌, ℕ, ◌<◌, Bool, true, false, List, [], ◌∷◌, Option, Some}
use Rattle.std.proofs.Common.{None, refl, sym, ap, ◌∙◌, arith, length, get_or}
use Rattle.std.specs.Prelude.{find, filter, is_some}
use Rattle.std.specs.Option.{option_map}
use Rattle.std.proofs.lemmas.Bool.{and_left, and_right, and_from, and_parts}
use Rattle.s10_history.specs.declared.entry.Entry.{Entry}
use Rattle.s10_history.specs.declared.range.Range.{Range}
use Rattle.s10_history.specs.declared.issue.Issue.{Issue}
use Rattle.s10_history.specs.declared.issuance.Issuance.{Issuance}
use Rattle.s10_history.specs.declared.candidate.Candidate.{Candidate}
use Rattle.s10_history.specs.Issues.{issues_of, last_issuance_of, id_at, pick_of, candidate_of}
use Rattle.s10_history.specs.Issues.{is_free_since}
use Rattle.s10_history.specs.History.{ranges_of, is_open, ranges_open}
use Rattle.s10_book.specs.Rules.{has_free_pick, is_free_range, is_free_after}
use Rattle.s10_book.specs.Rules.{outcome_of_pick, draw_answer}
use Rattle.s10_wire.specs.declared.outcome.Outcome.TheVariants.{Drawn, NoRange, NoneFree}
use Rattle.s10_history.proofs.Numbering.{above, numbered, filter_above, next_above, filter_none, found_passes}
use Rattle.s10_history.proofs.Issued.{free_last}
use Rattle.s10_book.proofs.Passing.{Narrows, walk_on, walk_found, walk_out, first_of_both}

-- The test of the candidate's last issue is the test of its range.
pub passes_is : (h : List Entry) (r : Range) (day interval : ℕ) (found : Candidate) (b : Bool)
    → found ≡ candidate_of h r
    → b ≡ is_free_since day interval (option_map (λ (i : Issue). i.day) found.issue)
    → has_free_pick (issues_of h) day interval r ≡ b
passes_is h r day interval found b e t =
    sym (t ∙ ap (λ (c : Candidate). is_free_since day interval
    (option_map (λ (i : Issue). i.day) c.issue)) e
    ∙ free_last day interval
    (last_issuance_of (issues_of h) (id_at r (pick_of (issues_of h) r))) _ (λ _. refl))

drawn_found : (is : List Issuance) (day : ℕ) (rs : List Range) (o : Option Range) (r : Range)
    → o ≡ Some r → outcome_of_pick is day rs o ≡ Drawn day (id_at r (pick_of is r))
drawn_found is day [] o r e = ap (outcome_of_pick is day []) e
drawn_found is day (x ∷ xs) o r e = ap (outcome_of_pick is day (x ∷ xs)) e

drawn_none : (is : List Issuance) (day : ℕ) (rs : List Range) (o : Option Range) → 0 < length rs
    → o ≡ None → outcome_of_pick is day rs o ≡ NoneFree
drawn_none is day [] o some e = absurd (omega arith)
drawn_none is day (x ∷ xs) o some e = ap (outcome_of_pick is day (x ∷ xs)) e

drawn_empty : (is : List Issuance) (day : ℕ) (passes : Range → Bool) (rs : List Range) → rs ≡ []
    → outcome_of_pick is day rs (find passes rs) ≡ NoRange
drawn_empty is day passes rs e = ap (λ l. outcome_of_pick is day l (find passes l)) e

-- The customer holds no open range.
pub draw_nowhere : (h : List Entry) (customer : ℕ) (s c : ℕ × ℕ) (day n : ℕ) (o : Option Range)
    → is_some o ≡ false → o ≡ find (above (is_open h customer s c) 0) (ranges_of h)
    → NoRange ≡ draw_answer h customer s c day n
draw_nowhere h customer s c day n (Some r) none found = absurd cc
draw_nowhere h customer s c day n None none found =
    let empty : ranges_open h customer s c ≡ [] =
    sym (filter_above (is_open h customer s c) 0 1 (ranges_of h) (omega arith) (numbered 1 h))
    ∙ filter_none (above (is_open h customer s c) 0) (ranges_of h) (sym found) in
    sym (drawn_empty (issues_of h) day (has_free_pick (issues_of h) day n)
    (ranges_open h customer s c) empty)

-- What is found among the customer's free ranges is the first of the open ones whose pick is free.
pub first_free : (h : List Entry) (customer : ℕ) (s c : ℕ × ℕ) (day n : ℕ)
    → find (is_free_after h 0 customer s c day n) (ranges_of h)
    ≡ find (has_free_pick (issues_of h) day n) (ranges_open h customer s c)
first_free h customer s c day n =
    first_of_both (is_open h customer s c) (has_free_pick (issues_of h) day n) (ranges_of h)
    (numbered 1 h)

-- The customer holds an open range, and none whose pick is free.
pub draw_none_free : (h : List Entry) (customer : ℕ) (s c : ℕ × ℕ) (day n : ℕ) (o : Option Range)
    → is_some o ≡ true → o ≡ find (above (is_open h customer s c) 0) (ranges_of h)
    → find (is_free_after h 0 customer s c day n) (ranges_of h) ≡ None
    → NoneFree ≡ draw_answer h customer s c day n
draw_none_free h customer s c day n None some found none = absurd cc
draw_none_free h customer s c day n (Some r) some found none =
    let rs : List Range = ranges_open h customer s c in
    let held : rs ≡ r ∷ filter (above (is_open h customer s c) r.num) (ranges_of h) =
    sym (filter_above (is_open h customer s c) 0 1 (ranges_of h) (omega arith) (numbered 1 h))
    ∙ next_above (is_open h customer s c) 0 1 (ranges_of h) r (numbered 1 h) (sym found) in
    let many : 0 < length rs = rw held (omega arith) in
    sym (drawn_none (issues_of h) day rs (find (has_free_pick (issues_of h) day n) rs) many
    (sym (first_free h customer s c day n) ∙ none))

-- The pick of the first free range is drawn.
pub draw_found : (h : List Entry) (customer : ℕ) (s c : ℕ × ℕ) (day n : ℕ) (r : Range)
    → find (is_free_after h 0 customer s c day n) (ranges_of h) ≡ Some r
    → Drawn day (id_at r (pick_of (issues_of h) r)) ≡ draw_answer h customer s c day n
draw_found h customer s c day n r found =
    sym (drawn_found (issues_of h) day (ranges_open h customer s c)
    (find (has_free_pick (issues_of h) day n) (ranges_open h customer s c)) r
    (sym (first_free h customer s c day n) ∙ found))

free_is_open : (h : List Entry) (customer : ℕ) (s c : ℕ × ℕ) (day n : ℕ) (rs : List Range)
    → Narrows (is_open h customer s c) (is_free_range h customer s c day n) rs
free_is_open h customer s c day n rs = λ k d lt. and_left (is_open h customer s c (get_or rs k d))
    (has_free_pick (issues_of h) day n (get_or rs k d))

-- If the pick of the next open range is not free, the search continues after that range.
pub free_further : (h : List Entry) (after customer : ℕ) (s c : ℕ × ℕ) (day n : ℕ) (r : Range)
    → find (above (is_open h customer s c) after) (ranges_of h) ≡ Some r
    → has_free_pick (issues_of h) day n r ≡ false
    → find (is_free_after h after customer s c day n) (ranges_of h)
    ≡ find (is_free_after h r.num customer s c day n) (ranges_of h)
free_further h after customer s c day n r found used =
    walk_on (is_open h customer s c) (is_free_range h customer s c day n) after (ranges_of h) r
    (numbered 1 h) (free_is_open h customer s c day n (ranges_of h)) found
    (and_right (is_open h customer s c r) (has_free_pick (issues_of h) day n r) used)

-- If it is free, the range is the one.
pub free_here : (h : List Entry) (after customer : ℕ) (s c : ℕ × ℕ) (day n : ℕ) (r : Range)
    → find (above (is_open h customer s c) after) (ranges_of h) ≡ Some r
    → has_free_pick (issues_of h) day n r ≡ true
    → find (is_free_after h after customer s c day n) (ranges_of h) ≡ Some r
free_here h after customer s c day n r found free =
    walk_found (is_open h customer s c) (is_free_range h customer s c day n) after (ranges_of h) r
    (numbered 1 h) (free_is_open h customer s c day n (ranges_of h)) found
    (and_from (is_open h customer s c r) (has_free_pick (issues_of h) day n r)
    (and_parts _ _ (found_passes (above (is_open h customer s c) after) (ranges_of h) r found)).1
    free)

-- If there is no open range, none is free.
pub free_nowhere : (h : List Entry) (after customer : ℕ) (s c : ℕ × ℕ) (day n : ℕ)
    → find (above (is_open h customer s c) after) (ranges_of h) ≡ None
    → find (is_free_after h after customer s c day n) (ranges_of h) ≡ None
free_nowhere h after customer s c day n none =
    walk_out (is_open h customer s c) (is_free_range h customer s c day n) after (ranges_of h)
    (free_is_open h customer s c day n (ranges_of h)) none

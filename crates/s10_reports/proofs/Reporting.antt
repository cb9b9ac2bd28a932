-- Reports, one line after another.
use Rattle.std.proofs.Common.{◌≡◌, ℕ, zero, suc, ◌+◌, ◌<◌, ◌≤◌, Bool, true, false, cond, List, []}
use Rattle.std.proofs.Common.{◌∷◌, ◌++◌, length, take, drop, map, Option, Some, None, refl, sym, ap}
use Rattle.std.proofs.Common.{subst, ◌∙◌, ◌⊎◌, inl, inr, arith, append_assoc}
use Rattle.std.specs.Prelude.{filter, find, slice_get, ◌==◌, nat_le, ◌&&◌, Result, Ok, Err, IsErrAnd}
use Rattle.std.specs.Io.KnownBytes.{Appends}
use Rattle.std.proofs.lemmas.Bool.{cases_order, eqb-true, eqb-false, le-leb}
use Rattle.std.proofs.Math.Seq.{take-append-add, take-append_seam, take-length}
use Rattle.std.proofs.lemmas.Option.{none-some, slice_get_within, get_or_from_slice_get}
use Rattle.std.proofs.lemmas.List.{append-nil, take_all, take_more, take-append-drop}
use Rattle.std.proofs.lemmas.List.{take-append-le, length-take-le, map-append, map-id}
use Rattle.std.proofs.lemmas.List.Elements.{filter-append}
use Rattle.std.proofs.lemmas.Grind.{flat_map-append, common_steps}
use Rattle.s10_lines.proofs.Writing.{Appends-then}
use Rattle.s10_core.specs.declared.id.Id.{Id}
use Rattle.s10_history.specs.declared.entry.Entry.{Entry}
use Rattle.s10_history.specs.declared.range.Range.{Range}
use Rattle.s10_history.specs.declared.issuance.Issuance.{Issuance}
use Rattle.s10_history.specs.History.{ranges_of, entry_at, lies_in, overlaps}
use Rattle.s10_history.specs.Issues.{carried_by, issues_of, issues_from, issues_at}
use Rattle.s10_reports.specs.declared.range_filter.RangeFilter.{RangeFilter}
use Rattle.s10_reports.specs.declared.issues_report.IssuesReport.{IssuesReport}
use Rattle.s10_reports.specs.declared.report_format.ReportFormat.{ReportFormat}
use Rattle.s10_reports.specs.Filters.{range_with}
use Rattle.s10_reports.specs.Reports.{joined, lines_of, range_lines, ranges_heading, ranges_report}
use Rattle.s10_reports.specs.Reports.{issue_lines, issues_heading, issues_report}
use Rattle.s10_reports.specs.declared.report_fault.ReportFault.{ReportFault}
use Rattle.s10_reports.specs.declared.report_fault.ReportFault.TheVariants.{Book, Write}
use Rattle.s10_reports.specs.ReportFault.{Reported}
use Rattle.s10_history.proofs.Push.{issues_from-push}
use Rattle.s10_history.proofs.Numbering.{Numbered, numbered, find_cases, past_end}

-- A report begins with its first line.
pub joined_one : (u v : Option (List ℕ)) (line : List ℕ) → Appends u v line
    → Appends u v (joined (line ∷ []))
joined_one u v line written = let P : List ℕ → Type 0 = λ text. Appends u v text in
    subst P (sym (append-nil line)) written

first_taken : {X : Type 0} (f : Range → X) (n : ℕ) (x r : Range) (xs : List Range) → x.num ≡ n
    → (((x.num == n + 0) ≡ true) × (x ≡ r))
    ⊎ (((x.num == n + 0) ≡ false) × (find (λ y. y.num == n + 0) xs ≡ Some r))
    → f x ∷ [] ≡ f r ∷ []
first_taken {X} f n x r xs num (inl here) = ap (λ (y : Range). f y ∷ []) here.1
first_taken {X} f n x r xs num (inr there) = let same : x.num ≡ n + 0 = omega (arith, num) in
    absurd (eqb-false x.num (n + 0) there.0 same)

not_first : (n k : ℕ) (x r : Range) (xs : List Range) → x.num ≡ n
    → (((x.num == n + suc k) ≡ true) × (x ≡ r))
    ⊎ (((x.num == n + suc k) ≡ false) × (find (λ y. y.num == n + suc k) xs ≡ Some r))
    → find (λ y. y.num == n + suc k) xs ≡ Some r
not_first n k x r xs num (inl here) = let same : x.num ≡ n + suc k =
    eqb-true x.num (n + suc k) here.0 in absurd (omega (arith, num, same))
not_first n k x r xs num (inr there) = there.1

-- The range with the next number is the next range.
pub next_taken : {X : Type 0} (f : Range → X) (n k : ℕ) (rs : List Range) (r : Range) → Numbered n rs
    → find (λ y. y.num == n + k) rs ≡ Some r
    → take (suc k) (map f rs) ≡ take k (map f rs) ++ f r ∷ []
next_taken {X} f n k [] r h e = absurd (none-some r e)
next_taken {X} f n zero (x ∷ xs) r h e =
    first_taken f n x r xs h.0 (find_cases (λ y. y.num == n + 0) x r xs e)
next_taken {X} f n (suc k) (x ∷ xs) r h e =
    let there : find (λ y. y.num == n + suc k) xs ≡ Some r =
    not_first n k x r xs h.0 (find_cases (λ y. y.num == n + suc k) x r xs e) in
    let on : n + suc k ≡ n + 1 + k = omega arith in
    ap (λ (l : List X). f x ∷ l)
    (next_taken f (n + 1) k xs r h.1 (ap (λ (m : ℕ). find (λ y. y.num == m) xs) (sym on)
    ∙ there))

-- The issuances of some calls and of those after them.
pub issues_from-append : (n : ℕ) (xs ys : List Entry) → issues_from n (xs ++ ys) ≡ issues_from n xs
    ++ issues_from (n + length xs) ys
issues_from-append n [] ys = let same : n ≡ n + 0 = omega arith in
    ap (λ (m : ℕ). issues_from m ys) same
issues_from-append n (x ∷ xs) ys =
    let same : n + 1 + length xs ≡ n + length (x ∷ xs) = omega arith in
    ap (λ (l : List Issuance). issues_at n x ++ l) (issues_from-append (n + 1) xs ys
    ∙ ap (λ (m : ℕ). issues_from (n + 1) xs ++ issues_from m ys) same)
    ∙ sym (append_assoc (issues_at n x) (issues_from (n + 1) xs)
    (issues_from (n + length (x ∷ xs)) ys))

-- The report is written once its lines are.
pub report_whole : (u v : Option (List ℕ)) (lines : List (List ℕ)) (k : ℕ) → take k lines ≡ lines
    → Appends u v (joined (take k lines)) → Appends u v (joined lines)
report_whole u v lines k all written = let P : List (List ℕ) → Type 0 =
    λ l. Appends u v (joined l) in subst P all written

-- The first lines of a report.
take_header : (header : List ℕ) (lines : List (List ℕ)) (n : ℕ) → take (n + 1) (header ∷ lines)
    ≡ header ∷ take n lines
take_header header lines n = let on : n + 1 ≡ suc n = omega arith in
    ap (λ (m : ℕ). take m (header ∷ lines)) on

-- The lines of the elements that pass a test.
module _ {X : Type 0} (test : X → Bool) (line : X → List ℕ) where
  lines_append : (xs ys : List X) → lines_of test line (xs ++ ys) ≡ lines_of test line xs
      ++ lines_of test line ys
  lines_append xs ys = ap (map line) (filter-append test xs ys)
      ∙ map-append line (filter test xs) (filter test ys)

  front_lines : (all front rest : List X) → all ≡ front ++ rest
      → take (length (lines_of test line front)) (lines_of test line all) ≡ lines_of test line front
  front_lines all front rest split =
      ap (λ (l : List X). take (length (lines_of test line front)) (lines_of test line l)) split
      ∙ ap (take (length (lines_of test line front))) (lines_append front rest)
      ∙ take-append_seam (lines_of test line front) (lines_of test line rest)

  -- The lines of some elements, followed by those of the next ones.
  pub more_lines : (all front more longer rest rest' : List X) → all ≡ front ++ rest
      → all ≡ longer ++ rest' → longer ≡ front ++ more
      → take (length (lines_of test line longer)) (lines_of test line all)
      ≡ take (length (lines_of test line front)) (lines_of test line all) ++ lines_of test line more
  more_lines all front more longer rest rest' split split' is =
      front_lines all longer rest' split' ∙ ap (lines_of test line) is ∙ lines_append front more
      ∙ ap (λ (l : List (List ℕ)). l ++ lines_of test line more)
      (sym (front_lines all front rest split))

  -- The same after a heading.
  pub more_lines_after : (heading : List ℕ) (all front more longer rest rest' : List X)
      → all ≡ front ++ rest → all ≡ longer ++ rest' → longer ≡ front ++ more
      → take (length (lines_of test line longer) + 1) (heading ∷ lines_of test line all)
      ≡ take (length (lines_of test line front) + 1) (heading ∷ lines_of test line all)
      ++ lines_of test line more
  more_lines_after heading all front more longer rest rest' split split' is =
      take_header heading (lines_of test line all) (length (lines_of test line longer))
      ∙ ap (λ (l : List (List ℕ)). heading ∷ l)
      (more_lines all front more longer rest rest' split split' is)
      ∙ ap (λ (l : List (List ℕ)). l ++ lines_of test line more)
      (sym (take_header heading (lines_of test line all) (length (lines_of test line front))))

  -- All lines.
  pub all_lines : (heading : List ℕ) (all front : List X) → front ≡ all
      → take (length (lines_of test line front) + 1) (heading ∷ lines_of test line all)
      ≡ heading ∷ lines_of test line all
  all_lines heading all front is =
      take_header heading (lines_of test line all) (length (lines_of test line front))
      ∙ ap (λ (l : List X). heading ∷ take (length (lines_of test line l)) (lines_of test line all))
      is ∙ ap (λ (l : List (List ℕ)). heading ∷ l) (take-length (lines_of test line all))

  -- The line of one element.
  pub one_line : (x : X) → test x ≡ true → lines_of test line (x ∷ []) ≡ line x ∷ []
  one_line x passes = ap (λ (b : Bool). map line (cond b (x ∷ []) [])) passes

  pub no_line : (x : X) → test x ≡ false → lines_of test line (x ∷ []) ≡ []
  no_line x fails = ap (λ (b : Bool). map line (cond b (x ∷ []) [])) fails

-- The first k+1 elements are the first k and the next.
pub next_range : (h : List Entry) (done : ℕ) (r : Range)
    → find (λ x. x.num == (done + 1)) (ranges_of h) ≡ Some r
    → take (done + 1) (ranges_of h) ≡ take done (ranges_of h) ++ r ∷ []
next_range h done r found =
    let one : done + 1 ≡ 1 + done = omega arith in
    let there : find (λ x. x.num == (1 + done)) (ranges_of h) ≡ Some r =
    sym (ap (λ (m : ℕ). find (λ x. x.num == m) (ranges_of h)) one) ∙ found in
    let next = next_taken (λ (x : Range). x) 1 done (ranges_of h) r (numbered 1 h) there in
    let same : map (λ (x : Range). x) (ranges_of h) ≡ ranges_of h = map-id (ranges_of h) in
    let up : done + 1 ≡ suc done = omega arith in
    ap (λ (n : ℕ). take n (ranges_of h)) up
    ∙ sym (ap (λ (l : List Range). take (suc done) l) same) ∙ next
    ∙ ap (λ (l : List Range). take done l ++ r ∷ []) same

-- Nothing was written.
pub Appends-none : (u : Option (List ℕ)) → Appends u u []
Appends-none None = tt
Appends-none (Some xs) = sym (append-nil xs)

-- A line was written, for an element that passes.
pub line_written : (u v : Option (List ℕ)) (lines : List (List ℕ)) (line : List ℕ)
    → lines ≡ line ∷ [] → Appends u v line → Appends u v (joined lines)
line_written u v lines line is written =
    subst (λ (l : List (List ℕ)). Appends u v (joined l)) (sym is) (joined_one u v line written)

-- No line was written, for one that does not.
pub nothing_written : (u : Option (List ℕ)) (lines : List (List ℕ)) → lines ≡ []
    → Appends u u (joined lines)
nothing_written u lines is =
    subst (λ (l : List (List ℕ)). Appends u u (joined l)) (sym is) (Appends-none u)

-- No line was written before a fault.
pub none_before : (u : Option (List ℕ)) (lines : List (List ℕ)) → (count : ℕ)
    × Appends u u (joined (take count lines))
none_before u lines = (0, Appends-none u)

-- The number of lines of the first ranges of a report.
abbrev pub ranges_by : RangeFilter → ReportFormat → List Entry → ℕ → ℕ → ℕ → ℕ
ranges_by filter format h day interval done =
    length (range_lines filter format h day interval (take done (ranges_of h)))

-- The report of the ranges has the lines of all.
pub ranges_all : (filter : RangeFilter) (format : ReportFormat) (h : List Entry)
    (day interval done : ℕ) → length (ranges_of h) ≤ done
    → take (ranges_by filter format h day interval done + 1)
    (ranges_report filter format h day interval)
    ≡ ranges_report filter format h day interval
ranges_all filter format h day interval done few =
    all_lines _ _ (ranges_heading format) (ranges_of h) (take done (ranges_of h))
    (take_all done (ranges_of h) few)

-- The lines of the next range are the next lines.
pub ranges_next : (filter : RangeFilter) (format : ReportFormat) (h : List Entry)
    (day interval done : ℕ) (r : Range) → find (λ x. x.num == (done + 1)) (ranges_of h) ≡ Some r
    → take (ranges_by filter format h day interval (done + 1) + 1)
    (ranges_report filter format h day interval)
    ≡ take (ranges_by filter format h day interval done + 1)
    (ranges_report filter format h day interval)
    ++ range_lines filter format h day interval (r ∷ [])
ranges_next filter format h day interval done r found =
    more_lines_after _ _ (ranges_heading format) (ranges_of h) (take done (ranges_of h)) (r ∷ [])
    (take (done + 1) (ranges_of h)) (drop done (ranges_of h)) (drop (done + 1) (ranges_of h))
    (sym (take-append-drop done (ranges_of h))) (sym (take-append-drop (done + 1) (ranges_of h)))
    (next_range h done r found)

-- The range that covers an identifier is the one in which it lies.
pub covered : (h : List Entry) (x : Id)
    → find (overlaps x.service x.country x.serial x.serial) (ranges_of h) ≡ range_with h x
covered h x = ap (λ (test : Range → Bool). find test (ranges_of h)) (λ i r. same_test r i)
  where
    and_true : (a b : Bool) → b ≡ true → (a && b) ≡ a
    and_true true b e = e
    and_true false b e = refl

    same_test : (r : Range) → overlaps x.service x.country x.serial x.serial r ≡ lies_in r x
    same_test r = and_true (lies_in r x) (nat_le x.serial x.serial)
        (le-leb x.serial x.serial (omega arith))

-- The number of lines of the issuances of the first calls.
abbrev pub issued_by : IssuesReport → List Entry → ℕ → ℕ
issued_by report h k = length (issue_lines report h (issues_from 1 (take k h)))

entry_is : (h : List Entry) (k : ℕ) → entry_at h (k + 1) ≡ slice_get h k
entry_is h k = let on : k + 1 ≡ suc k = omega arith in ap (entry_at h) on

-- If there is no call with the next number, all calls were reported.
pub entries_past : (h : List Entry) (k : ℕ) (o : Option Entry) → o ≡ entry_at h (k + 1) → o ≡ None
    → length h ≤ k
entries_past h k o is none = past_end h k (sym (entry_is h k) ∙ sym is ∙ none)

calls_more : (h : List Entry) (k : ℕ) (e : Entry) → slice_get h k ≡ Some e
    → take (k + 1) h ≡ take k h ++ e ∷ []
calls_more h k e found =
    let within : k < length h = slice_get_within h k e found in
    take_more h k e within ∙ ap (λ (x : Entry). take k h ++ x ∷ [])
    (get_or_from_slice_get h k e e found)

-- The issuances of one more call.
pub issues_more : (h : List Entry) (k : ℕ) (o : Option Entry) (e : Entry) → o ≡ entry_at h (k + 1)
    → o ≡ Some e
    → issues_from 1 (take (k + 1) h) ≡ issues_from 1 (take k h) ++ issues_at (k + 1) e
issues_more h k o e is some =
    let found : slice_get h k ≡ Some e = sym (entry_is h k) ∙ sym is ∙ some in
    let within : k < length h = slice_get_within h k e found in
    let len : 1 + length (take k h) ≡ k + 1 =
    grind (arith, common_steps, length-take-le k h (omega arith)) in
    ap (λ (l : List Entry). issues_from 1 l) (calls_more h k e found)
    ∙ issues_from-push 1 (take k h) e
    ∙ ap (λ (n : ℕ). issues_from 1 (take k h) ++ issues_at n e) len

issues_split : (h : List Entry) (k : ℕ) → issues_from 1 h ≡ issues_from 1 (take k h)
    ++ issues_from (1 + length (take k h)) (drop k h)
issues_split h k = ap (λ (l : List Entry). issues_from 1 l) (sym (take-append-drop k h))
    ∙ issues_from-append 1 (take k h) (drop k h)

-- The lines of the issuances of one more call.
pub call_lines : (report : IssuesReport) (h : List Entry) (k : ℕ) (o : Option Entry) (e : Entry)
    → o ≡ entry_at h (k + 1) → o ≡ Some e
    → take (issued_by report h (k + 1) + 1) (issues_report report h)
    ≡ take (issued_by report h k + 1) (issues_report report h)
    ++ issue_lines report h (issues_at (k + 1) e)
call_lines report h k o e is some =
    more_lines_after _ _ (issues_heading report.format) (issues_of h) (issues_from 1 (take k h))
    (issues_at (k + 1) e) (issues_from 1 (take (k + 1) h))
    (issues_from (1 + length (take k h)) (drop k h))
    (issues_from (1 + length (take (k + 1) h)) (drop (k + 1) h)) (issues_split h k)
    (issues_split h (k + 1)) (issues_more h k o e is some)

issuance_next : (is : List Issuance) (k : ℕ) (i : Issuance) → slice_get is k ≡ Some i
    → take (k + 1) is ≡ take k is ++ i ∷ []
issuance_next is k i found =
    let within : k < length is = slice_get_within is k i found in
    take_more is k i within ∙ ap (λ (x : Issuance). take k is ++ x ∷ [])
    (get_or_from_slice_get is k i i found)

-- The lines of the next issuance of a call.
pub issue_next : (report : IssuesReport) (h : List Entry) (is : List Issuance) (k : ℕ)
    (i : Issuance) → slice_get is k ≡ Some i
    → take (length (issue_lines report h (take (k + 1) is))) (issue_lines report h is)
    ≡ take (length (issue_lines report h (take k is))) (issue_lines report h is)
    ++ issue_lines report h (i ∷ [])
issue_next report h is k i found =
    more_lines _ _ is (take k is) (i ∷ []) (take (k + 1) is) (drop k is) (drop (k + 1) is)
    (sym (take-append-drop k is)) (sym (take-append-drop (k + 1) is)) (issuance_next is k i found)

-- A call has an issuance for each identifier that it carries.
pub issued_all : (arrival : ℕ) (e : Entry) → length (issues_at arrival e) ≡ length
    (carried_by e.outcome)
issued_all arrival e = grind (arith, common_steps)

-- A call has the lines of all its issuances.
pub call_whole : (report : IssuesReport) (h : List Entry) (is : List Issuance) (k : ℕ)
    → length is ≤ k
    → take (length (issue_lines report h (take k is))) (issue_lines report h is)
    ≡ issue_lines report h is
call_whole report h is k past =
    ap (λ (l : List Issuance). take (length (issue_lines report h l)) (issue_lines report h is))
    (take_all k is past) ∙ take-length (issue_lines report h is)

-- The lines of the calls so far, followed by those of the next call.
pub call_written : (u v w : Option (List ℕ)) (front part all : List (List ℕ)) → all ≡ front ++ part
    → Appends u v (joined front) → Appends v w (joined part) → Appends u w (joined all)
call_written u v w front part all is before written =
    let P : List ℕ → Type 0 = λ text. Appends u w text in
    subst P (sym (ap joined is ∙ flat_map-append (λ (x : List ℕ). x) front part))
    (Appends-then u v w (joined front) (joined part) before written)

-- First lines, followed by some of the next ones, are first lines of the whole.
cut_within : (all : List (List ℕ)) (m n count : ℕ) (part : List (List ℕ)) → take n all ≡ take m all
    ++ part → (c : ℕ) × (take c all ≡ take m all ++ take count part)
cut_within all m n count part is =
    let front : List (List ℕ) = take m all in
    let few : count ≤ length part → (c : ℕ) × (take c all ≡ front ++ take count part) = λ le.
    let split : all ≡ front ++ (part ++ drop n all) = sym (take-append-drop n all)
    ∙ ap (λ (l : List (List ℕ)). l ++ drop n all) is ∙ append_assoc front part (drop n all) in (
      length front + count,
      ap (take (length front + count)) split ∙ take-append-add front (part ++ drop n all) count
          ∙ ap (λ (l : List (List ℕ)). front ++ l) (take-append-le count part (drop n all) le),
    ) in
    elim (cases_order count (length part)) [
      | inl same ↦ few (omega (arith, same))
      | inr w ↦ elim w [
        | inl lt ↦ few (omega (arith, lt))
        | inr gt ↦ (
          n,
          is ∙ ap (λ (l : List (List ℕ)). front ++ l)
              (sym (take_all count part (omega (arith, gt)))),
        )
      ]
    ]

-- Some lines of the next call were written.
pub call_cut : (u v w : Option (List ℕ)) (all : List (List ℕ)) (m n count : ℕ)
    (part : List (List ℕ)) → take n all ≡ take m all ++ part
    → Appends u v (joined (take m all)) → Appends v w (joined (take count part)) → (c : ℕ)
    × Appends u w (joined (take c all))
call_cut u v w all m n count part is before written =
    let found = cut_within all m n count part is in (
      found.0,
      call_written u v w (take m all) (take count part) (take found.0 all) found.1 before
          written,
    )

-- A report in which not all lines of a call were written.
cut_by : (T : Type 0) (u v w : Option (List ℕ)) (all : List (List ℕ)) (m n : ℕ)
    (part : List (List ℕ)) (fault : ReportFault) → take n all ≡ take m all ++ part
    → Appends u v (joined (take m all)) → Reported {T = T} v w part (Err fault)
    → Reported {T = T} u w all (Err fault)
cut_by T u v w all m n part (Book fault) is before cut = call_cut u v w all m n cut.0 part is before
    cut.1
cut_by T u v w all m n part Write is before cut = cut

-- The fault of the call is that of the report.
pub report_cut : {T : Type 0} → (u v w : Option (List ℕ)) (all : List (List ℕ)) (m n : ℕ)
    (part : List (List ℕ)) (fault : ReportFault) (r : Result T ReportFault)
    → IsErrAnd r (λ e. e ≡ fault)
    → take n all ≡ take m all ++ part → Appends u v (joined (take m all))
    → Reported {T = T} v w part (Err fault) → Reported u w all r
report_cut {T = T} u v w all m n part fault (Ok x) passed is before cut = absurd passed
report_cut {T = T} u v w all m n part fault (Err e) passed is before cut =
    let P : ReportFault → Type 0 = λ f. Reported {T = T} u w all (Err f) in
    subst P (sym passed) (cut_by T u v w all m n part fault is before cut)

-- The report of the issuances has the lines of all calls.
pub issues_all : (report : IssuesReport) (h : List Entry) (k : ℕ) → length h ≤ k
    → take (issued_by report h k + 1) (issues_report report h) ≡ issues_report report h
issues_all report h k past =
    all_lines _ _ (issues_heading report.format) (issues_of h) (issues_from 1 (take k h))
    (ap (λ (l : List Entry). issues_from 1 l) (take_all k h past))

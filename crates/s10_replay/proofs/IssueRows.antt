-- The rows that the issuances of a call write, one after another.
use Rattle.std.proofs.Common.{◌≡◌, ℕ, zero, suc, ◌+◌, ◌≤◌, Bool, true, false, not, cond, eqb, ◌&&◌}
use Rattle.std.proofs.Common.{◌||◌, pos, List, [], ◌∷◌, ◌++◌, map, length, Option, Some, None, refl}
use Rattle.std.proofs.Common.{sym, ap, ap₂, ◌∙◌, ◌⊎◌, inl, inr, arith, subst, take, take_all}
use Rattle.std.proofs.Common.{append-nil}
use Rattle.std.specs.Prelude.{option_to_list, filter, All, Contains, slice_get, int_le}
use Rattle.std.specs.List.{list_any, last_or}
use Rattle.std.specs.Ordering.{int_eq}
use Rattle.std.proofs.lemmas.Bool.Decides.{same_from_decides}
use Rattle.std.proofs.lemmas.Bool.{both_ways, cases_Bool, eq-eqb, eqb-true}
use Rattle.std.proofs.lemmas.Option.{same_Some, slice_get-get_or, slice_get_within}
use Rattle.std.proofs.lemmas.Option.{get_or_from_slice_get}
use Rattle.std.proofs.lemmas.List.{map-append, drop_all, length-map}
use Rattle.std.proofs.lemmas.List.Folds.{list_any-append}
use Rattle.std.proofs.lemmas.List.Elements.{All-append, All-contains, All-contains_itself, All-take}
use Rattle.std.proofs.lemmas.List.Elements.{All-weaker}
use Rattle.s10_core.specs.declared.id.Id.{Id}
use Rattle.s10_core.specs.Id.{IsId}
use Rattle.s10_wire.specs.declared.outcome.Outcome.TheVariants.{Granted, Voided}
use Rattle.s10_history.specs.declared.entry.Entry.{Entry}
use Rattle.s10_history.specs.declared.range.Range.{Range}
use Rattle.s10_history.specs.declared.issuance.Issuance.{Issuance}
use Rattle.s10_history.specs.Settings.{Terms}
use Rattle.s10_history.specs.History.{ranges_of, lies_in}
use Rattle.s10_history.specs.Issues.{issues_at, issues_of, is_of, is_issued, last_issues}
use Rattle.s10_history.specs.Issues.{last_issuance_of, voids, voided_after, pick_of, pick_after}
use Rattle.s10_history.specs.Issues.{serial_after}
use Rattle.s10_book.specs.Rules.{IsLegal, MayFollow}
use Rattle.s10_history.proofs.Numbering.{Numbered, numbered, past_end}
use Rattle.s10_history.proofs.Push.{issues_from-push, same_ranges}
use Rattle.s10_book.proofs.Apart.{apart}
use Rattle.s10_book.proofs.Carried.{made_by}
use Rattle.s10_book.proofs.Marks.{one_range}
use Rattle.s10_book.proofs.Spaced.{id_same}
use Rattle.s10_book.proofs.Free.{id_equal}
use Rattle.s10_rows.specs.declared.prior_issue.PriorIssue.{PriorIssue}
use Rattle.s10_rows.specs.declared.prior_issue.PriorIssue.TheVariants.{Never, Before}
use Rattle.s10_rows.specs.declared.range_row.RangeRow.{RangeRow}
use Rattle.s10_rows.specs.declared.range_write.RangeWrite.{RangeWrite}
use Rattle.s10_rows.specs.declared.range_write.RangeWrite.TheVariants.{Mark}
use Rattle.s10_rows.specs.declared.serial_row.SerialRow.{SerialRow}
use Rattle.s10_rows.specs.declared.serial_write.SerialWrite.{SerialWrite}
use Rattle.s10_core.specs.Pair.{pair_of}
use Rattle.s10_rows.specs.Tables.{range_row, range_rows, serial_row, serial_rows}
use Rattle.s10_rows.specs.Selected.{IsCall, IsIssuance}
use Rattle.s10_rows.specs.RowWrites.{FindAtMostOne, IssueWritesMake, MakesWrites, issues_before}
use Rattle.s10_rows.specs.RowWrites.{marked, is_at, row_of, with_range, with_serial}
use Rattle.s10_rows.specs.RowWrites.{with_serials, write_of}
use Rattle.s10_replay.proofs.Tests.{int_eq-pos, between_itself}
use Rattle.s10_history.proofs.Issued.{none_filter}
use Rattle.s10_replay.proofs.LastIssues.{last_of, All-last_issues}
use Rattle.s10_replay.proofs.SerialRows.{issues_at_fit, issues_of_fit, row_of_is, filter_image}
use Rattle.s10_rows.proofs.Replaced.{same_images, map_twice, images_agree, all_left, same_rows}
use Rattle.s10_rows.proofs.Writing.{ranges_then, serials_then}
use Rattle.s10_replay.proofs.CallIssues.{IsIssueAt, issue_at, pick_moved}
use Rattle.s10_replay.proofs.RowsAfterCall.{row_in, same_row_in, none_made, none_voided}
use Rattle.s10_book.proofs.Carrying.{issue_next}

-- The number of a range gives its index.
num_at : (n : ℕ) (r : Range) (rs : List Range) → Numbered n rs → (there : Contains rs r)
    → r.num ≡ n + there.0
num_at n r [] up there = absurd (omega (arith, there.1))
num_at n r (s ∷ rs) up (zero, lt, is) = omega (arith, up.0, ap (λ (y : Range). y.num) is)
num_at n r (s ∷ rs) up (suc k, lt, is) =
    omega (arith, num_at (n + 1) r rs up.1 (k, omega arith, is))

-- Two ranges with the same number are the same.
one_numbered : (rs : List Range) (r s : Range) → Numbered 1 rs → Contains rs r → Contains rs s
    → s.num ≡ r.num → s ≡ r
one_numbered rs r s up cr cs same =
    let at : cs.0 ≡ cr.0 = omega (arith, num_at 1 r rs up cr, num_at 1 s rs up cs, same) in
    let f : slice_get rs cr.0 ≡ Some r = slice_get-get_or rs cr.0 r cr.1 ∙ ap Some cr.2 in
    let g : slice_get rs cs.0 ≡ Some s = slice_get-get_or rs cs.0 s cs.1 ∙ ap Some cs.2 in
    same_Some s r (sym g ∙ ap (slice_get rs) at ∙ f)

-- One more write.

few_more : (ws : List SerialWrite) (w : SerialWrite) (rows : List SerialRow) → FindAtMostOne ws rows
    → length (filter (is_at (row_of w).pair (row_of w).serial) (with_serials ws rows)) ≤ 1
    → FindAtMostOne (ws ++ w ∷ []) rows
few_more [] w rows few here = (here, tt)
few_more (v ∷ ws) w rows few here = (few.0, few_more ws w (with_serial v rows) few.1 here)

-- The rows of ranges.

-- Another range does not have an identifier of the range.
elsewhere : (h : List Entry) (t : Terms) (r s : Range) (x : Id) → IsLegal h t
    → Contains (ranges_of h) r → Contains (ranges_of h) s → lies_in r x ≡ true → eqb s.num r.num
    ≡ false → (lies_in s x ≡ true) ⊎ (lies_in s x ≡ false) → lies_in s x ≡ false
elsewhere h t r s x legal there in' lies other (inr out) = out
elsewhere h t r s x legal there in' lies other (inl ly) =
    absurd (both_ways (eqb s.num r.num) other
    (eq-eqb s.num r.num
    (ap (λ (z : Range). z.num) (one_range (ranges_of h) s r x (apart h t legal) in' there ly
    lies))))

-- The rows of ranges after one more issuance.
ranges_more : (h : List Entry) (t : Terms) (e : Entry) (place : ℕ) (c : ℕ × Id) (r : Range)
    → IsLegal h t → IsIssueAt h e t.interval place c → Contains (ranges_of h) r
    → lies_in r c.1 ≡ true
    → map (marked (pos r.num) (pos (serial_after r c.1.serial)))
    (map (λ s. range_row (pick_of (issues_before place h e) s) s) (ranges_of h))
    ≡ map (λ s. range_row (pick_of (issues_before place h e ++ made_by e (1 + length h) c ∷ []) s)
    s) (ranges_of h)
ranges_more h t e place c r legal here there lies =
    let x : Id = c.1 in
    let is : List Issuance = issues_before place h e in
    let y : Issuance = made_by e (1 + length h) c in
    let old : Range → RangeRow = λ s. range_row (pick_of is s) s in
    let new : Range → RangeRow = λ s. range_row (pick_of (is ++ y ∷ []) s) s in
    let next : Range → RangeRow = range_row (serial_after r x.serial) in
    let write : RangeRow → RangeRow = marked (pos r.num) (pos (serial_after r x.serial)) in
    let moved : (s : Range) → Contains (ranges_of h) s → pick_of (is ++ y ∷ []) s
    ≡ pick_after s (pick_of is s) x = λ s in'. pick_moved h t e place c s legal here in' in
    let at : new r ≡ next r =
    ap (λ (m : ℕ). range_row m r) (moved r there
    ∙ ap (λ (b : Bool). cond b (serial_after r x.serial) (pick_of is r)) lies) in
    let each : (s : Range) → Contains (ranges_of h) s → write (old s) ≡ new s =
    λ s in'. ap (λ (b : Bool). cond b (next s) (old s)) (int_eq-pos s.num r.num)
    ∙ elim (cases_Bool (eqb s.num r.num)) [
      | inl same ↦
          let one : s ≡ r = one_numbered (ranges_of h) r s (numbered 1 h) there in'
          (eqb-true s.num r.num same) in
          ap (λ (b : Bool). cond b (next s) (old s)) same ∙ ap next one ∙ sym at ∙ ap new (sym one)
      | inr other ↦
          let out : lies_in s x ≡ false = elsewhere h t r s x legal there in' lies other
          (cases_Bool (lies_in s x)) in
          ap (λ (b : Bool). cond b (next s) (old s)) other
          ∙ ap (λ (m : ℕ). range_row m s)
          (sym (moved s in' ∙ ap (λ (b : Bool). cond b (serial_after s x.serial) (pick_of is s))
          out))
    ] in
    map_twice write old (ranges_of h)
    ∙ images_agree (λ s. write (old s)) new (ranges_of h)
    (All-weaker (λ s. Contains (ranges_of h) s) (λ s. write (old s) ≡ new s) each (ranges_of h)
    (All-contains_itself (ranges_of h)))

-- The rows of serials.

-- The identifier of one more issuance has its last issuance there.
step_last : (again here : Bool) (i y : Issuance) (lasts rest : List Issuance) (p : Issuance → Bool)
    → p i ≡ here → rest ≡ filter (λ j. not (p j)) lasts ++ y ∷ []
    → cond (again || (here || false)) rest (i ∷ rest) ≡ filter (λ j. not (p j))
    (cond again lasts (i ∷ lasts)) ++ y ∷ []
step_last true here i y lasts rest p is e = e
step_last false true i y lasts rest p is e =
    e ∙ ap (λ (b : Bool). cond (not b) (i ∷ filter (λ j. not (p j)) lasts)
    (filter (λ j. not (p j)) lasts) ++ y ∷ []) (sym is)
step_last false false i y lasts rest p is e =
    ap (λ (l : List Issuance). i ∷ l) e
    ∙ ap (λ (b : Bool). cond (not b) (i ∷ filter (λ j. not (p j)) lasts)
    (filter (λ j. not (p j)) lasts) ++ y ∷ []) (sym is)

same_turned : (i y : Issuance) → is_of i.id y ≡ is_of y.id i
same_turned i y =
    same_from_decides (is_of i.id y) (is_of y.id i) (id_equal y.id i.id, id_same y.id i.id)
    (λ e. sym (id_equal i.id y.id e), λ e. id_same i.id y.id (sym e))

-- One more issuance replaces the last one of its identifier.
lasts_push : (is : List Issuance) (y : Issuance) → last_issues (is ++ y ∷ [])
    ≡ filter (λ j. not (is_of y.id j)) (last_issues is) ++ y ∷ []
lasts_push [] y = refl
lasts_push (i ∷ is) y =
    ap (λ (b : Bool). cond b (last_issues (is ++ y ∷ [])) (i ∷ last_issues (is ++ y ∷ [])))
    (list_any-append (is_of i.id) is (y ∷ []))
    ∙ step_last (is_issued is i.id) (is_of i.id y) i y (last_issues is) (last_issues (is ++ y ∷ []))
    (is_of y.id) (sym (same_turned i y)) (lasts_push is y)

and_turned : (a b c : Bool) → (a && (b && c)) ≡ ((a && b) && c)
and_turned true b c = refl
and_turned false b c = refl

-- The row of an issuance has the key of an identifier exactly if the issuance is the identifier's.
row_at : (v : Bool) (i : Issuance) (x : Id) → IsId i.id → IsId x
    → is_at (pos (pair_of x.service x.country)) (pos x.serial) (serial_row v i) ≡ is_of x i
row_at v i x here there =
    let pair : Bool = int_eq (pos (pair_of i.id.service i.id.country))
    (pos (pair_of x.service x.country)) in
    ap (λ (b : Bool). pair && b) (int_eq-pos i.id.serial x.serial
    ∙ sym (between_itself x.serial i.id.serial))
    ∙ and_turned pair (int_le (pos x.serial) (pos i.id.serial))
    (int_le (pos i.id.serial) (pos x.serial))
    ∙ row_of_is v i x here there

module _ (h : List Entry) (is : List Issuance) (x : Id) (fit : All IsIssuance is)
    (right : IsId x) where
  -- Whether a row has the key of the identifier.
  abbrev here : SerialRow → Bool
  here row = is_at (pos (pair_of x.service x.country)) (pos x.serial) row

  tests : (i : Issuance) → IsIssuance i → here (row_in h i) ≡ is_of x i
  tests i fits = row_at (voided_after i.arrival h i.id) i x fits.id right

  lasts : All IsIssuance (last_issues is)
  lasts = All-last_issues IsIssuance is fit

  -- The rows of other identifiers.
  pub rows_but_at :
      filter (λ row. not (is_at (pos (pair_of x.service x.country)) (pos x.serial) row))
      (map (row_in h) (last_issues is))
      ≡ map (row_in h) (filter (λ i. not (is_of x i)) (last_issues is))
  rows_but_at = filter_image (λ row. not (here row)) (λ i. not (is_of x i)) (row_in h) IsIssuance
      (λ i fits. ap not (tests i fits)) (last_issues is) lasts

  -- At most one row is the identifier's.
  pub few_at : length (filter (is_at (pos (pair_of x.service x.country)) (pos x.serial))
      (map (row_in h) (last_issues is))) ≤ 1
  few_at =
      let one : filter here (map (row_in h) (last_issues is))
      ≡ map (row_in h) (option_to_list (last_issuance_of is x)) =
      filter_image here (is_of x) (row_in h) IsIssuance tests (last_issues is) lasts
      ∙ ap (map (row_in h)) (last_of is x) in
      omega (
        arith,
        ap length one,
        length-map (option_to_list (last_issuance_of is x)) (row_in h),
        short (last_issuance_of is x),
      )
    where
      short : (o : Option Issuance) → length (option_to_list o) ≤ 1
      short None = omega arith
      short (Some i) = omega arith

  -- An identifier that was never issued has no row.
  none_at : is_issued is x ≡ false
      → filter (λ row. not (is_at (pos (pair_of x.service x.country)) (pos x.serial) row))
      (map (row_in h) (last_issues is)) ≡ map (row_in h) (last_issues is)
  none_at never =
      rows_but_at ∙ ap (map (row_in h)) (all_left (is_of x) (last_issues is) (last_of is x
      ∙ ap (λ (js : List Issuance). option_to_list (last_or None js))
      (none_filter (is_of x) is never)))

written : (issued : PriorIssue) (row : SerialRow) → row_of (write_of issued row) ≡ row
written Never row = refl
written Before row = refl

-- A row replaces that of its identifier.
replaced_row : (h : List Entry) (is : List Issuance) (y : Issuance) (issued : PriorIssue)
    → All IsIssuance is → IsId y.id → (issued ≡ Never → is_issued is y.id ≡ false)
    → with_serial (write_of issued (serial_row false y)) (map (row_in h) (last_issues is))
    ≡ filter (λ row. not (is_at (pos (pair_of y.id.service y.id.country)) (pos y.id.serial) row))
    (map (row_in h) (last_issues is)) ++ serial_row false y ∷ []
replaced_row h is y Never fit right never =
    ap (λ (l : List SerialRow). l ++ serial_row false y ∷ [])
    (sym (none_at h is y.id fit right (never refl)))
replaced_row h is y Before fit right never = refl

-- The rows of serials after one more issuance.
serials_more : (h : List Entry) (is : List Issuance) (y : Issuance) (issued : PriorIssue)
    → All IsIssuance is → IsId y.id → row_in h y ≡ serial_row false y
    → (issued ≡ Never → is_issued is y.id ≡ false)
    → with_serial (write_of issued (serial_row false y)) (map (row_in h) (last_issues is))
    ≡ map (row_in h) (last_issues (is ++ y ∷ []))
serials_more h is y issued fit right unvoided never =
    let others : List Issuance = filter (λ i. not (is_of y.id i)) (last_issues is) in
    replaced_row h is y issued fit right never
    ∙ ap₂ (λ (l : List SerialRow) (row : SerialRow). l ++ row ∷ [])
    (rows_but_at h is y.id fit right) (sym unvoided)
    ∙ sym (map-append (row_in h) others (y ∷ []))
    ∙ ap (map (row_in h)) (sym (lasts_push is y))

-- The issuances of a call.

-- The issuances of a history and of the call after it have rows: each part is in its bounds.
before_fit : (h : List Entry) (e : Entry) (place : ℕ) → All IsCall h → IsCall e
    → All IsIssuance (issues_before place h e) × All IsIssuance (issues_at (1 + length h) e)
before_fit h e place calls call =
    let own : All IsIssuance (issues_at (1 + length h) e) = issues_at_fit (1 + length h) e call in (
      All-append IsIssuance (issues_of h) (take place (issues_at (1 + length h) e))
          (issues_of_fit h calls) (All-take IsIssuance place (issues_at (1 + length h) e) own),
      own,
    )

in_list : {A : Type 0} (xs : List A) (k : ℕ) (x : A) → slice_get xs k ≡ Some x → Contains xs x
in_list xs k x is = (k, slice_get_within xs k x is, get_or_from_slice_get xs k x x is)

-- No call of a history comes after its next call.
none_after : (h : List Entry) (y : Issuance) → y.arrival ≡ 1 + length h
    → voided_after y.arrival h y.id ≡ false
none_after h y next = ap (list_any (voids y.id)) (drop_all y.arrival h (omega (arith, next)))

-- The rows that a call writes with one more issuance.
pub issue_makes : (h : List Entry) (t : Terms) (e : Entry) (place : ℕ) (y : Issuance) (r : Range)
    (issued : PriorIssue) (ranges : List RangeWrite) (serials : List SerialWrite) → IsLegal h t
    → MayFollow h t e → All IsCall h → IsCall e
    → slice_get (issues_at (1 + length h) e) place ≡ Some y → Contains (ranges_of h) r
    → lies_in r y.id ≡ true → (issued ≡ Never → is_issued (issues_before place h e) y.id ≡ false)
    → IssueWritesMake h e place ranges serials
    → IssueWritesMake h e (place + 1) (ranges ++ Mark (pos r.num) (pos (serial_after r y.id.serial))
    ∷ []) (serials ++ write_of issued (serial_row false y) ∷ [])
issue_makes h t e place y r issued ranges serials legal may calls call at there lies never made =
    let found = issue_at h t e (1 + length h) place y legal may at in
    let is : List Issuance = issues_before place h e in
    let fits = before_fit h e place calls call in
    let right : IsId y.id =
    (All-contains IsIssuance (issues_at (1 + length h) e) y fits.1
    (in_list (issues_at (1 + length h) e) place y at)).id in
    let more : issues_before (place + 1) h e ≡ is ++ y ∷ [] = issue_next h e place y at in
    let rows : List Issuance → List RangeRow = λ js. map (λ s. range_row (pick_of js s) s)
    (ranges_of h) in
    let write : RangeWrite = Mark (pos r.num) (pos (serial_after r y.id.serial)) in
    let step : Issuance → Type 0 = λ i. lies_in r i.id ≡ true
    → with_range (Mark (pos r.num) (pos (serial_after r i.id.serial))) (rows is)
    ≡ rows (is ++ i ∷ []) in
    let row : SerialRow = serial_row false y in
    let late : voided_after y.arrival h y.id ≡ false =
    none_after h y (ap (λ (i : Issuance). i.arrival) found.1) in
    let at_one : SerialRow → Type 0 =
    λ w. length (filter (is_at w.pair w.serial) (map (row_in h) (last_issues is))) ≤ 1 in
    let one : List SerialRow → Type 0 =
    λ l. length (filter (is_at (row_of (write_of issued row)).pair
    (row_of (write_of issued row)).serial) l) ≤ 1 in
    record {
      ranges = ranges_then ranges write (range_rows h) ∙ ap (with_range write) made.ranges
          ∙ subst step (sym found.1) (ranges_more h t e place found.0 r legal found.2 there) lies
          ∙ ap rows (sym more);
      serials = serials_then serials (write_of issued row) (serial_rows h)
          ∙ ap (with_serial (write_of issued row)) made.serials
          ∙ serials_more h is y issued fits.0 right (ap (λ (b : Bool). serial_row b y) late) never
          ∙ ap (λ (js : List Issuance). map (row_in h) (last_issues js)) (sym more);
      few = few_more serials (write_of issued row) (serial_rows h) made.few
          (subst one (sym made.serials) (subst at_one (sym (written issued row))
          (few_at h is y.id fits.0 right)));
    }

-- Without an issuance no row is written.
pub none_make : (h : List Entry) (e : Entry) → IssueWritesMake h e 0 [] []
none_make h e =
    let none : issues_of h ≡ issues_before 0 h e = sym (append-nil (issues_of h)) in
    record {
      ranges = ap (λ (is : List Issuance). map (λ r. range_row (pick_of is r) r) (ranges_of h))
          none;
      serials = ap (λ (is : List Issuance). map (row_in h) (last_issues is)) none;
      few = tt;
    }

-- A call that is no Grant and no Void writes the rows of its issuances.
pub all_make : (h : List Entry) (e : Entry) (place : ℕ) (ranges : List RangeWrite)
    (serials : List SerialWrite) → ((num : ℕ) → ¬ (e.outcome ≡ Granted num))
    → ¬ (e.outcome ≡ Voided)
    → slice_get (issues_at (1 + length h) e) place ≡ None → IssueWritesMake h e place ranges serials
    → MakesWrites h e ranges serials
all_make h e place ranges serials not_granted not_voided none made =
    let l : List Issuance = issues_at (1 + length h) e in
    let issues : issues_before place h e ≡ issues_of (h ++ e ∷ []) =
    ap (λ (js : List Issuance). issues_of h ++ js) (take_all place l (past_end l place none))
    ∙ sym (issues_from-push 1 h e) in
    let same : ranges_of h ≡ ranges_of (h ++ e ∷ []) =
    sym (same_ranges h e (none_made (1 + length (ranges_of h)) e.request.body e.outcome
    not_granted)) in
    let unvoided : (i : Issuance) → row_in h i ≡ row_in (h ++ e ∷ []) i =
    same_row_in h e (λ x. none_voided x e.request.body e.outcome not_voided) in
    record {
      ranges = same_rows _ _ (made.ranges
          ∙ ap₂ (λ (is : List Issuance) (rs : List Range). map (λ r. range_row (pick_of is r) r) rs)
          issues same);
      serials = same_rows _ _ (made.serials ∙ same_images (row_in h) (row_in (h ++ e ∷ [])) unvoided
          (last_issues (issues_before place h e))
          ∙ ap (λ (is : List Issuance). map (row_in (h ++ e ∷ [])) (last_issues is)) issues);
      few = made.few;
    }

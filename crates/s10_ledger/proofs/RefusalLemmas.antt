-- A database that is a ledger is not refused for its rows.
use Rattle.std.proofs.Common.{◌≡◌, ◌≢◌, ◌⊎◌, inl, inr, ℕ, ℤ, zero, suc, ◌+◌, ◌<◌, pos, List, []}
use Rattle.std.proofs.Common.{◌∷◌, length, map, get_or, take, Some, false, refl, sym, ap, subst}
use Rattle.std.proofs.Common.{◌∙◌, arith, int_cmp, Ordering, Less, Equal, Greater, is_lt, IsSorted}
use Rattle.std.specs.Prelude.{slice_get, All}
use Rattle.std.specs.Cmp.{IsTotalOrder}
use Rattle.std.specs.Ordering.{on, ordering_reverse}
use Rattle.std.specs.Coded.{Coded-set, coded_list}
use Rattle.std.specs.List.Sorted.{IsPermutation}
use Rattle.std.proofs.Math.Logic.{∥∥₁_elim, ∥∥₁_map, ∥∥₁_prop}
use Rattle.std.proofs.lemmas.Cmp.{int_cmp_total, on_total}
use Rattle.std.proofs.lemmas.List.{take-map, length-take-le}
use Rattle.std.proofs.lemmas.List.Elements.{All-head, All-tail}
use Rattle.std.proofs.lemmas.List.Sorted.{IsPermutation-map, IsPermutation-trans, IsPermutation-sym}
use Rattle.std.proofs.lemmas.Option.{none-some, same_Some, slice_get_within}
use Rattle.sqlite_value.specs.Order.{Row}
use Rattle.sqlite_trees.specs.Tree.{IsAscending}
use Rattle.sqlite_keyed.proofs.SortLemmas.{sorted_unique}
use Rattle.sqlite.specs.Effect.{Database}
use Rattle.s10_wire.specs.Datagrams.{Replies}
use Rattle.s10_history.specs.declared.entry.Entry.{Entry}
use Rattle.s10_history.specs.Settings.{Terms, AreTerms}
use Rattle.s10_book.specs.Rules.{IsLegal, MayFollow}
use Rattle.s10_rows.specs.declared.head_row.HeadRow.{HeadRow}
use Rattle.s10_rows.specs.declared.open_fault.OpenFault.{OpenFault}
use Rattle.s10_rows.specs.declared.open_fault.OpenFault.TheVariants.{NotALedger}
use Rattle.s10_rows.specs.declared.open_fault.OpenFault.TheVariants.{Schema as OtherSchema, Damaged}
use Rattle.s10_rows.specs.declared.open_fault.OpenFault.TheVariants.{NotEmpty, Memory, Store}
use Rattle.s10_rows.specs.contracts.head_row.HeadRow as head
use Rattle.s10_rows.specs.contracts.call_row.CallRow as call
use Rattle.s10_rows.specs.CallRow.{StoredCall}
use Rattle.s10_rows.specs.Tables.{Tables, HaveSameRows, tables_of, head_row, call_row}
use Rattle.s10_rows.specs.Tables.{call_rows_from, call_rows, range_rows, serial_rows, closed_rows}
use Rattle.s10_replay.specs.RightRows.{IsRightRow, AreRight, kept_of, entry_of}
use Rattle.s10_rows.specs.Selected.{IsCall}
use Rattle.s10_statements.specs.Shown.{shown_head, shown_call, shown_range, shown_serial}
use Rattle.s10_statements.specs.Shown.{shown_closed, head_from, call_from, range_from, serial_from}
use Rattle.s10_statements.specs.Shown.{closed_from}
use Rattle.s10_replay.specs.CheckedTables.{IsHead, IsFirstWrong, AreDerived, IsRefusal}
use Rattle.s10_ledger.specs.Refusals.{HasRows, IsRefusedFor, IsOpeningRefusal}
use Rattle.s10_ledger.specs.Ledger.{IsAnyLedger, history_in}
use Rattle.s10_ledger.specs.declared.opening.table_layout.TableLayout.{TableLayout}
use Rattle.s10_ledger.specs.declared.opening.table_layout.TableLayout.TheVariants.{Whole, Old}
use Rattle.s10_ledger.specs.TableLayout.{HasTableLayout}
use Rattle.s10_ledger.proofs.Forms.{AreShown, four_lack, form_declared, form_shown}
use Rattle.s10_replay.proofs.SameRows.{one_row}
use Rattle.s10_rows.proofs.Replaced.{same_rows}
use Rattle.s10_replay.proofs.Calls.{entry_of-call_row, row_replies}
use Rattle.s10_ledger.proofs.Rising.{call_rows_rise}
use Rattle.sqlite_keyed.proofs.ListLemmas.{map_back}

-- Rows that SQL shows the same way are the same.
same_typed : {X : Type 0} (shown : X → Row) (read : Row → X) → ((x : X) → read (shown x) ≡ x)
    → (xs ys : List X) (vs : List Row) → HaveSameRows (map shown xs) vs
    → HaveSameRows (map shown ys) vs
    → HaveSameRows xs ys
same_typed shown read back xs ys vs p q =
    ∥∥₁_elim p ∥∥₁_prop (λ a. ∥∥₁_map q (λ b.
    let both : IsPermutation (map shown xs) (map shown ys) =
    IsPermutation-trans _ _ _ a (IsPermutation-sym _ _ b) in
    rw (map_back shown read back xs, map_back shown read back ys) at (IsPermutation-map read _ _ both)))

-- Rows in order of arrival.

abbrev by_arrival : StoredCall → StoredCall → Ordering
by_arrival = on (λ (c : StoredCall). c.arrival) int_cmp

by_arrival_total : IsTotalOrder by_arrival
by_arrival_total = on_total (λ (c : StoredCall). c.arrival) int_cmp_total

reversed : (o : Ordering) → o ≢ Greater → is_lt (ordering_reverse o) ≡ false
reversed Less h = refl
reversed Equal h = refl
reversed Greater h = absurd (h refl)

sorted_from : (xs : List StoredCall) → IsAscending (λ a b. int_cmp a.arrival b.arrival ≢ Greater) xs
    → (k : ℕ) (d : StoredCall) → suc k < length xs
    → is_lt (by_arrival (get_or xs (suc k) d) (get_or xs k d)) ≡ false
sorted_from [] up k d lt = absurd (omega arith)
sorted_from (x ∷ []) up k d lt = absurd (omega arith)
sorted_from (x ∷ y ∷ xs) up zero d lt = ap is_lt (by_arrival_total.antisymm y x)
    ∙ reversed (by_arrival x y) up.0.0
sorted_from (x ∷ y ∷ xs) up (suc k) d lt = sorted_from (y ∷ xs) up.1 k d (omega arith)

is_sorted : (xs : List StoredCall) → IsAscending (λ a b. int_cmp a.arrival b.arrival ≢ Greater) xs
    → IsSorted by_arrival xs
is_sorted xs up k d low lt = rw Rattle.std.proofs.Common.add-one
    (sorted_from xs up k d (omega arith))

-- The rows of a legal history are right.

kept_again : (n : ℕ) (h : List Entry) → All IsCall h → kept_of (call_rows_from n h) ≡ h
kept_again n [] calls = refl
kept_again n (e ∷ es) calls =
    ap (λ d. d ∷ kept_of (call_rows_from (n + 1) es))
    (entry_of-call_row n e (All-head IsCall e es calls))
    ∙ ap (λ l. e ∷ l) (kept_again (n + 1) es (All-tail IsCall e es calls))

row_at : (n : ℕ) (h : List Entry) (k : ℕ) (row : StoredCall) → All IsCall h
    → slice_get (call_rows_from n h) k ≡ Some row
    → (e : Entry) × (slice_get h k ≡ Some e) × IsCall e × (row ≡ call_row (n + k) e)
row_at n [] k row calls is = absurd (none-some row is)
row_at n (e ∷ es) zero row calls is = (
  e,
  refl,
  All-head IsCall e es calls,
  sym (same_Some _ _ is)
      ∙ ap (λ m. call_row m e) (omega arith),
)
row_at n (e ∷ es) (suc k) row calls is =
    let more = row_at (n + 1) es k row (All-tail IsCall e es calls) is in
    (more.0, more.1, more.2, more.3 ∙ ap (λ m. call_row m more.0) (omega arith))

right_call : (t : Terms) (before : List Entry) (n : ℕ) (e : Entry) → IsCall e
    → n ≡ length before + 1 → MayFollow before t e → IsRightRow t before (call_row n e)
right_call t before n e call is follows =
    let back : e ≡ entry_of (call_row n e) = sym (entry_of-call_row n e call) in
    record {
      arrival = ap pos is;
      replies = subst (λ (d : Entry). Replies (call_row n e).reply d.request d.outcome) back
          (row_replies (call_row n e) n e call refl);
      customer = ap (λ (d : Entry). pos d.request.customer) back;
      number = ap (λ (d : Entry). pos d.request.number) back;
      day = refl;
      day_fits = call.day;
      follows = subst (MayFollow before t) back follows;
    }

rows_right : (t : Terms) (h : List Entry) → IsLegal h t → All IsCall h → AreRight t (call_rows h)
rows_right t h legal calls k row is =
    let e = row_at 1 h k row calls is in
    let before : kept_of (take k (call_rows h)) ≡ take k h = sym (take-map entry_of k (call_rows h))
    ∙ ap (take k) (kept_again 1 h calls) in
    let within : k < length h = slice_get_within h k e.0 e.1 in
    let long : length (take k h) ≡ k = length-take-le k h (omega arith) in
    rw (before, e.3) (right_call t (take k h) (1 + k) e.0 e.2 (omega arith)
    (legal.follow k e.0 e.1))

-- Settings.

head_of : (d : HeadRow) (a b : HeadRow) → a ∷ [] ≡ b ∷ [] → a ≡ b
head_of d a b e = ap (λ l. get_or l 0 d) e

same_number : (m n : ℕ) → pos m ≡ pos n → m ≡ n
same_number m n e = cc

same_settings : (t u : Terms) (n : ℤ) → head_row t ≡ record (head_row u) { schema = n } → (t ≡ u)
    × (pos 1 ≡ n)
same_settings t u n e =
    let a : t.interval ≡ u.interval = same_number _ _ (ap (λ (r : HeadRow). r.interval) e) in
    let b : t.limit ≡ u.limit = same_number _ _ (ap (λ (r : HeadRow). r.cap) e) in
    (λ i. record { interval = a i; limit = b i }, ap (λ (r : HeadRow). r.schema) e)

-- The rows of closed are the same in either layout.
closed_same : (f g : TableLayout) (db : Database) (a b : Tables) → HasTableLayout f db a
    → HasTableLayout g db b → HaveSameRows a.closed b.closed
closed_same Whole Whole db a b first second = same_typed shown_closed closed_from (λ r. refl)
    a.closed b.closed _ first.closed second.closed
closed_same Old Old db a b first second =
    same_rows a.closed b.closed (first.closed ∙ sym second.closed)
closed_same Whole Old db a b first second = absurd (four_lack db.schema second.schema first.schema)
closed_same Old Whole db a b first second = absurd (four_lack db.schema first.schema second.schema)

module _ (form : TableLayout) (db : Database) (h : List Entry) (t : Terms) (limits : AreTerms t)
    (legal : IsLegal h t) (calls : All IsCall h)
    (stands : HasTableLayout form db (tables_of h t)) where
  own : AreShown db (tables_of h t)
  own = form_shown form db (tables_of h t) stands

  module _ (tables : Tables) (rows : HasRows db tables) where
    theirs : AreShown db tables
    theirs = form_shown rows.form db tables rows.has

    heads_are : tables.heads ≡ head_row t ∷ []
    heads_are = one_row head.the_row.coded (head_row t) tables.heads
        (same_typed shown_head head_from (λ r. refl) (head_row t ∷ []) tables.heads _ own.heads
        theirs.heads)

    calls_are : tables.calls ≡ call_rows h
    calls_are =
        ∥∥₁_elim (same_typed shown_call call_from (λ c. refl) (call_rows h) tables.calls _ own.calls
        theirs.calls) (Coded-set (coded_list call.the_row.coded) _ _)
        (λ p. sorted_unique by_arrival by_arrival_total (call_rows h) tables.calls
        (call_rows_rise h) p (is_sorted tables.calls rows.in_order))

    kept_is : h ≡ kept_of tables.calls
    kept_is = sym (ap kept_of calls_are ∙ kept_again 1 h calls)

    are_right : AreRight t tables.calls
    are_right = subst (AreRight t) (sym calls_are) (rows_right t h legal calls)

    are_made : AreDerived tables
    are_made = record {
      ranges = subst (λ g. HaveSameRows (range_rows g) tables.ranges) kept_is
          (same_typed shown_range range_from (λ r. refl) (range_rows h) tables.ranges _ own.ranges
          theirs.ranges);
      serials = subst (λ g. HaveSameRows (serial_rows g) tables.serials) kept_is
          (same_typed shown_serial serial_from (λ r. refl) (serial_rows h) tables.serials _
          own.serials theirs.serials);
      closed = subst (λ g. HaveSameRows (closed_rows g) tables.closed) kept_is
          (closed_same form rows.form db (tables_of h t) tables stands rows.has);
    }

    is_head : IsHead tables.heads (pos 1) t
    is_head = record { row = heads_are; in_limits = limits }

    head_is : (n : ℤ) (u : Terms) → IsHead tables.heads n u → (t ≡ u) × (pos 1 ≡ n)
    head_is n u other = same_settings t u n (head_of (head_row t) _ _ (sym heads_are ∙ other.row))

    wrong_call : (u : Terms) (k : ℕ) → t ≡ u → ¬ (IsFirstWrong u tables.calls k)
    wrong_call u k same first =
        first.wrong (subst (λ v. IsRightRow v (kept_of (take k tables.calls)) first.row) same
        (are_right k first.row first.there))

    not_refused : (fault : OpenFault) → IsRefusal tables fault → (fault ≡ Memory) ⊎ (fault ≡ Store)
    not_refused NotALedger refusal = absurd (refusal (pos 1) t is_head)
    not_refused (OtherSchema n) refusal = absurd (refusal.2 (sym (head_is n refusal.0 refusal.1).1))
    not_refused (Damaged zero) refusal = absurd (refusal.3 are_made)
    not_refused (Damaged (suc k)) refusal =
        absurd (wrong_call refusal.0 k (head_is (pos 1) refusal.0 refusal.1).0 refusal.2)
    not_refused NotEmpty refusal = absurd refusal
    not_refused Memory refusal = inl refl
    not_refused Store refusal = inr refl

  passes : (fault : OpenFault) → IsRefusedFor db fault → (fault ≡ Memory) ⊎ (fault ≡ Store)
  passes fault it = not_refused it.tables it.rows fault it.refusal

  opens : (fault : OpenFault) → IsOpeningRefusal db fault → (fault ≡ Memory) ⊎ (fault ≡ Store)
  opens NotALedger (inl other) = absurd (other (form, form_declared form db (tables_of h t) stands))
  opens NotALedger (inr it) = passes NotALedger it
  opens (OtherSchema n) it = passes (OtherSchema n) it
  opens (Damaged k) it = passes (Damaged k) it
  opens NotEmpty it = absurd it
  opens Memory it = inl refl
  opens Store it = inr refl

neither : {A B : Type 0} → ¬ A → ¬ B → A ⊎ B → ⊥
neither a b (inl x) = a x
neither a b (inr y) = b y

module _ (db : Database) (t : Terms) (limits : AreTerms t) (legal : IsLegal (history_in db) t)
    (held : ∥ ((form : TableLayout) × All IsCall (history_in db)
    × HasTableLayout form db (tables_of (history_in db) t)) ∥₁) where
  never : (fault : OpenFault) → fault ≢ Memory → fault ≢ Store → IsOpeningRefusal db fault → ⊥
  never fault memory store refusal =
      ∥∥₁_elim held (λ x y. absurd x)
      (λ it. neither memory store (opens it.0 db (history_in db) t limits legal it.1 it.2 fault
      refusal))

  held_opens : (fault : OpenFault) → IsOpeningRefusal db fault → (fault ≡ Memory) ⊎ (fault ≡ Store)
  held_opens NotALedger refusal =
      absurd (never NotALedger (λ (e : NotALedger ≡ Memory). cc) (λ (e : NotALedger ≡ Store). cc)
      refusal)
  held_opens (OtherSchema n) refusal =
      absurd (never (OtherSchema n) (λ (e : OtherSchema n ≡ Memory). cc)
      (λ (e : OtherSchema n ≡ Store). cc) refusal)
  held_opens (Damaged k) refusal =
      absurd (never (Damaged k) (λ (e : Damaged k ≡ Memory). cc) (λ (e : Damaged k ≡ Store). cc)
      refusal)
  held_opens NotEmpty refusal = absurd refusal
  held_opens Memory refusal = inl refl
  held_opens Store refusal = inr refl

-- A ledger, of this build or of an earlier one, is refused only for lack of memory or a fault of
-- the store.
pub ledger_opens : (db : Database) (t : Terms) (len day : ℕ) → AreTerms t → IsAnyLedger db t len day
    → (fault : OpenFault) → IsOpeningRefusal db fault → (fault ≡ Memory) ⊎ (fault ≡ Store)
ledger_opens db t len day limits (inl it) =
    held_opens db t limits it.legal (∥∥₁_map it.held (λ h. (Whole, h.calls, h.tables)))
ledger_opens db t len day limits (inr it) =
    held_opens db t limits it.legal (∥∥₁_map it.held (λ h. (Old, h.calls, h.tables)))

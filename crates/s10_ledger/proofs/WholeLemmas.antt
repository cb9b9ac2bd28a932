-- Consistent rows stand for the history that they keep.
use Rattle.std.proofs.Common.{◌≡◌, ℕ, zero, suc, ◌+◌, ◌≤◌, List, [], ◌∷◌, ◌++◌, length, map}
use Rattle.std.proofs.Common.{get_or, take, Some, refl, sym, ap, subst, ◌∙◌}
use Rattle.std.proofs.Common.{inr, arith}
use Rattle.std.specs.Prelude.{slice_get, All}
use Rattle.std.proofs.Math.Logic.{∥∥₁_elim, ∥∥₁_map, ∥∥₁_prop}
use Rattle.std.proofs.lemmas.List.{take_more, take_all, map-append}
use Rattle.std.proofs.lemmas.List.Sorted.{IsPermutation-map, IsPermutation-trans}
use Rattle.sqlite_value.specs.Order.{Row}
use Rattle.sqlite.specs.Effect.{Database}
use Rattle.s10_history.specs.declared.entry.Entry.{Entry}
use Rattle.s10_history.specs.Settings.{Terms}
use Rattle.s10_history.specs.History.{day_of}
use Rattle.s10_book.specs.Rules.{IsLegal}
use Rattle.s10_book.proofs.Push.{IsLegal-push, IsLegal-nil}
use Rattle.s10_rows.specs.declared.open_fault.OpenFault.{OpenFault}
use Rattle.s10_rows.specs.declared.open_fault.OpenFault.TheVariants.{NotALedger}
use Rattle.s10_rows.specs.declared.open_fault.OpenFault.TheVariants.{Schema as OtherSchema, Damaged}
use Rattle.s10_rows.specs.declared.open_fault.OpenFault.TheVariants.{NotEmpty, Memory, Store}
use Rattle.s10_rows.specs.CallRow.{StoredCall}
use Rattle.s10_wire.specs.Replies.{reply_bytes}
use Rattle.s10_rows.specs.Tables.{Tables, HaveSameRows, call_row, call_rows_from, call_rows}
use Rattle.s10_replay.specs.RightRows.{IsRightRow, AreRight, kept_of, entry_of}
use Rattle.s10_rows.specs.Selected.{IsCall}
use Rattle.s10_statements.specs.Shown.{HasTables, StandsFor, shown_head, shown_range, shown_serial}
use Rattle.s10_statements.specs.Shown.{shown_closed, head_columns}
use Rattle.s10_replay.specs.CheckedTables.{IsConsistent, IsRefusal}
use Rattle.s10_ledger.specs.declared.opening.table_layout.TableLayout.{TableLayout}
use Rattle.s10_ledger.specs.declared.opening.table_layout.TableLayout.TheVariants.{Whole, Old}
use Rattle.s10_ledger.specs.TableLayout.{HasTableLayout}
use Rattle.s10_ledger.specs.Refusals.{HasRows, IsOpeningRefusal}
use Rattle.s10_ledger.specs.Ledger.{IsLedger, history_in}
use Rattle.s10_ledger.proofs.HistoryLemmas.{history_is, calls_history}
use Rattle.s10_replay.proofs.Replayed.{kept_length}
use Rattle.s10_replay.proofs.Compared.{right_calls}
use Rattle.std.proofs.lemmas.Option.{slice_get-get_or, slice_get_within}

-- A right row is that of the call that it stands for.
pub right_row : (t : Terms) (before : List Entry) (row : StoredCall) → IsRightRow t before row
    → row ≡ call_row (length before + 1) (entry_of row)
unfolding reply_bytes
right_row t before row right =
    let a = right.arrival in let b = right.customer in let d = right.number in let e = right.day in
    let r = right.replies.3 in
    λ i. record { arrival = a i; customer = b i; number = d i; day = e i; reply = r i }

rows_from : (n : ℕ) (rows : List StoredCall)
    → ((k : ℕ) (row : StoredCall) → slice_get rows k ≡ Some row
    → row ≡ call_row (n + k) (entry_of row)) → call_rows_from n (kept_of rows) ≡ rows
rows_from n [] each = refl
rows_from n (row ∷ rows) each =
    let here : row ≡ call_row n (entry_of row) = each 0 row refl
    ∙ ap (λ m. call_row m (entry_of row)) (omega arith) in
    let more : call_rows_from (n + 1) (kept_of rows) ≡ rows =
    rows_from (n + 1) rows (λ k r is. each (suc k) r is ∙ ap (λ m. call_row m (entry_of r))
    (omega arith)) in
    ap (λ r. r ∷ call_rows_from (n + 1) (kept_of rows)) (sym here) ∙ ap (λ l. row ∷ l) more

-- Right rows are those of the calls that they keep.
pub right_rows : (t : Terms) (rows : List StoredCall) → AreRight t rows → call_rows (kept_of rows)
    ≡ rows
right_rows t rows right = rows_from 1 rows (λ k row is.
    let before : length (kept_of (take k rows)) + 1 ≡ 1 + k =
    omega (arith, kept_length rows k (slice_get_within rows k row is)) in
    right_row t (kept_of (take k rows)) row (right k row is) ∙ ap (λ n. call_row n (entry_of row))
    before)

legal_to : (t : Terms) (rows : List StoredCall) → AreRight t rows → (some : StoredCall) → (n : ℕ)
    → n ≤ length rows → IsLegal (kept_of (take n rows)) t
legal_to t rows right some zero few = IsLegal-nil t
legal_to t rows right some (suc n) few =
    let row : StoredCall = get_or rows n some in
    let up : suc n ≡ n + 1 = omega arith in
    let more : take (suc n) rows ≡ take n rows ++ row ∷ [] = ap (λ m. take m rows) up
    ∙ take_more rows n some (omega arith) in
    let one_more : kept_of (take (suc n) rows) ≡ kept_of (take n rows) ++ entry_of row ∷ [] =
    ap kept_of more ∙ map-append entry_of (take n rows) (row ∷ []) in
    subst (λ h. IsLegal h t) (sym one_more)
    (IsLegal-push (kept_of (take n rows)) t (entry_of row)
    (legal_to t rows right some n (omega arith))
    (right n row (slice_get-get_or rows n some (omega arith))).follows)

-- The calls of right rows are a legal history.
pub right_legal : (t : Terms) (rows : List StoredCall) → AreRight t rows → IsLegal (kept_of rows) t
right_legal t [] right = IsLegal-nil t
right_legal t (row ∷ rows) right =
    let all : List StoredCall = row ∷ rows in
    subst (λ l. IsLegal (kept_of l) t) (take_all (length all) all (omega arith))
    (legal_to t all right row (length all) (omega arith))

-- The same rows are the same as SQL shows them.
pub shown_again : {X : Type 0} (shown : X → Row) (xs ys : List X) (vs : List Row)
    → HaveSameRows xs ys → HaveSameRows (map shown ys) vs → HaveSameRows (map shown xs) vs
shown_again shown xs ys vs same has =
    ∥∥₁_elim same ∥∥₁_prop
    (λ p. ∥∥₁_map has (λ q. IsPermutation-trans _ _ _ (IsPermutation-map shown xs ys p) q))

module _ (db : Database) (tables : Tables) (t : Terms) (has : HasTables db tables)
    (whole : IsConsistent tables t) where
  abbrev pub kept : List Entry
  kept = kept_of tables.calls

  stands : StandsFor db kept t
  stands = record {
    schema = has.schema;
    heads = subst (λ l. HaveSameRows (map shown_head l) (map head_columns (db.trees 0)))
        whole.head.row has.heads;
    calls = rw (right_rows t tables.calls whole.right) has.calls;
    ranges = shown_again shown_range _ tables.ranges _ whole.made.ranges has.ranges;
    serials = shown_again shown_serial _ tables.serials _ whole.made.serials has.serials;
    numbered = has.numbered;
    closed = shown_again shown_closed _ tables.closed _ whole.made.closed has.closed;
  }

  are_calls : All IsCall kept
  are_calls = right_calls t tables.calls whole.right

  legal : IsLegal kept t
  legal = right_legal t tables.calls whole.right

  pub history : history_in db ≡ kept
  history = history_is db kept t are_calls stands

  -- A database whose rows are consistent is a ledger.
  pub whole_ledger : IsLedger db t (length kept) (day_of kept)
  whole_ledger = record {
    legal = rw history legal;
    held = ∣ record {
      tables = rw history stands;
      calls = rw history are_calls;
      len_is = sym (ap length history);
      day_is = sym (ap day_of history);
    } ∣₁;
  }

-- The history is that of the rows, also in the tables of an earlier build.
pub found_history : (form : TableLayout) (db : Database) (tables : Tables) (t : Terms)
    → HasTableLayout form db tables → IsConsistent tables t → history_in db ≡ kept_of tables.calls
found_history Whole db tables t has whole = history db tables t has whole
found_history Old db tables t has whole =
    calls_history db (kept_of tables.calls) (right_calls t tables.calls whole.right)
    (rw (right_rows t tables.calls whole.right) has.calls)

-- A database is refused for what its rows are refused for.
pub refused_for : (db : Database) (tables : Tables) → HasRows db tables → (fault : OpenFault)
    → IsRefusal tables fault → IsOpeningRefusal db fault
refused_for db tables rows NotALedger refusal =
    inr (record { tables = tables; rows = rows; refusal = refusal })
refused_for db tables rows (OtherSchema n) refusal = record {
  tables = tables;
  rows = rows;
  refusal = refusal;
}
refused_for db tables rows (Damaged k) refusal = record {
  tables = tables;
  rows = rows;
  refusal = refusal;
}
refused_for db tables rows NotEmpty refusal = refusal
refused_for db tables rows Memory refusal = tt
refused_for db tables rows Store refusal = tt

-- What is found of the tables, once they are completed.
use Rattle.std.proofs.Common.{◌≡◌, ◌⊎◌, inl, inr, IsTrue, List, [], ◌∷◌, map, length, refl, sym}
use Rattle.std.proofs.Common.{ap, subst, ◌∙◌, arith}
use Rattle.sqlite_trees.specs.Tree.{Trees}
use Rattle.sqlite_trees.specs.declared.store.Store.{Ghosts}
use Rattle.sqlite.specs.Effect.{Database}
use Rattle.sqlite.specs.State.{HasCleanDisk}
use Rattle.sqlite.specs.Held.{Held, state}
use Rattle.s10_history.specs.declared.entry.Entry.{Entry}
use Rattle.s10_history.specs.History.{day_of}
use Rattle.s10_history.specs.Settings.{Terms}
use Rattle.s10_index.specs.declared.call_index.CallIndex.{CallIndex}
use Rattle.s10_index.specs.declared.indexed_book.IndexedBook.{IndexedBook}
use Rattle.s10_index.specs.CallIndex.{Indexes}
use Rattle.s10_rows.specs.declared.open_fault.OpenFault.{OpenFault}
use Rattle.s10_rows.specs.declared.open_fault.OpenFault.TheVariants.{Memory, Store}
use Rattle.s10_rows.specs.Tables.{Tables, HaveSameRows, tables_of}
use Rattle.s10_replay.specs.RightRows.{kept_of}
use Rattle.s10_replay.specs.CheckedTables.{IsConsistent}
use Rattle.s10_replay.proofs.SameRows.{same_length}
use Rattle.s10_replay.proofs.Compared.{right_calls}
use Rattle.s10_schema.specs.Schema.{IsClosedSchema, ledger_schema, four_tables}
use Rattle.s10_statements.specs.ConnectionState.{IsQuiescent, StaysUnclean, WasSound}
use Rattle.s10_statements.specs.ConnectionState.{AddsNoCrashState}
use Rattle.s10_statements.proofs.CrashLemmas.{either}
use Rattle.s10_statements.specs.Shown.{HasTables, HasOldTables, shown_head, shown_range}
use Rattle.s10_statements.specs.Shown.{shown_serial, head_columns}
use Rattle.s10_statements.specs.Statements.{LeavesTables}
use Rattle.s10_ledger.specs.declared.opening.table_layout.TableLayout.{TableLayout}
use Rattle.s10_ledger.specs.declared.opening.table_layout.TableLayout.TheVariants.{Whole, Old}
use Rattle.s10_ledger.specs.TableLayout.{IsOfTableLayout, HasTableLayout}
use Rattle.s10_ledger.specs.Ledger.{IsLedger, IsOldLedger, IsAnyLedger, history_in}
use Rattle.s10_ledger.specs.Ledger.{IsCompletedIn, MayComplete}
use Rattle.s10_ledger.proofs.BookLemmas.{closed_is}
use Rattle.s10_ledger.proofs.HistoryLemmas.{history_is}
use Rattle.std.proofs.Math.Logic.{∥∥₁_elim, ∥∥₁_map}
use Rattle.std.specs.Coded.{coded_list}
use base.Stored.{Coded-set}
use Rattle.s10_history.specs.contracts.entry.Entry as entry
use Rattle.s10_book.specs.Rules.{IsLegal}
use Rattle.s10_ledger.specs.Refusals.{IsOpeningRefusal}
use Rattle.s10_ledger.specs.AllRows.{IsFound}
use Rattle.s10_ledger.proofs.Forms.{form_ledger, four_lack}
use Rattle.s10_ledger.proofs.WholeLemmas.{history, whole_ledger, found_history, right_rows}
use Rattle.s10_ledger.proofs.WholeLemmas.{right_legal, shown_again}

-- A disk that is clean was clean before, and a connection that is open was open before.
pub sound_before : {S : Type 0} (g : Ghosts S) (old new : Held S) → StaysUnclean g old new
    → (HasCleanDisk (state g new) → IsTrue (state g new).is_open → IsTrue (state g old).is_open)
    → WasSound g old new
sound_before g old new stays was_open clean = (omega (arith, stays, clean), was_open clean)

-- The tables are read, and then completed.
module _ {S : Type 0} (g : Ghosts S) (old read new : Held S) (form : TableLayout)
    (declared : IsOfTableLayout form (state g old).now.schema) (settled : IsQuiescent g old)
    (leaves : LeavesTables g old read) (sound : WasSound g read new) where
  pub was_sound : WasSound g old new
  was_sound clean = let s = sound clean in
      (omega (arith, leaves.clean, s.0), λ opened. leaves.was_open s.0 (s.1 opened))

  pub as_read : HasCleanDisk (state g new) → IsTrue (state g new).is_open → (state g read).now
      ≡ (state g old).now
  as_read clean opened = let s = sound clean in
      leaves.now s.0 (s.1 opened) settled (form_ledger form (state g old).now.schema declared)

-- A database with all five tables stays as it was.
pub as_it_was : (form : TableLayout) (old read new : Database) → IsOfTableLayout form old.schema
    → read ≡ old → (form ≡ Whole → new ≡ read) → IsClosedSchema old.schema → new ≡ old
as_it_was Whole old read new declared was same closed = same refl ∙ was
as_it_was Old old read new declared was same closed = absurd (four_lack old.schema declared closed)

-- What was found of the tables is true of the completed ones.
module _ (form : TableLayout) (old read new : Database) (book : IndexedBook)
    (it : IsFound form old book) (was : read ≡ old) (whole : (tables : Tables)
    → HasTableLayout form read tables → HasTables new tables) where
  completed : HasTables new it.tables
  completed = whole it.tables (subst (λ (d : Database). HasTableLayout form d it.tables) (sym was)
      it.has)

  pub same_history : history_in new ≡ history_in old
  same_history = history new it.tables book.settings completed it.whole
      ∙ sym (found_history form old it.tables book.settings it.has it.whole)

  pub completed_ledger : IsLedger new book.settings (length book.index.entries.items)
      (day_of book.index.entries.items)
  completed_ledger = subst (λ h. IsLedger new book.settings (length h) (day_of h)) (sym it.kept)
      (whole_ledger new it.tables book.settings completed it.whole)

  pub completed_index : Indexes book.index (history_in new)
  completed_index = subst (λ (h : List Entry). Indexes book.index h)
      (it.kept ∙ sym (history new it.tables book.settings completed it.whole)) book.indexed

no_rows_left : {X : Type 0} (xs ys : List X) → HaveSameRows xs ys → ys ≡ [] → xs ≡ []
no_rows_left [] ys same none = refl
no_rows_left (x ∷ xs) ys same none =
    absurd (omega (arith, same_length (x ∷ xs) ys same, ap length none))

-- Tables of an earlier build whose rows are consistent are a ledger of that build.
old_ledger : (db : Database) (tables : Tables) (t : Terms) → HasOldTables db tables
    → IsConsistent tables t → IsOldLedger db t (length (kept_of tables.calls))
    (day_of (kept_of tables.calls))
old_ledger db tables t has whole =
    let kept : List Entry = kept_of tables.calls in
    let is : history_in db ≡ kept = found_history Old db tables t has whole in
    let stands : HasOldTables db (tables_of kept t) = record {
      schema = has.schema;
      heads = subst (λ l. HaveSameRows (map shown_head l) (map head_columns (db.trees 0)))
          whole.head.row has.heads;
      calls = rw (right_rows t tables.calls whole.right) has.calls;
      ranges = shown_again shown_range _ tables.ranges _ whole.made.ranges has.ranges;
      serials = shown_again shown_serial _ tables.serials _ whole.made.serials has.serials;
      numbered = has.numbered;
      closed = no_rows_left _ tables.closed whole.made.closed has.closed;
    } in
    record {
      legal = rw is (right_legal t tables.calls whole.right);
      held = ∣ record {
        tables = rw is stands;
        calls = rw is (right_calls t tables.calls whole.right);
        len_is = sym (ap length is);
        day_is = sym (ap day_of is);
      } ∣₁;
    }

-- What was found is a ledger, of this build or of an earlier one.
pub found_ledger : (form : TableLayout) (db : Database) (book : IndexedBook)
    → IsFound form db book → IsAnyLedger db book.settings (length book.index.entries.items)
    (day_of book.index.entries.items)
found_ledger form db book it = subst (λ h. IsAnyLedger db book.settings (length h) (day_of h))
    (sym it.kept) (any form it.has)
  where
    any : (form : TableLayout) → HasTableLayout form db it.tables
        → IsAnyLedger db book.settings (length (kept_of it.tables.calls))
        (day_of (kept_of it.tables.calls))
    any Whole has = inl (whole_ledger db it.tables book.settings has it.whole)
    any Old has = inr (old_ledger db it.tables book.settings has it.whole)

-- What is true of the settings and the calls of a book is true of those that it returns.
pub returned_same : (P : Terms → List Entry → Type 0) (book : IndexedBook) (t : Terms)
    (index : CallIndex) → t ≡ book.settings → Indexes index book.index.entries.items
    → P book.settings book.index.entries.items → P t index.entries.items
returned_same P book t index same is holds = subst (λ (u : Terms). P u index.entries.items) (sym same)
    (subst (λ (h : List Entry). P book.settings h) (sym is.calls) holds)

-- Lack of memory and a fault of the store are refusals of any database.
pub refused_by_store : (db : Database) (fault : OpenFault) → (fault ≡ Memory) ⊎ (fault ≡ Store)
    → IsOpeningRefusal db fault
refused_by_store db fault (inl is) = subst (λ (f : OpenFault). IsOpeningRefusal db f) (sym is) tt
refused_by_store db fault (inr is) = subst (λ (f : OpenFault). IsOpeningRefusal db f) (sym is) tt

-- The five tables have the ledger that the four had.
completed_in : (was : Database) (db : Trees) → was.schema ≡ four_tables
    → ((tables : Tables) → HasOldTables was tables
    → HasTables (record { schema = ledger_schema; trees = db }) tables) → IsCompletedIn was db
completed_in was db four made t len day (inl now) =
    absurd (four_lack was.schema four (closed_is was t len day now))
completed_in was db four made t len day (inr old) =
    let new : Database = record { schema = ledger_schema; trees = db } in
    let same : history_in new ≡ history_in was =
    ∥∥₁_elim old.held (Coded-set (coded_list entry.the_row.coded) _ _)
    (λ h. history_is new (history_in was) t h.calls (made (tables_of (history_in was) t) h.tables))
    in (
      same,
      record {
        legal = subst (λ (h : List Entry). IsLegal h t) (sym same) old.legal;
        held = ∥∥₁_map old.held (λ h. record {
          tables = rw same (made (tables_of (history_in was) t) h.tables);
          calls = rw same h.calls;
          len_is = h.len_is ∙ ap length (sym same);
          day_is = h.day_is ∙ ap day_of (sym same);
        });
      },
    )

-- What an opening finds after a stop.
pub completes : {S : Type 0} (g : Ghosts S) (old read new : Held S) (form : TableLayout)
    → IsOfTableLayout form (state g old).now.schema → IsQuiescent g old → LeavesTables g old read
    → AddsNoCrashState g old read → WasSound g read new
    → (HasCleanDisk (state g new) → (db : Trees) → (state g new).may_leave db
    → (state g read).may_leave db ⊎ ((form ≡ Old) × IsTrue (state g read).is_open
    × ((tables : Tables) → HasOldTables (state g read).now tables
    → HasTables (record { schema = ledger_schema; trees = db }) tables)))
    → MayComplete g old new
completes g old read new form declared settled leaves spares sound crash clean db left =
    let was = (sound clean).0 in
    let has = form_ledger form (state g old).now.schema declared in
    either (crash clean db left) (λ before. spares was has db before)
    (λ made. completed_in (state g old).now db
    (subst (λ (f : TableLayout). IsOfTableLayout f (state g old).now.schema) made.0 declared)
    (λ tables held. made.2 tables (subst (λ (d : Database). HasOldTables d tables)
    (sym (leaves.now was made.1 settled has)) held)))

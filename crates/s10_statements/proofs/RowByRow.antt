-- What reading rows one at a time leaves, and which rows it gives.
use Rattle.std.proofs.Common.{◌≡◌, ◌≤◌, ◌⊎◌, inl, inr, IfOk, IfErr, OnErr, map, List, []}
use Rattle.std.proofs.Common.{◌∷◌, ◌++◌, ℕ, Some, None, Ok, Err, Result, IsTrue, false, sym, subst}
use Rattle.std.proofs.Common.{◌∙◌, arith, ap₂, refl}
use Rattle.sqlite_value.specs.Order.{Row, column}
use Rattle.sqlite_trees.specs.View.{doubt, is_int}
use Rattle.sqlite_trees.specs.declared.store.Store.{Ghosts}
use Rattle.sqlite_schema.specs.declared.schema.Schema.{Schema}
use Rattle.sqlite.specs.declared.error.Error.{Error}
use Rattle.sqlite.specs.Clock.{timed}
use Rattle.sqlite.specs.Effect.{Database}
use Rattle.sqlite.specs.Given.{IsPlain, HasGiven, HasBegun, Advances}
use Rattle.sqlite.specs.Held.{Held, state}
use Rattle.sqlite.specs.Listing.{understood, reads_listing, IsSourceOf}
use Rattle.sqlite.specs.State.{State, HasCleanDisk, Shown, ShowsRows, IsUnchanged, IsRolledBack}
use Rattle.sqlite.specs.State.{Fails, FailsToQuery, Survives, CommitsShowing}
use Rattle.sqlite.proofs.Callers.{begun_plain, unchanged_then}
use Rattle.s10_schema.specs.Schema.{IsLedgerSchema, with_others, others_in}
use Rattle.s10_statements.specs.ConnectionState.{IsQuiescent, AddsNoCrashStateWhere}
use Rattle.s10_statements.specs.Statements.{LeavesTablesWhere}
use Rattle.s10_statements.proofs.StateLemmas.{read_open, read_same, read_settled, leaves_then}
use Rattle.s10_statements.proofs.CrashLemmas.{commits_none, first, spared}
use Rattle.std.specs.List.{AllZip, AllByRecursion}
use Rattle.s10_rows.specs.declared.serial_row.SerialRow.{SerialRow}
use Rattle.s10_statements.specs.Shown.{shown_serial, serial_front, ShowsSerial}

-- The text only reads, in a database with this schema.
abbrev pub OnlyReads : List ℕ → Schema → Type 0
OnlyReads sql schema = IsPlain (understood schema sql)

-- A step leaves the tables, or rolls the transaction back.
abbrev pub Moves : State → State → Type 0
Moves old new = IsUnchanged old new ⊎ IsRolledBack old new

pub failed_moves : (old new : State) (e : Error) → Fails old new ⊥ e ⊎ IsUnchanged old new
    → Moves old new
failed_moves old new e (inl f) = inr f.3
failed_moves old new e (inr same) = inl same

moved_open : (old new : State) → Moves old new → IsTrue new.is_open → IsTrue old.is_open
moved_open old new (inl same) opened = same.0.was_open
moved_open old new (inr back) opened = back.was_open opened

moved_now : (old new : State) → Moves old new → (IsTrue old.is_open → old.committed ≡ old.now)
    → IsTrue new.is_open → new.now ≡ old.now
moved_now old new (inl same) settled opened = same.0.now_is
moved_now old new (inr back) settled opened = (back.undone opened).0
    ∙ settled (back.was_open opened)

moved_settled : (old new : State) → Moves old new → (IsTrue old.is_open → old.committed ≡ old.now)
    → IsTrue new.is_open → new.committed ≡ new.now
moved_settled old new (inl same) settled opened = same.0.committed_is ∙ settled same.0.was_open
    ∙ sym same.0.now_is
moved_settled old new (inr back) settled opened = (back.undone opened).1
    ∙ sym (back.undone opened).0

moved_leaves : {S : Type 0} (Fits : Schema → Type 0) (g : Ghosts S) (old new : Held S)
    → doubt (state g old).is_clean ≤ doubt (state g new).is_clean
    → (old.in_transaction ≡ false → new.in_transaction ≡ false)
    → (HasCleanDisk (state g new) → Moves (state g old) (state g new))
    → LeavesTablesWhere Fits g old new
moved_leaves Fits g old new clean mode moves =
    let before : HasCleanDisk (state g new) → HasCleanDisk (state g old) =
    λ c. omega (arith, clean, c) in
    record {
      clean = clean;
      was_open = λ c opened. moved_open (state g old) (state g new) (moves c) opened;
      now = λ c opened settled has. moved_now (state g old) (state g new) (moves c)
          (settled.committed (before c)) opened;
      settled = λ settled. record {
        idle = mode settled.idle;
        committed = λ c opened. moved_settled (state g old) (state g new) (moves c)
            (settled.committed (before c)) opened;
      };
    }

module _ {S : Type 0} (g : Ghosts S) (sql : List ℕ) (params : Row) (old new : Held S)
    (clean : doubt (state g old).is_clean ≤ doubt (state g new).is_clean) (mode : old.in_transaction
    ≡ false → new.in_transaction ≡ false) where
  -- What an answered query leaves, complete or with an error.
  answered_leaves : (r : HasCleanDisk (state g new) → Result (List Row) Error)
      → ((c : HasCleanDisk (state g new))
      → IfOk (r c) (Shown sql params (state g old) (state g new)))
      → ((c : HasCleanDisk (state g new))
      → IfErr (r c) (FailsToQuery sql params (state g old) (state g new)))
      → LeavesTablesWhere (OnlyReads sql) g old new
  answered_leaves r ok err =
      let before : HasCleanDisk (state g new) → HasCleanDisk (state g old) =
      λ c. omega (arith, clean, c) in
      record {
        clean = clean;
        was_open = λ c opened. read_open (λ (rows : List Row). rows) sql params (state g old)
            (state g new) (r c) (ok c) (err c) opened;
        now = λ c opened settled plain. read_same (λ (rows : List Row). rows) sql params
            (state g old) (state g new) (r c) (ok c) (err c) (state g old).now.schema plain refl
            (λ was. sym (settled.committed (before c) was)) opened;
        settled = λ settled. record {
          idle = mode settled.idle;
          committed = λ c opened. read_settled (λ (rows : List Row). rows) sql params (state g old)
              (state g new) (r c) (ok c) (err c) settled.idle (settled.committed (before c)) opened;
        };
      }

  pub failed_leaves : (e : Error)
      → (HasCleanDisk (state g new) → FailsToQuery sql params (state g old) (state g new) e)
      → LeavesTablesWhere (OnlyReads sql) g old new
  failed_leaves e fails = answered_leaves (λ c. Err e) (λ c. tt) fails

  begun_was : HasBegun g sql params old new → IsTrue (state g new).is_open
      → IsTrue (state g old).is_open
  begun_was (inl it) opened = it.1.0.was_open
  begun_was (inr it) opened = read_open (λ (rows : List Row). rows) sql params (state g old)
      (state g new) (Ok _) it.1 tt opened

  begun_now : HasBegun g sql params old new → IsQuiescent g old → HasCleanDisk (state g old)
      → OnlyReads sql (state g old).now.schema → IsTrue (state g new).is_open → (state g new).now
      ≡ (state g old).now
  begun_now (inl it) settled c plain opened = it.1.0.now_is
  begun_now (inr it) settled c plain opened =
      read_same (λ (rows : List Row). rows) sql params (state g old) (state g new) (Ok _) it.1 tt
      (state g old).now.schema plain refl (λ was. sym (settled.committed c was)) opened

  begun_settled : HasBegun g sql params old new → IsQuiescent g old → HasCleanDisk (state g old)
      → IsTrue (state g new).is_open → (state g new).committed ≡ (state g new).now
  begun_settled (inl it) settled c opened = moved_settled (state g old) (state g new) (inl it.1)
      (settled.committed c) opened
  begun_settled (inr it) settled c opened = read_settled (λ (rows : List Row). rows) sql params
      (state g old) (state g new) (Ok _) it.1 tt settled.idle (settled.committed c) opened

  begun_leaves : (HasCleanDisk (state g new) → HasBegun g sql params old new)
      → LeavesTablesWhere (OnlyReads sql) g old new
  begun_leaves begun =
      let before : HasCleanDisk (state g new) → HasCleanDisk (state g old) =
      λ c. omega (arith, clean, c) in
      record {
        clean = clean;
        was_open = λ c opened. begun_was (begun c) opened;
        now = λ c opened settled plain. begun_now (begun c) settled (before c) plain opened;
        settled = λ settled. record {
          idle = mode settled.idle;
          committed = λ c opened. begun_settled (begun c) settled (before c) opened;
        };
      }

  pub begun_spares : Survives (state g old) (state g new) (CommitsShowing sql params (state g old))
      → AddsNoCrashStateWhere (OnlyReads sql) g old new
  begun_spares survives c plain db left =
      first (commits_none sql params (state g old) (state g old).now.schema refl plain db)
      (survives.crash c db left)

-- An answer that came after steps that changed nothing.
shown_before : (sql : List ℕ) (params : Row) (a b c : State) (rows : List Row)
    → IsPlain (understood b.now.schema sql) → IsUnchanged a b → Shown sql params b c rows
    → Shown sql params a c rows
unfolding Shown
shown_before sql params a b c rows plain same h =
    let none = (subst IsPlain h.1.is plain).0 in
    let full = timed params h.0.formats h.1.now in
    let it = subst (ShowsRows b c sql h.0 full rows) none h.2 in
    let back = same.0.now_is in (
      h.0,
      record {
        is = subst (λ (d : Database). understood d.schema sql ≡ Ok h.0) back h.1.is;
        whole = h.1.whole;
        given = h.1.given;
        now = h.1.now;
      },
      subst (ShowsRows a c sql h.0 full rows) (sym none) (
        it.0,
        subst (λ (d : Database). IsSourceOf (reads_listing d.schema sql) d it.0) back it.1,
        it.2,
        unchanged_then a b c same it.3,
      ),
    )

-- So far rows were given of which P is true.
pub record IsUnderWay {S : Type 0} (g : Ghosts S) (sql : List ℕ) (params : Row)
    (P : List Row → Type 0) (old now : Held S) : Type 0 where
  pub leaves : LeavesTablesWhere (OnlyReads sql) g old now
  pub spares : AddsNoCrashStateWhere (OnlyReads sql) g old now
  pub given : HasCleanDisk (state g now) → OnlyReads sql (state g old).now.schema
      → (rows : List Row) × HasGiven g sql params now rows × IsUnchanged (state g old) (state g now)
      × P rows

-- A text that only reads in any ledger only reads in this one.
pub known_plain : (sql : List ℕ) → ((o : Schema) → OnlyReads sql (with_others o))
    → (schema : Schema) → IsLedgerSchema schema → OnlyReads sql schema
known_plain sql plain schema has = subst (OnlyReads sql) (sym has.is) (plain (others_in schema))

module _ {S : Type 0} (g : Ghosts S) (sql : List ℕ) (params : Row) where
  pub begun : (P : List Row → Type 0) (old new : Held S)
      → (old.in_transaction ≡ false → new.in_transaction ≡ false)
      → Survives (state g old) (state g new) (CommitsShowing sql params (state g old))
      → (HasCleanDisk (state g new) → HasBegun g sql params old new) → P []
      → IsUnderWay g sql params P old new
  begun P old new mode survives begins none = record {
    leaves = begun_leaves g sql params old new survives.clean mode begins;
    spares = begun_spares g sql params old new survives.clean mode survives;
    given = λ c plain. let it = begun_plain g sql params old new plain (begins c) in
        ([], it.0, it.1, none);
  }

module _ {S : Type 0} {g : Ghosts S} {sql : List ℕ} {params : Row} {P : List Row → Type 0}
    {old a : Held S} (it : IsUnderWay g sql params P old a) (b : Held S)
    (mode : a.in_transaction ≡ false → b.in_transaction ≡ false)
    (survives : Survives (state g a) (state g b) (λ _. ⊥)) where
  stepped_leaves : (HasCleanDisk (state g b) → Moves (state g a) (state g b))
      → LeavesTablesWhere (OnlyReads sql) g old b
  stepped_leaves moves = leaves_then g old a b it.leaves
      (moved_leaves (OnlyReads sql) g a b survives.clean mode moves)

  before : HasCleanDisk (state g b) → HasCleanDisk (state g a)
  before c = omega (arith, survives.clean, c)

  stepped_spares : AddsNoCrashStateWhere (OnlyReads sql) g old b
  stepped_spares c has db left =
      it.spares (before c) has db (spared (state g a) (state g b) survives c db left)

  -- No row was read, or none is kept.
  pub stopped : (HasCleanDisk (state g b) → Moves (state g a) (state g b))
      → LeavesTablesWhere (OnlyReads sql) g old b × AddsNoCrashStateWhere (OnlyReads sql) g old b
  stopped moves = (stepped_leaves moves, stepped_spares)

  pub stepped : (row : Row) (Q : List Row → Type 0)
      → (HasCleanDisk (state g b) → IsUnchanged (state g a) (state g b))
      → (HasCleanDisk (state g b) → Advances g a b (Some row))
      → ((rows : List Row) → P rows → Q (rows ++ row ∷ [])) → IsUnderWay g sql params Q old b
  stepped row Q same moves more = record {
    leaves = stepped_leaves (λ c. inl (same c));
    spares = stepped_spares;
    given = λ c has. let was = it.given (before c) has in (
      was.0 ++ row ∷ [],
      moves c sql params was.0 was.1,
      unchanged_then (state g old) (state g a) (state g b) was.2 (same c),
      more was.0 was.3,
    );
  }

  pub ended : (HasCleanDisk (state g b) → Advances g a b None) → HasCleanDisk (state g b)
      → OnlyReads sql (state g old).now.schema
      → (rows : List Row) × Shown sql params (state g old) (state g b) rows × P rows
  ended moves c plain =
      let was = it.given (before c) plain in
      let known : OnlyReads sql (state g a).now.schema =
      subst (λ (d : Database). OnlyReads sql d.schema) (sym was.2.0.now_is) plain in (
        was.0,
        shown_before sql params (state g old) (state g a) (state g b) was.0 known was.2
            (moves c sql params was.0 was.1),
        was.3,
      )

pushed : {A B : Type 0} (R : A → B → Type 0) (xs : List A) (x : A) (ys : List B) (y : B)
    → AllZip R xs ys → R x y → AllZip R (xs ++ x ∷ []) (ys ++ y ∷ [])
pushed R [] x [] y was is = (is, tt)
pushed R [] x (b ∷ ys) y was is = absurd was
pushed R (a ∷ xs) x [] y was is = absurd was
pushed R (a ∷ xs) x (b ∷ ys) y was is = (was.0, pushed R xs x ys y was.1 is)

-- One more typed row at the end.
pub zip_push : {A B : Type 0} (R : A → B → Type 0) (xs new : List A) (x : A) (ys : List B) (y : B)
    → new ≡ xs ++ x ∷ [] → AllZip R xs ys → R x y → AllZip R new (ys ++ y ∷ [])
zip_push R xs new x ys y e was is = subst (λ l. AllZip R l (ys ++ y ∷ [])) (sym e)
    (pushed R xs x ys y was is)

-- Typed rows that SQL shows so, one by one.
pub all_shown : {X : Type 0} (shown : X → Row) (typed : List X) (rows : List Row)
    → AllZip (λ x row. shown x ≡ row) typed rows → map shown typed ≡ rows
all_shown shown [] [] each = refl
all_shown shown [] (y ∷ ys) each = absurd each
all_shown shown (x ∷ xs) [] each = absurd each
all_shown shown (x ∷ xs) (y ∷ ys) each = ap₂ ◌∷◌ each.0 (all_shown shown xs ys each.1)

pub serials_shown : (serials : List SerialRow) (rows : List Row) → AllZip ShowsSerial serials rows
    → (map shown_serial serials ≡ map serial_front rows)
    × AllByRecursion (λ row. IsTrue (is_int (column row 7))) rows
serials_shown [] [] each = (refl, tt)
serials_shown [] (y ∷ ys) each = absurd each
serials_shown (x ∷ xs) [] each = absurd each
serials_shown (x ∷ xs) (y ∷ ys) each =
    let rest = serials_shown xs ys each.1 in (ap₂ ◌∷◌ each.0.0 rest.0, (each.0.1, rest.1))

pub on_err : {T E : Type 0} (r : Result T E) (P : Type 0) (e : E) → r ≡ Err e → OnErr r P → P
on_err (Ok x) P e is h = absurd cc
on_err (Err x) P e is h = h

pub if_err : {T E : Type 0} (r : Result T E) (P : E → Type 0) (e : E) → r ≡ Err e → IfErr r P → P e
if_err (Ok x) P e is h = absurd cc
if_err (Err x) P e is h = let same : x ≡ e = cc in rw (← same) h

pub if_ok : {T E : Type 0} (r : Result T E) (P : T → Type 0) (x : T) → r ≡ Ok x → IfOk r P → P x
if_ok (Ok y) P x is h = let same : y ≡ x = cc in rw (← same) h
if_ok (Err e) P x is h = absurd cc

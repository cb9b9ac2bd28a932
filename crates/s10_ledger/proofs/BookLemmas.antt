-- What a read leaves of a ledger, and what it returns.
use Rattle.std.proofs.Common.{◌≡◌, ℕ, Bool, true, IsTrue, ◌++◌, Result, Ok, Err, IfOk, OnOk, ap}
use Rattle.std.proofs.Common.{◌⊎◌, inl, List, subst, refl, arith, length}
use Rattle.std.specs.Result.{is_ok}
use Rattle.std.proofs.Math.Logic.{∥∥₁_elim, ∥∥₁_map}
use Rattle.sqlite_trees.specs.Tree.{Trees}
use Rattle.sqlite_trees.specs.declared.store.Store.{Ghosts}
use Rattle.sqlite.specs.Effect.{Database}
use Rattle.sqlite.specs.State.{HasCleanDisk}
use Rattle.sqlite.specs.Held.{Held, state}
use Rattle.s10_book.specs.Rules.{IsLegal, MayFollow}
use Rattle.s10_book.specs.declared.faults.Faults.{Faults}
use Rattle.s10_history.specs.declared.entry.Entry.{Entry}
use Rattle.s10_history.specs.Settings.{Terms}
use Rattle.s10_history.specs.History.{day_of}
use Rattle.s10_schema.specs.Schema.{IsLedgerSchema, IsClosedSchema}
use Rattle.s10_statements.specs.ConnectionState.{IsQuiescent, StaysUnclean}
use Rattle.s10_statements.specs.Statements.{LeavesTables}
use Rattle.s10_book.specs.Book.{FindsAfter}
use Rattle.s10_book.proofs.Calls.{grows_none, grows_same}
use Rattle.s10_ledger.specs.Ledger.{Ledger, IsLedger, IsHonest, HoldsCalls, IsFoundInTrees}
use Rattle.s10_ledger.specs.Ledger.{LeavesUnchanged, MayFindAlso, LeavesCommitted, history_in}
use Rattle.s10_ledger.specs.Ledger.{history_of, IsOverCleanDisk, MayFind, CommitsSomeOf}
use Rattle.s10_ledger.specs.Found.{one_found}
use Rattle.s10_statements.proofs.CrashLemmas.{either}
use Rattle.s10_statements.proofs.Apart.{is_ledger-prop, is_closed-prop}

-- What is always true of a ledger's connection.
abbrev pub IsKept : {S : Type 0} → Ghosts S → Held S → Terms → ℕ → ℕ → Type 0
IsKept g conn t len day = HasCleanDisk (state g conn) → IsTrue (state g conn).is_open
    → IsLedger (state g conn).now t len day

pub schema_is : (db : Database) (t : Terms) (len day : ℕ) → IsLedger db t len day
    → IsLedgerSchema db.schema
schema_is db t len day it = ∥∥₁_elim it.held (is_ledger-prop db.schema)
    (λ h. h.tables.schema.ledger)

pub closed_is : (db : Database) (t : Terms) (len day : ℕ) → IsLedger db t len day
    → IsClosedSchema db.schema
closed_is db t len day it = ∥∥₁_elim it.held (is_closed-prop db.schema) (λ h. h.tables.schema)

module _ {S : Type 0} (g : Ghosts S) (old new : Held S) (t : Terms) (len day : ℕ)
    (leaves : LeavesTables g old new) (settled : IsQuiescent g old)
    (kept : IsKept g old t len day) where
  -- The tables are as they were.
  pub same_tables : HasCleanDisk (state g new) → IsTrue (state g new).is_open → (state g new).now
      ≡ (state g old).now
  same_tables clean opened = leaves.now clean opened settled (schema_is (state g old).now t len day
      (kept (omega (arith, leaves.clean)) (leaves.was_open clean opened)))

  pub was_ledger : HasCleanDisk (state g new) → IsTrue (state g new).is_open
      → IsLedger (state g old).now t len day
  was_ledger clean opened = kept (omega (arith, leaves.clean)) (leaves.was_open clean opened)

-- What an opening may find after a call that commits these calls or nothing.
pub may_find_also : {S : Type 0} (g : Ghosts S) (old new : Ledger S) (calls : List Entry)
    → StaysUnclean g old.conn new.conn → new.terms ≡ old.terms
    → (HasCleanDisk (state g new.conn) → (db : Trees) → (state g new.conn).may_leave db
    → (state g old.conn).may_leave db ⊎ (IsHonest g old × HoldsCalls db old.terms calls))
    → MayFindAlso g old new calls
may_find_also g old new calls clean same crash = record {
  was_clean = λ is. omega (arith, clean, is);
  finds = λ is found may.
      let there = subst (λ (t : Terms). IsFoundInTrees may.0 t found) same may.2 in
      either (crash is may.0 may.1) (λ left. (may.0, left, there)) (λ both. (
        both.0,
        (calls, one_found may.0 old.terms calls found both.1 there, refl),
      ));
}

-- An opening may find the same of a ledger with the same connection and settings.
pub finds_the_same : {S : Type 0} (g : Ghosts S) (old mid new : Ledger S)
    (IsSuch : List Entry → Type 0) → new.conn ≡ mid.conn → new.terms ≡ mid.terms
    → FindsAfter (IsHonest g) (IsOverCleanDisk g) (MayFind g) old mid IsSuch
    → FindsAfter (IsHonest g) (IsOverCleanDisk g) (MayFind g) old new IsSuch
finds_the_same {S} g old mid new IsSuch conn terms stop =
    let was_clean = λ (is : HasCleanDisk (state g new.conn)).
    subst (λ (h : Held S). HasCleanDisk (state g h)) conn is in
    record {
      was_clean = λ is. stop.was_clean (was_clean is);
      finds = λ is found may. stop.finds (was_clean is) found (
        may.0,
        subst (λ (h : Held S). (state g h).may_leave may.0) conn may.1,
        subst (λ (t : Terms). IsFoundInTrees may.0 t found) terms may.2,
      );
    }

pub read_keeps : {S : Type 0} (g : Ghosts S) (old : Ledger S) (conn : Held S) (faults : Faults)
    → LeavesTables g old.conn conn → LeavesCommitted g old.conn conn → IsQuiescent g old.conn
    → IsKept g old.conn old.terms old.len old.day
    → LeavesUnchanged g old (record old { conn = conn; faults = faults })
read_keeps g old conn faults leaves spares settled kept = record {
  was_honest = λ h. record {
    clean = omega (arith, leaves.clean, h.clean);
    is_open = leaves.was_open h.clean h.is_open;
    committed = settled.committed (omega (arith, leaves.clean, h.clean))
        (leaves.was_open h.clean h.is_open);
    ledger = was_ledger g old.conn conn old.terms old.len old.day leaves settled kept h.clean
        h.is_open;
    legal = subst (λ (d : Database). IsLegal (history_in d ++ old.pending) old.terms)
        (same_tables g old.conn conn old.terms old.len old.day leaves settled kept h.clean
        h.is_open) h.legal;
  };
  same_history = λ h. ap (λ (d : Database). history_in d ++ old.pending)
      (same_tables g old.conn conn old.terms old.len old.day leaves settled kept h.clean h.is_open);
  same_terms = λ h. refl;
  stays_committed = λ h. grows_same (history_in (state g old.conn).now)
      (history_in (state g conn).now) (ap history_in (same_tables g old.conn conn old.terms old.len
      old.day leaves settled kept h.clean h.is_open));
  stop = may_find_also g old (record old { conn = conn; faults = faults }) (history_of g old)
      leaves.clean refl (λ is db left. inl (spares is db left));
}

pub answered : {A T E : Type 0} → IsSet T → (r : Result T E) (x : T) → ∥ A ∥₁
    → (A → IfOk r (λ y. y ≡ x)) → IfOk r (λ y. y ≡ x)
answered set (Ok y) x a f = ∥∥₁_elim a (set y x) f
answered set (Err e) x a f = tt

-- What is known of an answer that was given.
pub if_answered : {T E : Type 0} (r : Result T E) (P : Type 0) (answered : Bool)
    → answered ≡ is_ok r → OnOk r P → answered ≡ true → P
if_answered (Ok x) P answered is p so = p
if_answered (Err e) P answered is p so = absurd cc

-- The length and the day of a ledger are those of its history.
pub ledger_again : (db : Database) (t u : Terms) (len day : ℕ) → IsLedger db t len day → t ≡ u
    → IsLedger db u (length (history_in db)) (day_of (history_in db))
ledger_again db t u len day it same = subst (λ (v : Terms). IsLedger db v (length (history_in db))
    (day_of (history_in db))) same (record {
      legal = it.legal;
      held = ∥∥₁_map it.held (λ h. record {
        tables = h.tables;
        calls = h.calls;
        len_is = refl;
        day_is = refl;
      });
    })

-- A call that may follow a book may follow it after a call that leaves it unchanged.
pub follows_still : {S : Type 0} (g : Ghosts S) (old mid : Ledger S) (e : Entry)
    → LeavesUnchanged g old mid → (IsHonest g old → MayFollow (history_of g old) old.terms e)
    → IsHonest g mid → MayFollow (history_of g mid) mid.terms e
follows_still g old mid e unchanged may honest = rw (
  unchanged.same_history honest,
  unchanged.same_terms honest,
) (may (unchanged.was_honest honest))

-- The fault counts have no part in whether a ledger is honest.
pub honest_counted : {S : Type 0} (g : Ghosts S) (l : Ledger S) (faults : Faults)
    → IsHonest g (record l { faults = faults }) → IsHonest g l
honest_counted g l faults h = record {
  clean = h.clean;
  is_open = h.is_open;
  committed = h.committed;
  ledger = h.ledger;
  legal = h.legal;
}

-- A ledger with other fault counts is unchanged.
pub unchanged_counted : {S : Type 0} (g : Ghosts S) (l : Ledger S) (faults : Faults)
    → LeavesUnchanged g l (record l { faults = faults })
unchanged_counted g l faults = record {
  was_honest = honest_counted g l faults;
  same_history = λ h. refl;
  same_terms = λ h. refl;
  stays_committed = λ h. grows_none (history_in (state g l.conn).now);
  stop = record {
    was_clean = λ clean. clean;
    finds = λ clean found may. inl may;
  };
}

-- The fault counts have no part in what a call commits.
pub commits_counted : {S : Type 0} (g : Ghosts S) (old new : Ledger S) (faults : Faults)
    → CommitsSomeOf g old new → CommitsSomeOf g old (record new { faults = faults })
commits_counted g old new faults it = record {
  was_honest = λ h. it.was_honest (honest_counted g new faults h);
  same_history = λ h. it.same_history (honest_counted g new faults h);
  same_terms = λ h. it.same_terms (honest_counted g new faults h);
  stays_committed = λ h. it.stays_committed (honest_counted g new faults h);
  stop = record { was_clean = it.stop.was_clean; finds = it.stop.finds };
}

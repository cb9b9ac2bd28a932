-- What a read leaves of a connection.
use Rattle.std.proofs.Common.{◌≡◌, Option, inl, inr, Result, Ok, Err, IfOk, IfErr, IsTrue, ℕ, List}
use Rattle.std.proofs.Common.{Some, None, false, refl, sym, ap, subst, ◌∙◌, arith}
use Rattle.sqlite_value.specs.Order.{Row}
use Rattle.sqlite_resolve.specs.declared.compiled.Compiled.{Compiled}
use Rattle.sqlite_schema.specs.declared.command.Returning.{Returning}
use Rattle.sqlite_schema.specs.declared.schema.Schema.{Schema}
use Rattle.sqlite.specs.declared.error.Error.{Error}
use Rattle.sqlite.specs.Clock.{timed}
use Rattle.sqlite.specs.Given.{IsPlain}
use Rattle.sqlite.specs.Listing.{understood}
use Rattle.sqlite_trees.specs.declared.store.Store.{Ghosts}
use Rattle.sqlite.specs.Effect.{Database}
use Rattle.sqlite.specs.Held.{Held, state}
use Rattle.s10_statements.specs.ConnectionState.{IsQuiescent, WasSound}
use Rattle.s10_statements.specs.Statements.{LeavesTables, LeavesTablesWhere}
use Rattle.sqlite.specs.State.{State, HasCleanDisk, Shown, ShowsRows, IsUnchanged, IsRolledBack}
use Rattle.sqlite.specs.State.{FailsToQuery, FailsToShow, IsNotRun}

shown_same : (sql : List ℕ) (params : Row) (old new : State) (rows : List Row) (schema : Schema)
    → old.now.schema ≡ schema → IsPlain (understood schema sql) → Shown sql params old new rows
    → IsUnchanged old new
unfolding Shown
shown_same sql params old new rows schema has plain h =
    let known = sym (ap (λ s. understood s sql) has) ∙ h.1.is in
    let none = (subst IsPlain known plain).0 in
    (subst (ShowsRows old new sql h.0 (timed params h.0.formats h.1.now) rows) none h.2).3

pub by_result : {T E C : Type 0} (r : Result T E) (P : T → Type 0) (Q : E → Type 0) → IfOk r P
    → IfErr r Q → ((x : T) → P x → C) → ((e : E) → Q e → C) → C
by_result (Ok x) P Q p q f g = f x p
by_result (Err e) P Q p q f g = g e q

-- A query that failed leaves the rows, if nothing was uncommitted.
fails_same : (sql : List ℕ) (params : Row) (old new : State) (e : Error) (schema : Schema)
    → old.now.schema ≡ schema → IsPlain (understood schema sql)
    → (IsTrue old.is_open → old.now ≡ old.committed)
    → FailsToQuery sql params old new e → IsTrue new.is_open → new.now ≡ old.now
unfolding FailsToQuery IsNotRun
fails_same sql params old new e schema has plain settled (inl (inl h)) opened = h.1.0.now_is
fails_same sql params old new e schema has plain settled (inl (inr f)) opened =
    let back = f.3 in
    (back.undone opened).0 ∙ sym (settled (back.was_open opened))
fails_same sql params old new e schema has plain settled (inr h) opened =
    let known = sym (ap (λ s. understood s sql) has) ∙ h.1.is in
    let none = (subst IsPlain known plain).0 in
    (subst (FailsToShow old new sql h.0 (timed params h.0.formats h.1.now) e) none h.2).3.0.now_is

rows_open : (old new : State) (sql : List ℕ) (c : Compiled) (params : Row) (rows : List Row)
    (r : Option Returning) → ShowsRows old new sql c params rows r → IsTrue old.is_open
rows_open old new sql c params rows None h = h.3.0.was_open
rows_open old new sql c params rows (Some what) h = h.1.shown.was_open

shown_open : (sql : List ℕ) (params : Row) (old new : State) (rows : List Row)
    → Shown sql params old new rows → IsTrue old.is_open
unfolding Shown
shown_open sql params old new rows h = rows_open old new sql h.0 _ rows h.0.returning h.2

-- After an answer the connection is open.
rows_opened : (old new : State) (sql : List ℕ) (c : Compiled) (params : Row) (rows : List Row)
    (r : Option Returning) → ShowsRows old new sql c params rows r → IsTrue new.is_open
rows_opened old new sql c params rows None h = h.3.0.is_open
rows_opened old new sql c params rows (Some what) h = h.1.shown.is_open

pub shown_opened : (sql : List ℕ) (params : Row) (old new : State) (rows : List Row)
    → Shown sql params old new rows → IsTrue new.is_open
unfolding Shown
shown_opened sql params old new rows h = rows_opened old new sql h.0 _ rows h.0.returning h.2

show_fails_open : (old new : State) (sql : List ℕ) (c : Compiled) (params : Row) (e : Error)
    (r : Option Returning) → FailsToShow old new sql c params e r → IsTrue new.is_open
    → IsTrue old.is_open
show_fails_open old new sql c params e None h opened = h.3.0.was_open
show_fails_open old new sql c params e (Some what) (inl h) opened = h.1.0.was_open
show_fails_open old new sql c params e (Some what) (inr f) opened = f.3.was_open opened

failed_open : (sql : List ℕ) (params : Row) (old new : State) (e : Error)
    → FailsToQuery sql params old new e → IsTrue new.is_open → IsTrue old.is_open
unfolding FailsToQuery IsNotRun
failed_open sql params old new e (inl (inl h)) opened = h.1.0.was_open
failed_open sql params old new e (inl (inr f)) opened = f.3.was_open opened
failed_open sql params old new e (inr h) opened = show_fails_open old new sql h.0 _ e h.0.returning
    h.2 opened

-- If nothing was to commit, a query leaves nothing to commit.
rows_settled : (old new : State) (sql : List ℕ) (c : Compiled) (params : Row) (rows : List Row)
    (r : Option Returning) → old.in_transaction ≡ false → old.committed ≡ old.now
    → ShowsRows old new sql c params rows r → new.committed ≡ new.now
rows_settled old new sql c params rows None idle settled h = let s = h.3.0 in
    s.committed_is ∙ settled ∙ sym s.now_is
rows_settled old new sql c params rows (Some what) idle settled h =
    rw idle at h.1.shown.committed_is

shown_settled : (sql : List ℕ) (params : Row) (old new : State) (rows : List Row)
    → old.in_transaction ≡ false → old.committed ≡ old.now → Shown sql params old new rows
    → new.committed ≡ new.now
unfolding Shown
shown_settled sql params old new rows idle settled h = rows_settled old new sql h.0 _ rows
    h.0.returning idle settled h.2

same_settled : (old new : State) → old.committed ≡ old.now → IsUnchanged old new
    → new.committed ≡ new.now
same_settled old new settled h = h.0.committed_is ∙ settled ∙ sym h.0.now_is

undone_settled : (old new : State) → IsRolledBack old new → IsTrue new.is_open
    → new.committed ≡ new.now
undone_settled old new back opened = let undone = back.undone opened in undone.1 ∙ sym undone.0

show_fails_settled : (old new : State) (sql : List ℕ) (c : Compiled) (params : Row) (e : Error)
    (r : Option Returning) → old.committed ≡ old.now → FailsToShow old new sql c params e r
    → IsTrue new.is_open → new.committed ≡ new.now
show_fails_settled old new sql c params e None settled h opened = same_settled old new settled h.3
show_fails_settled old new sql c params e (Some what) settled (inl h) opened =
    same_settled old new settled h.1
show_fails_settled old new sql c params e (Some what) settled (inr f) opened =
    undone_settled old new f.3 opened

failed_settled : (sql : List ℕ) (params : Row) (old new : State) (e : Error)
    → old.committed ≡ old.now → FailsToQuery sql params old new e → IsTrue new.is_open
    → new.committed ≡ new.now
unfolding FailsToQuery IsNotRun
failed_settled sql params old new e settled (inl (inl h)) opened = same_settled old new settled h.1
failed_settled sql params old new e settled (inl (inr f)) opened = undone_settled old new f.3 opened
failed_settled sql params old new e settled (inr h) opened = show_fails_settled old new sql h.0 _ e
    h.0.returning settled h.2 opened

module _ {V : Type 0} (items : V → List Row) (sql : List ℕ) (params : Row) (old new : State)
    (r : Result V Error) (ok : IfOk r (λ v. Shown sql params old new (items v)))
    (err : IfErr r (FailsToQuery sql params old new)) where
  pub read_open : IsTrue new.is_open → IsTrue old.is_open
  read_open opened = by_result r _ _ ok err (λ v h. shown_open sql params old new (items v) h)
      (λ e h. failed_open sql params old new e h opened)

  pub read_same : (schema : Schema) → IsPlain (understood schema sql) → old.now.schema ≡ schema
      → (IsTrue old.is_open → old.now ≡ old.committed) → IsTrue new.is_open
      → new.now ≡ old.now
  read_same schema plain has settled opened =
      by_result r _ _ ok err
      (λ v h. (shown_same sql params old new (items v) schema has plain h).0.now_is)
      (λ e h. fails_same sql params old new e schema has plain settled h opened)

  pub read_settled : old.in_transaction ≡ false → (IsTrue old.is_open → old.committed ≡ old.now)
      → IsTrue new.is_open → new.committed ≡ new.now
  read_settled idle settled opened =
      let before = settled (read_open opened) in
      by_result r _ _ ok err (λ v h. shown_settled sql params old new (items v) idle before h)
      (λ e h. failed_settled sql params old new e before h opened)

-- Two reads, one after the other.
pub leaves_then : {S : Type 0} {Fits : Schema → Type 0} (g : Ghosts S) (a b c : Held S)
    → LeavesTablesWhere Fits g a b → LeavesTablesWhere Fits g b c → LeavesTablesWhere Fits g a c
leaves_then {S} {Fits} g a b c p q =
    let mid : HasCleanDisk (state g c) → HasCleanDisk (state g b) =
    λ clean. omega (arith, q.clean) in
    let schema : HasCleanDisk (state g c) → IsTrue (state g c).is_open → IsQuiescent g a
    → Fits (state g a).now.schema → Fits (state g b).now.schema =
    λ clean opened settled has. subst (λ (d : Database). Fits d.schema)
    (sym (p.now (mid clean) (q.was_open clean opened) settled has)) has in
    record {
      clean = omega (arith, p.clean, q.clean);
      was_open = λ clean opened. p.was_open (mid clean) (q.was_open clean opened);
      now = λ clean opened settled has. q.now clean opened (p.settled settled)
          (schema clean opened settled has) ∙ p.now (mid clean) (q.was_open clean opened) settled
          has;
      settled = λ settled. q.settled (p.settled settled);
    }

-- What leaves the tables under a schema leaves them under one of which more is known.
pub leaves_weaker : {S : Type 0} {Fits More : Schema → Type 0} (g : Ghosts S) (old new : Held S)
    → ((s : Schema) → More s → Fits s) → LeavesTablesWhere Fits g old new
    → LeavesTablesWhere More g old new
leaves_weaker g old new fits it = record {
  clean = it.clean;
  was_open = it.was_open;
  now = λ clean opened settled has. it.now clean opened settled (fits (state g old).now.schema has);
  settled = it.settled;
}

pub leaves_same : {S : Type 0} (g : Ghosts S) (a : Held S) → LeavesTables g a a
leaves_same g a = record {
  clean = omega arith;
  was_open = λ clean opened. opened;
  now = λ clean opened settled has. refl;
  settled = λ settled. settled;
}

pub left_sound : {S : Type 0} (g : Ghosts S) (old new : Held S) → LeavesTables g old new
    → WasSound g old new
left_sound g old new left clean = (omega (arith, left.clean, clean), left.was_open clean)

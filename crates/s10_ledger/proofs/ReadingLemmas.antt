-- Two reads of a ledger's tables, one after the other.
use Rattle.std.proofs.Common.{◌≡◌, IsTrue, sym, subst, ◌∙◌, arith}
use Rattle.sqlite_trees.specs.declared.store.Store.{Ghosts}
use Rattle.sqlite.specs.Effect.{Database}
use Rattle.sqlite.specs.State.{HasCleanDisk}
use Rattle.sqlite.specs.Held.{Held, state}
use Rattle.sqlite_schema.specs.declared.schema.Schema.{Schema}
use Rattle.s10_statements.specs.ConnectionState.{IsQuiescent, StaysUnclean, AddsNoCrashStateWhere}
use Rattle.s10_statements.specs.Statements.{LeavesTablesWhere}

module _ {S : Type 0} {Fits : Schema → Type 0} (g : Ghosts S) (old mid new : Held S)
    (first : LeavesTablesWhere Fits g old mid) (second : LeavesTablesWhere Fits g mid new) where
  pub clean_between : HasCleanDisk (state g new) → HasCleanDisk (state g mid)
  clean_between clean = omega (arith, second.clean, clean)

  pub same_between : HasCleanDisk (state g new) → IsTrue (state g new).is_open → IsQuiescent g old
      → Fits (state g old).now.schema → (state g mid).now ≡ (state g old).now
  same_between clean opened settled has =
      first.now (clean_between clean) (second.was_open clean opened) settled has

  pub schema_between : HasCleanDisk (state g new) → IsTrue (state g new).is_open → IsQuiescent g old
      → Fits (state g old).now.schema → Fits (state g mid).now.schema
  schema_between clean opened settled has = subst (λ (d : Database). Fits d.schema)
      (sym (same_between clean opened settled has)) has

  pub both_leave : LeavesTablesWhere Fits g old new
  both_leave = record {
    clean = omega (arith, first.clean, second.clean);
    was_open = λ clean opened. first.was_open (clean_between clean) (second.was_open clean opened);
    now = λ clean opened settled has. second.now clean opened (first.settled settled)
        (schema_between clean opened settled has) ∙ same_between clean opened settled has;
    settled = λ settled. second.settled (first.settled settled);
  }

-- If a stop in the second of two calls may leave trees, they could be left before the first.
pub both_spare : {S : Type 0} (Fits : Schema → Type 0) (g : Ghosts S) (old mid new : Held S)
    → StaysUnclean g mid new
    → (HasCleanDisk (state g mid) → Fits (state g old).now.schema
    → (state g mid).now.schema ≡ (state g old).now.schema)
    → AddsNoCrashStateWhere Fits g old mid → AddsNoCrashStateWhere Fits g mid new
    → AddsNoCrashStateWhere Fits g old new
both_spare Fits g old mid new stays same first second clean has db left =
    let was : HasCleanDisk (state g mid) = omega (arith, stays, clean) in
    first was has db (second clean (subst Fits (sym (same was has)) has) db left)

-- What adds no crash state under a schema adds none under one of which more is known.
pub spares_weaker : {S : Type 0} (Fits More : Schema → Type 0) (g : Ghosts S) (old new : Held S)
    → ((s : Schema) → More s → Fits s) → AddsNoCrashStateWhere Fits g old new
    → AddsNoCrashStateWhere More g old new
spares_weaker Fits More g old new fits it clean has = it clean (fits (state g old).now.schema has)

-- What leaves the tables under the schema that is there leaves them in any case.
pub leaves_here : {S : Type 0} {Fits More : Schema → Type 0} (g : Ghosts S) (old new : Held S)
    → Fits (state g old).now.schema → LeavesTablesWhere Fits g old new
    → LeavesTablesWhere More g old new
leaves_here g old new has it = record {
  clean = it.clean;
  was_open = it.was_open;
  now = λ clean opened settled more. it.now clean opened settled has;
  settled = it.settled;
}

-- What adds no crash state under the schema that is there adds none in any case.
pub spares_here : {S : Type 0} (Fits More : Schema → Type 0) (g : Ghosts S) (old new : Held S)
    → Fits (state g old).now.schema → AddsNoCrashStateWhere Fits g old new
    → AddsNoCrashStateWhere More g old new
spares_here Fits More g old new has it clean more = it clean has

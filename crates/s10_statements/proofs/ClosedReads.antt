-- What a read of the closed ranges shows and leaves unchanged, by its text.
use Rattle.std.proofs.Common.{◌≡◌, ℕ, List, sym, subst}
use Rattle.sqlite_value.specs.Order.{Row}
use Rattle.sqlite_trees.specs.declared.store.Store.{Ghosts}
use Rattle.sqlite_schema.specs.declared.schema.Schema.{Schema}
use Rattle.sqlite.specs.Given.{IsPlain}
use Rattle.sqlite.specs.Held.{Held}
use Rattle.sqlite.specs.Listing.{understood}
use Rattle.sqlite.specs.State.{State, Shown}
use Rattle.s10_schema.specs.Schema.{IsClosedSchema}
use Rattle.s10_statements.specs.ConnectionState.{AddsNoCrashStateWhere}
use Rattle.s10_statements.specs.Statements.{LeavesTablesWhere, select_closed_sql}
use Rattle.s10_statements.proofs.Texts.{known_closed}
use Rattle.s10_statements.proofs.StateLemmas.{leaves_weaker}

pub closed_plain : (sql : List ℕ) → sql ≡ select_closed_sql → (s : Schema) → IsClosedSchema s
    → IsPlain (understood s sql)
closed_plain sql is s has = subst (λ (text : List ℕ). IsPlain (understood s text)) (sym is)
    (known_closed s has)

module _ {S : Type 0} (g : Ghosts S) (old new : Held S) (sql : List ℕ) where
  pub closed_leaves : LeavesTablesWhere (λ schema. IsPlain (understood schema sql)) g old new
      → sql ≡ select_closed_sql → LeavesTablesWhere IsClosedSchema g old new
  closed_leaves leaves is = leaves_weaker g old new (closed_plain sql is) leaves

  pub closed_spares : AddsNoCrashStateWhere (λ schema. IsPlain (understood schema sql)) g old new
      → sql ≡ select_closed_sql → AddsNoCrashStateWhere IsClosedSchema g old new
  closed_spares spares is clean has = spares clean (closed_plain sql is _ has)

pub closed_shown : (params : Row) (old new : State) (rows : List Row) (sql : List ℕ)
    → Shown sql params old new rows → sql ≡ select_closed_sql
    → Shown select_closed_sql params old new rows
closed_shown params old new rows sql shown is =
    subst (λ (text : List ℕ). Shown text params old new rows) is shown

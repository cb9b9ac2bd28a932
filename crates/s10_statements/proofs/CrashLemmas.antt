-- What a crash leaves.
use Rattle.std.proofs.Common.{◌≡◌, ◌⊎◌, inl, inr, ℕ, List, IsSome, true, false, sym, ap, subst, ◌∙◌}
use Rattle.sqlite_value.specs.Order.{Row}
use Rattle.sqlite_trees.specs.Tree.{Trees}
use Rattle.sqlite_schema.specs.declared.schema.Schema.{Schema}
use Rattle.sqlite.specs.Effect.{Database}
use Rattle.sqlite.specs.Given.{IsPlain}
use Rattle.sqlite.specs.Listing.{understood}
use Rattle.sqlite.specs.State.{State, HasCleanDisk, Survives, CommitsShowing}
use Rattle.s10_rows.specs.Tables.{Tables}
use Rattle.s10_schema.specs.Schema.{IsClosedSchema}
use Rattle.s10_statements.specs.Shown.{HasTables}

pub first : {A B : Type 0} → ¬ B → A ⊎ B → A
first never (inl a) = a
first never (inr b) = absurd (never b)

pub either : {A B C D : Type 0} → A ⊎ B → (A → C) → (B → D) → C ⊎ D
either (inl a) f h = inl (f a)
either (inr b) f h = inr (h b)

-- A query that only reads commits nothing.
pub commits_none : (sql : List ℕ) (params : Row) (old : State) (schema : Schema)
    → old.now.schema ≡ schema → IsPlain (understood schema sql) → (db : Trees)
    → ¬ CommitsShowing sql params old db
unfolding CommitsShowing
commits_none sql params old schema has plain db h =
    let known = sym (ap (λ s. understood s sql) has) ∙ h.1.is in
    let none = (subst IsPlain known plain).0 in
    let differ : ¬ (false ≡ true) = λ e. cc in
    differ (subst IsSome none h.2)

-- After a step that commits nothing, a crash leaves what it left before.
pub spared : (old new : State) → Survives old new (λ _. ⊥) → HasCleanDisk new → (db : Trees)
    → new.may_leave db → old.may_leave db
spared old new it clean db left = first (λ x. x) (it.crash clean db left)

-- The trees that were shown, under the declarations of a ledger.
pub tables_left : (shown : Database) (schema : Schema) (db : Trees) (tables : Tables)
    → IsClosedSchema schema → db ≡ shown.trees → HasTables shown tables
    → HasTables (record { schema = schema; trees = db }) tables
tables_left shown schema db tables has is it =
    subst (λ (trees : Trees). HasTables (record { schema = schema; trees = trees }) tables) (sym is)
    (record {
      schema = has;
      heads = it.heads;
      calls = it.calls;
      ranges = it.ranges;
      serials = it.serials;
      numbered = it.numbered;
      closed = it.closed;
    })

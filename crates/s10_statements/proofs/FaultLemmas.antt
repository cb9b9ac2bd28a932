-- Which error a statement without parameters has that the schema understands.
use Rattle.std.proofs.Common.{◌≡◌, ◌≢◌, ◌⊎◌, inl, inr, ℕ, ◌+◌, ◌-◌, ◌^◌, ◌≤◌, min, List, [], length}
use Rattle.std.proofs.Common.{Result, Ok, Err, IsTrue, codes, refl, sym, ap, subst, arith}
use Rattle.std.proofs.lemmas.Bool.{false≢true}
use Rattle.sqlite_trees.specs.declared.error.StoreError.{StoreError}
use Rattle.sqlite_trees.specs.declared.error.StoreError.TheVariants as store
use Rattle.sqlite_tied.specs.Compute.{everything}
use Rattle.sqlite_schema.specs.declared.schema.Schema.{Schema}
use Rattle.sqlite_resolve.specs.declared.compiled.Compiled.{Compiled}
use Rattle.sqlite_resolve.specs.declared.error.CompileError.{CompileError}
use Rattle.sqlite.specs.declared.error.ErrorCode.TheVariants as code
use Rattle.sqlite.specs.declared.error.Error.{Error}
use Rattle.sqlite.specs.declared.error.Error.TheVariants.{SqliteFailure}
use Rattle.sqlite.specs.Listing.{understood}
use Rattle.sqlite.specs.State.{State, store_error, HasCause, IsNoStatement, IsNotRun}
use Rattle.s10_schema.specs.Schema.{IsLedgerSchema, with_others, others_in}

-- The text is one statement, without parameters, which does not read the time.
abbrev pub IsBareText : List ℕ → Result Compiled CompileError → Type 0
IsBareText sql (Ok c) = (length sql ≤ c.tail) × (c.names ≡ []) × (c.formats ≡ [])
IsBareText sql (Err e) = ⊥

-- The text that sees whether a connection answers.
abbrev pub ask_sql : List ℕ
ask_sql = codes "SELECT one, schema, interval, cap FROM head"

ask_bare : (o : Schema) → IsBareText ask_sql (understood (with_others o) ask_sql)
unfolding understood everything
ask_bare o = (omega arith, refl, refl)

-- Any ledger understands it.
pub known_ask : (s : Schema) → IsLedgerSchema s → IsBareText ask_sql (understood s ask_sql)
known_ask s has = subst (λ (x : Schema). IsBareText ask_sql (understood x ask_sql)) (sym has.is)
    (ask_bare (others_in s))

misfit : {P Q R : Type 0} (sql : List ℕ) (c : Compiled) → IsBareText sql (Ok c)
    → ((¬ (length sql ≤ c.tail)) × P) ⊎ (((0 ≢ length c.names) × Q) ⊎ ((c.formats ≢ []) × R)) → ⊥
misfit sql c bare (inl long) = long.0 bare.0
misfit sql c bare (inr (inl wrong)) = wrong.0 (sym (ap length bare.1))
misfit sql c bare (inr (inr timed)) = timed.0 bare.2

is_statement : (s : State) (sql : List ℕ) (e : Error)
    → IsBareText sql (understood s.now.schema sql) → ¬ IsNoStatement s sql [] e
is_statement s sql e bare (inl none) = subst (IsBareText sql) none.1 bare
is_statement s sql e bare (inr other) =
    misfit sql other.0 (subst (IsBareText sql) other.1 bare) other.2

caused : (old new : State) (cause : StoreError) (e : Error) → e ≡ store_error cause
    → HasCause old new ⊥ cause → IsTrue old.is_open → e ≢ SqliteFailure code.OutOfMemory
    → min (old.faults + 1) (2 ^ 64 - 1) ≤ new.faults
caused old new store.OutOfMemory e is has opened other = absurd (other is)
caused old new store.Io e is has opened other = has
caused old new store.Corrupt e is has opened other = has
caused old new store.Full e is has opened other = has
caused old new store.Broken e is has opened other = absurd (false≢true (rw has at opened))
caused old new store.Unstorable e is has opened other = absurd has

-- Over an open connection it fails only for lack of memory, or because the disk failed or refused.
pub fails_for : (old new : State) (sql : List ℕ) (e : Error)
    → IsBareText sql (understood old.now.schema sql) → IsNotRun old new sql [] e
    → IsTrue old.is_open → e ≢ SqliteFailure code.OutOfMemory
    → min (old.faults + 1) (2 ^ 64 - 1) ≤ new.faults
unfolding IsNotRun
fails_for old new sql e bare (inl h) opened other = absurd (is_statement old sql e bare h.0)
fails_for old new sql e bare (inr f) opened other = caused old new f.0 e f.1 f.2 opened other

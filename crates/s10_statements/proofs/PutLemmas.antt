-- Rows that are inserted into a tree and removed from it.
use Rattle.std.proofs.Common.{◌≡◌, ◌⊎◌, inl, inr, ℤ, List, [], ◌∷◌, Bool, true, false, not, ◌&&◌}
use Rattle.std.proofs.Common.{◌||◌, ◌==◌, cond, Result, Ok, Err, refl, sym, ap, subst, ◌∙◌}
use Rattle.std.proofs.Common.{Ordering, Less, Equal, Greater, ℕ}
use Rattle.std.proofs.lemmas.Bool.{eqb-false}
use Rattle.std.specs.Ordering.{is_eq, match_ordering}
use Rattle.std.specs.List.Sorted.{IsPermutation}
use Rattle.std.proofs.lemmas.List.Sorted.{IsPermutation-refl, IsPermutation-cons}
use Rattle.std.proofs.lemmas.List.Sorted.{IsPermutation-trans, IsPermutation-append_comm}
use Rattle.std.proofs.lemmas.List.Sorted.{IsPermutation-append_left}
use Rattle.sqlite_value.specs.declared.value.Value.{Value}
use Rattle.sqlite_value.specs.declared.value.Value.TheVariants.{Null, Int}
use Rattle.sqlite_value.specs.Order.{Row, value_cmp}
use Rattle.sqlite_trees.specs.Tree.{Trees, rowid, put_row}
use Rattle.sqlite_sql.specs.Ops.{unary}
use Rattle.sqlite_schema.specs.declared.schema.Keys.{Keys}
use Rattle.sqlite_schema.specs.declared.schema.Schema.{Schema}
use Rattle.sqlite_schema.specs.declared.schema.Kind.TheVariants.{Integer}
use Rattle.sqlite_rules.specs.Cast.{cast}
use Rattle.sqlite_rules.specs.Edit.{Edit, is_taken, are_fresh, left_by, put_all, taken_by}
use Rattle.sqlite_rules.specs.Action.{Writes, works}
use Rattle.sqlite.proofs.Callers.{one_step}
use Rattle.s10_schema.specs.Schema.{with_closed}

either : (b : Bool) (x : Value) → cond b x x ≡ x
either true x = refl
either false x = refl

pub cast_int : (n : ℤ) → cast Integer (Int n) ≡ Int n
unfolding unary
cast_int n = either _ (Int n)

pub cast_null : cast Integer Null ≡ Null
unfolding unary
cast_null = either _ Null

-- A part that gave a value did not stop before.
pub went : {B E R : Type 0} {b : B} {Stops : E → Type 0}
    → ((stop : E) × Stops stop × (Ok b ≡ Err stop)) ⊎ R → R
went (inl stopped) = absurd (let e = stopped.2 in cc)
went (inr on) = on

pub same_value : {B E : Type 0} {a b : B} → ◌≡◌ {A = Result B E} (Ok a) (Ok b) → a ≡ b
same_value e = cc

swapped : (a b : Row) (rows : List Row) → IsPermutation (a ∷ b ∷ rows) (b ∷ a ∷ rows)
swapped a b rows = IsPermutation-append_left rows (a ∷ b ∷ []) (b ∷ a ∷ [])
    (IsPermutation-append_comm (a ∷ []) (b ∷ []))

-- A row whose rowid is free is one more row.
pub put_fresh : (new : Row) (rows : List Row) → is_taken rows new ≡ false
    → IsPermutation (new ∷ rows) (put_row new rows)
put_fresh new [] free = IsPermutation-refl (new ∷ [])
put_fresh new (r ∷ rs) free = go (put_fresh new rs) (value_cmp (rowid r) (rowid new)) free
  where
    go : (is_taken rs new ≡ false → IsPermutation (new ∷ rs) (put_row new rs)) → (o : Ordering)
        → (is_eq o || is_taken rs new) ≡ false
        → IsPermutation (new ∷ r ∷ rs) (match_ordering o (r ∷ put_row new rs) (new ∷ rs)
        (new ∷ r ∷ rs))
    go more Less h = IsPermutation-trans _ _ _ (swapped new r rs)
        (IsPermutation-cons r (new ∷ rs) (put_row new rs) (more h))
    go more Equal h = absurd (let e = h in cc)
    go more Greater h = IsPermutation-refl _

fresh_both : (a b : Bool) → (not a && b) ≡ true → a ≡ false
fresh_both true b h = absurd (let e = h in cc)
fresh_both false b h = refl

-- The one new row of an edit has a free rowid.
pub one_fresh : (rows : List Row) (new : Row) → are_fresh rows (new ∷ []) ≡ true → is_taken rows new
    ≡ false
one_fresh rows new h = fresh_both (is_taken rows new) _ h

-- The trees of the five tables, except this one, are as they were.
pub record Spares (tree : ℕ) (old new : Trees) : Type 0 where
  pub head : (0 == tree) ≡ false → new 0 ≡ old 0
  pub calls : (1 == tree) ≡ false → new 1 ≡ old 1
  pub ranges : (3 == tree) ≡ false → new 3 ≡ old 3
  pub serials : (4 == tree) ≡ false → new 4 ≡ old 4
  pub closed : (6 == tree) ≡ false → new 6 ≡ old 6

-- An edit with one new row, on which no foreign key acts.
pub put_one : (o : Schema) (keys : Keys) (db next : Trees) (edit : Edit) (row : Row)
    → works (with_closed o) keys 0 edit.table.tree (taken_by db edit) edit.news ≡ []
    → edit.news ≡ row ∷ [] → Writes (with_closed o) keys db edit (Ok next)
    → IsPermutation (row ∷ left_by db edit) (next edit.table.tree)
    × Spares edit.table.tree db next
put_one o keys db next edit row none news wrote =
    let a = one_step (with_closed o) keys db next edit none wrote in
    let left = left_by db edit in
    let tree = edit.table.tree in
    let fresh : are_fresh left (row ∷ []) ≡ true = subst (λ n. are_fresh left n ≡ true) news a.fresh
    in
    let rows : next tree ≡ put_row row left = a.rows ∙ ap (put_all left) news in (
      subst (IsPermutation (row ∷ left)) (sym rows) (put_fresh row left (one_fresh left row fresh)),
      record {
        head = λ e. a.tables.0 (eqb-false 0 tree e);
        calls = λ e. a.tables.1.0 (eqb-false 1 tree e);
        ranges = λ e. a.tables.1.1.0 (eqb-false 3 tree e);
        serials = λ e. a.tables.1.1.1.0 (eqb-false 4 tree e);
        closed = λ e. a.tables.1.1.1.1.0 (eqb-false 6 tree e);
      },
    )

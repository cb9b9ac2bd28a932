-- The tables after those of a ledger have no part in its writes.
use Rattle.std.proofs.Common.{◌≡◌, ℕ, ◌==◌, Bool, true, false, not, ◌&&◌, cond, List, [], ◌∷◌}
use Rattle.std.proofs.Common.{length, Option, Some, None, refl, sym, subst, ◌∙◌}
use Rattle.std.specs.Prelude.{IfSome, find, filter_map, flat_map, option_map, option_and_then}
use Rattle.std.specs.Prelude.{codes, drop}
use Rattle.std.specs.List.{list_any, list_all, AllByRecursion}
use base.Stored.{Coded-set}
use mathlib.Core.Bool.{Bool-set}
use Rattle.sqlite_value.specs.Order.{Row}
use Rattle.sqlite_value.specs.declared.keys.Order.{Order}
use Rattle.sqlite_schema.specs.declared.schema.Keys.{Keys}
use Rattle.sqlite_schema.specs.declared.schema.Table.{Table}
use Rattle.sqlite_schema.specs.declared.schema.Index.{Index}
use Rattle.sqlite_schema.specs.declared.schema.Reference.{Reference}
use Rattle.sqlite_schema.specs.declared.schema.Schema.{Schema}
use Rattle.sqlite_schema.specs.contracts.schema.Schema as schema
use Rattle.sqlite_schema.specs.Names.{same_name}
use Rattle.sqlite_schema.specs.Rules.{ParentKey, parent_key, key_in, key_places, declared_order}
use Rattle.sqlite_schema.specs.Rules.{guards}
use Rattle.sqlite_rules.specs.declared.action.Deed.{Deed}
use Rattle.sqlite_rules.specs.Action.{work_by, work_for, works, pairs, deed_for}
use Rattle.sqlite_rules.specs.Keys.{shares}
use Rattle.s10_schema.specs.Schema.{IsLedgerSchema, IsClosedSchema, with_others, with_closed}
use Rattle.s10_schema.specs.Schema.{closed_first, others_after_closed, is_own_tree, is_own_name}
use Rattle.s10_schema.specs.Schema.{refer_apart, refer_apart_from_closed, are_apart}
use Rattle.s10_schema.specs.Schema.{are_apart_from_closed, index_apart}
use Rattle.std.proofs.lemmas.Bool.{and_parts, not-true, or_parts}
use Rattle.sqlite_keyed.proofs.ListLemmas.{all_weaker, all_from_test}

pub is_ledger-prop : (s : Schema) (a b : IsLedgerSchema s) → a ≡ b
is_ledger-prop s a b =
    let p = Coded-set schema.the_row.coded _ _ a.is b.is in
    let q = Bool-set _ _ a.tables b.tables in
    let r = Bool-set _ _ a.indexes b.indexes in
    λ i. record { is = p i; tables = q i; indexes = r i }

pub is_closed-prop : (s : Schema) (a b : IsClosedSchema s) → a ≡ b
is_closed-prop s a b =
    let o = is_ledger-prop s a.ledger b.ledger in
    let p = Coded-set schema.the_row.coded _ _ a.is b.is in
    let q = Bool-set _ _ a.tables b.tables in
    let r = Bool-set _ _ a.indexes b.indexes in
    λ i. record { ledger = o i; is = p i; tables = q i; indexes = r i }

-- A schema that is equal to that of a ledger.
pub is_as_it_was : (s t : Schema) → IsClosedSchema s → t ≡ with_closed (others_after_closed s)
    → IsClosedSchema t
is_as_it_was s t has e = subst IsClosedSchema (has.is ∙ sym e) has

-- The tables after closed are apart from the four too.
pub after_apart : (s : Schema) → IsClosedSchema s → are_apart (others_after_closed s).tables ≡ true
after_apart s has = subst (λ (x : Schema). are_apart (drop 4 x.tables) ≡ true) has.is
    has.ledger.tables

abbrev Misses : ℕ → Option ParentKey → Type 0
Misses tree key = IfSome key (λ k. (k.0 == tree) ≡ false)

abbrev Elsewhere : ℕ → Table → Type 0
Elsewhere tree t = (t.tree == tree) ≡ false

in_order : (tree : ℕ) (t : Table) (places : List ℕ) (o : Option Order) → Elsewhere tree t
    → Misses tree (option_map (λ o. (t.tree, places, o)) o)
in_order tree t places None e = tt
in_order tree t places (Some o) e = e

at_places : (tree : ℕ) (t : Table) (places : Option (List ℕ)) → Elsewhere tree t
    → Misses tree (option_and_then (key_in t) places)
at_places tree t None e = tt
at_places tree t (Some places) e = in_order tree t places (declared_order t places) e

of_parent : (tree : ℕ) (ref : Reference) (t : Option Table) → IfSome t (Elsewhere tree)
    → Misses tree
    (option_and_then (λ t. option_and_then (key_in t) (key_places t ref.parent_columns)) t)
of_parent tree ref None e = tt
of_parent tree ref (Some t) e = at_places tree t (key_places t ref.parent_columns) e

no_work_by : (depth tree : ℕ) (moves : List (Row × Row)) (child : Table) (ref : Reference)
    (deed : Option Deed) (key : Option ParentKey) → Misses tree key
    → work_by depth tree moves child ref deed key ≡ None
no_work_by depth tree moves child ref None key e = refl
no_work_by depth tree moves child ref (Some deed) None e = refl
no_work_by depth tree moves child ref (Some deed) (Some key) e = rw e refl

-- What a test shows of each element if all pass it, and what two tests show.
each_of : {X : Type 0} (p : X → Bool) (P : X → Type 0) → ((x : X) → p x ≡ true → P x)
    → (xs : List X) → list_all p xs ≡ true → AllByRecursion P xs
each_of p P says xs h = all_weaker (λ x. p x ≡ true) P says xs (all_from_test p xs h)

each_of_both : {X : Type 0} (p q : X → Bool) (P : X → Type 0) → ((x : X) → p x ≡ true → q x ≡ true
    → P x) → (xs : List X) → list_all p xs ≡ true → list_all q xs ≡ true → AllByRecursion P xs
each_of_both p q P says [] g h = tt
each_of_both p q P says (x ∷ xs) g h =
    let a = and_parts (p x) (list_all p xs) g in
    let b = and_parts (q x) (list_all q xs) h in
    (says x a.0 b.0, each_of_both p q P says xs a.1 b.1)

found_elsewhere : (tree : ℕ) (p : Table → Bool) (ts : List Table)
    → AllByRecursion (Elsewhere tree) ts → IfSome (find p ts) (Elsewhere tree)
found_elsewhere tree p [] all = tt
found_elsewhere tree p (t ∷ ts) all =
    elim (p t) as (λ b. IfSome (cond b (Some t) (find p ts)) (Elsewhere tree))
    [ true ↦ all.0 | false ↦ found_elsewhere tree p ts all.1 ]

-- The foreign keys of the table are on other trees.
abbrev PointsElsewhere : ℕ → List Table → Table → Type 0
PointsElsewhere tree whole t = AllByRecursion (λ ref. Misses tree (parent_key whole ref))
    t.references

module _ (tree : ℕ) (whole : Schema) (keys : Keys) (depth : ℕ) (olds news : List Row) where
  no_work_of : (child : Table) (refs : List Reference)
      → AllByRecursion (λ ref. Misses tree (parent_key whole.tables ref)) refs
      → filter_map (work_for whole keys depth tree olds news child) refs ≡ []
  no_work_of child [] all = refl
  no_work_of child (ref ∷ refs) all =
      let none : work_for whole keys depth tree olds news child ref ≡ None =
      no_work_by depth tree (pairs olds news) child ref (deed_for keys (length news == 0) ref)
      (parent_key whole.tables ref) all.0 in
      rw none (no_work_of child refs all.1)

  no_work_in : (ts : List Table) → AllByRecursion (PointsElsewhere tree whole.tables) ts
      → flat_map (λ child. filter_map (work_for whole keys depth tree olds news child)
      child.references) ts ≡ []
  no_work_in [] all = refl
  no_work_in (t ∷ ts) all = rw (no_work_of t t.references all.0) (no_work_in ts all.1)

-- A name that is none of the four is looked up after them.
past_four : (o : Schema) (ref : Reference) → is_own_name ref.parent ≡ false
    → find (λ t. same_name t.name ref.parent) (with_others o).tables
    ≡ find (λ t. same_name t.name ref.parent) o.tables
past_four o ref other =
    let a = or_parts (same_name (codes "head") ref.parent) _ other in
    let b = or_parts (same_name (codes "calls") ref.parent) _ a.1 in
    let c = or_parts (same_name (codes "ranges") ref.parent) (same_name (codes "serials") ref.parent)
    b.1 in
    rw (a.0, b.0, c.0, c.1) refl

-- A name that is not that of closed either is looked up after closed.
past_closed : (o : Schema) (ref : Reference) → is_own_name ref.parent ≡ false
    → same_name (codes "closed") ref.parent ≡ false
    → find (λ t. same_name t.name ref.parent) (with_closed o).tables
    ≡ find (λ t. same_name t.name ref.parent) o.tables
past_closed o ref other fifth = past_four (closed_first o) ref other ∙ rw fifth refl

-- No foreign key acts on a write of closed.
pub no_works_closed : (o : Schema) → are_apart o.tables ≡ true → are_apart_from_closed o.tables
    ≡ true → (keys : Keys) (depth : ℕ) (olds news : List Row)
    → works (with_closed o) keys depth 6 olds news ≡ []
no_works_closed o apart past keys depth olds news = no_work_in 6 (with_closed o) keys depth olds
    news o.tables (each_of_both _ _ (PointsElsewhere 6 (with_closed o).tables) points o.tables apart
    past)
  where
    elsewhere : AllByRecursion (Elsewhere 6) o.tables
    elsewhere = each_of _ (Elsewhere 6)
        (λ t h. not-true (t.tree == 6)
        (and_parts (not (t.tree == 6)) (refer_apart_from_closed t.references) h).0) o.tables past

    misses : (ref : Reference) → not (is_own_name ref.parent) ≡ true
        → not (same_name (codes "closed") ref.parent) ≡ true
        → Misses 6 (parent_key (with_closed o).tables ref)
    misses ref other fifth =
        of_parent 6 ref (find (λ t. same_name t.name ref.parent) (with_closed o).tables)
        (subst (λ f. IfSome f (Elsewhere 6))
        (sym (past_closed o ref (not-true (is_own_name ref.parent) other)
        (not-true (same_name (codes "closed") ref.parent) fifth)))
        (found_elsewhere 6 (λ t. same_name t.name ref.parent) o.tables elsewhere))

    points : (t : Table) → (not (is_own_tree t.tree) && refer_apart t.references) ≡ true
        → (not (t.tree == 6) && refer_apart_from_closed t.references) ≡ true
        → PointsElsewhere 6 (with_closed o).tables t
    points t own fifth =
        each_of_both _ _ (λ ref. Misses 6 (parent_key (with_closed o).tables ref)) misses
        t.references (and_parts (not (is_own_tree t.tree)) (refer_apart t.references) own).1
        (and_parts (not (t.tree == 6)) (refer_apart_from_closed t.references) fifth).1

module _ (tree : ℕ) (own : (n : ℕ) → is_own_tree n ≡ false → (n == tree) ≡ false) where
  module _ (o : Schema) (apart : are_apart o.tables ≡ true) (keys : Keys) (depth : ℕ)
      (olds news : List Row) where
    elsewhere : AllByRecursion (Elsewhere tree) o.tables
    elsewhere = each_of _ (Elsewhere tree)
        (λ t h. own t.tree
        (not-true (is_own_tree t.tree) (and_parts (not (is_own_tree t.tree)) (refer_apart t.references)
        h).0)) o.tables apart

    misses : (ref : Reference) → not (is_own_name ref.parent) ≡ true
        → Misses tree (parent_key (with_others o).tables ref)
    misses ref other =
        of_parent tree ref (find (λ t. same_name t.name ref.parent) (with_others o).tables)
        (subst (λ f. IfSome f (Elsewhere tree))
        (sym (past_four o ref (not-true (is_own_name ref.parent) other)))
        (found_elsewhere tree (λ t. same_name t.name ref.parent) o.tables elsewhere))

    points : (t : Table) → (not (is_own_tree t.tree) && refer_apart t.references) ≡ true
        → PointsElsewhere tree (with_others o).tables t
    points t h = each_of _ (λ ref. Misses tree (parent_key (with_others o).tables ref)) misses
        t.references (and_parts (not (is_own_tree t.tree)) (refer_apart t.references) h).1

    -- No foreign key acts on a write of that table.
    pub no_works : works (with_others o) keys depth tree olds news ≡ []
    no_works = no_work_in tree (with_others o) keys depth olds news o.tables
        (each_of _ (PointsElsewhere tree (with_others o).tables) points o.tables apart)

  no_guard : (i : Index) (table : Table) → table.tree ≡ tree → is_own_tree i.table ≡ false
      → guards i table ≡ false
  no_guard i table at e = elim (i.is_unique) as (λ b. (b && (i.table == table.tree)) ≡ false)
      [ true ↦ rw at (own i.table e) | false ↦ refl ]

  -- No index of another table has one of its keys.
  pub none_shares : (target : Option (List ℕ)) (table : Table) → table.tree ≡ tree
      → (new row : Row) (is : List Index) → index_apart is ≡ true
      → list_any (shares target table new row) is ≡ false
  none_shares target table at new row [] h = refl
  none_shares target table at new row (i ∷ is) h =
      let b = and_parts (not (is_own_tree i.table)) (index_apart is) h in
      rw (no_guard i table at (not-true (is_own_tree i.table) b.0))
      (none_shares target table at new row is b.1)

pub not_head : (n : ℕ) → is_own_tree n ≡ false → (n == 0) ≡ false
not_head n h = (or_parts (n == 0) _ h).0

pub not_calls : (n : ℕ) → is_own_tree n ≡ false → (n == 1) ≡ false
not_calls n h = (or_parts (n == 1) _ (or_parts (n == 0) _ h).1).0

pub not_ranges : (n : ℕ) → is_own_tree n ≡ false → (n == 3) ≡ false
not_ranges n h = (or_parts (n == 3) _ (or_parts (n == 1) _ (or_parts (n == 0) _ h).1).1).0

pub not_serials : (n : ℕ) → is_own_tree n ≡ false → (n == 4) ≡ false
not_serials n h = (or_parts (n == 3) _ (or_parts (n == 1) _ (or_parts (n == 0) _ h).1).1).1

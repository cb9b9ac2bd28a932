-- The check of head, as a term of nodes.
use Rattle.std.proofs.Common.{◌≡◌, ◌≢◌, ℕ, zero, suc, ◌<◌, ◌≤◌, pos, List, [], ◌∷◌, length, refl}
use Rattle.std.proofs.Common.{sym, ap, subst, ◌∙◌, arith}
use Rattle.std.specs.Prelude.{slice_get, Some, None, ◌↔◌, IsTrue, Bool, false}
use Rattle.std.proofs.lemmas.Option.{none-some, same_Some}
use Rattle.sqlite_value.specs.declared.keys.Collation.TheVariants.{Binary}
use Rattle.sqlite_value.specs.declared.value.Value.TheVariants.{Null, Int}
use Rattle.sqlite_sql.specs.declared.ops.BinaryOp.TheVariants.{Compare}
use Rattle.sqlite_sql.specs.declared.ops.CompareOp.TheVariants.{Eq}
use Rattle.sqlite_sql.specs.Term.{Term, lit, col}
use Rattle.sqlite_schema.specs.declared.code.Op.{Op}
use Rattle.sqlite_schema.specs.declared.code.Op.TheVariants as node
use Rattle.sqlite_schema.specs.Code.{op_term, term_to, term_in}
use Rattle.s10_schema.specs.Schema.{one_is_one, node_at}

abbrev equality : ℕ → ℕ → Op
equality a b = node.Binary (Compare Eq Binary) a b

within : (nodes : List Op) (at : ℕ) → node_at nodes at ≢ node.Literal Null → at < length nodes
within [] at there = absurd (there refl)
within (x ∷ xs) zero there = omega arith
within (x ∷ xs) (suc at) there = omega (arith, within xs at there)

-- The parts of an equality.
is_equality : (below : ℕ → Term) (op : Op) → op_term below op ≡ one_is_one → (a : ℕ) × (b : ℕ)
    × (op ≡ equality a b) × (below a ≡ col 1 0) × (below b ≡ lit (Int (pos 1)))
is_equality below (node.Literal v) e = absurd (cc)
is_equality below (node.Column slot at) e = absurd (cc)
is_equality below (node.Unary op a) e = absurd (cc)
is_equality below (node.Binary op a b) e = (a, b, (cc), (cc), (cc))
is_equality below (node.Case t a b) e = absurd (cc)

is_column : (nodes : List Op) (depth at : ℕ) → term_to nodes depth at ≡ col 1 0 → node_at nodes at
    ≡ node.Column 1 0
is_column nodes zero at e = absurd (cc)
is_column nodes (suc depth) at e = column_of (term_to nodes depth) (node_at nodes at) e where
  column_of : (below : ℕ → Term) (op : Op) → op_term below op ≡ col 1 0 → op ≡ node.Column 1 0
  column_of below (node.Literal v) e = absurd (cc)
  column_of below (node.Column slot at) e = (cc)
  column_of below (node.Unary op a) e = absurd (cc)
  column_of below (node.Binary op a b) e = absurd (cc)
  column_of below (node.Case t a b) e = absurd (cc)

is_literal : (nodes : List Op) (depth at : ℕ) → term_to nodes depth at ≡ lit (Int (pos 1))
    → node_at nodes at ≡ node.Literal (Int (pos 1))
is_literal nodes zero at e = absurd (cc)
is_literal nodes (suc depth) at e = literal_of (term_to nodes depth) (node_at nodes at) e where
  literal_of : (below : ℕ → Term) (op : Op) → op_term below op ≡ lit (Int (pos 1))
      → op ≡ node.Literal (Int (pos 1))
  literal_of below (node.Literal v) e = (cc)
  literal_of below (node.Column slot at) e = absurd (cc)
  literal_of below (node.Unary op a) e = absurd (cc)
  literal_of below (node.Binary op a b) e = absurd (cc)
  literal_of below (node.Case t a b) e = absurd (cc)

abbrev Parts : List Op → ℕ → Type 0
Parts nodes root = (a : ℕ) × (b : ℕ) × (node_at nodes root ≡ equality a b)
    × (node_at nodes a ≡ node.Column 1 0) × (node_at nodes b ≡ node.Literal (Int (pos 1)))

parts_to : (nodes : List Op) (depth root : ℕ) → term_to nodes depth root ≡ one_is_one
    → Parts nodes root
parts_to nodes zero root e = absurd (cc)
parts_to nodes (suc depth) root e =
    let p = is_equality (term_to nodes depth) (node_at nodes root) e in
    (p.0, p.1, p.2, is_column nodes depth p.0 p.3, is_literal nodes depth p.1 p.4)

-- The parts of a term that is `one = 1`.
pub parts_of : (nodes : List Op) (root : ℕ) → term_in nodes root ≡ one_is_one → Parts nodes root
parts_of nodes root e = parts_to nodes (length nodes) root e

whole_to : (nodes : List Op) (depth root a b : ℕ) → 2 ≤ depth → node_at nodes root ≡ equality a b
    → node_at nodes a ≡ node.Column 1 0 → node_at nodes b ≡ node.Literal (Int (pos 1))
    → term_to nodes depth root ≡ one_is_one
whole_to nodes zero root a b deep is key one = absurd (omega arith)
whole_to nodes (suc zero) root a b deep is key one = absurd (omega arith)
whole_to nodes (suc (suc depth)) root a b deep is key one = rw (is, key, one) refl

-- Two different indices of nodes.
two_places : (n i j : ℕ) → i < n → j < n → i ≢ j → 2 ≤ n
two_places n i j x y other = omega arith

pub whole_of : (nodes : List Op) (root a b : ℕ) → node_at nodes root ≡ equality a b
    → node_at nodes a ≡ node.Column 1 0 → node_at nodes b ≡ node.Literal (Int (pos 1))
    → term_in nodes root ≡ one_is_one
whole_of nodes root a b is key one =
    let top : root < length nodes =
    within nodes root (λ (e : node_at nodes root ≡ node.Literal Null). cc) in
    let low : a < length nodes = within nodes a (λ (e : node_at nodes a ≡ node.Literal Null). cc) in
    let other : root ≢ a = λ (e : root ≡ a). let same : node_at nodes root ≡ node_at nodes a =
    ap (node_at nodes) e in cc in
    whole_to nodes (length nodes) root a b (two_places (length nodes) root a top low other) is key
    one

-- The node that is found, or NULL.
pub found_node : (nodes : List Op) (at : ℕ) (op : Op) → Some op ≡ slice_get nodes at
    → node_at nodes at ≡ op
found_node [] at op e = absurd (none-some op (sym e))
found_node (x ∷ xs) zero op e = sym (same_Some op x e)
found_node (x ∷ xs) (suc at) op e = found_node xs at op e

pub no_node : (nodes : List Op) (at : ℕ) → None ≡ slice_get nodes at → node_at nodes at
    ≡ node.Literal Null
no_node [] at e = refl
no_node (x ∷ xs) zero e = absurd (none-some x e)
no_node (x ∷ xs) (suc at) e = no_node xs at e

false_is_not : {P : Type 0} → IsTrue false → P
false_is_not t = absurd (cc)

pub not_there : (nodes : List Op) (at : ℕ) (x : Op) → None ≡ slice_get nodes at
    → x ≢ node.Literal Null → (IsTrue false ↔ (node_at nodes at ≡ x))
not_there nodes at x none other =
    (λ t. false_is_not t, λ e. absurd (other (sym e ∙ no_node nodes at none)))

pub there : (nodes : List Op) (at : ℕ) (op x : Op) (b : Bool) → Some op ≡ slice_get nodes at
    → (IsTrue b ↔ (op ≡ x)) → (IsTrue b ↔ (node_at nodes at ≡ x))
there nodes at op x b found is =
    subst (λ n. IsTrue b ↔ (n ≡ x)) (sym (found_node nodes at op found)) is

pub no_root : (nodes : List Op) (root : ℕ) → None ≡ slice_get nodes root
    → (IsTrue false ↔ (term_in nodes root ≡ one_is_one))
no_root nodes root none = (
  λ t. false_is_not t,
  λ e. let p = parts_of nodes root e in
      let is : node.Literal Null ≡ equality p.0 p.1 = sym (no_node nodes root none) ∙ p.2 in
      absurd (cc),
)

pub no_equality : (nodes : List Op) (root : ℕ) (op : Op) → Some op ≡ slice_get nodes root
    → ((a b : ℕ) → ¬ (op ≡ equality a b)) → (IsTrue false ↔ (term_in nodes root ≡ one_is_one))
no_equality nodes root op found none = (
  λ t. false_is_not t,
  λ e. let p = parts_of nodes root e in
      absurd (none p.0 p.1 (sym (found_node nodes root op found) ∙ p.2)),
)

-- Equal equalities have equal sides.
same_sides : (a b c d : ℕ) → equality a b ≡ equality c d → (a ≡ c) × (b ≡ d)
same_sides a b c d e = ((cc), (cc))

module _ (nodes : List Op) (root : ℕ) (op : Op) (key one : ℕ)
    (found : Some op ≡ slice_get nodes root) (is : op ≡ equality key one) where
  root_is : node_at nodes root ≡ equality key one
  root_is = found_node nodes root op found ∙ is

  sides : term_in nodes root ≡ one_is_one → (node_at nodes key ≡ node.Column 1 0)
      × (node_at nodes one ≡ node.Literal (Int (pos 1)))
  sides e =
      let p = parts_of nodes root e in
      let same = same_sides p.0 p.1 key one (sym p.2 ∙ root_is) in (
        subst (λ a. node_at nodes a ≡ node.Column 1 0) same.0 p.3,
        subst (λ b. node_at nodes b ≡ node.Literal (Int (pos 1))) same.1 p.4,
      )

  pub by_one : (b : Bool) → node_at nodes key ≡ node.Column 1 0
      → (IsTrue b ↔ (node_at nodes one ≡ node.Literal (Int (pos 1))))
      → (IsTrue b ↔ (term_in nodes root ≡ one_is_one))
  by_one b first second = (
    λ t. whole_of nodes root key one root_is first (second.0 t),
    λ e. second.1 (sides e).1,
  )

  pub by_key : (b : Bool) → ¬ (IsTrue b) → (node_at nodes key ≡ node.Column 1 0 → IsTrue b)
      → (IsTrue b ↔ (term_in nodes root ≡ one_is_one))
  by_key b not first = (λ t. absurd (not t), λ e. first (sides e).0)

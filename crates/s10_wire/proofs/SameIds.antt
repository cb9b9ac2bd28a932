-- The meaning of `==` for the identifiers of a sheet.
use Rattle.std.proofs.Common.{◌≡◌, ◌-◌, List, length, take, ap, sym, ◌∙◌, rules, refl}
use Rattle.std.specs.Prelude.{replicate}
use Rattle.std.specs.Bool.{Decides}
use Rattle.std.proofs.Math.Seq.{take-append_seam}
use Rattle.std.proofs.lemmas.Slice.Eq.{slice_eq-Decides}
use Rattle.std.proofs.lemmas.Bool.Decides.{Decides-like, Decides-and, Decides-eqb}
use Rattle.s10_core.specs.declared.id.Id.{Id}
use Rattle.s10_core.specs.contracts.id.IdPartialEq.TheImpl as id_equality
use Rattle.s10_wire.specs.contracts.ids.IdsPartialEq.TheImpl as ids_equality
use Rattle.s10_wire.specs.Ids.{padded_with_first, first_id}

id_decides : (a b : Id) → Decides (id_equality.ghosts.eq a b) (a ≡ b)
id_decides a b = (Prim.search rules, Prim.search rules)

unroomed : (xs : List Id) → take (length xs) (padded_with_first xs) ≡ xs
unroomed xs = take-append_seam xs (replicate (16 - length xs) (first_id xs))

same : (xs ys : List Id) → padded_with_first xs ≡ padded_with_first ys → length xs ≡ length ys → xs ≡ ys
same xs ys room long = sym (unroomed xs) ∙ (λ i. take (long i) (room i)) ∙ unroomed ys

pub ids_decides : (xs ys : List Id) → Decides (ids_equality.ghosts.eq xs ys) (xs ≡ ys)
ids_decides xs ys =
    Decides-like _ (λ p. same xs ys p.0 p.1) (λ e. (ap padded_with_first e, ap length e))
    (Decides-and _ _ (slice_eq-Decides id_decides (padded_with_first xs) (padded_with_first ys) _ refl)
    (Decides-eqb (length xs) (length ys)))

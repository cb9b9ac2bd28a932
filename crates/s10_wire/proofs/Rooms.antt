-- Identifiers in an array of sixteen.
use Rattle.std.proofs.Common.{◌≡◌, ◌-◌, ◌≤◌, List, [], ◌∷◌, ◌++◌, length, get_or, take, drop}
use Rattle.std.proofs.Common.{replicate, sym, ap, ap₂, ◌∙◌, arith, take_all}
use Rattle.std.proofs.lemmas.List.{take-append-le, drop-replicate}
use Rattle.s10_core.specs.declared.id.Id.{Id}
use Rattle.s10_wire.specs.Ids.{first_id, padded_with_first, ArePaddedWithFirst}

pub first_is : (ids : List Id) (x : Id) → 1 ≤ length ids → x ≡ get_or ids 0 x → x ≡ first_id ids
first_is [] x some e = absurd (omega (arith, some))
first_is (y ∷ ys) x some e = e

pub are_roomed : (ids : List Id) (x : Id) (front : List Id) → 1 ≤ length ids → length ids ≤ 16
    → x ≡ first_id ids → front ≡ ids
    → ArePaddedWithFirst (front ++ drop (length ids) (x ∷ x ∷ x ∷ x ∷ x ∷ x ∷ x ∷ x ∷ x ∷ x ∷ x ∷ x ∷ x
    ∷ x ∷ x ∷ x ∷ [])) (length ids)
are_roomed ids x front some few first same =
    let rest : List Id = drop (length ids) (replicate 16 x) in
    let taken : take (length ids) (front ++ drop (length ids) (replicate 16 x)) ≡ ids =
    ap (λ (l : List Id). take (length ids) (l ++ drop (length ids) (replicate 16 x))) same
    ∙ take-append-le (length ids) ids (drop (length ids) (replicate 16 x)) (omega arith)
    ∙ take_all (length ids) ids (omega arith) in
    record {
      count = (some, few);
      long = ap length taken;
      rest = ap₂ (λ (l m : List Id). l ++ m) same (drop-replicate (length ids) 16 x
          ∙ ap (replicate (16 - length ids)) first) ∙ sym (ap padded_with_first taken);
    }

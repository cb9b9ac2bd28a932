use Rattle.std.proofs.Common.{◌≡◌, ℕ, ◌+◌, true, false, [], List, ◌∷◌, get_or, drop, refl, sym, ap}
use Rattle.std.proofs.Common.{subst, ◌∙◌, arith}
use Rattle.std.specs.Prelude.{All}
use Rattle.std.proofs.lemmas.Bool.{and_from, and_parts, false_from_ne_true}
use Rattle.std.proofs.lemmas.List.Elements.{All-nil, All-cons}
use Rattle.s10_core.specs.Letters.{IsCapital, letters_of}
use Rattle.s10_wire.specs.WireFault.{are_letters}
use Rattle.s10_wire.proofs.Bytes.{two_at}
use Rattle.s10_wire.proofs.Identifiers.{capital_passes, capital_of}
use Rattle.s10_wire.proofs.fields.service_at.Goals as goal

pub bounds-bytes-start : goal.bounds-bytes-start
bounds-bytes-start c = omega arith

pub overflow_add-start : goal.overflow_add-start
overflow_add-start c = omega arith

pub bounds-bytes-start-2 : goal.bounds-bytes-start-2
bounds-bytes-start-2 c = omega arith

pub new-requires : goal.new-requires
new-requires c = tt

pub returns-in-Some-clause-ok : goal.returns-in-Some-clause-ok
returns-in-Some-clause-ok c =
    let b = c.args.bytes.now in
    let at = c.args.at in
    let first : IsCapital (get_or b at 0) = c.in-Some.ensures.capitals.0 refl 0 0 (omega arith) in
    let second : IsCapital (get_or b (at + 1) 0) = c.in-Some.ensures.capitals.0 refl 1 0
    (omega arith) in
    and_from _ _ (capital_passes (get_or b at 0) first) (capital_passes (get_or b (at + 1) 0)
    second)

pub returns-in-Some-clause-read : goal.returns-in-Some-clause-read
returns-in-Some-clause-read c =
    let b = c.args.bytes.now in
    let at = c.args.at in
    let letters : letters_of c.in-Some.service ≡ get_or b at 0 ∷ get_or b (at + 1) 0 ∷ [] =
    c.in-Some.ensures.letters in
    let all : All IsCapital (letters_of c.in-Some.service) = subst (λ (l : List ℕ). All IsCapital l)
    (sym letters) (c.in-Some.ensures.capitals.0 refl) in (
      (all 0 0 (omega arith), all 1 0 (omega arith)),
      two_at b at c.requires
          ∙ ap (λ (l : List ℕ). get_or l 0 0 ∷ get_or l 1 0 ∷ drop (at + 2) b) (sym letters),
    )

pub returns-in-Some-clause-err : goal.returns-in-Some-clause-err
returns-in-Some-clause-err c = tt

pub returns-in-None-clause-ok : goal.returns-in-None-clause-ok
returns-in-None-clause-ok c = tt

pub returns-in-None-clause-read : goal.returns-in-None-clause-read
returns-in-None-clause-read c = tt

pub returns-in-None-clause-err : goal.returns-in-None-clause-err
returns-in-None-clause-err c =
    let b = c.args.bytes.now in
    let at = c.args.at in (
      refl,
      false_from_ne_true (are_letters b at) (λ passes.
          let both = and_parts _ _ passes in
          let some : false ≡ true =
          c.in-None.ensures.capitals.1 (All-cons IsCapital (get_or b at 0)
          (get_or b (at + 1) 0 ∷ []) (capital_of (get_or b at 0) both.0)
          (All-cons IsCapital (get_or b (at + 1) 0) [] (capital_of (get_or b (at + 1) 0) both.1)
          (All-nil IsCapital))) in
          cc),
    )

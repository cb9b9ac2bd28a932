use Rattle.std.proofs.Common.{◌≡◌, ◌+◌, ◌<◌, ◌^◌, sym, ◌∙◌, arith, length-take}
use Rattle.std.proofs.lemmas.Option.{same_Some}
use Rattle.s10_link.proofs.Numerals.{cut_after, place_after, stands_at_position, not_too_great}
use Rattle.s10_link.proofs.Numerals.{kept_value, behind}
use Rattle.s10_link.proofs.peer.octet_before.Goals as goal

pub place_of-requires : goal.place_of-requires
place_of-requires c = tt

pub read_number-requires : goal.read_number-requires
read_number-requires c = tt

pub slice_bounds-read_number-end : goal.slice_bounds-read_number-end
slice_bounds-read_number-end c =
    let stands = stands_at_position c.args.separator c.args.text.now c.in_ok-at.at
    (sym c.in_ok-at.ensures) in
    let here = stands.0 in
    omega (arith, length-take c.in_ok-at.at c.args.text.now, here)

pub slice_bounds-result-count : goal.slice_bounds-result-count
slice_bounds-result-count c =
    let stands = stands_at_position c.args.separator c.args.text.now c.in_ok-at.at
    (sym c.in_ok-at.ensures) in
    let here = stands.0 in
    omega (arith, here)

pub returns-in_err-at-clause-read : goal.returns-in_err-at-clause-read
returns-in_err-at-clause-read c =
    λ n rest small is. absurd (place_after c.args.text.now n rest c.args.separator (omega arith)
    c.requires is c.in_err-at.ensures)

pub returns-in_err-read_number-clause-read : goal.returns-in_err-read_number-clause-read
returns-in_err-read_number-clause-read c = λ n rest small is.
    let low : n < 2 ^ 16 = omega arith in
    let cut = cut_after c.args.text.now c.in_ok-at.at n rest c.args.separator low c.requires is
    c.in_ok-at.ensures in
    let found = c.in_err-read_number.ensures.read n low cut.0 in
    absurd cc

pub returns-in_err-octet-clause-read : goal.returns-in_err-octet-clause-read
returns-in_err-octet-clause-read c = λ n rest small is.
    let low : n < 2 ^ 16 = omega arith in
    let cut = cut_after c.args.text.now c.in_ok-at.at n rest c.args.separator low c.requires is
    c.in_ok-at.ensures in
    let same : c.in_ok-read_number.field-0 ≡ n =
    same_Some _ _ (c.in_ok-read_number.ensures.read n low cut.0) in
    absurd (not_too_great c.try_from.result _ _ c.try_from.ensures c.in_err-octet.ensures.value
    (omega (arith, same)))

pub returns-clause-spelled : goal.returns-clause-spelled
returns-clause-spelled c =
    let stands = stands_at_position c.args.separator c.args.text.now c.in_ok-at.at
    (sym c.in_ok-at.ensures) in
    let value : c.in_ok-octet.octet ≡ c.in_ok-read_number.field-0 =
    kept_value c.try_from.result _ _ _ c.try_from.ensures c.in_ok-octet.ensures.value in
    rw (value, behind c.args.text.now (c.in_ok-at.at + 1), ← c.in_ok-read_number.ensures.spelled)
    stands.1

pub returns-clause-read : goal.returns-clause-read
returns-clause-read c = λ n rest small is.
    let low : n < 2 ^ 16 = omega arith in
    let cut = cut_after c.args.text.now c.in_ok-at.at n rest c.args.separator low c.requires is
    c.in_ok-at.ensures in
    let same : c.in_ok-read_number.field-0 ≡ n =
    same_Some _ _ (c.in_ok-read_number.ensures.read n low cut.0) in
    let value : c.in_ok-octet.octet ≡ c.in_ok-read_number.field-0 =
    kept_value c.try_from.result _ _ _ c.try_from.ensures c.in_ok-octet.ensures.value in
    (value ∙ same, behind c.args.text.now (c.in_ok-at.at + 1) ∙ cut.1)

use Rattle.std.proofs.Common.{◌≡◌, ℕ, ◌+◌, ◌∷◌, ◌++◌, [], List, map, sym, ap, ◌∙◌, subst, take}
use Rattle.std.proofs.lemmas.List.{map-append}
use Rattle.s10_core.specs.declared.id.Id.{Id}
use Rattle.s10_core.specs.Id.{spelling_of}
use Rattle.s10_lines.specs.Lines.{spaced}
use Rattle.s10_lines.specs.LineText.{Grows}
use Rattle.s10_wire.proofs.Many.{one_more}
use Rattle.s10_lines.proofs.Growing.{words_then, same_word, Grows-nothing}
use Rattle.s10_lines.proofs.lines.write_ids.Goals as goal

pub loop-id-init : goal.loop-id-init
loop-id-init c = Grows-nothing c.args.line.now

pub loop-id-preserved : goal.loop-id-preserved
loop-id-preserved c =
    let ids : List Id = c.args.ids.now in
    let before : List (List ℕ) = map spelling_of (take c.loop-id.id-index ids) in
    let grown : before ++ spelling_of c.id-item.result ∷ []
    ≡ map spelling_of (take (c.loop-id.id-index + 1) ids) =
    sym (ap (map spelling_of) (one_more ids c.loop-id.id-index c.id-item.result c.loop-id-test.true
    c.id-item.is) ∙ map-append spelling_of (take c.loop-id.id-index ids)
    (c.id-item.result ∷ [])) in
    let P : List (List ℕ) → Type 0 = λ words. Grows c.args.line.now c.add_word.new.self
    (spaced words) in
    subst P grown (words_then _ _ _ before (spelling_of c.id-item.result ∷ []) c.loop-id.invariant
    (same_word _ _ c.write.result (spelling_of c.id-item.result) c.write.ensures.spelled
    c.add_word.ensures))

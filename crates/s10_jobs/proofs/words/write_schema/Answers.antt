use Rattle.std.proofs.Common.{◌≡◌, ◌∙◌, ap, [], ◌∷◌, to_z-of_z}
use Rattle.std.specs.Prelude.{codes}
use Rattle.std.specs.Fmt.{signed_decimal}
use Rattle.s10_lines.proofs.Writing.{words_follow, same_word}
use Rattle.s10_jobs.proofs.words.write_schema.Goals as goal

pub returns : goal.returns
returns g c =
    let text : c.as_bytes.result.now ≡ signed_decimal c.args.number = c.as_bytes.ensures.value
    ∙ c.format.ensures.text ∙ ap signed_decimal (to_z-of_z c.ranges.number) in
    words_follow _ _ _ (codes "schema" ∷ []) (signed_decimal c.args.number ∷ [])
    c.write_word-2.result c.in_ok-write_word.ensures
    (same_word _ _ _ _ c.write_word-2.result text c.write_word-2.ensures)

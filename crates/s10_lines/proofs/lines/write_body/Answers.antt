use Rattle.std.proofs.Common.{[], ◌∷◌}
use Rattle.std.specs.Prelude.{decimal}
use Rattle.s10_core.specs.Letters.{letters_of}
use Rattle.s10_core.specs.Id.{spelling_of}
use Rattle.s10_lines.proofs.Growing.{words_then, same_word}
use Rattle.s10_lines.proofs.lines.write_body.Goals as goal

pub returns-in-Grant : goal.returns-in-Grant
returns-in-Grant c = rw c.in-Grant.is c.write_grant.ensures

pub returns-in-Void : goal.returns-in-Void
returns-in-Void c = rw c.in-Void.is (same_word _ _ c.write.result (spelling_of c.in-Void.id)
    c.write.ensures.spelled c.add_word.ensures)

pub returns-in-Query : goal.returns-in-Query
returns-in-Query c = rw c.in-Query.is (same_word _ _ c.write-in-Query.result
    (spelling_of c.in-Query.id) c.write-in-Query.ensures.spelled c.add_word-in-Query.ensures)

pub returns-in-DrawMany : goal.returns-in-DrawMany
returns-in-DrawMany c =
    let sheet = c.in-DrawMany in
    rw sheet.is
    (words_then _ _ _ (letters_of sheet.service ∷ letters_of sheet.country ∷ [])
    (decimal sheet.count ∷ []) c.write_letters-in-DrawMany.ensures
    (rw (c.from.ensures, c.value.ensures.value) at c.add_decimal.ensures))

use Rattle.std.proofs.Common.{[], ◌∷◌, refl}
use Rattle.std.specs.Prelude.{codes}
use Rattle.std.specs.Io.KnownBytes.{Appends}
use Rattle.s10_core.specs.Letters.{group_of}
use Rattle.s10_core.specs.Id.{spelling_of}
use Rattle.s10_lines.specs.Lines.{spaced}
use Rattle.s10_lines.proofs.Writing.{Appends-then, words_then}
use Rattle.s10_jobs.specs.Words.{group_words}
use Rattle.s10_jobs.proofs.checking.write_valid.Goals as goal

pub returns : goal.returns
returns g c =
    let spelled : Appends (g.W.Write.contents c.args.out.now)
    (g.W.Write.contents c.write_text.new.out) (spelling_of c.args.id.now) =
    rw c.write.ensures.spelled at c.in_ok-write_text.ensures in
    let group : Appends (g.W.Write.contents c.write_word.new.out)
    (g.W.Write.contents c.write_word-2.new.out)
    (spaced (group_words (group_of c.args.id.now.service.0) ∷ [])) =
    rw (c.as_bytes.ensures.value, c.group_word.ensures, c.group.ensures)
    at c.in_ok-write_word-2.ensures in
    let words = words_then _ _ _ (codes "valid" ∷ [])
    (group_words (group_of c.args.id.now.service.0) ∷ []) c.in_ok-write_word.ensures group in (
      refl,
      Appends-then _ _ _ _ _ (Appends-then _ _ _ _ _ spelled words)
          c.in_ok-write_text-2.ensures,
    )

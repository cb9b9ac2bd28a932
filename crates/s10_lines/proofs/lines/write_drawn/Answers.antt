use Rattle.std.proofs.Common.{[], ◌∷◌, ◌++◌, List, ℕ}
use Rattle.std.specs.Prelude.{codes, decimal}
use Rattle.s10_core.specs.Id.{spelling_of}
use Rattle.s10_lines.proofs.Growing.{words_then, same_word}
use Rattle.s10_lines.proofs.lines.write_drawn.Goals as goal

pub returns : goal.returns
returns c =
    let done : List (List ℕ) = codes "done" ∷ [] in
    let day : List (List ℕ) = codes "day" ∷ decimal c.args.day ∷ [] in
    words_then _ _ _ (done ++ day) (spelling_of c.args.id.now ∷ [])
    (words_then _ _ _ done day c.add_word.ensures c.write_named.ensures)
    (same_word _ _ c.write.result (spelling_of c.args.id.now) c.write.ensures.spelled
    c.add_word-2.ensures)

use Rattle.std.proofs.Common.{[], ◌∷◌, ◌++◌, List, ℕ, map}
use Rattle.std.specs.Prelude.{codes, decimal}
use Rattle.s10_core.specs.Id.{spelling_of}
use Rattle.s10_lines.proofs.Growing.{words_then}
use Rattle.s10_lines.proofs.lines.write_drawn_many.Goals as goal

pub returns : goal.returns
returns c =
    let done : List (List ℕ) = codes "done" ∷ [] in
    let day : List (List ℕ) = codes "day" ∷ decimal c.args.day ∷ [] in
    words_then _ _ _ (done ++ day) (map spelling_of c.args.ids.now)
    (words_then _ _ _ done day c.add_word.ensures c.write_named.ensures)
    (rw c.as_slice.ensures.ids at c.write_ids.ensures)

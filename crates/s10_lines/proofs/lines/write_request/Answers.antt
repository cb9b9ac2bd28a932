use Rattle.std.proofs.Common.{[], ◌∷◌, ◌++◌, List, ℕ}
use Rattle.std.specs.Prelude.{codes, decimal}
use Rattle.s10_lines.specs.Lines.{kind_word, body_words}
use Rattle.s10_lines.proofs.Growing.{words_then}
use Rattle.s10_lines.proofs.lines.write_request.Goals as goal

pub returns : goal.returns
returns c =
    let q = c.args.request.now in
    let kind : List (List ℕ) = kind_word q.body ∷ [] in
    let customer : List (List ℕ) = codes "customer" ∷ decimal q.customer ∷ [] in
    let number : List (List ℕ) = codes "number" ∷ decimal q.number ∷ [] in
    words_then _ _ _ (kind ++ customer ++ number) (body_words q.body)
    (words_then _ _ _ (kind ++ customer) number
    (words_then _ _ _ kind customer (rw c.kind_name.ensures at c.add_word.ensures)
    c.write_named.ensures)
    c.write_named-2.ensures)
    c.write_body.ensures

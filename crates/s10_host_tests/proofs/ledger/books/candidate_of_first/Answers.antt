use Rattle.std.proofs.Common.{◌≡◌, ◌∙◌, sym}
use Rattle.std.specs.Prelude.{◌==◌, find}
use Rattle.s10_history.specs.declared.range.Range.{Range}
use Rattle.s10_history.specs.History.{ranges_of}
use Rattle.s10_history.proofs.Numbering.{Contains-find}
use Rattle.s10_host_tests.proofs.ledger.books.candidate_of_first.Goals as goal

pub candidate-requires : goal.candidate-requires
candidate-requires g c = λ h.
    let e : c.in_ok-found.found ≡ find (λ (r : Range). r.num == 1)
    (ranges_of (g.B.Book.history c.args.book.now)) = c.in_ok-found.ensures.answer h in
    rw (c.range.ensures.unchanged.same_history h) (Contains-find _ _ _ (sym e ∙ c.in-Some.is))

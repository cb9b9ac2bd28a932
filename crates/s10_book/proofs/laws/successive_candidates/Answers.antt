use Rattle.s10_book.proofs.Rows.{candidate_after_is}
use Rattle.s10_book.proofs.laws.successive_candidates.Goals as goal

pub returns : goal.returns
returns c h t r issued = candidate_after_is h t r issued

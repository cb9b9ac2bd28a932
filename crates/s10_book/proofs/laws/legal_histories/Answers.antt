use Rattle.s10_book.proofs.Apart.{apart}
use Rattle.s10_book.proofs.Determined.{determined}
use Rattle.s10_book.proofs.Own.{own}
use Rattle.s10_book.proofs.Spaced.{spaced}
use Rattle.s10_book.proofs.laws.legal_histories.Goals as goal

pub returns-clause-spaced : goal.returns-clause-spaced
returns-clause-spaced c = spaced

pub returns-clause-apart : goal.returns-clause-apart
returns-clause-apart c = apart

pub returns-clause-own : goal.returns-clause-own
returns-clause-own c = own

pub returns-clause-determined : goal.returns-clause-determined
returns-clause-determined c = determined

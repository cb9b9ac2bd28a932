use Rattle.s10_core.proofs.Spellings.{number_of-spelled, digits_of-number_of_text, one_refusal}
use Rattle.s10_core.proofs.Spellings.{spelled_unrefused}
use Rattle.s10_core.proofs.laws.one_spelling_each.Goals as goal

pub returns-clause-serial : goal.returns-clause-serial
returns-clause-serial c = number_of-spelled

pub returns-clause-digits : goal.returns-clause-digits
returns-clause-digits c = digits_of-number_of_text

pub returns-clause-one_refusal : goal.returns-clause-one_refusal
returns-clause-one_refusal c = one_refusal

pub returns-clause-no_both : goal.returns-clause-no_both
returns-clause-no_both c = spelled_unrefused

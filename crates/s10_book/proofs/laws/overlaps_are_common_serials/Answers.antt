use Rattle.s10_book.proofs.Overlapping.{in_common, overlaps_in_common}
use Rattle.s10_book.proofs.laws.overlaps_are_common_serials.Goals as goal

pub returns-clause-common : goal.returns-clause-common
returns-clause-common c = in_common

pub returns-clause-overlaps : goal.returns-clause-overlaps
returns-clause-overlaps c = overlaps_in_common

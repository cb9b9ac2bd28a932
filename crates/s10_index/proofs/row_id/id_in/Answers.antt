use Rattle.std.proofs.Common.{◌∙◌, sym, rules, w64}
use mir.Val.{SFits}
use Rattle.std.proofs.lemmas.Int.{to_z-of_z}
use Rattle.std.proofs.lemmas.Option.{none-some}
use Rattle.s10_core.specs.Pair.{pair_of}
use Rattle.s10_core.proofs.Pairs.{pair_fits}
use Rattle.s10_index.proofs.row_id.id_in.Goals as goal

pub returns-in_err-number_in-clause-kept : goal.returns-in_err-number_in-clause-kept
returns-in_err-number_in-clause-kept c x fit names =
    let fits : SFits w64 c.args.row.now.pair = search rules in
    absurd (none-some _ (sym c.in_err-number_in.was ∙ c.number_in.ensures.kept
    (pair_of x.service x.country) (pair_fits x.service x.country fit.service fit.country)
    (to_z-of_z w64 c.args.row.now.pair fits ∙ names.pair)))

use Rattle.std.proofs.Common.{refl}
use Rattle.s10_history.specs.History.{ranges_of}
use Rattle.s10_rows.specs.Tables.{tables_of}
use Rattle.s10_rows.specs.Selected.{IsRange}
use Rattle.s10_replay.proofs.Parts.{ranges_of_fit}
use Rattle.std.proofs.lemmas.List.Elements.{All-contains}
use Rattle.s10_ledger.proofs.lookups.usage_in.Goals as goal

pub returns-clause-answer : goal.returns-clause-answer
returns-clause-answer g c clean h t legal calls stands few has asked day =
    rw (c.usage_among.ensures.found h calls (All-contains IsRange (ranges_of h) c.args.range.now
    (ranges_of_fit h few calls) has) asked day
    (rw c.deref.ensures.value (rw (
      c.pair_number-pair.ensures.value,
      c.value-first.ensures.value,
      c.value-last.ensures.value,
    ) at (c.in-Ok.ensures.rows clean (tables_of h t) stands)))) refl

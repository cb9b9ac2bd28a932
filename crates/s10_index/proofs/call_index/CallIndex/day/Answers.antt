use Rattle.std.proofs.Common.{◌∙◌, sym}
use Rattle.s10_index.proofs.LastDay.{day_last, no_day}
use Rattle.s10_index.proofs.call_index.CallIndex.day.Goals as goal

pub returns-in-None : goal.returns-in-None
returns-in-None c = no_day c.args.self.now.entries.items (sym c.last.ensures ∙ c.in-None.is)

pub returns-in-Some : goal.returns-in-Some
returns-in-Some c = day_last c.args.self.now.entries.items c.in-Some.entry (sym c.last.ensures
    ∙ c.in-Some.is)

use Rattle.std.proofs.Common.{IsTrue, IfSome, Some, None, List, All}
use Rattle.std.specs.Prelude.{Option, Contains}
use Rattle.std.proofs.lemmas.List.Elements.{All-contains}
use Rattle.s10_wire.specs.Kind.{fits}
use Rattle.s10_history.specs.declared.entry.Entry.{Entry}
use Rattle.s10_index.proofs.call_index.CallIndex.find.Goals as goal

among_fits : (calls : List Entry) (o : Option Entry)
    → All (λ e. IsTrue (fits e.request.body e.outcome)) calls → IfSome o (Contains calls)
    → IfSome o (λ e. IsTrue (fits e.request.body e.outcome))
among_fits calls None all among = tt
among_fits calls (Some e) all among =
    All-contains (λ (x : Entry). IsTrue (fits x.request.body x.outcome)) calls e all among

pub returns-clause-fits : goal.returns-clause-fits
returns-clause-fits c = among_fits c.args.self.now.entries.items c.find_in.result
    c.args.self.now.fitting c.find_in.ensures.among

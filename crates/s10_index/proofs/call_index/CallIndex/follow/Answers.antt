use Rattle.std.proofs.Common.{◌≡◌, ◌∙◌, ◌<◌, ◌++◌, ◌∷◌, [], IsTrue, List, All, length, sym, subst, ap}
use Rattle.std.proofs.Common.{arith}
use Rattle.std.proofs.lemmas.List.Elements.{All-push}
use Rattle.s10_wire.specs.Kind.{fits}
use Rattle.s10_history.specs.declared.entry.Entry.{Entry}
use Rattle.s10_index.proofs.call_index.CallIndex.follow.Goals as goal

pub returns-clause-followed : goal.returns-clause-followed
returns-clause-followed c h t legal follows moves was =
    let few : length h < 4294967295 = omega (arith, c.requires.few, ap length was.calls) in
    let grown : c.push_reserved.new.self.items ≡ h ++ c.args.entry ∷ [] = c.push_reserved.ensures
    ∙ ap (λ (l : List Entry). l ++ c.args.entry ∷ []) was.calls in
    c.set_rests.ensures.same (h ++ c.args.entry ∷ []) (record {
      calls = grown;
      ranges = c.follow.ensures h t legal follows few (rw c.deref.ensures.value moves) was.ranges;
      rests = c.follow-2.ensures h t legal follows was.rests;
      positions = c.record_position.ensures h was.positions follows.new_key;
      issues = c.record_call.ensures.issues h t legal grown (c.len-call.ensures
          ∙ ap length was.calls) was.issues;
      ids = c.record_call.ensures.ids h was.ids;
    })

pub invariant_of-self : goal.invariant_of-self
invariant_of-self c =
    let Fits = λ (e : Entry). IsTrue (fits e.request.body e.outcome) in
    record {
      fitting = subst (λ (l : List Entry). All Fits l) (sym c.push_reserved.ensures)
          (All-push Fits c.args.self.now.entries.items c.args.entry c.args.self.now.fitting
          c.requires.fits);
    }

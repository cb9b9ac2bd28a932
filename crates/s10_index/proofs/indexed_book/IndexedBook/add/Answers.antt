use Rattle.std.proofs.Common.{◌≡◌, ◌∙◌, List, ◌++◌, ◌∷◌, [], sym, subst, ap}
use Rattle.s10_history.specs.declared.entry.Entry.{Entry}
use Rattle.s10_book.proofs.Push.{IsLegal-push}
use Rattle.s10_book.proofs.Fitting.{answer_fits}
use Rattle.s10_index.specs.CallIndex.{Indexes}
use Rattle.s10_index.proofs.indexed_book.IndexedBook.add.Goals as goal

pub invariant_of-self : goal.invariant_of-self
invariant_of-self c =
    let h = c.args.self.now.index.entries.items in
    let same = c.prepare.ensures.calls in
    record {
      indexed = subst (Indexes c.prepare.new.self) (sym same)
          (c.prepare.ensures.same h c.args.self.now.indexed);
      legal = rw same c.args.self.now.legal;
      no_store_fault = c.args.self.now.no_store_fault;
    }

pub invariant_of-self-2 : goal.invariant_of-self-2
invariant_of-self-2 c =
    let h = c.args.self.now.index.entries.items in
    let t = c.args.self.now.settings in
    let grown : c.follow.new.self.entries.items ≡ h ++ c.args.entry ∷ [] = c.follow.ensures.calls
    ∙ ap (λ (l : List Entry). l ++ c.args.entry ∷ []) c.prepare.ensures.calls in
    record {
      indexed = subst (Indexes c.follow.new.self) (sym grown)
          (c.follow.ensures.followed h t c.args.self.now.legal c.requires
          (c.in_ok-prepare.ensures.moves h t c.args.self.now.legal c.requires
          c.args.self.now.indexed) (c.prepare.ensures.same h c.args.self.now.indexed));
      legal = rw grown (IsLegal-push h t c.args.entry c.args.self.now.legal c.requires);
      no_store_fault = c.args.self.now.no_store_fault;
    }

pub follow-requires-clause-fits : goal.follow-requires-clause-fits
follow-requires-clause-fits c =
    rw c.requires.right (answer_fits c.args.self.now.index.entries.items
    c.args.entry.request.customer c.args.entry.request.body c.args.entry.day
    c.args.self.now.settings.interval)

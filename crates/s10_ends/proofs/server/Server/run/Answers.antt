use Rattle.std.proofs.Common.{◌≡◌, ◌∷◌, ◌++◌, [], ℕ, ◌+◌, List, sym, ap, ◌∙◌, refl, subst, take}
use Rattle.std.proofs.Common.{take_all}
use Rattle.std.proofs.lemmas.Result.{err_from_is_err_and}
use Rattle.std.proofs.lemmas.List.{take_more}
use Rattle.s10_ends.specs.declared.delivery.Delivery.{Delivery}
use Rattle.s10_ends.specs.declared.answer.Answer.{Answer}
use Rattle.s10_ends.specs.Served.{Served}
use Rattle.s10_ends.specs.Runs.{CountsAll}
use Rattle.s10_book.proofs.Calls.{grows_none, grows_trans}
use Rattle.s10_ends.proofs.Filling.{room_for_next, room_kept, one_longer}
use Rattle.s10_ends.proofs.Whole.{Served-nil}
use Rattle.s10_ends.proofs.Runs.{CountsAll-nil, CountsAll-push, Served-map_push}
use Rattle.s10_ends.proofs.Runs.{KeepsPromises-legal}
use Rattle.s10_ends.proofs.Carried.{Served-issued}
use Rattle.s10_ends.specs.Stop.{StopsAfter}
use Rattle.s10_ends.proofs.Stops.{stops_none, stops_more}
use Rattle.s10_ends.proofs.server.Server.run.Goals as goal

pub returns-in_err-answers-clause-kept : goal.returns-in_err-answers-clause-kept
returns-in_err-answers-clause-kept g c = λ h.
    let book = c.args.self.now.book in
    KeepsPromises-legal (g.B.Book.history book) (g.B.Book.terms book) (g.met.B.Book.legal book h)

pub loop-delivery-init : goal.loop-delivery-init
loop-delivery-init g c =
    let book = c.args.self.now.book in
    let P : List Answer → Type 0 = λ l. CountsAll l (g.B.Book.faults book) (g.B.Book.faults book) in
    let Q : List Answer → Type 0 = λ l. Served (g.B.Book.history book) (g.B.Book.terms book) [] l
    (g.B.Book.history book) in
    record {
      room = c.in_ok-answers.ensures.capacity;
      many = c.in_ok-answers.ensures.len;
      faults = subst P (sym c.in_ok-answers.ensures.items) (CountsAll-nil (g.B.Book.faults book));
      was_honest = λ h. h;
      same_terms = λ h. refl;
      stays_committed = λ h. grows_none (g.B.Book.committed book);
      committed = λ lasting h whole. whole;
      served = λ h. subst Q (sym c.in_ok-answers.ensures.items) (Served-nil (g.B.Book.history book)
          (g.B.Book.terms book));
      stop = stops_none g.B.Book.terms g.B.Book.history g.B.Book.committed g.B.Book.honest
          g.B.Book.clean g.B.Book.may_find book [];
    }

pub loop-delivery-preserved : goal.loop-delivery-preserved
loop-delivery-preserved g c =
    let before = c.loop-delivery.invariant in
    record {
      room = room_kept _ _ _ before.room c.push_reserved.ensures.capacity;
      many = one_longer _ _ c.loop-delivery.delivery-index before.many c.push_reserved.ensures.len;
      faults = rw c.push_reserved.ensures.items (CountsAll-push _ _ _ _ _ before.faults
          c.handle-answer.ensures.faults);
      was_honest = λ h. before.was_honest (c.handle-answer.ensures.was_honest h);
      same_terms = λ h. c.handle-answer.ensures.same_terms h
          ∙ before.same_terms (c.handle-answer.ensures.was_honest h);
      stays_committed = λ h.
          grows_trans (g.B.Book.committed c.args.self.now.book)
          (g.B.Book.committed c.loop-delivery.self.book)
          (g.B.Book.committed c.handle-answer.new.self.book)
          (before.stays_committed (c.handle-answer.ensures.was_honest h))
          (c.handle-answer.ensures.stays_committed h);
      committed = λ lasting h whole. c.handle-answer.ensures.committed lasting h
          (before.committed lasting (c.handle-answer.ensures.was_honest h) whole);
      served = λ h.
          let h0 = c.handle-answer.ensures.was_honest h in
          let one = c.handle-answer.ensures.served h in
          let all : take (c.loop-delivery.delivery-index + 1) c.args.deliveries.now
          ≡ take c.loop-delivery.delivery-index c.args.deliveries.now ++ c.delivery-item.result
          ∷ [] =
          take_more c.args.deliveries.now c.loop-delivery.delivery-index c.delivery-item.result
          c.loop-delivery-test.true
          ∙ ap (λ (d : Delivery). take c.loop-delivery.delivery-index c.args.deliveries.now ++ d
          ∷ []) (sym c.delivery-item.is) in
          let P : List ℕ → Type 0 = λ b. Served (g.B.Book.history c.loop-delivery.self.book)
          (g.B.Book.terms c.loop-delivery.self.book) ((b, c.delivery-item.result.day) ∷ [])
          (c.handle-answer.result ∷ []) (g.B.Book.history c.handle-answer.new.self.book) in
          rw (all, c.push_reserved.ensures.items)
          (Served-map_push (g.B.Book.history c.args.self.now.book)
          (g.B.Book.history c.loop-delivery.self.book)
          (g.B.Book.history c.handle-answer.new.self.book) (g.B.Book.terms c.args.self.now.book)
          (g.B.Book.terms c.loop-delivery.self.book)
          (take c.loop-delivery.delivery-index c.args.deliveries.now) c.loop-delivery.answers.items
          c.delivery-item.result c.handle-answer.result
          (before.served h0) (before.same_terms h0) (subst P c.bytes.ensures.bytes one));
      stop =
          let all : take (c.loop-delivery.delivery-index + 1) c.args.deliveries.now
          ≡ take c.loop-delivery.delivery-index c.args.deliveries.now ++ c.delivery-item.result
          ∷ [] =
          take_more c.args.deliveries.now c.loop-delivery.delivery-index c.delivery-item.result
          c.loop-delivery-test.true
          ∙ ap (λ (d : Delivery). take c.loop-delivery.delivery-index c.args.deliveries.now ++ d
          ∷ []) (sym c.delivery-item.is) in
          let P : List ℕ → Type 0 = λ b. StopsAfter g.B.Book.terms g.B.Book.history
          g.B.Book.committed g.B.Book.honest g.B.Book.clean g.B.Book.may_find
          c.loop-delivery.self.book c.handle-answer.new.self.book
          ((b, c.delivery-item.result.day) ∷ []) in
          rw all (stops_more g.B.Book.terms g.B.Book.history g.B.Book.committed g.B.Book.honest
          g.B.Book.clean g.B.Book.may_find c.args.self.now.book c.loop-delivery.self.book
          c.handle-answer.new.self.book
          (take c.loop-delivery.delivery-index c.args.deliveries.now) c.delivery-item.result
          c.loop-delivery.answers.items before.stop before.was_honest before.same_terms
          before.served before.stays_committed (subst P c.bytes.ensures.bytes
          c.handle-answer.ensures.stop));
    }

pub push_reserved-requires : goal.push_reserved-requires
push_reserved-requires g c = room_for_next _ _ c.loop-delivery.delivery-index _
    c.loop-delivery.invariant.many c.loop-delivery-test.true c.loop-delivery.invariant.room

pub returns-clause-served : goal.returns-clause-served
returns-clause-served g c = λ h. rw (take_all c.loop-delivery.delivery-index c.args.deliveries.now
    c.loop-delivery-test.false) at (c.loop-delivery.invariant.served h)

pub returns-clause-kept : goal.returns-clause-kept
returns-clause-kept g c = λ h.
    let book = c.loop-delivery.self.book in
    KeepsPromises-legal (g.B.Book.history book) (g.B.Book.terms book) (g.met.B.Book.legal book h)

pub returns-clause-issued : goal.returns-clause-issued
returns-clause-issued g c = λ h. Served-issued _ _ _ _ _ (c.loop-delivery.invariant.served h)

pub returns-in_err-answers-clause-faults : goal.returns-in_err-answers-clause-faults
returns-in_err-answers-clause-faults g c =
    rw (err_from_is_err_and c.from_residual.result c.from_residual.ensures.1).1 tt

pub returns-in_err-answers-clause-was_honest : goal.returns-in_err-answers-clause-was_honest
returns-in_err-answers-clause-was_honest g c = λ h. h

pub returns-in_err-answers-clause-same_terms : goal.returns-in_err-answers-clause-same_terms
returns-in_err-answers-clause-same_terms g c = λ h. refl

pub returns-in_err-answers-clause-served : goal.returns-in_err-answers-clause-served
returns-in_err-answers-clause-served g c =
    λ h. rw (err_from_is_err_and c.from_residual.result c.from_residual.ensures.1).1 tt

pub returns-in_err-answers-clause-issued : goal.returns-in_err-answers-clause-issued
returns-in_err-answers-clause-issued g c =
    λ h. rw (err_from_is_err_and c.from_residual.result c.from_residual.ensures.1).1 tt

pub returns-in_err-answers-clause-refused : goal.returns-in_err-answers-clause-refused
returns-in_err-answers-clause-refused g c =
    rw (err_from_is_err_and c.from_residual.result c.from_residual.ensures.1).1 refl

pub returns-clause-faults : goal.returns-clause-faults
returns-clause-faults g c = c.loop-delivery.invariant.faults

pub returns-clause-was_honest : goal.returns-clause-was_honest
returns-clause-was_honest g c = λ h. c.loop-delivery.invariant.was_honest h

pub returns-clause-same_terms : goal.returns-clause-same_terms
returns-clause-same_terms g c = λ h. c.loop-delivery.invariant.same_terms h

pub returns-clause-refused : goal.returns-clause-refused
returns-clause-refused g c = tt

pub returns-in_err-answers-clause-stays_committed :
    goal.returns-in_err-answers-clause-stays_committed
returns-in_err-answers-clause-stays_committed g c =
    λ h. grows_none (g.B.Book.committed c.args.self.now.book)

pub returns-in_err-answers-clause-committed : goal.returns-in_err-answers-clause-committed
returns-in_err-answers-clause-committed g c = λ lasting h whole. whole

pub returns-clause-stays_committed : goal.returns-clause-stays_committed
returns-clause-stays_committed g c = λ h. c.loop-delivery.invariant.stays_committed h

pub returns-clause-committed : goal.returns-clause-committed
returns-clause-committed g c = λ lasting h whole. c.loop-delivery.invariant.committed lasting h
    whole

pub returns-in_err-answers-clause-stop : goal.returns-in_err-answers-clause-stop
returns-in_err-answers-clause-stop g c = stops_none g.B.Book.terms g.B.Book.history
    g.B.Book.committed g.B.Book.honest g.B.Book.clean g.B.Book.may_find c.args.self.now.book _

pub returns-clause-stop : goal.returns-clause-stop
returns-clause-stop g c = rw (take_all c.loop-delivery.delivery-index c.args.deliveries.now
    c.loop-delivery-test.false) at c.loop-delivery.invariant.stop

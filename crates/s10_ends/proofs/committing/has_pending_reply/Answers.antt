use Rattle.std.proofs.Common.{◌≡◌, ◌∷◌, ◌++◌, [], ◌+◌, sym, ap, ◌∙◌, take, take_all}
use Rattle.std.proofs.lemmas.List.{take_more}
use Rattle.std.proofs.lemmas.List.Elements.{All-nil, All-push}
use Rattle.s10_ends.specs.declared.exchange.Exchange.{Exchange}
use Rattle.s10_ends.specs.Batch.{HasCommittedReply}
use Rattle.s10_ends.proofs.committing.has_pending_reply.Goals as goal

pub loop-next-init : goal.loop-next-init
loop-next-init g c = record {
  committed = λ h. All-nil (HasCommittedReply (g.B.Book.committed c.args.server.now.book)
      (g.B.Book.history c.args.server.now.book));
}

pub loop-next-preserved : goal.loop-next-preserved
loop-next-preserved g c =
    let all : take (c.loop-next.next-index + 1) c.args.taken.now ≡ take c.loop-next.next-index
    c.args.taken.now ++ c.next-item.result ∷ [] =
    take_more c.args.taken.now c.loop-next.next-index c.next-item.result c.loop-next-test.true
    ∙ ap (λ (t : Exchange). take c.loop-next.next-index c.args.taken.now ++ t ∷ [])
    (sym c.next-item.is) in
    record {
      committed = λ h. rw all (All-push (HasCommittedReply
          (g.B.Book.committed c.args.server.now.book) (g.B.Book.history c.args.server.now.book))
          (take c.loop-next.next-index c.args.taken.now) c.next-item.result
          (c.loop-next.invariant.committed h)
          (c.is_pending_reply.ensures.none c.if-is_pending_reply.false h));
    }

pub returns-clause-none : goal.returns-clause-none
returns-clause-none g c = λ is h. rw (take_all c.loop-next.next-index c.args.taken.now
    c.loop-next-test.false) at (c.loop-next.invariant.committed h)

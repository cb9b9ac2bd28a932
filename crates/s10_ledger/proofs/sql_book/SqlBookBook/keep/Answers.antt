use Rattle.std.proofs.Common.{◌≡◌, ◌∙◌, ◌∷◌, ◌++◌, [], ap, inl, inr, Result, Ok, Err, OnErr}
use Rattle.s10_book.specs.Book.{IsPerhapsWith}
use Rattle.s10_book.proofs.Calls.{FindsAfter-refl, finds_after_unchanged, finds_one_more}
use Rattle.s10_ledger.specs.Ledger.{history_in, history_of, committed_of}
use Rattle.s10_ledger.proofs.BookLemmas.{follows_still}
use Rattle.s10_ledger.proofs.sql_book.SqlBookBook.keep.Goals as goal

-- An error leaves what it left before the call, if what is before both is the same.
still_left : {X T E : Type 0} (r : Result T E) (new mid old : X) → OnErr r (new ≡ mid) → mid ≡ old
    → OnErr r (new ≡ old)
still_left (Ok x) new mid old left same = tt
still_left (Err x) new mid old left same = left ∙ same

pub returns-in-Err-clause-left : goal.returns-in-Err-clause-left
returns-in-Err-clause-left g c = λ durable h. ap history_in (c.in-Err.ensures.same h)

pub returns-in-Ok-clause-left : goal.returns-in-Ok-clause-left
returns-in-Ok-clause-left g c = λ durable h. still_left c.keep_with_pending.result
    (committed_of g.S.Store c.keep_with_pending.new.self)
    (committed_of g.S.Store c.ask_again.new.self) (committed_of g.S.Store c.args.self.now)
    (c.keep_with_pending.ensures.left h)
    (ap history_in (c.in-Ok.ensures.same (c.keep_with_pending.ensures.was_honest h)))

pub keep_with_pending-requires : goal.keep_with_pending-requires
keep_with_pending-requires g c = follows_still g.S.Store c.args.self.now
    c.ask_again.new.self c.args.entry c.in-Ok.ensures.unchanged c.requires

pub returns-in-Err-clause-stop : goal.returns-in-Err-clause-stop
returns-in-Err-clause-stop g c =
    let mid = c.ask_again.new.self in
    finds_one_more c.args.entry c.in-Err.ensures.unchanged
    (FindsAfter-refl mid (IsPerhapsWith (history_of g.S.Store mid) c.args.entry))

pub returns-in-Ok-clause-faults : goal.returns-in-Ok-clause-faults
returns-in-Ok-clause-faults g c = rw c.in-Ok.ensures.faults at c.keep_with_pending.ensures.faults

pub returns-in-Ok-clause-opened : goal.returns-in-Ok-clause-opened
returns-in-Ok-clause-opened g c = c.keep_with_pending.ensures.opened

pub returns-in-Ok-clause-stop : goal.returns-in-Ok-clause-stop
returns-in-Ok-clause-stop g c =
    let old = history_of g.S.Store c.args.self.now in
    let mid = history_of g.S.Store c.ask_again.new.self in
    finds_after_unchanged (λ calls. calls ≡ mid ++ c.args.entry ∷ []) (IsPerhapsWith old
    c.args.entry) c.in-Ok.ensures.unchanged
    (c.keep_with_pending.ensures.stop (λ clean. (c.in-Ok.ensures.opened clean).is_open))
    (λ h calls same. inl same)
    (λ h calls grown. inr (grown
    ∙ ap (λ l. l ++ c.args.entry ∷ []) (c.in-Ok.ensures.unchanged.same_history h)))

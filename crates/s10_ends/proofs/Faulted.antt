-- Lemmas about a fault of the book, which the server reports under the same name.
use Rattle.std.proofs.Common.{◌≡◌, Result, Ok, Err, subst}
use Rattle.std.specs.Prelude.{IsErrAnd}
use Rattle.s10_wire.specs.declared.outcome.Outcome.{Outcome}
use Rattle.s10_book.specs.declared.book_fault.BookFault.{BookFault}
use Rattle.s10_book.specs.declared.book_fault.BookFault.TheVariants.{Memory, Store, Full}
use Rattle.s10_book.specs.declared.faults.Faults.{Faults}
use Rattle.s10_book.specs.BookFault.{CountsFault, CountsBookFault}

pub told_counts : (fault : BookFault) (before after : Faults) → CountsBookFault fault before after
    → CountsFault fault before after
told_counts Memory before after it = it
told_counts Store before after it = it
told_counts Full before after it = absurd it

-- No call of a book fails with Full.
pub never_full : {T : Type 0} (r : Result T BookFault) (fault : BookFault) (before after : Faults)
    → IsErrAnd r (λ e. e ≡ fault) → CountsBookFault fault before after → r ≡ Err Full → ⊥
never_full (Ok x) fault before after passed counts full = absurd passed
never_full (Err e) fault before after passed counts full =
    let is : e ≡ fault = passed in
    let same : fault ≡ Full = cc in
    subst (λ (f : BookFault). CountsBookFault f before after) same counts

pub ok_not_full : (o : Outcome) → ¬ (◌≡◌ {A = Result Outcome BookFault} (Ok o) (Err Full))
ok_not_full o is = cc

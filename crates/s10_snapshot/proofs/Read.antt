-- What readings of a ledger's files come to.
use Rattle.std.proofs.Common.{◌≡◌, ◌↔◌, ℕ, ◌+◌, Bool, false, IsTrue, ◌∷◌, length, Result, Ok, Err, arith, subst, sym}
use Rattle.std.specs.Prelude.{IsErrAnd}
use Rattle.s10_snapshot.specs.Readings.{IsRead, IsUnread, ReadCalls, Readings}
use Rattle.s10_snapshot.specs.declared.reading.Reading.{Reading}
use Rattle.s10_snapshot.specs.declared.snapshot_fault.ReadFault.{ReadFault}

-- A fault that is passed on.
pub fails : (r : Result Reading ReadFault) (fault : ReadFault) (old new : ReadCalls)
    → IsErrAnd r (λ e. e ≡ fault) → IsUnread old new fault → IsRead old new r
fails (Ok reading) fault old new is unread = absurd is
fails (Err e) fault old new is unread = subst (λ f. IsUnread old new f) (sym is) unread

-- One more reading.
pub one_more : (reading : Result Reading ReadFault) (readings : Readings) (n : ℕ) → length readings ≡ n
    → length (reading ∷ readings) ≡ n + 1
one_more reading readings n is = omega (arith, is)

never : IsTrue false → ⊥
never is = absurd cc

-- What a test denies does not hold.
pub denied : (tested : Bool) (P : Type 0) → (IsTrue tested ↔ P) → tested ≡ false → ¬ P
denied tested P says denies holds = never (subst (λ t. IsTrue t) denies (says.1 holds))

use Rattle.std.proofs.Common.{rules, ◌⊎◌, inl, inr, refl}
use Rattle.s10_ledger.proofs.pending.commit_first.Goals as goal

apart_from : {A B C : Type 0} → A ⊎ (B × C) → A ⊎ C
apart_from (inl a) = inl a
apart_from (inr both) = inr (both.1)

pub returns-in-Err-clause-opened : goal.returns-in-Err-clause-opened
returns-in-Err-clause-opened g c clean = tt

pub returns-in-Err-clause-ok : goal.returns-in-Err-clause-ok
returns-in-Err-clause-ok g c clean = tt

pub returns-in-Err-clause-left : goal.returns-in-Err-clause-left
returns-in-Err-clause-left g c = refl

pub returns-in-Ok-clause-ok : goal.returns-in-Ok-clause-ok
returns-in-Ok-clause-ok c = search rules

pub returns-in-Ok-clause-crash : goal.returns-in-Ok-clause-crash
returns-in-Ok-clause-crash g c clean db left =
    rw c.deref.ensures.value at (apart_from (c.in-Ok.ensures.crash clean db left))

pub returns-in-Err-clause-crash : goal.returns-in-Err-clause-crash
returns-in-Err-clause-crash g c clean db left =
    rw c.deref.ensures.value at (apart_from (c.in-Err.ensures.crash clean db left))

pub returns-in-Ok-clause-left : goal.returns-in-Ok-clause-left
returns-in-Ok-clause-left g c = tt

pub returns-in-Ok-clause-err : goal.returns-in-Ok-clause-err
returns-in-Ok-clause-err g c clean opened = tt

pub returns-in-Ok-clause-rest : goal.returns-in-Ok-clause-rest
returns-in-Ok-clause-rest c = search rules

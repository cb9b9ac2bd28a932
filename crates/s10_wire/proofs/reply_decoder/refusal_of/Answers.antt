use Rattle.std.proofs.Common.{ℕ, [], ◌∷◌, refl, sym, ap, rules}
use Rattle.s10_wire.proofs.reply_decoder.refusal_of.Goals as goal

pub returns-in-Void-eq7-clause-fits : goal.returns-in-Void-eq7-clause-fits
returns-in-Void-eq7-clause-fits c = search rules

pub returns-in-Void-eq7-clause-refused : goal.returns-in-Void-eq7-clause-refused
returns-in-Void-eq7-clause-refused c = search rules

pub returns-in-Grant-eq2-clause-fits : goal.returns-in-Grant-eq2-clause-fits
returns-in-Grant-eq2-clause-fits c = rw c.in-Grant-eq2.is-0 refl

pub returns-in-Grant-eq2-clause-read : goal.returns-in-Grant-eq2-clause-read
returns-in-Grant-eq2-clause-read c = (tt, ap (λ (n : ℕ). n ∷ []) (sym c.in-Grant-eq2.is-1))

pub returns-in-Grant-eq2-clause-refused : goal.returns-in-Grant-eq2-clause-refused
returns-in-Grant-eq2-clause-refused c = rw (c.in-Grant-eq2.is-0, c.in-Grant-eq2.is-1) refl

pub returns-in-Grant-eq3-clause-fits : goal.returns-in-Grant-eq3-clause-fits
returns-in-Grant-eq3-clause-fits c = rw c.in-Grant-eq3.is-0 refl

pub returns-in-Grant-eq3-clause-read : goal.returns-in-Grant-eq3-clause-read
returns-in-Grant-eq3-clause-read c = (tt, ap (λ (n : ℕ). n ∷ []) (sym c.in-Grant-eq3.is-1))

pub returns-in-Grant-eq3-clause-refused : goal.returns-in-Grant-eq3-clause-refused
returns-in-Grant-eq3-clause-refused c = rw (c.in-Grant-eq3.is-0, c.in-Grant-eq3.is-1) refl

pub returns-in-Void-eq8-clause-fits : goal.returns-in-Void-eq8-clause-fits
returns-in-Void-eq8-clause-fits c = rw c.in-Void-eq8.is-0 refl

pub returns-in-Void-eq8-clause-read : goal.returns-in-Void-eq8-clause-read
returns-in-Void-eq8-clause-read c = (tt, ap (λ (n : ℕ). n ∷ []) (sym c.in-Void-eq8.is-1))

pub returns-in-Void-eq8-clause-refused : goal.returns-in-Void-eq8-clause-refused
returns-in-Void-eq8-clause-refused c = rw (c.in-Void-eq8.is-0, c.in-Void-eq8.is-1) refl

pub returns-in-Withdraw-eq10-clause-fits : goal.returns-in-Withdraw-eq10-clause-fits
returns-in-Withdraw-eq10-clause-fits c = rw c.in-Withdraw-eq10.is-0 refl

pub returns-in-Withdraw-eq10-clause-read : goal.returns-in-Withdraw-eq10-clause-read
returns-in-Withdraw-eq10-clause-read c = (tt, ap (λ (n : ℕ). n ∷ []) (sym c.in-Withdraw-eq10.is-1))

pub returns-in-Withdraw-eq10-clause-refused : goal.returns-in-Withdraw-eq10-clause-refused
returns-in-Withdraw-eq10-clause-refused c = rw (c.in-Withdraw-eq10.is-0, c.in-Withdraw-eq10.is-1)
    refl

pub returns-in-Withdraw-eq11-clause-fits : goal.returns-in-Withdraw-eq11-clause-fits
returns-in-Withdraw-eq11-clause-fits c = rw c.in-Withdraw-eq11.is-0 refl

pub returns-in-Withdraw-eq11-clause-read : goal.returns-in-Withdraw-eq11-clause-read
returns-in-Withdraw-eq11-clause-read c = (tt, ap (λ (n : ℕ). n ∷ []) (sym c.in-Withdraw-eq11.is-1))

pub returns-in-Withdraw-eq11-clause-refused : goal.returns-in-Withdraw-eq11-clause-refused
returns-in-Withdraw-eq11-clause-refused c = rw (c.in-Withdraw-eq11.is-0, c.in-Withdraw-eq11.is-1)
    refl

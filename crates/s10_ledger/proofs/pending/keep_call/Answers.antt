use Rattle.std.proofs.Common.{◌≡◌, ◌∷◌, ◌++◌, [], ◌⊎◌, inl, inr, sym}
use Rattle.s10_ledger.proofs.PendingLemmas.{pushed}
use Rattle.s10_ledger.proofs.pending.keep_call.Goals as goal

then_right : {A B C : Type 0} → A ⊎ B → (B → C) → A ⊎ C
then_right (inl a) f = inl a
then_right (inr b) f = inr (f b)

pub returns-clause-ok : goal.returns-clause-ok
returns-clause-ok g c clean =
    let is : c.push.new.self.items ≡ c.args.pending.now.items ++ c.in_ok-last.last ∷ [] =
    pushed c.push.result c.push.new.self.items c.args.pending.now.items c.in_ok-last.last
    (sym c.if-is_err.ensures.value) c.push.ensures.items in (
      c.in_ok-last.last,
      c.in_ok-last.ensures.entry,
      c.in_ok-last.ensures.writes,
      rw is at (c.in_default.ensures.ok clean),
    )

pub returns-clause-crash : goal.returns-clause-crash
returns-clause-crash g c clean db left =
    let is : c.push.new.self.items ≡ c.args.pending.now.items ++ c.in_ok-last.last ∷ [] =
    pushed c.push.result c.push.new.self.items c.args.pending.now.items c.in_ok-last.last
    (sym c.if-is_err.ensures.value) c.push.ensures.items in
    then_right (rw is at (c.in_default.ensures.crash clean db left))
    (λ made. (c.in_ok-last.last, c.in_ok-last.ensures.entry, c.in_ok-last.ensures.writes, made))

pub returns-in-Err-clause-crash : goal.returns-in-Err-clause-crash
returns-in-Err-clause-crash g c clean db left =
    let is : c.push.new.self.items ≡ c.args.pending.now.items ++ c.in_ok-last.last ∷ [] =
    pushed c.push.result c.push.new.self.items c.args.pending.now.items c.in_ok-last.last
    (sym c.if-is_err.ensures.value) c.push.ensures.items in
    then_right (rw is at (c.in-Err.ensures.crash clean db left))
    (λ made. (c.in_ok-last.last, c.in_ok-last.ensures.entry, c.in_ok-last.ensures.writes, made))

use Rattle.std.proofs.Common.{◌≡◌, ℕ, ◌+◌, ◌^◌, ◌<◌, ◌≤◌, true, false, length, refl, arith, Fits}
use Rattle.std.proofs.Common.{inl, inr, w64}
use Rattle.std.proofs.lemmas.List.{drop_all}
use Rattle.s10_link.proofs.Scripts.{takes_send}
use Rattle.s10_link.proofs.script_link.ScriptLinkLink.send.Goals as goal
use Rattle.s10_link.proofs.script_link.ScriptLinkLink.send.Goals.{then-is_full-via-then-is_full}
use Rattle.s10_link.proofs.script_link.ScriptLinkLink.send.Goals.{then-is_full-via-else-is_full+then-self-len}

below : (next sends len : ℕ) → next ≤ sends → ¬ (next ≡ len) → len ≡ sends → next < sends
below next sends len upto other is = omega arith

fitting : (next sends len : ℕ) → next < sends → len ≡ sends → len < 2 ^ 64 → Fits w64 (next + 1)
fitting next sends len under is short = omega arith

-- The log has capacity for one more frame.
room_left : (log sends room next : ℕ) → log + sends ≤ room + next → next < sends → log < room
room_left log sends room next zero_padded under = omega arith

room_sent : (log sends room next log' room' : ℕ) → log + sends ≤ room + next → log' ≡ log + 1
    → room' ≡ room → log' + sends ≤ room' + (next + 1)
room_sent log sends room next log' room' zero_padded is same = omega arith

room_kept : (log sends room next : ℕ) → log + sends ≤ room + next → log + sends ≤ room + (next + 1)
room_kept log sends room next zero_padded = omega arith

one_more : (next sends : ℕ) → next < sends → next + 1 ≤ sends
one_more next sends under = omega arith

pub returns-then-is_full-clause-trace : goal.returns-then-is_full-clause-trace
returns-then-is_full-clause-trace c = refl

pub returns-then-is_full-clause-script : goal.returns-then-is_full-clause-script
returns-then-is_full-clause-script c =
    rw (← c.self.view_is) (elim c.then-is_full.branch [
      | then-is_full-via-then-is_full w ↦ record {
        sends = λ left. absurd (omega (arith, c.is_full.ensures.full w.if-is_full.true));
        spent = λ _. refl;
        receipts = refl;
        log = refl;
      }
      | then-is_full-via-else-is_full+then-self-len w ↦ record {
        sends = λ _. rw (drop_all c.self.inside.next_send c.self.inside.sends.items
            (omega (arith, w.len.ensures, w.if-self-len.true))) (refl, refl);
        spent = λ _. refl;
        receipts = refl;
        log = refl;
      }
    ])

pub returns-then-is_full-clause-spent : goal.returns-then-is_full-clause-spent
returns-then-is_full-clause-spent c = λ _.
    rw (← c.self.view_is) (elim c.then-is_full.branch [
      | then-is_full-via-then-is_full w ↦ inl (c.is_full.ensures.full w.if-is_full.true)
      | then-is_full-via-else-is_full+then-self-len w ↦ inr
          (drop_all c.self.inside.next_send c.self.inside.sends.items
          (omega (arith, w.len.ensures, w.if-self-len.true)))
    ])

pub index-passes-requires : goal.index-passes-requires
index-passes-requires c = below _ _ _ c.self.invariant.0 c.if-self-len.false c.len.ensures

pub overflow_add-self : goal.overflow_add-self
overflow_add-self c =
    fitting _ _ _ (below _ _ _ c.self.invariant.0 c.if-self-len.false c.len.ensures) c.len.ensures
    c.len.type_inv

pub push_reserved-requires : goal.push_reserved-requires
push_reserved-requires c = room_left _ _ _ _ c.self.invariant.1
    (below _ _ _ c.self.invariant.0 c.if-self-len.false c.len.ensures)

pub add-requires : goal.add-requires
add-requires c = c.is_full.ensures.room c.if-is_full.false

pub invariant_of-self : goal.invariant_of-self
invariant_of-self c = (
  one_more _ _ (below _ _ _ c.self.invariant.0 c.if-self-len.false c.len.ensures),
  room_sent _ _ _ _ _ _ c.self.invariant.1 c.push_reserved.ensures.len
      c.push_reserved.ensures.capacity,
)

pub add-requires-else-passes : goal.add-requires-else-passes
add-requires-else-passes c = c.is_full.ensures.room c.if-is_full.false

pub invariant_of-self-else-passes : goal.invariant_of-self-else-passes
invariant_of-self-else-passes c = (
  one_more _ _ (below _ _ _ c.self.invariant.0 c.if-self-len.false c.len.ensures),
  room_kept _ _ _ _ c.self.invariant.1,
)

pub returns-then-passes-clause-trace : goal.returns-then-passes-clause-trace
returns-then-passes-clause-trace c = rw (← c.self.view_is) c.add.ensures

pub returns-then-passes-clause-script : goal.returns-then-passes-clause-script
returns-then-passes-clause-script c =
    let within : c.self.inside.next_send < length c.self.inside.sends.items = omega arith in
    rw (← c.self.view_is) (record {
      sends = λ _. takes_send c.self.inside.sends.items c.self.inside.next_send
          c.index-passes.result.now true _ within c.index-passes.ensures c.if-passes.true (
            refl,
            refl,
          );
      spent = λ wrong. absurd cc;
      receipts = refl;
      log = c.push_reserved.ensures.items;
    })

pub returns-then-passes-clause-spent : goal.returns-then-passes-clause-spent
returns-then-passes-clause-spent c = λ wrong. absurd cc

pub returns-else-passes-clause-trace : goal.returns-else-passes-clause-trace
returns-else-passes-clause-trace c = rw (← c.self.view_is) c.add-else-passes.ensures

pub returns-else-passes-clause-script : goal.returns-else-passes-clause-script
returns-else-passes-clause-script c =
    let within : c.self.inside.next_send < length c.self.inside.sends.items = omega arith in
    rw (← c.self.view_is) (record {
      sends = λ _. takes_send c.self.inside.sends.items c.self.inside.next_send
          c.index-passes.result.now false _ within c.index-passes.ensures c.if-passes.false (
            refl,
            refl,
          );
      spent = λ wrong. absurd cc;
      receipts = refl;
      log = refl;
    })

pub returns-else-passes-clause-spent : goal.returns-else-passes-clause-spent
returns-else-passes-clause-spent c = λ wrong. absurd cc

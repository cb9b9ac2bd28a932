use Rattle.std.proofs.Common.{refl, sym, ap, arith}
use Rattle.s10_link.specs.ScriptLink.{result_of}
use Rattle.s10_link.proofs.Scripts.{takes_receipt, receipt_at}
use Rattle.s10_link.proofs.script_link.ScriptLinkLink.receive.Goals as goal

pub returns-then-is_full-clause-trace : goal.returns-then-is_full-clause-trace
returns-then-is_full-clause-trace c = rw (← c.self.view_is) (
  refl,
  c.is_full.ensures.full c.if-is_full.true,
)

pub returns-then-is_full-clause-script : goal.returns-then-is_full-clause-script
returns-then-is_full-clause-script c =
    rw (← c.self.view_is) (record {
      receipts = λ left. absurd (omega (arith, c.is_full.ensures.full c.if-is_full.true));
      spent = λ _. refl;
      sends = refl;
      log = refl;
    })

pub add-requires : goal.add-requires
add-requires c = c.is_full.ensures.room c.if-is_full.false

pub invariant_of-self : goal.invariant_of-self
invariant_of-self c = c.self.invariant

pub returns-in_default-clause-trace : goal.returns-in_default-clause-trace
returns-in_default-clause-trace c = rw (← c.self.view_is) c.add.ensures

pub add-requires-in-Deliver : goal.add-requires-in-Deliver
add-requires-in-Deliver c = c.is_full.ensures.room c.if-is_full.false

pub invariant_of-self-in-Deliver : goal.invariant_of-self-in-Deliver
invariant_of-self-in-Deliver c = c.self.invariant

pub returns-in-Deliver-clause-trace : goal.returns-in-Deliver-clause-trace
returns-in-Deliver-clause-trace c = rw (← c.self.view_is) c.add-in-Deliver.ensures

pub add-requires-in-Nothing : goal.add-requires-in-Nothing
add-requires-in-Nothing c = c.is_full.ensures.room c.if-is_full.false

pub invariant_of-self-in-Nothing : goal.invariant_of-self-in-Nothing
invariant_of-self-in-Nothing c = c.self.invariant

pub returns-in-Nothing-clause-trace : goal.returns-in-Nothing-clause-trace
returns-in-Nothing-clause-trace c = rw (← c.self.view_is) c.add-in-Nothing.ensures

pub add-requires-in-Fail : goal.add-requires-in-Fail
add-requires-in-Fail c = c.is_full.ensures.room c.if-is_full.false

pub invariant_of-self-in-Fail : goal.invariant_of-self-in-Fail
invariant_of-self-in-Fail c = c.self.invariant

pub returns-in-Fail-clause-trace : goal.returns-in-Fail-clause-trace
returns-in-Fail-clause-trace c = rw (← c.self.view_is) c.add-in-Fail.ensures

pub returns-in-Deliver-clause-script : goal.returns-in-Deliver-clause-script
returns-in-Deliver-clause-script c =
    let at = receipt_at c.self.inside.receipts.items c.self.inside.next_receipt c.get.result
    c.in-Some.receipt (rw c.deref.ensures.value at c.get.ensures.lookup) c.in-Some.ensures in
    rw (← c.self.view_is) (record {
      receipts = λ left. takes_receipt c.self.inside.receipts.items c.self.inside.next_receipt
          c.in-Some.receipt _ at (sym (ap result_of c.in-Deliver.is));
      spent = λ wrong. absurd cc;
      sends = refl;
      log = refl;
    })

pub returns-in-Nothing-clause-script : goal.returns-in-Nothing-clause-script
returns-in-Nothing-clause-script c =
    let at = receipt_at c.self.inside.receipts.items c.self.inside.next_receipt c.get.result
    c.in-Some.receipt (rw c.deref.ensures.value at c.get.ensures.lookup) c.in-Some.ensures in
    rw (← c.self.view_is) (record {
      receipts = λ left. takes_receipt c.self.inside.receipts.items c.self.inside.next_receipt
          c.in-Some.receipt _ at (sym (ap result_of c.in-Nothing.is));
      spent = λ wrong. absurd cc;
      sends = refl;
      log = refl;
    })

pub returns-in-Fail-clause-script : goal.returns-in-Fail-clause-script
returns-in-Fail-clause-script c =
    let at = receipt_at c.self.inside.receipts.items c.self.inside.next_receipt c.get.result
    c.in-Some.receipt (rw c.deref.ensures.value at c.get.ensures.lookup) c.in-Some.ensures in
    rw (← c.self.view_is) (record {
      receipts = λ left. takes_receipt c.self.inside.receipts.items c.self.inside.next_receipt
          c.in-Some.receipt _ at (sym (ap result_of c.in-Fail.is));
      spent = λ wrong. absurd cc;
      sends = refl;
      log = refl;
    })

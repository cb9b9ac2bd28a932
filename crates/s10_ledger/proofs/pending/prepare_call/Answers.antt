use Rattle.std.proofs.Common.{◌≡◌, ◌∙◌, ◌++◌, ◌∷◌, [], List, Result, Ok, Err, OnOk, IfOk, All, false}
use Rattle.std.proofs.Common.{refl, sym, ap, length, arith}
use Rattle.std.specs.Result.{is_err}
use Rattle.s10_history.specs.declared.entry.Entry.{Entry}
use Rattle.s10_history.specs.Settings.{Terms}
use Rattle.s10_book.specs.declared.book_fault.BookFault.{BookFault}
use Rattle.s10_book.specs.Rules.{IsLegal, MayFollow}
use Rattle.s10_index.specs.declared.call_index.CallIndex.{CallIndex}
use Rattle.s10_index.specs.CallIndex.{Indexes}
use Rattle.s10_rows.specs.declared.call_write.CallWrite.{CallWrite}
use Rattle.s10_rows.specs.CallWrite.{Writes}
use Rattle.s10_rows.specs.Selected.{IsCall}
use Rattle.s10_rows.specs.Tables.{tables_of}
use Rattle.s10_ledger.specs.Pending.{IsWriteOf}
use Rattle.s10_ledger.proofs.pending.prepare_call.Goals as goal

where_passed : {T E : Type 0} (r : Result T E) (P : Type 0) → is_err r ≡ false → OnOk r P → P
where_passed (Ok x) P passed p = p
where_passed (Err e) P passed p = absurd cc

given : {T E : Type 0} (r : Result T E) (P : Type 0) → P → OnOk r P
given (Ok x) P p = p
given (Err x) P p = tt

is_write : (index : CallIndex) (e : Entry) (r : Result CallWrite BookFault)
    → ((h : List Entry) (t : Terms) → IsLegal h t → MayFollow h t e → All IsCall h
    → Indexes index h
    → IfOk r (λ w. IsCall e × Writes w (tables_of h t) (tables_of (h ++ e ∷ []) t)))
    → IfOk r (IsWriteOf index e)
is_write index e (Ok w) writes = writes
is_write index e (Err x) writes = tt

pub returns-clause-writes : goal.returns-clause-writes
returns-clause-writes c =
    is_write c.args.index.now c.args.entry.now c.call_write.result
    (λ h t legal follows calls indexed.
    c.call_write.ensures.answer h t legal follows calls (c.prepare.ensures.same h indexed)
    (where_passed c.prepare.result _ (sym c.if-is_err.ensures.value)
    (c.prepare.ensures.moves h t legal follows indexed))
    (omega (arith, ap length (c.calls.ensures ∙ indexed.calls))))

pub returns-clause-moves : goal.returns-clause-moves
returns-clause-moves c h t legal follows indexed = given c.call_write.result _
    (where_passed c.prepare.result _ (sym c.if-is_err.ensures.value)
    (c.prepare.ensures.moves h t legal follows indexed))

pub returns-clause-room : goal.returns-clause-room
returns-clause-room c = given c.call_write.result _
    (where_passed c.prepare.result _ (sym c.if-is_err.ensures.value) c.prepare.ensures.room)

pub returns-clause-few : goal.returns-clause-few
returns-clause-few c = given c.call_write.result _
    (omega (arith, ap length c.prepare.ensures.calls, ap length c.calls.ensures))

pub overflow_cast-held : goal.overflow_cast-held
overflow_cast-held c = omega arith

pub overflow_add-held : goal.overflow_add-held
overflow_add-held c = omega arith

pub returns-then-held-limit-clause-memory : goal.returns-then-held-limit-clause-memory
returns-then-held-limit-clause-memory c = λ h t legal follows indexed within.
    absurd (omega (arith, ap length (c.calls.ensures ∙ indexed.calls), follows.room, within))

pub returns-then-is_err-clause-memory : goal.returns-then-is_err-clause-memory
returns-then-is_err-clause-memory c = λ h t legal follows indexed within. refl

pub returns-clause-memory : goal.returns-clause-memory
returns-clause-memory c = λ h t legal follows indexed within.
    c.call_write.ensures.done h t legal follows
    (omega (arith, ap length (c.calls.ensures ∙ indexed.calls)))
    (c.prepare.ensures.same h indexed)
    (where_passed c.prepare.result _ (sym c.if-is_err.ensures.value)
    (c.prepare.ensures.moves h t legal follows indexed))

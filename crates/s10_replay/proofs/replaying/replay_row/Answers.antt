use Rattle.std.proofs.Common.{◌≡◌, ◌+◌, ◌++◌, ◌∷◌, [], sym, ap, ◌∙◌, arith, length, subst}
use Rattle.s10_history.specs.declared.entry.Entry.{Entry}
use Rattle.s10_replay.specs.RightRows.{IsRightRow, entry_of}
use Rattle.s10_rows.specs.Selected.{IsCall}
use Rattle.s10_replay.proofs.Replayed.{some_there, none_there, right_again}
use Rattle.s10_replay.proofs.FaultLemmas.{read_fault, row_fault}
use Rattle.s10_replay.proofs.replaying.replay_row.Goals as goal

pub returns-in-Ok-None-clause-err : goal.returns-in-Ok-None-clause-err
returns-in-Ok-None-clause-err g c = λ h.
    let t = g.B.Book.terms c.args.book.now in
    let before = g.B.Book.history c.args.book.now in
    let row = c.args.row.now in (
      omega (
        arith,
        ap length (c.right_call.ensures.unchanged.same_history h),
        c.len.ensures.answer h,
      ),
      none_there (¬ IsRightRow t before row) c.in-Ok-None.field-0 (c.in-Ok-None.ensures.wrong h)
          c.in-Ok-None.field-0-is,
    )

use Rattle.std.proofs.Common.{◌≡◌, sym, ap, ◌∙◌, refl, List, ◌+◌, pos}
use Rattle.s10_history.specs.declared.entry.Entry.{Entry}
use Rattle.s10_history.specs.Settings.{Terms}
use Rattle.s10_book.specs.Rules.{answer_of, MayFollow}
use Rattle.s10_book.proofs.Calls.{Unchanged-refl, Unchanged-trans}
use Rattle.s10_replay.specs.ReadRows.{IsCallOf}
use Rattle.s10_replay.proofs.Replayed.{unread_is_wrong, right_row}
use Rattle.s10_replay.proofs.replaying.right_call.Goals as goal

pub returns-in_default-clause-wrong : goal.returns-in_default-clause-wrong
returns-in_default-clause-wrong g c = λ _. unread_is_wrong c.args.row.now _ _
    c.in_default.ensures.none

pub returns-then-same_outcome-clause-right : goal.returns-then-same_outcome-clause-right
returns-then-same_outcome-clause-right g c = λ h.
    let placed_honest = c.decide.ensures.unchanged.was_honest h in
    let honest = c.may_follow.ensures.unchanged.was_honest placed_honest in
    let before : List Entry = g.B.Book.history c.args.book.now in
    let t : Terms = g.B.Book.terms c.args.book.now in
    let call = c.in-Some.call in
    let columns = c.if-not-has_key_columns.ensures.0 refl in
    let place = (c.in_ok-may_follow.ensures.answer placed_honest).0 c.if-not-branch.false in
    let rules : c.in_ok-outcome.outcome ≡ answer_of before call.request call.day t.interval =
    c.in_ok-outcome.ensures.answer h
    ∙ ap (λ l. answer_of l call.request call.day
    (g.B.Book.terms c.may_follow.new.book).interval)
    (c.may_follow.ensures.unchanged.same_history placed_honest)
    ∙ ap (λ (u : Terms). answer_of before call.request call.day u.interval)
    (c.may_follow.ensures.unchanged.same_terms placed_honest) in
    let follows : MayFollow before t call = record {
      new_key = place.2;
      in_order = place.1;
      room = place.0;
      right = sym (c.if-same_outcome.ensures.0 refl) ∙ rules;
    } in
    let read : IsCallOf c.args.row.now call = c.in-Some.ensures.read in
    right_row c.args.row.now call t before read (columns.0
    ∙ ap (λ n. pos (n + 1)) (c.len.ensures.answer honest)) columns.1 columns.2 follows

pub returns-in_err-may_follow-clause-unchanged : goal.returns-in_err-may_follow-clause-unchanged
returns-in_err-may_follow-clause-unchanged g c = c.may_follow.ensures.unchanged

pub returns-in_err-outcome-clause-unchanged : goal.returns-in_err-outcome-clause-unchanged
returns-in_err-outcome-clause-unchanged g c = Unchanged-trans c.may_follow.ensures.unchanged
    c.decide.ensures.unchanged

pub returns-then-same_outcome-clause-unchanged : goal.returns-then-same_outcome-clause-unchanged
returns-then-same_outcome-clause-unchanged g c = Unchanged-trans c.may_follow.ensures.unchanged
    c.decide.ensures.unchanged

pub returns-else-same_outcome-clause-unchanged : goal.returns-else-same_outcome-clause-unchanged
returns-else-same_outcome-clause-unchanged g c = Unchanged-trans c.may_follow.ensures.unchanged
    c.decide.ensures.unchanged

pub returns-then-not-has_key_columns-clause-unchanged :
    goal.returns-then-not-has_key_columns-clause-unchanged
returns-then-not-has_key_columns-clause-unchanged g c = elim c.then-not-has_key_columns.branch [
  | goal.then-not-has_key_columns-via-then-not-has_key_columns w ↦
      rw w.book-is (Unchanged-refl c.args.book.now)
  | goal.then-not-has_key_columns-via-else-not-has_key_columns+in_ok-may_follow+then-not-branch w ↦
      rw w.book-is w.may_follow.ensures.unchanged
]

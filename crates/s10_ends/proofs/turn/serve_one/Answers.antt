use Rattle.std.proofs.Common.{[], ◌∷◌, Ok, Err, Some, None, refl}
use Rattle.s10_ends.specs.Server.{book_of}
use Rattle.s10_ends.specs.Turn.{Handles}
use Rattle.s10_ends.proofs.Turns.{same_error, found_as}
use Rattle.s10_ends.proofs.Batches.{one_failed, one_quiet, one_committed}
use Rattle.s10_ends.proofs.Standing.{turn_of_batch}
use Rattle.s10_link.proofs.Led.{led_on}
use Rattle.s10_ends.proofs.turn.serve_one.Goals as goal

pub returns-in_err-taken-clause-turn : goal.returns-in_err-taken-clause-turn
returns-in_err-taken-clause-turn g c = record {
  between = (g.L.Link.trace_of c.take.new.link, book_of c.take.new.server);
  taken = Err c.in_err-taken.field-0.0;
  takes = c.in_err-taken.ensures.takes;
  answers = (
    refl,
    same_error c.from_residual.result c.in_err-taken.field-0.0
        c.from_residual.ensures.1,
  );
}

pub returns-in_default-clause-turn : goal.returns-in_default-clause-turn
returns-in_default-clause-turn g c = record {
  between = (g.L.Link.trace_of c.take.new.link, book_of c.take.new.server);
  taken = Ok None;
  takes = found_as (λ before after b answer. Handles g.B.Book.faults g.B.Book.honest
      g.B.Book.terms g.B.Book.history g.B.Book.committed g.B.Book.clean g.B.Book.may_find before
      after c.args.day b answer) _ _
      c.in_ok-taken.field-0 None c.in_default.is c.in_ok-taken.ensures.takes;
  answers = (refl, refl);
}

pub returns-clause-turn : goal.returns-clause-turn
returns-clause-turn g c = record {
  between = (g.L.Link.trace_of c.take.new.link, book_of c.take.new.server);
  taken = Ok (Some c.in-Some.taken);
  takes = found_as (λ before after b answer. Handles g.B.Book.faults g.B.Book.honest
      g.B.Book.terms g.B.Book.history g.B.Book.committed g.B.Book.clean g.B.Book.may_find before
      after c.args.day b answer) _ _
      c.in_ok-taken.field-0 (Some c.in-Some.taken) c.in-Some.is
      c.in_ok-taken.ensures.takes;
  answers = (refl, c.answer_committed.ensures.sends, c.answer_committed.ensures.answers);
}

pub returns-in_err-taken-clause-served : goal.returns-in_err-taken-clause-served
returns-in_err-taken-clause-served g c = λ whole. (
  [],
  one_failed _ _ _ _ _ _ _ c.args.day _ _
      c.in_err-taken.field-0.0 c.from_residual.result c.in_err-taken.ensures.takes
      c.from_residual.ensures.1,
)

pub returns-in_err-taken-clause-whole : goal.returns-in_err-taken-clause-whole
returns-in_err-taken-clause-whole g c = λ h whole. c.in_err-taken.ensures.whole c.requires h whole

pub returns-in_err-taken-clause-stands : goal.returns-in_err-taken-clause-stands
returns-in_err-taken-clause-stands g c = λ h whole. turn_of_batch _ _ _ _ _ _ _ c.args.day _ _ _
    (returns-in_err-taken-clause-served g c (λ _. whole)) h

pub returns-in_default-clause-served : goal.returns-in_default-clause-served
returns-in_default-clause-served g c = λ whole. (
  [],
  one_quiet _ _ _ _ _ _ _ c.args.day _ _
      c.in_ok-taken.field-0 c.in_ok-taken.ensures.takes c.in_default.is,
)

pub returns-in_default-clause-whole : goal.returns-in_default-clause-whole
returns-in_default-clause-whole g c = λ h whole. c.in_ok-taken.ensures.whole c.requires h whole

pub returns-in_default-clause-stands : goal.returns-in_default-clause-stands
returns-in_default-clause-stands g c = λ h whole. tt

pub returns-clause-served : goal.returns-clause-served
returns-clause-served g c = λ whole. (
  c.in-Some.taken ∷ [],
  one_committed _ _ _ _ _ _ _ c.args.day _ _ _ c.in_ok-taken.field-0 c.in-Some.taken
      c.answer_committed.result c.in_ok-taken.ensures.takes c.in-Some.is
      (λ h. c.in_ok-taken.ensures.whole c.requires h (whole h)) c.answer_committed.ensures.answers c.answer_committed.ensures.sends,
)

pub returns-clause-whole : goal.returns-clause-whole
returns-clause-whole g c = λ h whole. c.in_ok-taken.ensures.whole c.requires h whole

pub returns-clause-stands : goal.returns-clause-stands
returns-clause-stands g c = λ h whole. turn_of_batch _ _ _ _ _ _ _ c.args.day _ _ _
    (returns-clause-served g c (λ _. whole)) h

pub returns-clause-led : goal.returns-clause-led
returns-clause-led g c = led_on c.in_ok-taken.ensures.led c.answer_committed.ensures.led

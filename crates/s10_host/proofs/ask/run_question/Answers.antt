use Rattle.s10_host.proofs.Answering.{asked_as}
use Rattle.s10_host.proofs.ask.run_question.Goals as goal

pub returns-in-Numbered : goal.returns-in-Numbered
returns-in-Numbered g c =
    asked_as c.args.question.now.asker _ c.args.question.now _ _ _ _ _ c.in-Numbered.is
    (c.run_by_number.ensures.asked, c.run_by_number.ensures.without_notes)

pub returns-in-Noted : goal.returns-in-Noted
returns-in-Noted g c =
    asked_as c.args.question.now.asker _ c.args.question.now _ _ _ _ _ c.in-Noted.is
    c.run_by_notes.ensures

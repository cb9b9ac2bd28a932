use Rattle.std.proofs.Common.{rules, ◌≡◌, inl, refl, subst}
use Rattle.std.proofs.lemmas.Result.{on_ok_weaker}
use Rattle.sqlite.specs.Held.{state}
use Rattle.s10_ledger.specs.declared.opening.table_layout.TableLayout.{TableLayout}
use Rattle.s10_ledger.specs.declared.opening.table_layout.TableLayout.TheVariants.{Whole, Old}
use Rattle.s10_ledger.specs.TableLayout.{HasTableLayout}
use Rattle.s10_statements.proofs.CrashLemmas.{either}
use Rattle.s10_ledger.proofs.OpeningLemmas.{sound_before}
use Rattle.s10_ledger.proofs.opening.completing.complete.Goals as goal

not_both : (form : TableLayout) → form ≡ Old → form ≡ Whole → ⊥
not_both form old whole = cc

pub returns-in-Whole-clause-whole : goal.returns-in-Whole-clause-whole
returns-in-Whole-clause-whole c = search rules

pub returns-in-Whole-clause-settled : goal.returns-in-Whole-clause-settled
returns-in-Whole-clause-settled g c = c.requires.settled

pub returns-in-Whole-clause-was : goal.returns-in-Whole-clause-was
returns-in-Whole-clause-was g c = λ clean. (clean, λ opened. opened)

pub returns-in-Whole-clause-opened : goal.returns-in-Whole-clause-opened
returns-in-Whole-clause-opened g c = λ clean opened. opened

pub returns-in-Whole-clause-same : goal.returns-in-Whole-clause-same
returns-in-Whole-clause-same g c = λ is. refl

pub returns-in-Whole-clause-none : goal.returns-in-Whole-clause-none
returns-in-Whole-clause-none g c = λ clean opened. tt

pub returns-in-Old-clause-settled : goal.returns-in-Old-clause-settled
returns-in-Old-clause-settled g c = c.create_closed.ensures.settled

pub returns-in-Old-clause-was : goal.returns-in-Old-clause-was
returns-in-Old-clause-was g c = sound_before g.S.Store c.args.conn.now c.create_closed.new.conn
    c.create_closed.ensures.clean c.create_closed.ensures.was_open

pub returns-in-Old-clause-opened : goal.returns-in-Old-clause-opened
returns-in-Old-clause-opened g c = λ clean. on_ok_weaker c.create_closed.result
    (λ opened was. opened) (c.create_closed.ensures.opened clean)

pub returns-in-Old-clause-whole : goal.returns-in-Old-clause-whole
returns-in-Old-clause-whole g c = λ clean. on_ok_weaker c.create_closed.result
    (λ all tables has. all tables
    (subst (λ (f : TableLayout). HasTableLayout f (state g.S.Store c.args.conn.now).now tables)
    c.in-Old.is has)) (c.create_closed.ensures.all clean)

pub returns-in-Old-clause-same : goal.returns-in-Old-clause-same
returns-in-Old-clause-same g c = λ is. absurd (not_both c.args.form c.in-Old.is is)

pub returns-in-Old-clause-none : goal.returns-in-Old-clause-none
returns-in-Old-clause-none g c = c.create_closed.ensures.none

pub returns-in-Whole-clause-crash : goal.returns-in-Whole-clause-crash
returns-in-Whole-clause-crash g c = λ clean db left. inl left

pub returns-in-Old-clause-crash : goal.returns-in-Old-clause-crash
returns-in-Old-clause-crash g c =
    λ clean db left. either (c.create_closed.ensures.crash clean db left)
    (λ before. before) (λ made. (c.in-Old.is, made.0, made.1))

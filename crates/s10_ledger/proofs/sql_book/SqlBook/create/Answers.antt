use Rattle.std.proofs.Common.{◌≡◌, ◌⊎◌, inl, inr, List, length, arith, refl, ap, sym, subst}
use Rattle.std.proofs.Common.{Option, None, Some}
use Rattle.std.proofs.lemmas.List.{append-nil}
use Rattle.sqlite_schema.specs.declared.schema.Schema.{Schema}
use Rattle.sqlite.specs.Effect.{Database}
use Rattle.sqlite.specs.Held.{state}
use Rattle.s10_history.specs.declared.entry.Entry.{Entry}
use Rattle.s10_history.specs.History.{day_of}
use Rattle.s10_book.specs.Rules.{IsLegal}
use Rattle.s10_index.specs.CallIndex.{Indexes}
use Rattle.s10_rows.specs.declared.open_fault.OpenFault.{OpenFault}
use Rattle.s10_rows.specs.declared.open_fault.OpenFault.TheVariants.{Memory, Store}
use Rattle.s10_schema.specs.Schema.{ledger_schema}
use Rattle.s10_statements.proofs.CrashLemmas.{either}
use Rattle.s10_statements.specs.Creating.{HasOneOfTheNames, IsCreateRefusal}
use Rattle.s10_ledger.specs.Ledger.{IsLedger, history_in}
use Rattle.s10_ledger.proofs.NewLedger.{no_history, new_ledger}
use Rattle.s10_ledger.proofs.FaultLemmas.{named, unnamed}
use Rattle.s10_ledger.proofs.sql_book.SqlBook.create.Goals as goal

not_made : (s : Schema) (f : OpenFault) → ¬ HasOneOfTheNames s → (f ≡ Memory) ⊎ (f ≡ Store)
    → IsCreateRefusal s f
not_made s f fresh (inl is) = subst (λ (x : OpenFault). IsCreateRefusal s x) (sym is) tt
not_made s f fresh (inr is) = subst (λ (x : OpenFault). IsCreateRefusal s x) (sym is) fresh

not_both : (r : Option OpenFault) (f : OpenFault) → r ≡ None → r ≡ Some f → ⊥
not_both r f none some = absurd cc

pub over-requires : goal.over-requires
over-requires g c =
    let db = (state g.S.Store c.create_tables.new.conn).now in
    record {
      few = omega (arith, ap length c.new-index.ensures.none.calls);
      settled = c.in_default-create_tables.ensures.settled;
      ledger = λ clean opened. subst (λ (l : List Entry). IsLedger db c.args.settings (length l)
          (day_of l)) (sym c.new-index.ensures.none.calls)
          (new_ledger db c.args.settings (c.in_default-create_tables.ensures.all clean
          (c.refusal_of.ensures.none c.in_default.is)));
      indexed = λ clean opened. subst (Indexes c.new-index.result)
          (sym (no_history db c.args.settings (c.in_default-create_tables.ensures.all clean
          (c.refusal_of.ensures.none c.in_default.is)))) c.new-index.ensures.none;
      opened = λ clean. c.in_default-create_tables.ensures.opened clean;
    }

pub returns-clause-empty : goal.returns-clause-empty
returns-clause-empty g c =
    rw c.over.ensures (λ honest. no_history (state g.S.Store c.create_tables.new.conn).now
    c.args.settings (c.in_default-create_tables.ensures.all honest.clean
    (c.refusal_of.ensures.none c.in_default.is)))

pub returns-clause-honest : goal.returns-clause-honest
returns-clause-honest g c = rw c.over.ensures (λ clean opened.
    let db = (state g.S.Store c.create_tables.new.conn).now in
    let it = subst (λ (l : List Entry). IsLedger db c.args.settings (length l) (day_of l))
    (sym c.new-index.ensures.none.calls)
    (new_ledger db c.args.settings (c.in_default-create_tables.ensures.all clean
    (c.refusal_of.ensures.none c.in_default.is))) in
    record {
      clean = clean;
      is_open = opened;
      committed = c.create_tables.ensures.settled.committed clean opened;
      ledger = it;
      legal = subst (λ (h : List Entry). IsLegal h c.args.settings)
          (sym (append-nil (history_in db))) it.legal;
    })

pub returns-clause-alone : goal.returns-clause-alone
returns-clause-alone g c = rw c.over.ensures (λ honest. c.in_default-create_tables.ensures.alone
    honest.clean (c.refusal_of.ensures.none c.in_default.is))

pub returns-in-Err-clause-left_idle : goal.returns-in-Err-clause-left_idle
returns-in-Err-clause-left_idle g c = rw c.new-in-Err.ensures.connection
    c.create_tables.ensures.settled.idle

pub returns-in-Err-clause-was_refused : goal.returns-in-Err-clause-was_refused
returns-in-Err-clause-was_refused g c = rw c.new-in-Err.ensures.connection
    c.create_tables.ensures.was

pub returns-in-Err-clause-kept : goal.returns-in-Err-clause-kept
returns-in-Err-clause-kept g c = rw c.new-in-Err.ensures.connection
    (λ clean opened. c.in-Err.ensures.none clean opened)

pub returns-clause-fresh : goal.returns-clause-fresh
returns-clause-fresh g c = c.refusal_of.ensures.fresh c.in_default.is

pub returns-clause-idle : goal.returns-clause-idle
returns-clause-idle g c = rw c.over.ensures c.create_tables.ensures.settled.idle

pub returns-clause-opened : goal.returns-clause-opened
returns-clause-opened g c =
    rw c.over.ensures (λ clean. c.in_default-create_tables.ensures.opened clean)

pub returns-clause-was : goal.returns-clause-was
returns-clause-was g c = rw c.over.ensures c.create_tables.ensures.was

pub returns-clause-committed : goal.returns-clause-committed
returns-clause-committed g c =
    rw c.over.ensures (λ honest. c.create_tables.ensures.settled.committed honest.clean
    honest.is_open)

pub returns-in-Some-clause-new : goal.returns-in-Some-clause-new
returns-in-Some-clause-new g c = tt

pub returns-in-Some-clause-fresh : goal.returns-in-Some-clause-fresh
returns-in-Some-clause-fresh g c = tt

pub returns-in-Some-clause-idle : goal.returns-in-Some-clause-idle
returns-in-Some-clause-idle g c = tt

pub returns-in-Some-clause-opened : goal.returns-in-Some-clause-opened
returns-in-Some-clause-opened g c = tt

pub returns-in-Some-clause-was : goal.returns-in-Some-clause-was
returns-in-Some-clause-was g c = tt

pub returns-in-Some-clause-empty : goal.returns-in-Some-clause-empty
returns-in-Some-clause-empty g c = tt

pub returns-in-Some-clause-alone : goal.returns-in-Some-clause-alone
returns-in-Some-clause-alone g c = tt

pub returns-in-Some-clause-committed : goal.returns-in-Some-clause-committed
returns-in-Some-clause-committed g c = tt

pub returns-in-Some-clause-honest : goal.returns-in-Some-clause-honest
returns-in-Some-clause-honest g c = tt

pub returns-in-Some-clause-none_pending : goal.returns-in-Some-clause-none_pending
returns-in-Some-clause-none_pending g c = tt

pub returns-in-Err-clause-new : goal.returns-in-Err-clause-new
returns-in-Err-clause-new g c = tt

pub returns-in-Err-clause-fresh : goal.returns-in-Err-clause-fresh
returns-in-Err-clause-fresh g c = tt

pub returns-in-Err-clause-idle : goal.returns-in-Err-clause-idle
returns-in-Err-clause-idle g c = tt

pub returns-in-Err-clause-opened : goal.returns-in-Err-clause-opened
returns-in-Err-clause-opened g c = tt

pub returns-in-Err-clause-was : goal.returns-in-Err-clause-was
returns-in-Err-clause-was g c = tt

pub returns-in-Err-clause-empty : goal.returns-in-Err-clause-empty
returns-in-Err-clause-empty g c = tt

pub returns-in-Err-clause-alone : goal.returns-in-Err-clause-alone
returns-in-Err-clause-alone g c = tt

pub returns-in-Err-clause-committed : goal.returns-in-Err-clause-committed
returns-in-Err-clause-committed g c = tt

pub returns-in-Err-clause-honest : goal.returns-in-Err-clause-honest
returns-in-Err-clause-honest g c = tt

pub returns-in-Err-clause-none_pending : goal.returns-in-Err-clause-none_pending
returns-in-Err-clause-none_pending g c = tt

pub returns-in-Some-clause-left_idle : goal.returns-in-Some-clause-left_idle
returns-in-Some-clause-left_idle g c = rw c.new.ensures.connection c.requires.idle

pub returns-in-Some-clause-was_refused : goal.returns-in-Some-clause-was_refused
returns-in-Some-clause-was_refused g c = rw c.new.ensures.connection
    (λ clean. (clean, λ opened. opened))

pub returns-in-Some-clause-refused : goal.returns-in-Some-clause-refused
returns-in-Some-clause-refused g c = rw (c.new.ensures.refusal, c.from.ensures.0)
    c.in-Some.ensures.refusal

pub returns-in-Some-clause-kept : goal.returns-in-Some-clause-kept
returns-in-Some-clause-kept g c = rw c.new.ensures.connection (λ clean opened. refl)

pub returns-clause-new : goal.returns-clause-new
returns-clause-new g c = rw c.over.ensures (refl, refl)

pub returns-clause-none_pending : goal.returns-clause-none_pending
returns-clause-none_pending g c = rw c.over.ensures refl

pub returns-clause-left_idle : goal.returns-clause-left_idle
returns-clause-left_idle g c = tt

pub returns-clause-was_refused : goal.returns-clause-was_refused
returns-clause-was_refused g c = tt

pub returns-clause-refused : goal.returns-clause-refused
returns-clause-refused g c = tt

pub returns-clause-kept : goal.returns-clause-kept
returns-clause-kept g c = tt

pub returns-in-Err-clause-refused : goal.returns-in-Err-clause-refused
returns-in-Err-clause-refused g c = rw c.new-in-Err.ensures.refusal
    (not_made (state g.S.Store c.args.conn).now.schema c.from-in-Err.result.fault
    (c.refusal_of.ensures.fresh c.in_default.is) c.from-in-Err.ensures.1.0)

pub returns-clause-crash : goal.returns-clause-crash
returns-clause-crash g c = rw c.over.ensures (λ clean db left.
    let new : Database = record { schema = ledger_schema; trees = db } in
    either (c.create_tables.ensures.crash clean (c.refusal_of.ensures.none c.in_default.is) db left)
    (λ before. before) (λ stands. (
      no_history new c.args.settings stands,
      new_ledger new c.args.settings stands,
    )))

pub returns-in-Err-clause-crash_refused : goal.returns-in-Err-clause-crash_refused
returns-in-Err-clause-crash_refused g c = rw c.new-in-Err.ensures.connection (λ clean db left.
    let new : Database = record { schema = ledger_schema; trees = db } in
    either (c.create_tables.ensures.crash clean (c.refusal_of.ensures.none c.in_default.is) db left)
    (λ before. before) (λ stands. (
      no_history new c.args.settings stands,
      new_ledger new c.args.settings stands,
    )))

pub returns-in-Some-clause-crash_refused : goal.returns-in-Some-clause-crash_refused
returns-in-Some-clause-crash_refused g c = rw c.new.ensures.connection
    (λ clean db left. inl left)

pub returns-in-Some-clause-not_empty : goal.returns-in-Some-clause-not_empty
returns-in-Some-clause-not_empty g c = rw (c.new.ensures.refusal, c.from.ensures.0)
    (named (state g.S.Store c.args.conn).now.schema
    c.in-Some.fault c.in-Some.ensures.refusal c.in-Some.ensures.fault)

pub returns-in-Some-clause-other_tables : goal.returns-in-Some-clause-other_tables
returns-in-Some-clause-other_tables g c = rw (c.new.ensures.refusal, c.from.ensures.0)
    (λ none some. unnamed (state g.S.Store c.args.conn).now.schema c.in-Some.fault
    c.in-Some.ensures.refusal c.in-Some.ensures.fault none)

pub returns-in-Some-clause-no_cause : goal.returns-in-Some-clause-no_cause
returns-in-Some-clause-no_cause g c = rw (c.new.ensures.refusal, c.from.ensures.1) (
  λ none empty. let nothing = c.refusal_of.ensures.empty empty in
      absurd (not_both c.refusal_of.result c.in-Some.fault nothing c.in-Some.is),
  λ other. refl,
)

pub returns-in-Err-clause-not_empty : goal.returns-in-Err-clause-not_empty
returns-in-Err-clause-not_empty g c = λ one.
    absurd (c.refusal_of.ensures.fresh c.in_default.is one)

pub returns-in-Err-clause-other_tables : goal.returns-in-Err-clause-other_tables
returns-in-Err-clause-other_tables g c = λ none some.
    absurd (some (c.refusal_of.ensures.none c.in_default.is))

pub returns-clause-not_empty : goal.returns-clause-not_empty
returns-clause-not_empty g c = λ one. tt

pub returns-clause-other_tables : goal.returns-clause-other_tables
returns-clause-other_tables g c = λ none some. tt

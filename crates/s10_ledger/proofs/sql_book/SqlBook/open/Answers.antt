use Rattle.std.proofs.Common.{rules, List, length, sym, subst, refl}
use Rattle.std.proofs.lemmas.List.{append-nil}
use Rattle.s10_history.specs.declared.entry.Entry.{Entry}
use Rattle.s10_book.specs.Rules.{IsLegal}
use Rattle.s10_history.specs.History.{day_of}
use Rattle.s10_index.specs.CallIndex.{Indexes}
use Rattle.s10_ledger.specs.Ledger.{IsLedger, IsAnyLedger, history_in}
use Rattle.sqlite.specs.Held.{state}
use Rattle.s10_ledger.proofs.BookLemmas.{closed_is}
use Rattle.s10_ledger.proofs.OpeningLemmas.{returned_same}
use Rattle.s10_ledger.proofs.RefusalLemmas.{ledger_opens}
use Rattle.s10_ledger.proofs.sql_book.SqlBook.open.Goals as goal

pub returns-in-Err-clause-accepted : goal.returns-in-Err-clause-accepted
returns-in-Err-clause-accepted g c = rw (c.new.ensures.connection, c.new.ensures.refusal)
    (λ clean opened t len day limits it. ledger_opens (state g.S.Store c.args.conn).now t len day
    limits it c.in-Err.refusal.fault (c.in-Err.ensures.refused clean opened))

pub ledger_in-requires : goal.ledger_in-requires
ledger_in-requires g c =
    record {
      settled = record {
        idle = c.requires.idle;
        committed = λ clean opened. sym (c.is_autocommit.ensures.settled (search rules) opened);
      };
    }

pub returns-in-Ok-clause-completed : goal.returns-in-Ok-clause-completed
returns-in-Ok-clause-completed g c honest = closed_is (state g.S.Store c.over.result.conn).now
    c.over.result.terms c.over.result.len c.over.result.day honest.ledger

pub returns-in-Ok-clause-honest : goal.returns-in-Ok-clause-honest
returns-in-Ok-clause-honest g c = rw c.over.ensures (λ clean opened.
    let it = returned_same (λ t h. IsLedger (state g.S.Store c.ledger_in.new.conn).now t (length h)
    (day_of h)) c.in-Ok.book c.settings-settings.result c.into_index.result
    (c.settings-settings.ensures tt) c.into_index.ensures.indexed
    (c.in-Ok.ensures.ledger clean opened) in
    record {
      clean = clean;
      is_open = opened;
      committed = c.ledger_in.ensures.settled.committed clean opened;
      ledger = it;
      legal = subst (λ (h : List Entry). IsLegal h c.settings-settings.result)
          (sym (append-nil (history_in (state g.S.Store c.ledger_in.new.conn).now))) it.legal;
    })

pub returns-in-Ok-clause-found : goal.returns-in-Ok-clause-found
returns-in-Ok-clause-found g c =
    rw c.over.ensures (λ honest. returned_same (λ t h. IsAnyLedger (state g.S.Store c.args.conn).now t
    (length h) (day_of h)) c.in-Ok.book c.settings-settings.result c.into_index.result
    (c.settings-settings.ensures tt) c.into_index.ensures.indexed
    (c.in-Ok.ensures.found honest.clean honest.is_open))

pub returns-in-Ok-clause-same : goal.returns-in-Ok-clause-same
returns-in-Ok-clause-same g c =
    rw c.over.ensures (λ honest closed. c.in-Ok.ensures.same honest.clean honest.is_open closed)

pub over-requires : goal.over-requires
over-requires g c = record {
  few = c.into_index.ensures.few;
  settled = c.ledger_in.ensures.settled;
  ledger = λ clean opened. returned_same (λ t h. IsLedger (state g.S.Store c.ledger_in.new.conn).now t
      (length h) (day_of h)) c.in-Ok.book c.settings-settings.result c.into_index.result
      (c.settings-settings.ensures tt) c.into_index.ensures.indexed
      (c.in-Ok.ensures.ledger clean opened);
  indexed = λ clean opened.
      let held = c.in-Ok.ensures.indexed clean opened in
      subst (λ (h : List Entry). Indexes c.into_index.result h) held.calls
      c.into_index.ensures.indexed;
  opened = λ clean. c.in-Ok.ensures.opened clean;
}

pub returns-in-Ok-clause-new : goal.returns-in-Ok-clause-new
returns-in-Ok-clause-new g c = rw c.over.ensures refl

pub returns-in-Ok-clause-idle : goal.returns-in-Ok-clause-idle
returns-in-Ok-clause-idle g c = rw c.over.ensures c.ledger_in.ensures.settled.idle

pub returns-in-Ok-clause-opened : goal.returns-in-Ok-clause-opened
returns-in-Ok-clause-opened g c = rw c.over.ensures (λ clean. c.in-Ok.ensures.opened clean)

pub returns-in-Ok-clause-was : goal.returns-in-Ok-clause-was
returns-in-Ok-clause-was g c = rw c.over.ensures c.ledger_in.ensures.was

pub returns-in-Ok-clause-history : goal.returns-in-Ok-clause-history
returns-in-Ok-clause-history g c =
    rw c.over.ensures (λ honest. c.in-Ok.ensures.history honest.clean honest.is_open)

pub returns-in-Ok-clause-committed : goal.returns-in-Ok-clause-committed
returns-in-Ok-clause-committed g c =
    rw c.over.ensures (λ honest. c.ledger_in.ensures.settled.committed honest.clean honest.is_open)

pub returns-in-Ok-clause-none_pending : goal.returns-in-Ok-clause-none_pending
returns-in-Ok-clause-none_pending g c = rw c.over.ensures refl

pub returns-in-Err-clause-left_idle : goal.returns-in-Err-clause-left_idle
returns-in-Err-clause-left_idle g c = rw c.new.ensures.connection
    c.ledger_in.ensures.settled.idle

pub returns-in-Err-clause-was_refused : goal.returns-in-Err-clause-was_refused
returns-in-Err-clause-was_refused g c = rw c.new.ensures.connection c.ledger_in.ensures.was

pub returns-in-Err-clause-refused : goal.returns-in-Err-clause-refused
returns-in-Err-clause-refused g c = rw (c.new.ensures.connection, c.new.ensures.refusal)
    (λ clean opened. c.in-Err.ensures.refused clean opened)

pub returns-in-Err-clause-kept : goal.returns-in-Err-clause-kept
returns-in-Err-clause-kept g c = rw c.new.ensures.connection
    (λ clean opened. c.in-Err.ensures.kept clean opened)

pub returns-in-Ok-clause-crash : goal.returns-in-Ok-clause-crash
returns-in-Ok-clause-crash g c = rw c.over.ensures c.ledger_in.ensures.crash

pub returns-in-Err-clause-crash_refused : goal.returns-in-Err-clause-crash_refused
returns-in-Err-clause-crash_refused g c = rw c.new.ensures.connection c.ledger_in.ensures.crash

pub returns-in-Err-clause-no_tables : goal.returns-in-Err-clause-no_tables
returns-in-Err-clause-no_tables g c = rw c.new.ensures.refusal
    (λ none. c.in-Err.ensures.no_tables none)

pub returns-in-Err-clause-cause : goal.returns-in-Err-clause-cause
returns-in-Err-clause-cause g c = rw c.new.ensures.refusal c.in-Err.ensures.cause

pub returns-in-Ok-clause-no_tables : goal.returns-in-Ok-clause-no_tables
returns-in-Ok-clause-no_tables g c = λ none. tt

use Rattle.std.proofs.Common.{◌≡◌, ◌∙◌, Result, Ok, Err, OnOk, List, sym}
use Rattle.sqlite.specs.Held.{state}
use Rattle.s10_history.specs.declared.entry.Entry.{Entry}
use Rattle.s10_ledger.specs.Ledger.{history_of}
use Rattle.s10_ledger.proofs.BookLemmas.{ledger_again, finds_the_same}
use Rattle.s10_ledger.proofs.FaultLemmas.{not_full}
use Rattle.s10_ledger.proofs.sql_book.SqlBook.close.Goals as goal

then_same : {T E : Type 0} (r : Result T E) (a b c : List Entry) → OnOk r (a ≡ b) → b ≡ c
    → OnOk r (a ≡ c)
then_same (Ok x) a b c first second = first ∙ second
then_same (Err x) a b c first second = tt

pub returns-clause-ledger : goal.returns-clause-ledger
returns-clause-ledger g c clean opened =
    let honest = c.into_connection-connection.ensures.honest clean opened in
    rw c.into_connection-connection.ensures.same
    (ledger_again (state g.S.Store c.commit_rest-committed.new.self.conn).now _ _ _ _ honest.ledger
    (c.commit_rest-committed.ensures.unchanged.same_terms honest))

pub returns-clause-honest : goal.returns-clause-honest
returns-clause-honest g c = λ clean opened. c.commit_rest-committed.ensures.unchanged.was_honest
    (c.into_connection-connection.ensures.honest clean opened)

pub returns-clause-whole : goal.returns-clause-whole
returns-clause-whole g c = λ clean opened.
    let honest = c.into_connection-connection.ensures.honest clean opened in
    rw c.into_connection-connection.ensures.same
    (then_same c.commit_rest-committed.result _ _ _ (c.commit_rest-committed.ensures.done honest)
    (c.commit_rest-committed.ensures.unchanged.same_history honest))

pub returns-clause-left : goal.returns-clause-left
returns-clause-left g c = λ clean opened.
    let honest = c.into_connection-connection.ensures.honest clean opened in
    rw c.into_connection-connection.ensures.same (c.commit_rest-committed.ensures.left honest)

pub returns-clause-same : goal.returns-clause-same
returns-clause-same g c = λ none. c.into_connection-connection.ensures.same
    ∙ c.commit_rest-committed.ensures.same none

pub returns-clause-stop : goal.returns-clause-stop
returns-clause-stop g c = finds_the_same g.S.Store c.args.self c.commit_rest-committed.new.self
    (record c.args.self { conn = c.into_connection-connection.result })
    (λ calls. calls ≡ history_of g.S.Store c.args.self) c.into_connection-connection.ensures.same
    (sym c.commit_rest-committed.ensures.same_terms) c.commit_rest-committed.ensures.unchanged.stop

pub returns-clause-fault : goal.returns-clause-fault
returns-clause-fault g c = not_full c.commit_rest-committed.result _ _
    c.commit_rest-committed.ensures.faults

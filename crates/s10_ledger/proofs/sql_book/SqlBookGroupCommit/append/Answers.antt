use Rattle.std.proofs.Common.{◌≡◌, ◌∙◌, ◌++◌, ◌∷◌, [], List, Result, Ok, Err, OnOk, OnErr, IsTrue}
use Rattle.std.proofs.Common.{sym, ap, subst}
use Rattle.std.proofs.lemmas.List.{append_assoc}
use Rattle.sqlite_trees.specs.declared.store.Store.{Ghosts}
use Rattle.sqlite.specs.State.{HasCleanDisk}
use Rattle.sqlite.specs.Held.{Held, state}
use Rattle.s10_history.specs.declared.entry.Entry.{Entry}
use Rattle.s10_book.specs.Book.{IsPerhapsWith}
use Rattle.s10_book.proofs.Calls.{FindsAfter-refl, finds_one_more}
use Rattle.s10_ledger.specs.Ledger.{Ledger, history_in, history_of, IsOverCleanDisk}
use Rattle.s10_ledger.proofs.BookLemmas.{follows_still, finds_the_same}
use Rattle.s10_ledger.proofs.FaultLemmas.{not_store}
use Rattle.s10_ledger.proofs.sql_book.SqlBookGroupCommit.append.Goals as goal

given : {T E : Type 0} (r : Result T E) (P : Type 0) → P → OnOk r P
given (Ok x) P p = p
given (Err x) P p = tt

opened_still : {S : Type 0} (g : Ghosts S) (old new : Held S) → new ≡ old
    → (HasCleanDisk (state g old) → IsTrue (state g old).is_open) → HasCleanDisk (state g new)
    → IsTrue (state g new).is_open
opened_still {S} g old new same opened clean =
    subst (λ (h : Held S). IsTrue (state g h).is_open) (sym same)
    (opened (subst (λ (h : Held S). HasCleanDisk (state g h)) same clean))

module _ {S : Type 0} (g : Ghosts S) (old mid new : Ledger S) (e : Entry)
    (same : new.conn ≡ mid.conn) where
  held_after : {T E : Type 0} (r : Result T E) → OnOk r (new.pending ≡ mid.pending ++ e ∷ [])
      → history_of g mid ≡ history_of g old → OnOk r (history_of g new ≡ history_of g old ++ e ∷ [])
  held_after (Ok x) held kept =
      ap (λ (c : Held S). history_in (state g c).now ++ new.pending) same
      ∙ ap (λ (p : List Entry). history_in (state g mid.conn).now ++ p) held
      ∙ sym (append_assoc (history_in (state g mid.conn).now) mid.pending (e ∷ []))
      ∙ ap (λ (h : List Entry). h ++ e ∷ []) kept
  held_after (Err x) held kept = tt

  not_held : {T E : Type 0} (r : Result T E) → OnErr r (new.pending ≡ mid.pending)
      → history_of g mid ≡ history_of g old → OnErr r (history_of g new ≡ history_of g old)
  not_held (Ok x) left kept = tt
  not_held (Err x) left kept = ap (λ (c : Held S). history_in (state g c).now ++ new.pending) same
      ∙ ap (λ (p : List Entry). history_in (state g mid.conn).now ++ p) left ∙ kept

  held_alone : {T E : Type 0} (r : Result T E) → OnOk r (new.pending ≡ mid.pending ++ e ∷ [])
      → ((state g mid.conn).now ≡ (state g old.conn).now) × (mid.pending ≡ old.pending)
      → OnOk r (((state g new.conn).now ≡ (state g old.conn).now)
      × (new.pending ≡ old.pending ++ e ∷ []))
  held_alone (Ok x) held uncommitted = (
    ap (λ (c : Held S). (state g c).now) same ∙ uncommitted.0,
    held ∙ ap (λ (p : List Entry). p ++ e ∷ []) uncommitted.1,
  )
  held_alone (Err x) held uncommitted = tt

pub returns-in-Err-clause-faults : goal.returns-in-Err-clause-faults
returns-in-Err-clause-faults g c = c.in-Err.ensures.faults

pub returns-in-Err-clause-was_honest : goal.returns-in-Err-clause-was_honest
returns-in-Err-clause-was_honest g c = c.in-Err.ensures.unchanged.was_honest

pub returns-in-Err-clause-same_terms : goal.returns-in-Err-clause-same_terms
returns-in-Err-clause-same_terms g c = c.in-Err.ensures.unchanged.same_terms

pub returns-in-Err-clause-opened : goal.returns-in-Err-clause-opened
returns-in-Err-clause-opened g c = λ clean. tt

pub returns-in-Err-clause-stop : goal.returns-in-Err-clause-stop
returns-in-Err-clause-stop g c =
    let mid = c.make_room.new.self in
    finds_one_more c.args.entry c.in-Err.ensures.unchanged
    (FindsAfter-refl mid (IsPerhapsWith (history_of g.S.Store mid) c.args.entry))

pub returns-in-Err-clause-ok : goal.returns-in-Err-clause-ok
returns-in-Err-clause-ok g c = λ honest. tt

pub returns-in-Err-clause-err : goal.returns-in-Err-clause-err
returns-in-Err-clause-err g c = c.in-Err.ensures.unchanged.same_history

pub append_call-requires-clause-room : goal.append_call-requires-clause-room
append_call-requires-clause-room g c = c.in_default.ensures.room

pub append_call-requires-clause-follows : goal.append_call-requires-clause-follows
append_call-requires-clause-follows g c = follows_still g.S.Store c.args.self.now
    c.make_room.new.self c.args.entry c.in_default.ensures.unchanged c.requires

pub returns-clause-faults : goal.returns-clause-faults
returns-clause-faults g c = rw c.in_default.ensures.faults at c.append_call.ensures.faults

pub returns-clause-was_honest : goal.returns-clause-was_honest
returns-clause-was_honest g c = λ honest. c.in_default.ensures.unchanged.was_honest
    (c.append_call.ensures.was_honest honest)

pub returns-clause-same_terms : goal.returns-clause-same_terms
returns-clause-same_terms g c = λ honest. c.append_call.ensures.same_terms
    ∙ c.in_default.ensures.unchanged.same_terms (c.append_call.ensures.was_honest honest)

pub returns-clause-opened : goal.returns-clause-opened
returns-clause-opened g c = λ clean. given c.append_call.result _
    (c.append_call.ensures.honest clean (opened_still g.S.Store c.make_room.new.self.conn
    c.append_call.new.self.conn c.append_call.ensures.same_conn
    (λ was. (c.in_default.ensures.opened was).is_open) clean))

pub returns-clause-stop : goal.returns-clause-stop
returns-clause-stop g c =
    let mid = c.make_room.new.self in
    let also = IsPerhapsWith (history_of g.S.Store mid) c.args.entry in
    finds_one_more c.args.entry c.in_default.ensures.unchanged
    (finds_the_same g.S.Store mid mid c.append_call.new.self also
    c.append_call.ensures.same_conn c.append_call.ensures.same_terms (FindsAfter-refl mid also))

pub returns-clause-ok : goal.returns-clause-ok
returns-clause-ok g c = λ honest.
    held_after g.S.Store c.args.self.now c.make_room.new.self c.append_call.new.self c.args.entry
    c.append_call.ensures.same_conn c.append_call.result c.append_call.ensures.ok
    (c.in_default.ensures.unchanged.same_history (c.append_call.ensures.was_honest honest))

pub returns-clause-err : goal.returns-clause-err
returns-clause-err g c = λ honest.
    not_held g.S.Store c.args.self.now c.make_room.new.self c.append_call.new.self c.args.entry
    c.append_call.ensures.same_conn c.append_call.result c.append_call.ensures.err
    (c.in_default.ensures.unchanged.same_history (c.append_call.ensures.was_honest honest))

pub returns-in-Err-clause-appends : goal.returns-in-Err-clause-appends
returns-in-Err-clause-appends g c = record {
  uncommitted = λ honest few. tt;
  store = λ honest clean few is. c.make_room.ensures.store honest clean few (c.in-Err.is ∙ is);
}

pub returns-clause-appends : goal.returns-clause-appends
returns-clause-appends g c = record {
  uncommitted = λ honest few.
      held_alone g.S.Store c.args.self.now c.make_room.new.self c.append_call.new.self
      c.args.entry c.append_call.ensures.same_conn c.append_call.result c.append_call.ensures.ok
      (c.in_default.ensures.uncommitted (c.append_call.ensures.was_honest honest) few);
  store = λ honest clean few is.
      let mid = c.make_room.new.self in
      let was : IsOverCleanDisk g.S.Store mid =
      subst (λ h. HasCleanDisk (state g.S.Store h)) c.append_call.ensures.same_conn clean in
      absurd (not_store c.append_call.result
      (c.append_call.ensures.memory (c.in_default.ensures.opened was)) is);
}

-- What a replay of calls is after one more row, and after all of them.
use Rattle.std.proofs.Common.{◌≡◌, List, [], ◌∷◌, ◌++◌, Result, Ok, Err, IfOk, IfErr, refl, sym}
use Rattle.std.proofs.Common.{subst, ◌∙◌, pos}
use Rattle.std.proofs.lemmas.List.{append_assoc, append-nil}
use Rattle.s10_history.specs.Settings.{Terms}
use Rattle.s10_rows.specs.declared.open_fault.OpenFault.{OpenFault}
use Rattle.s10_rows.specs.CallRow.{StoredCall}
use Rattle.s10_rows.specs.declared.head_row.HeadRow.{HeadRow}
use Rattle.s10_rows.specs.Tables.{Tables}
use Rattle.s10_replay.specs.CheckedTables.{IsHead, IsRefusal}
use Rattle.s10_replay.specs.RightRows.{IsRightRow, AreRight, entry_of}
use Rattle.s10_replay.specs.FaultNames.{IsRowFault, IsHeadFault}
use Rattle.s10_replay.proofs.Replayed.{replayed_none, replayed_more, refused_row}
use Rattle.s10_index.specs.declared.indexed_book.IndexedBook.{IndexedBook}
use Rattle.s10_ledger.specs.declared.opening.call_replay.CallReplay.{CallReplay}
use Rattle.s10_ledger.specs.CallReplay.{AreReplayed, HasTakenCalls}
use Rattle.s10_ledger.specs.Replaying.{IsReplayFault, IsReplayOf}
use Rattle.s10_ledger.proofs.ReplayFaults.{no_head_store, no_replay_store}

-- A replay has a book or is refused.
pub not_refused : (made : Result IndexedBook OpenFault) (book : IndexedBook) (fault : OpenFault)
    → made ≡ Ok book → made ≡ Err fault → ⊥
not_refused (Ok other) book fault is refused = absurd cc
not_refused (Err other) book fault is refused = absurd cc

-- A refused replay stays so.
pub still_refused : (t : Terms) (rows : List StoredCall) (row : StoredCall)
    (made : Result IndexedBook OpenFault) (fault : OpenFault) → made ≡ Err fault
    → AreReplayed t rows made → AreReplayed t (rows ++ row ∷ []) made
still_refused t rows row (Ok book) fault is so_far = absurd cc
still_refused t rows row (Err other) fault is so_far = record {
  ok = tt;
  err = (
    so_far.err.0,
    λ tables rest same. so_far.err.1 tables (row ∷ rest)
        (same ∙ append_assoc rows (row ∷ []) rest),
  );
}

-- The book keeps the call of a right row.
pub next_replayed : (t : Terms) (rows : List StoredCall) (row : StoredCall)
    (made : Result IndexedBook OpenFault) (old new : IndexedBook) → made ≡ Ok old
    → AreReplayed t rows made → new.settings ≡ old.settings
    → IsRightRow old.settings old.index.entries.items row
    → new.index.entries.items ≡ old.index.entries.items ++ entry_of row ∷ []
    → AreReplayed t (rows ++ row ∷ []) (Ok new)
next_replayed t rows row made old new is so_far same right more =
    let was = subst (λ m. AreReplayed t rows m) is so_far in
    record {
      ok = (
        same ∙ was.ok.0,
        replayed_more t rows row old.index.entries.items new.index.entries.items was.ok.1
            (subst (λ u. IsRightRow u old.index.entries.items row) was.ok.0 right) more,
      );
      err = tt;
    }

-- A row that cannot be executed again refuses all.
pub next_refused : (t : Terms) (rows : List StoredCall) (row : StoredCall)
    (made : Result IndexedBook OpenFault) (old : IndexedBook) (fault : OpenFault) → made ≡ Ok old
    → AreReplayed t rows made → IsReplayFault fault
    → IsRowFault old.settings old.index.entries.items row fault
    → AreReplayed t (rows ++ row ∷ []) (Err fault)
next_refused t rows row made old fault is so_far named wrong =
    let was = subst (λ m. AreReplayed t rows m) is so_far in
    let here = subst (λ u. IsRowFault u old.index.entries.items row fault) was.ok.0 wrong in
    record {
      ok = tt;
      err = (
        named,
        λ tables rest same head. refused_row t rows rest row old.index.entries.items fault tables
            was.ok.1 here (same ∙ append_assoc rows (row ∷ []) rest) head,
      );
    }

-- What one more row does to a replay, it does to it after any rows.
pub taken_more : (start old new : CallReplay) (rows : List StoredCall) (row : StoredCall)
    → HasTakenCalls start rows old → ((fault : OpenFault) → old.made ≡ Err fault
    → new.made ≡ Err fault)
    → ((t : Terms) → AreReplayed t rows old.made → AreReplayed t (rows ++ row ∷ []) new.made)
    → HasTakenCalls start (rows ++ row ∷ []) new
taken_more start old new rows row was stays more = record {
  refused = λ fault is. stays fault (was.refused fault is);
  replayed = λ book is none. more book.settings (was.replayed book is none);
}

-- A replay of all rows, from the head on.
pub replay_of : (heads : List HeadRow) (calls : List StoredCall) (start now : CallReplay)
    → IfOk start.made (λ book. IsHead heads (pos 1) book.settings
    × (book.index.entries.items ≡ []))
    → ((tables : Tables) → tables.heads ≡ heads → IfErr start.made (IsRefusal tables))
    → IfErr start.made IsHeadFault → HasTakenCalls start calls now
    → IsReplayOf heads calls now.made
replay_of heads calls start now ok err named taken = go start.made refl ok err named
  where
    right : (t : Terms) → IsHead heads (pos 1) t → (made : Result IndexedBook OpenFault)
        → AreReplayed t calls made → IsReplayOf heads calls made
    right t head (Ok book) all = record {
      ok = record {
        head = subst (λ u. IsHead heads (pos 1) u) (sym all.ok.0) head;
        right = subst (λ u. AreRight u calls) (sym all.ok.0) all.ok.1.right;
        kept = all.ok.1.history;
      };
      err = λ tables same rows. tt;
      no_store = no_replay_store (Ok book) tt;
    }
    right t head (Err fault) all = record {
      ok = tt;
      err = λ tables same rows. all.err.1 tables [] (rows ∙ sym (append-nil calls))
          (subst (λ l. IsHead l (pos 1) t) (sym same) head);
      no_store = no_replay_store (Err fault) all.err.0;
    }

    wrong : (fault : OpenFault) → ((tables : Tables) → tables.heads ≡ heads → IsRefusal tables fault)
        → IsHeadFault fault → (made : Result IndexedBook OpenFault) → made ≡ Err fault
        → IsReplayOf heads calls made
    wrong fault refused named (Ok book) is = absurd cc
    wrong fault refused named (Err other) is = record {
      ok = tt;
      err = λ tables same rows. let e : other ≡ fault = cc in rw e (refused tables same);
      no_store = let e : other ≡ fault = cc in rw e (no_head_store (Err fault) named);
    }

    go : (made : Result IndexedBook OpenFault) → start.made ≡ made
        → IfOk made (λ book. IsHead heads (pos 1) book.settings × (book.index.entries.items ≡ []))
        → ((tables : Tables) → tables.heads ≡ heads → IfErr made (IsRefusal tables))
        → IfErr made IsHeadFault → IsReplayOf heads calls now.made
    go (Ok book) is first none named = right book.settings first.0 now.made (taken.replayed book is
        (subst (λ m. AreReplayed book.settings [] m) (sym is) (record {
          ok = (refl, replayed_none book.settings book.index.entries.items first.1);
          err = tt;
        })))
    go (Err fault) is first none named = wrong fault none named now.made (taken.refused fault is)

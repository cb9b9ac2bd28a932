-- What an audit finds, and what it leaves of the files.
use Rattle.std.proofs.Common.{◌≡◌, ◌⊎◌, ◌∙◌, ap, ℕ, List, [], ◌++◌, append-nil, inl, inr, Result, Ok}
use Rattle.std.proofs.Common.{sym, subst, length, Bool, false, IsTrue}
use Rattle.std.proofs.lemmas.Bool.{cases_Bool, both_ways}
use Rattle.std.proofs.Math.Logic.{∥∥₁_map}
use Rattle.sqlite_disk.specs.declared.Disk as disk
use Rattle.sqlite_disk.specs.declared.Files.{Files}
use Rattle.sqlite_wal.specs.Files.{outcomes}
use Rattle.sqlite_wal.specs.Reads.{AreClean}
use Rattle.sqlite_wal.specs.Recovery.{Image}
use Rattle.sqlite_wal.proofs.LogLemmas.{SeenMayStay}
use Rattle.sqlite_trees.specs.Tree.{Trees}
use Rattle.sqlite_trees.specs.View.{doubt}
use Rattle.sqlite_trees.proofs.Doubt.{no_doubt}
use Rattle.sqlite_pool.proofs.StateLemmas.{clean_is, may_leave_is}
use Rattle.sqlite_store.specs.declared.store.FileStore.{FileStore}
use Rattle.sqlite_store.specs.FileStore.{view, recovers, files as store_files}
use Rattle.sqlite_store.specs.Laws.{settled_at, shut_is_broken}
use Rattle.sqlite.specs.Effect.{Database}
use Rattle.sqlite.specs.Files.{file_state, over_files, HoldsDatabase, IsOpened}
use Rattle.sqlite.specs.Held.{AreDatabases}
use Rattle.sqlite.proofs.Theorems.{opens_again}
use Rattle.sqlite_trees.specs.declared.store.Store.{Ghosts}
use Rattle.sqlite.specs.Held.{Held, state}
use Rattle.s10_history.specs.declared.entry.Entry.{Entry}
use Rattle.s10_schema.specs.Schema.{IsClosedSchema}
use Rattle.s10_rows.specs.declared.open_fault.OpenFault.{OpenFault}
use Rattle.s10_ledger.specs.Ledger.{Ledger, IsAnyLedger, IsHonest, history_in, history_of}
use Rattle.s10_ledger.specs.Ledger.{IsCompletedIn, MayComplete}
use Rattle.s10_statements.specs.ConnectionState.{IsClean, IsOpen, WasSound}
use Rattle.s10_host.specs.Audited.{HasFound, KeepsAudited}
use Rattle.s10_host.specs.Files.{Hold, IsStoreOf, Keeps}
use Rattle.s10_host.proofs.Opening.{left_clean}

-- A ledger that was opened and closed is found, with its calls.
pub found_calls : {S : Type 0} (g : Ghosts S) (before closed : Held S) (book : Ledger S) (count : ℕ)
    → closed ≡ book.conn
    → (IsClean g book.conn → IsOpen g book.conn)
    → (IsClean g book.conn → IsOpen g book.conn → IsHonest g book)
    → (IsHonest g book → IsAnyLedger (state g before).now book.terms book.len book.day)
    → (IsHonest g book → IsClosedSchema (state g before).now.schema → (state g book.conn).now
    ≡ (state g before).now) → (IsHonest g book → history_in (state g book.conn).now
    ≡ history_in (state g before).now) → WasSound g before book.conn → book.pending ≡ []
    → (IsHonest g book → count ≡ length (history_of g book))
    → (IsHonest g book → (state g book.conn).committed ≡ (state g book.conn).now)
    → MayComplete g before book.conn → HasFound g before closed (Ok count)
found_calls g before closed book count same opened honest ledger shows history sound none counts
    committed crash =
    let found : HasFound g before book.conn (Ok count) = record {
      sound = sound;
      opened = opened;
      committed = λ clean live. committed (honest clean live);
      finding = λ clean live.
          let kept = honest clean live in
          record {
            terms = book.terms;
            len = book.len;
            day = book.day;
            ledger = ledger kept;
            counted = counts kept
                ∙ ap (λ (p : List Entry). length (history_in (state g book.conn).now ++ p)) none
                ∙ ap (λ (h : List Entry). length h) (append-nil _ ∙ history kept);
          };
      leaves = λ clean live. (shows (honest clean live), history (honest clean live));
      crash = crash;
    } in
    subst (λ c. HasFound g before c (Ok count)) (sym same) found

open_or_broken : {is_open is_broken : Bool} → IsTrue is_open ⊎ (is_open ≡ false)
    → is_broken ≡ false → (is_open ≡ false → IsTrue is_broken) → IsTrue is_open
open_or_broken (inl is) sound shut = is
open_or_broken (inr is) sound shut = absurd (both_ways _ sound (shut is))

module _ {D : Type 0} {g : disk.Ghosts D} where
  -- What is true of all that a crash leaves of a store is true of what its files hold.
  all_hold : (it : FileStore D g) (files : Files D) (Is : Trees → Type 0) → SeenMayStay g
      → (files.log, files.db) ≡ store_files it → AreClean g files.log files.db
      → IsTrue (view it).is_numbered → AreDatabases (recovers it)
      → ((db : Trees) → recovers it db → Is db) → Hold g Is files
  all_hold it files Is stays same clean numbered sound is =
      let each : (image : Image) → outcomes g files.log files.db image
      → ∥ ((db : Trees) × HoldsDatabase image db × Is db) ∥₁ = λ image may.
      ∥∥₁_map (opens_again it numbered sound image (may_leave_is it.pool image
      (subst (λ p. AreClean g p.0 p.1) same clean)
      (subst (λ p. outcomes g p.0 p.1 image) same may)))
      (λ held. let r : (db : Trees) × HoldsDatabase image db × Is db =
      (held.0, held.2, is held.0 held.1) in r) in
      record { now = each _ (stays _, stays _); stopped = each }

  -- What a crash could leave of an open connection is what it showed.
  shown_or_completed : (was : Held (FileStore D g)) (db : Trees) → SeenMayStay g → IsOpened was
      → (file_state was).may_leave db ⊎ IsCompletedIn (file_state was).now db
      → (db ≡ (file_state was).now.trees) ⊎ IsCompletedIn (file_state was).now db
  shown_or_completed was db stays opened (inl may) = inl (settled_at was.store stays db
      opened.0.is_open may ∙ ap (λ (d : Database). d.trees) (sym opened.0.clean))
  shown_or_completed was db stays opened (inr completed) = inr completed

  -- The files of an audited connection hold what it showed before the audit, and what the audit left
  -- of it.
  pub keeps_audited : (was left : Held (FileStore D g)) (found : Result ℕ OpenFault)
      (it : FileStore D g) (files : Files D) → SeenMayStay g → HasFound over_files was left found
      → IsStoreOf over_files left it → (files.log, files.db) ≡ store_files it
      → KeepsAudited was left found files
  keeps_audited was left found it files stays counted of same clean opened =
      let sure = subst (λ p. AreClean g p.0 p.1) same clean in
      let none : doubt (view it).is_clean ≡ 0 =
      no_doubt _ (subst IsTrue (sym (clean_is it.pool)) sure) in
      let sound : IsClean over_files left = left_clean left it files of.quiet.clean same clean in
      record {
        kept = all_hold it files _ stays same clean (of.numbered none) (of.sound none) (λ db may.
            shown_or_completed was db stays opened
            (counted.crash sound db (of.quiet.outcomes db may)));
        finding = λ live. counted.finding sound live;
        same = λ live. (
          (file_state left).now,
          counted.leaves sound live,
          all_hold it files (λ db. db ≡ (file_state left).now.trees) stays same clean
              (of.numbered none) (of.sound none) (λ db may.
              settled_at left.store stays db live (of.quiet.outcomes db may)
              ∙ ap (λ (d : Database). d.trees) (counted.committed sound live)),
        );
      }

  -- A store that is not broken is open.
  still_open : (it : FileStore D g) → (view it).is_broken ≡ false → IsTrue (view it).is_open
  still_open it sound = open_or_broken (cases_Bool (view it).is_open) sound (shut_is_broken it)

  -- The files of a refused connection hold its last commit.
  pub keeps_refused : (c : Held (FileStore D g)) (it : FileStore D g) (files : Files D)
      → SeenMayStay g → IsStoreOf over_files c it → (files.log, files.db) ≡ store_files it
      → (doubt (view it).is_clean ≡ 0 → (view it).is_broken ≡ false) → Keeps c files
  keeps_refused c it files stays of same sound clean =
      let sure = subst (λ p. AreClean g p.0 p.1) same clean in
      let none : doubt (view it).is_clean ≡ 0 =
      no_doubt _ (subst IsTrue (sym (clean_is it.pool)) sure) in
      let was_open : IsOpen over_files c = (of.undone.kept none).was_open (still_open it (sound none)) in
      record {
        was_clean = left_clean c it files of.quiet.clean same clean;
        was_open = was_open;
        held = all_hold it files _ stays same clean (of.numbered none) (of.sound none) (λ db may.
            settled_at c.store stays db was_open (of.quiet.outcomes db may));
      }

-- What a book says of the connection that it was created in or opened from, and of the files that
-- it is closed in.
use Rattle.std.proofs.Common.{◌≡◌, ◌≤◌, ◌∙◌, ap, sym, subst, arith, List, ◌++◌}
use Rattle.std.proofs.Common.{append-nil, Option, Some, None, Result, Ok, Err, length, length-append}
use Rattle.std.proofs.lemmas.List.{nil_from_length}
use Rattle.std.specs.Prelude.{IsTrue, [], IfSome, OnErr}
use Rattle.sqlite_disk.specs.declared.Disk.{Ghosts}
use Rattle.sqlite_disk.specs.declared.Files.{Files}
use Rattle.sqlite_wal.specs.Recovery.{Image}
use Rattle.sqlite_wal.specs.Reads.{AreClean}
use Rattle.sqlite_trees.specs.declared.store.Store as store
use Rattle.sqlite_trees.specs.View.{doubt}
use Rattle.sqlite_trees.proofs.Doubt.{no_doubt}
use Rattle.sqlite_pool.proofs.StateLemmas.{clean_is}
use Rattle.sqlite_store.specs.declared.store.FileStore.{FileStore}
use Rattle.sqlite_store.specs.FileStore.{view, files as store_files}
use Rattle.sqlite.specs.Effect.{Database}
use Rattle.sqlite.specs.Held.{Held, state}
use Rattle.sqlite.specs.Files.{file_state, over_files, AreFoundIn, IsOpened}
use Rattle.sqlite.specs.Start.{FindsIn}
use Rattle.s10_history.specs.declared.entry.Entry.{Entry}
use Rattle.s10_history.specs.Settings.{Terms}
use Rattle.s10_history.specs.History.{day_of}
use Rattle.s10_ledger.specs.Ledger.{IsOverCleanDisk, MayFind, Ledger, IsLedger, IsAnyLedger}
use Rattle.s10_ledger.specs.Ledger.{IsHonest, history_in}
use Rattle.s10_ledger.specs.Ledger.{history_of}
use Rattle.s10_ledger.specs.Ledger.{committed_of}
use Rattle.s10_host.specs.Files.{IsFoundIn, WhereClean, IsEmptyBook, IsFoundBook, Copies}
use Rattle.s10_host.specs.Files.{ClosesInto, LeavesClean}
use Rattle.s10_host.specs.Closing.{IsClosedAs}
use Rattle.s10_book.specs.declared.book_fault.BookFault.{BookFault}
use Rattle.s10_book.specs.Book.{Unchanged}
use Rattle.s10_rows.specs.declared.open_fault.OpenFault.{OpenFault}
use Rattle.s10_schema.specs.Schema.{IsClosedSchema}
use Rattle.s10_statements.specs.ConnectionState.{IsClean, IsOpen, WasSound}
use Rattle.s10_host.specs.LedgerJobs.{IsMadeWith, IsOpenedFrom, IsLeftByRefusal}
use Rattle.s10_host.specs.Files.{AreFilesOf, Keeps, KeepsRefused}

-- A book without pending calls has the history that its tables hold.
pub none_pending : {S : Type 0} (g : store.Ghosts S) (book : Ledger S) (h : List Entry)
    → book.pending ≡ [] → (IsHonest g book → history_in (state g book.conn).now ≡ h)
    → IsHonest g book → history_of g book ≡ h
none_pending g book h none is honest = ap (λ (p : List Entry). history_in (state g book.conn).now
    ++ p) none ∙ append-nil _ ∙ is honest

-- The ledger of a job, as it was opened.
pub opened_for : {S : Type 0} (g : store.Ghosts S) (was : Held S) (book : Ledger S)
    → (IsClean g book.conn → IsOpen g book.conn)
    → (IsClean g book.conn → IsOpen g book.conn → IsHonest g book)
    → (IsHonest g book → IsAnyLedger (state g was).now book.terms book.len book.day)
    → (IsHonest g book → IsClosedSchema (state g was).now.schema → (state g book.conn).now
    ≡ (state g was).now)
    → (IsHonest g book → history_in (state g book.conn).now ≡ history_in (state g was).now)
    → book.pending ≡ [] → WasSound g was book.conn → IsOpenedFrom g was book
opened_for g was book opened honest found same history none sound = record {
  honest = λ clean. honest clean (opened clean);
  found = found;
  same = same;
  history = none_pending g book _ none history;
  sound = sound;
  none_pending = none;
}

-- Three facts of a link that may be there.
pub bound_served : {L : Type 0} (P Q R : L → Type 0) (link : Option L) → IfSome link P
    → IfSome link Q → IfSome link R → IfSome link (λ l. P l × Q l × R l)
bound_served P Q R None p q r = tt
bound_served P Q R (Some l) p q r = (p, q, r)

-- If a list followed by others is the list, there are no others.
nothing_left : {X : Type 0} (xs ys zs : List X) → xs ≡ (xs ++ ys) ++ zs → zs ≡ []
nothing_left xs ys zs is = nil_from_length zs (omega (
  arith,
  ap length is,
  length-append (xs ++ ys) zs,
  length-append xs ys,
))

-- No call is pending after a call that leaves the history unchanged, if none was before.
pub still_none : {S : Type 0} (g : store.Ghosts S) (opened after : Ledger S) → opened.pending ≡ []
    → Unchanged (λ (b : Ledger S). history_of g b) (λ (b : Ledger S). committed_of g b)
    (λ (b : Ledger S). b.terms) (IsHonest g) (IsOverCleanDisk g) (MayFind g) opened after
    → IsHonest g after → after.pending ≡ []
still_none g opened after none unchanged honest =
    let grew = unchanged.stays_committed honest in
    nothing_left (committed_of g opened) grew.0 after.pending
    (sym (append-nil (committed_of g opened))
    ∙ ap (λ (p : List Entry). committed_of g opened ++ p) (sym none)
    ∙ sym (unchanged.same_history honest)
    ∙ ap (λ (l : List Entry). l ++ after.pending) grew.1)

-- A closed ledger has all its calls, unless some could not be committed.
pub calls_all : {S : Type 0} (g : store.Ghosts S) (book : Ledger S) (closed : Held S)
    (kept : Result (Unit {0}) BookFault) → IsClosedAs g book closed kept → OnErr kept ⊥
    → IsClean g closed → IsOpen g closed → history_in (state g closed).now ≡ history_of g book
calls_all g book closed (Ok _) put never clean opened = put.whole clean opened
calls_all g book closed (Err fault) put never clean opened = absurd never

module _ {D : Type 0} {g : Ghosts D} where
  pub empty_book : (held : Image) (terms : Terms) (was : Held (FileStore D g))
      (book : Ledger (FileStore D g)) → IsFoundIn held was → IsMadeWith over_files terms was book
      → WhereClean (IsEmptyBook held) book
  empty_book held terms was book found made clean =
      let sound = made.honest clean in
      record {
        honest = sound;
        empty = made.empty sound;
        was = was;
        opened = found (made.sound clean).0;
        fresh = made.fresh;
      }

  -- The files of a refused ledger hold what they held.
  pub kept_refused : (Refuses : Database → Type 0) (was left : Held (FileStore D g))
      (files : Files D)
      → (IsClean over_files left → IsOpen over_files left → Refuses (file_state was).now)
      → IsLeftByRefusal over_files was left
      → (IsOpen over_files left → (file_state left).committed ≡ (file_state left).now)
      → AreFilesOf left files → Keeps left files → KeepsRefused was Refuses files
  kept_refused Refuses was left files refusal refused committed of keeps clean =
      let kept = keeps clean in
      record {
        sound = (refused.sound kept.was_clean).0;
        refused = refusal kept.was_clean kept.was_open;
        left = left;
        same = refused.kept kept.was_clean kept.was_open;
        quiescent = committed kept.was_open;
        of = of;
        kept = kept;
      }

  -- A connection that was found in files shows what these held.
  pub shown : (held : Image) (was : Held (FileStore D g)) → IsFoundIn held was
      → IsClean over_files was → IsOpened was × FindsIn held (file_state was)
  shown held was found clean = let (first, finds, whole) = found clean in (first, finds)

  pub found_book : (held : Image) (was : Held (FileStore D g)) (book : Ledger (FileStore D g))
      → (IsClean over_files was → IsOpened was × FindsIn held (file_state was))
      → IsOpenedFrom over_files was book → WhereClean (IsFoundBook held) book
  found_book held was book found opening clean =
      let sound = opening.honest clean in
      let (first, finds) = found (opening.sound clean).0 in
      let trees = ap (λ (d : Database). d.trees) first.0.clean in
      record {
        honest = sound;
        was = was;
        opened = (first, finds);
        holds = λ db holds. trees ∙ finds.holds db holds;
        reads = subst (AreFoundIn held) (sym trees) finds.reads;
        found = opening.found sound;
        same = opening.same sound;
        history = opening.history sound;
      }

  -- If the files hold the last commit of a connection, it showed the ledger of these calls.
  pub closed_into : (book : Ledger (FileStore D g)) (closed : Held (FileStore D g))
      (kept : Result (Unit {0}) BookFault) (calls : List Entry) (files : Files D)
      → IsClosedAs over_files book closed kept
      → (IsClean over_files closed → IsOpen over_files closed
      → history_in (file_state closed).now ≡ calls)
      → Copies closed files → ClosesInto book calls files
  closed_into book closed kept calls files put is copies clean =
      let copied = copies clean in
      let same = is copied.was_clean copied.was_open in
      record {
        honest = put.honest copied.was_clean copied.was_open;
        closed = closed;
        quiescent = put.committed copied.was_clean copied.was_open;
        ledger = subst (λ (l : List Entry). IsLedger (file_state closed).now book.terms (length l)
            (day_of l)) same (put.ledger copied.was_clean copied.was_open);
        holds = same;
        copied = copied;
      }

  -- The files are as clean as the store that returned them, and the store as the connection before.
  pub left_clean : (c : Held (FileStore D g)) (store : FileStore D g) (files : Files D)
      → doubt (view c.store).is_clean ≤ doubt (view store).is_clean → (files.log, files.db)
      ≡ store_files store → LeavesClean c files
  left_clean c store files falls same clean =
      let sure = subst (λ p. AreClean g p.0 p.1) same clean in
      let none : doubt (view store).is_clean ≡ 0 =
      no_doubt _ (subst IsTrue (sym (clean_is store.pool)) sure) in
      omega (arith, falls, none)

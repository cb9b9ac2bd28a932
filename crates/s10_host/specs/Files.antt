-- Defines ledgers in files, as they are created, opened and closed.
use denote.RattleType.{RattleType}
use Rattle.std.specs.Prelude.{◌≡◌, ◌⊎◌, ◌<◌, false, List, [], length, IsTrue}
use Rattle.sqlite_disk.specs.declared.Disk.{Ghosts}
use Rattle.sqlite_disk.specs.declared.Files.{Files}
use Rattle.sqlite_disk.specs.declared.modelled.Modelled.{Modelled}
use Rattle.sqlite_disk.specs.declared.start.Start as start
use Rattle.sqlite_disk.specs.contracts.modelled.ModelledDisk.TheImpl as disk
use Rattle.sqlite_std_file.specs.declared.host.Host.{Host}
use Rattle.sqlite_std_file.specs.contracts.host.Host as host
use Rattle.sqlite_std_file.specs.contracts.host.HostCalls.TheImpl as calls
use Rattle.sqlite_wal.specs.Recovery.{Image}
use Rattle.sqlite_wal.specs.Files.{image_at, outcomes}
use Rattle.sqlite_wal.specs.Reads.{AreClean}
use Rattle.sqlite_trees.specs.Tree.{Trees}
use Rattle.sqlite_trees.specs.declared.store.Store as store
use Rattle.sqlite_store.specs.declared.store.FileStore.{FileStore}
use Rattle.sqlite_store.specs.FileStore.{view}
use Rattle.sqlite_store.specs.FileStore.{files as store_files}
use Rattle.sqlite_trees.specs.View.{doubt, IsQuiet, IsRolledBack}
use Rattle.sqlite.specs.Effect.{Database}
use Rattle.sqlite.specs.Held.{Held, AreDatabases}
use Rattle.sqlite.specs.Files.{file_state, over_files, HoldsDatabase, AreFoundIn, IsBlankAs}
use Rattle.sqlite.specs.Files.{IsOpened, image_of}
use Rattle.sqlite.specs.Start.{FindsIn}
use Rattle.sqlite.specs.Closing.{IsCopied}
use Rattle.s10_schema.specs.Schema.{IsClosedSchema}
use Rattle.s10_history.specs.declared.entry.Entry.{Entry}
use Rattle.s10_history.specs.History.{day_of}
use Rattle.s10_ledger.specs.Ledger.{Ledger, IsLedger, IsAnyLedger, IsHonest, history_in}
use Rattle.s10_ledger.specs.Ledger.{history_of}
use Rattle.s10_rows.specs.declared.open_fault.OpenFault.{OpenFault}
use Rattle.s10_rows.specs.declared.open_fault.OpenFault.TheVariants.{NotALedger, NotEmpty, Memory}
use Rattle.s10_rows.specs.declared.open_fault.OpenFault.TheVariants.{Store}
use Rattle.s10_ledger.specs.Refusals.{IsOpeningRefusal}
use Rattle.s10_statements.specs.Creating.{HasOneOfTheNames, IsCreateRefusal}
use Rattle.s10_statements.specs.ConnectionState.{IsClean, IsOpen}

-- The store is that of the connection, in which what was not committed was undone and nothing else
-- was changed. If it is clean, what a crash leaves of it is a database.
pub record IsStoreOf {S : Type 0} (g : store.Ghosts S) (c : Held S) (left : S) : Type 0 where
  pub numbered : doubt (g.view left).is_clean ≡ 0 → IsTrue (g.view left).is_numbered
  pub sound : doubt (g.view left).is_clean ≡ 0 → AreDatabases (g.recovers left)
  pub undone : IsRolledBack (g.view c.store) (g.view left)
  pub quiet : IsQuiet g.view g.faults g.recovers g.is_shielded c.store left

-- The files hold a database of which the predicate holds, as they read now and after a crash.
pub record Hold {D : Type 0} (g : Ghosts D) (Is : Trees → Type 0) (files : Files D) : Type 0 where
  pub now : ∥ ((db : Trees) × HoldsDatabase (image_of g files) db × Is db) ∥₁
  pub stopped : (image : Image) → outcomes g files.log files.db image
      → ∥ ((db : Trees) × HoldsDatabase image db × Is db) ∥₁

-- The database file is empty and its log is not.
abbrev pub IsEmptied : Image → Type 0
IsEmptied held = (length held.db ≡ 0) × (0 < length held.log)

module _ {D : Type 0} {g : Ghosts D} where
  -- The connection is open and shows what the files held. The database file was not emptied beside
  -- its log.
  abbrev pub IsReadFrom : Image → Held (FileStore D g) → Type 0
  IsReadFrom held c = IsOpened c × FindsIn held (file_state c) × (¬ IsEmptied held)

  -- The same, if the disk is clean.
  abbrev pub IsFoundIn : Image → Held (FileStore D g) → Type 0
  IsFoundIn held c = IsClean over_files c → IsReadFrom held c

  -- New files have no checksums: a write by a program that does not know of them would make them
  -- wrong.
  abbrev pub IsPlain : Image → Held (FileStore D g) → Type 0
  IsPlain held c = IsClean over_files c → IsBlankAs false held → (view c.store).has_sums ≡ false

  -- The predicate holds of the book if its disk is clean.
  abbrev pub WhereClean : (Ledger (FileStore D g) → Type 0) → Ledger (FileStore D g) → Type 0
  WhereClean Is book = IsClean over_files book.conn → Is book

  -- An honest ledger without calls, in a database that had none of its tables when it was found.
  pub record IsEmptyBook (held : Image) (book : Ledger (FileStore D g)) : Type 0 where
    pub honest : IsHonest over_files book
    pub empty : history_of over_files book ≡ []
    -- What the connection showed when the files were opened.
    pub was : Held (FileStore D g)
    pub opened : IsReadFrom held was
    pub fresh : ¬ HasOneOfTheNames (file_state was).now.schema

  -- An honest ledger over the database that the files held, which was a ledger when it was found.
  -- It shows the same database, or one of an earlier build completed, with the same history.
  pub record IsFoundBook (held : Image) (book : Ledger (FileStore D g)) : Type 0 where
    pub honest : IsHonest over_files book
    -- What the connection showed when the files were opened.
    pub was : Held (FileStore D g)
    pub opened : IsOpened was × FindsIn held (file_state was)
    pub holds : (db : Trees) → HoldsDatabase held db → (file_state was).now.trees ≡ db
    pub reads : AreFoundIn held (file_state was).now.trees
    pub found : IsAnyLedger (file_state was).now book.terms book.len book.day
    pub same : IsClosedSchema (file_state was).now.schema → (file_state book.conn).now
        ≡ (file_state was).now
    pub history : history_of over_files book ≡ history_in (file_state was).now

  -- The last commit is in the database file, if both files kept what was written.
  abbrev pub Copies : Held (FileStore D g) → Files D → Type 0
  Copies c files = AreClean g files.log files.db → IsCopied c files

  -- The ledger was honest to the end, and the files hold the ledger of exactly these calls, also
  -- after a crash.
  pub record IsClosedInto (book : Ledger (FileStore D g)) (calls : List Entry) (files : Files D) :
      Type 0 where
    pub honest : IsHonest over_files book
    pub closed : Held (FileStore D g)
    pub quiescent : (file_state closed).committed ≡ (file_state closed).now
    pub ledger : IsLedger (file_state closed).now book.terms (length calls) (day_of calls)
    pub holds : history_in (file_state closed).now ≡ calls
    pub copied : IsCopied closed files

  -- The ledger was closed in these files, if both kept what was written.
  abbrev pub ClosesInto : Ledger (FileStore D g) → List Entry → Files D → Type 0
  ClosesInto book calls files = AreClean g files.log files.db → IsClosedInto book calls files

  -- Both files kept what was written only if the connection's disk is clean.
  abbrev pub LeavesClean : Held (FileStore D g) → Files D → Type 0
  LeavesClean c files = AreClean g files.log files.db → IsClean over_files c

  -- The files are those of the connection's store.
  pub record AreFilesOf (c : Held (FileStore D g)) (files : Files D) : Type 0 where
    pub left : FileStore D g
    pub same : (files.log, files.db) ≡ store_files left
    pub of : IsStoreOf over_files c left

  -- The files hold the last commit of the connection, as they read now and after a crash. It may be
  -- in the log alone.
  pub record IsKeptIn (c : Held (FileStore D g)) (files : Files D) : Type 0 where
    pub was_clean : IsClean over_files c
    pub was_open : IsOpen over_files c
    pub held : Hold g (λ db. db ≡ (file_state c).committed.trees) files

  -- The same, if both files kept what was written.
  abbrev pub Keeps : Held (FileStore D g) → Files D → Type 0
  Keeps c files = AreClean g files.log files.db → IsKeptIn c files

  -- The database that a connection showed is refused for this reason, and the files hold it, also
  -- after a crash. They were closed as they were, without a write.
  pub record HoldsRefused (was : Held (FileStore D g)) (Refuses : Database → Type 0)
      (files : Files D) : Type 0 where
    pub sound : IsClean over_files was
    pub refused : Refuses (file_state was).now
    pub left : Held (FileStore D g)
    pub same : (file_state left).now ≡ (file_state was).now
    pub quiescent : (file_state left).committed ≡ (file_state left).now
    pub of : AreFilesOf left files
    pub kept : IsKeptIn left files

  -- The files of a refused database hold it, if both kept what was written.
  abbrev pub KeepsRefused : Held (FileStore D g) → (Database → Type 0) → Files D → Type 0
  KeepsRefused was Refuses files = AreClean g files.log files.db → HoldsRefused was Refuses files

-- A file of the operating system.
abbrev pub SystemFile : (S : RattleType) → start.Ghosts S.Denot → Type 0
SystemFile S first = Modelled Host S.Denot calls.ghosts first

-- What the kit says of such files.
abbrev pub system_files : (S : RattleType) (first : start.Ghosts S.Denot)
    → Ghosts (SystemFile S first)
system_files S first = disk.ghosts host.the_row S calls.ghosts disk.no_dict first disk.no_dict
    disk.no_dict

-- A connection over two files.
abbrev pub FileConnection : {D : Type 0} → Ghosts D → Type 0
FileConnection {D} g = Held (FileStore D g)

-- A ledger over the tables of such a connection.
abbrev pub FileLedger : {D : Type 0} → Ghosts D → Type 0
FileLedger {D} g = Ledger (FileStore D g)

-- The log and the database file, closed.
abbrev pub ClosedFiles : (S : RattleType) → start.Ghosts S.Denot → Type 0
ClosedFiles S first = Files (SystemFile S first)

-- The file could not be opened as a database.
abbrev pub IsFileFault : OpenFault → Type 0
IsFileFault fault = (fault ≡ Memory) ⊎ (fault ≡ Store)

-- The file is not there or is empty, or another fault occurred.
abbrev pub IsAbsenceOr : (OpenFault → Type 0) → OpenFault → Type 0
IsAbsenceOr IsFault fault = (fault ≡ NotALedger) ⊎ IsFault fault

-- `held` is what the two files held at first.
module _ {D : Type 0} (g : Ghosts D) (held : Image) where
  -- The database that was found in the files is refused for a new ledger.
  pub record IsRefusedPlace (fault : OpenFault) : Type 0 where
    pub was : FileConnection g
    pub found : IsFoundIn held was
    pub refusal : IsCreateRefusal (file_state was).now.schema fault

  -- The database file was found empty and its log not, if both are clean.
  pub record IsFoundEmptied : Type 0 where
    pub files : Files D
    pub emptied : AreClean g files.log files.db → IsEmptied held

  -- The files could not be opened as a database, or they were emptied, which is this fault.
  abbrev pub IsUnopenedAs : OpenFault → OpenFault → Type 0
  IsUnopenedAs of_emptied fault = IsFileFault fault ⊎ ((fault ≡ of_emptied) × IsFoundEmptied)

  -- Why no ledger was created: the file could not be opened, or its database is refused.
  abbrev pub IsNotMade : OpenFault → Type 0
  IsNotMade fault = IsUnopenedAs NotEmpty fault ⊎ IsRefusedPlace fault

  -- The database that was found in the files is refused as a ledger, if the disk is clean and the
  -- connection open.
  pub record IsRefusedLedger (fault : OpenFault) : Type 0 where
    pub was : FileConnection g
    pub found : IsFoundIn held was
    pub left : FileConnection g
    pub refusal : IsClean over_files left → IsOpen over_files left
        → IsOpeningRefusal (file_state was).now fault

  -- Why no ledger was opened: the file could not be opened, or its database is refused.
  abbrev pub IsNotOpened : OpenFault → Type 0
  IsNotOpened fault = IsAbsenceOr (λ f. IsFileFault f ⊎ IsRefusedLedger f) fault

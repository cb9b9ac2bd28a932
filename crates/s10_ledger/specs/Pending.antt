-- Defines what is always true of a book and its pending calls.
use Rattle.std.specs.Prelude.{◌≡◌, ◌≤◌, ◌<◌, ◌-◌, Bool, IsTrue, List, [], ◌∷◌, ◌++◌, length, map}
use Rattle.std.specs.Prelude.{take, All, ⊤, Result, Err, OnOk}
use Rattle.sqlite_trees.specs.declared.store.Store.{Ghosts}
use Rattle.sqlite.specs.Effect.{Database}
use Rattle.sqlite.specs.State.{HasCleanDisk}
use Rattle.sqlite.specs.Held.{Held, state}
use Rattle.s10_history.specs.declared.entry.Entry.{Entry}
use Rattle.s10_history.specs.declared.settings.TheConstants.{MAX_LIMIT}
use Rattle.s10_history.specs.Settings.{Terms}
use Rattle.s10_history.specs.History.{day_of}
use Rattle.s10_book.specs.declared.book_fault.BookFault.{BookFault}
use Rattle.s10_book.specs.declared.book_fault.BookFault.TheVariants.{Store}
use Rattle.s10_book.specs.Rules.{IsLegal, MayFollow}
use Rattle.s10_index.specs.declared.call_index.CallIndex.{CallIndex}
use Rattle.s10_index.specs.CallIndex.{Indexes}
use Rattle.s10_rows.specs.declared.call_write.CallWrite.{CallWrite}
use Rattle.s10_rows.specs.CallWrite.{AreWritten, Writes}
use Rattle.s10_rows.specs.Selected.{IsCall}
use Rattle.s10_rows.specs.Tables.{Tables, tables_of}
use Rattle.s10_statements.specs.Shown.{HasTables}
use Rattle.s10_statements.specs.ConnectionState.{IsQuiescent, IsOpenIf}
use Rattle.s10_ledger.specs.Ledger.{Ledger, IsLedger, IsHonest, IsOverCleanDisk, HasFailed}
use Rattle.s10_ledger.specs.Ledger.{history_in}

-- The calls of these writes.
abbrev pub calls_of : List CallWrite → List Entry
calls_of ws = map (λ w. w.entry) ws

-- The calls before the pending ones.
abbrev pub committed_among : List CallWrite → List Entry → List Entry
committed_among ws es = take (length es - length ws) es

-- A write is that of a call after those of the index if it makes the tables of the longer history
-- out of those of their history.
abbrev pub IsWriteOf : CallIndex → Entry → CallWrite → Type 0
IsWriteOf index e w = (h : List Entry) (t : Terms) → IsLegal h t → MayFollow h t e → All IsCall h
    → Indexes index h → IsCall e × Writes w (tables_of h t) (tables_of (h ++ e ∷ []) t)

-- Each of the writes makes the tables of the history with its call out of those of the history
-- before it.
unfoldable pub AreWrittenAfter : List Entry → Terms → List CallWrite → Type 0
AreWrittenAfter h t [] = ⊤
AreWrittenAfter h t (w ∷ ws) = Writes w (tables_of h t) (tables_of (h ++ w.entry ∷ []) t)
    × AreWrittenAfter (h ++ w.entry ∷ []) t ws

-- The writes of the pending calls make the tables of the whole history out of those of the
-- committed one, one call after another.
pub record HoldsPending (db : Database) (t : Terms) (ws : List CallWrite) : Type 0 where
  pub calls : All IsCall (calls_of ws)
  pub written : AreWrittenAfter (history_in db) t ws

-- The new database has the tables of the old one with the pending calls and then this call written.
abbrev pub IsWrittenWith : Database → Database → CallIndex → List CallWrite → Entry → Type 0
IsWrittenWith old new index ws e = (w : CallWrite) × (w.entry ≡ e) × IsWriteOf index e w
    × ((before after : Tables) → AreWritten (ws ++ w ∷ []) before after → HasTables old before
    → HasTables new after)

-- The index holds the committed calls followed by the pending ones, and these are a legal history.
pub record IsFollowed (db : Database) (t : Terms) (index : CallIndex) (ws : List CallWrite) :
    Type 0 where
  pub indexed : Indexes index (history_in db ++ calls_of ws)
  pub legal : IsLegal (history_in db ++ calls_of ws) t
  pub held : ∥ HoldsPending db t ws ∥₁

-- What is always true of a book.
pub record IsSound {S : Type 0} (g : Ghosts S) (conn : Held S) (t : Terms) (index : CallIndex)
    (ws : List CallWrite) (answered : Bool) : Type 0 where
  pub few : length index.entries.items ≤ MAX_LIMIT
  pub few_pending : length ws ≤ 64
  pub settled : IsQuiescent g conn
  pub opened : IsOpenIf g conn answered
  pub ledger : HasCleanDisk (state g conn) → IsTrue (state g conn).is_open
      → IsLedger (state g conn).now t (length (committed_among ws index.entries.items))
      (day_of (committed_among ws index.entries.items))
  pub followed : HasCleanDisk (state g conn) → IsTrue (state g conn).is_open
      → IsFollowed (state g conn).now t index ws

-- What an append does while fewer than 64 calls are pending: if it succeeds, the database
-- is unchanged and the call is the last pending one. An honest book over a clean disk returns `Store`
-- only if the disk failed or refused.
pub record Appends {S : Type 0} (g : Ghosts S) (old new : Ledger S) (e : Entry)
    (result : Result ⊤ BookFault) : Type 0 where
  pub uncommitted : IsHonest g new → length old.pending < 64
      → OnOk result (((state g new.conn).now ≡ (state g old.conn).now)
      × (new.pending ≡ old.pending ++ e ∷ []))
  pub store : IsHonest g old → IsOverCleanDisk g new → length old.pending < 64
      → result ≡ Err Store → HasFailed g old.conn new.conn

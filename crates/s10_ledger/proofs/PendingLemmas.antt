-- How the pending calls are kept and committed.
use Rattle.std.proofs.Common.{◌≡◌, ℕ, ◌-◌, ◌<◌, ◌≤◌, ◌==◌, length, Bool, true, false, if◌then◌else◌}
use Rattle.std.proofs.Common.{IsTrue}
use Rattle.std.proofs.Common.{List, [], ◌∷◌, ◌++◌, All, Result, Ok, Err, OnOk, OnErr, sym, ap}
use Rattle.std.proofs.Common.{subst, refl, ◌∙◌, arith, length-append}
use Rattle.std.specs.Coded.{coded_list}
use Rattle.std.specs.Result.{is_ok, is_err}
use Rattle.std.proofs.lemmas.Bool.{eqb-true, true≢false}
use Rattle.std.proofs.lemmas.List.{append-nil, append_assoc, map-append, take-append-le}
use Rattle.std.proofs.lemmas.List.{nil_from_length}
use Rattle.std.proofs.Math.Seq.{take-length}
use Rattle.std.proofs.lemmas.List.Elements.{All-nil, All-append, All-push}
use Rattle.std.proofs.Math.Logic.{∥∥₁_elim, ∥∥₁_map, ∥∥₁_prop}
use base.Stored.{Coded-set}
use Rattle.sqlite_trees.specs.Tree.{Trees}
use Rattle.sqlite_trees.specs.declared.store.Store.{Ghosts}
use Rattle.sqlite.specs.Effect.{Database}
use Rattle.sqlite.specs.State.{HasCleanDisk}
use Rattle.sqlite.specs.Held.{Held, state}
use Rattle.s10_history.specs.declared.entry.Entry.{Entry}
use Rattle.s10_history.specs.contracts.entry.Entry as entry
use Rattle.s10_history.specs.declared.settings.TheConstants.{MAX_LIMIT}
use Rattle.s10_history.specs.Settings.{Terms}
use Rattle.s10_history.specs.History.{day_of}
use Rattle.s10_book.specs.Rules.{IsLegal, MayFollow}
use Rattle.s10_book.specs.declared.faults.Faults.{Faults}
use Rattle.s10_book.specs.BookFault.{no_faults}
use Rattle.s10_book.specs.Book.{Grows}
use Rattle.s10_book.proofs.Calls.{grows_same}
use Rattle.s10_book.proofs.Push.{IsLegal-push}
use Rattle.s10_index.specs.declared.call_index.CallIndex.{CallIndex}
use Rattle.s10_index.specs.CallIndex.{Indexes}
use Rattle.s10_rows.specs.declared.call_write.CallWrite.{CallWrite}
use Rattle.s10_rows.specs.CallWrite.{AreWritten, Writes}
use Rattle.s10_rows.specs.Selected.{IsCall}
use Rattle.s10_rows.specs.Tables.{Tables, tables_of}
use Rattle.s10_statements.specs.ConnectionState.{IsQuiescent, IsOpenIf, StaysUnclean}
use Rattle.s10_statements.specs.Shown.{HasTables, StandsFor}
use Rattle.s10_statements.specs.Statements.{LeavesTables}
use Rattle.s10_ledger.specs.Ledger.{Ledger, IsLedger, Holds, IsHonest, HoldsCalls, history_in}
use Rattle.s10_ledger.specs.Ledger.{history_of, committed_of}
use Rattle.s10_ledger.specs.Found.{ledger_holds}
use Rattle.s10_ledger.specs.Pending.{calls_of, committed_among, HoldsPending, IsFollowed, IsSound}
use Rattle.s10_ledger.specs.Pending.{IsWriteOf, IsWrittenWith, AreWrittenAfter}
use Rattle.s10_ledger.proofs.HistoryLemmas.{history_is}
use Rattle.s10_ledger.proofs.BookLemmas.{same_tables}

-- If nothing is pending, all calls are committed.
pub all_committed : (es : List Entry) → committed_among [] es ≡ es
all_committed es = let n : length es - 0 ≡ length es = omega arith in rw n (take-length es)

-- One more pending call leaves the committed ones.
pub committed_push : (ws : List CallWrite) (w : CallWrite) (es : List Entry) (e : Entry)
    → committed_among (ws ++ w ∷ []) (es ++ e ∷ []) ≡ committed_among ws es
committed_push ws w es e =
    let n : length (es ++ e ∷ []) - length (ws ++ w ∷ []) ≡ length es - length ws =
    omega (arith, length-append es (e ∷ []), length-append ws (w ∷ [])) in
    rw n (take-append-le (length es - length ws) es (e ∷ []) (omega arith))

-- A write makes the tables of the history with its call.
abbrev IsWrittenAfter : Terms → CallWrite → List Entry → Type 0
IsWrittenAfter t w h = Writes w (tables_of h t) (tables_of (h ++ w.entry ∷ []) t)

-- One more call after those that are written.
pub written_push : (h : List Entry) (t : Terms) (ws : List CallWrite) (w : CallWrite)
    → AreWrittenAfter h t ws → IsWrittenAfter t w (h ++ calls_of ws)
    → AreWrittenAfter h t (ws ++ w ∷ [])
unfolding AreWrittenAfter
written_push h t [] w are it = (subst (IsWrittenAfter t w) (append-nil h) it, tt)
written_push h t (v ∷ vs) w are it = (
  are.0,
  written_push (h ++ v.entry ∷ []) t vs w are.1
      (subst (IsWrittenAfter t w) (sym (append_assoc h (v.entry ∷ []) (calls_of vs))) it),
)

none_written : (h : List Entry) (t : Terms) → AreWrittenAfter h t []
unfolding AreWrittenAfter
none_written h t = tt

-- The writes make the tables of the whole history.
all_written : (h : List Entry) (t : Terms) (ws : List CallWrite) → AreWrittenAfter h t ws
    → AreWritten ws (tables_of h t) (tables_of (h ++ calls_of ws) t)
unfolding AreWritten AreWrittenAfter
all_written h t [] are = ap (λ (l : List Entry). tables_of l t) (append-nil h)
all_written h t (w ∷ ws) are = (
  tables_of (h ++ w.entry ∷ []) t,
  are.0,
  subst (λ (l : List Entry). AreWritten ws (tables_of (h ++ w.entry ∷ []) t) (tables_of l t))
      (append_assoc h (w.entry ∷ []) (calls_of ws))
      (all_written (h ++ w.entry ∷ []) t ws are.1),
)

-- A history with nothing pending after it.
pub nothing_pending : (db : Database) (t : Terms) (index : CallIndex)
    → Indexes index (history_in db) → IsLegal (history_in db) t → IsFollowed db t index []
nothing_pending db t index indexed legal = record {
  indexed = subst (Indexes index) (sym (append-nil (history_in db))) indexed;
  legal = subst (λ (h : List Entry). IsLegal h t) (sym (append-nil (history_in db))) legal;
  held = ∣ record {
    calls = All-nil IsCall;
    written = none_written (history_in db) t;
  } ∣₁;
}

-- Once the pending calls are written, the tables stand for the history with them.
module _ (old new : Database) (t : Terms) (len day : ℕ) (ws : List CallWrite)
    (was : IsLedger old t len day) (legal : IsLegal (history_in old ++ calls_of ws) t)
    (held : ∥ HoldsPending old t ws ∥₁)
    (made : (before after : Tables) → AreWritten ws before after → HasTables old before
    → HasTables new after) where
  all_calls : Holds HasTables old t len day → HoldsPending old t ws
      → All IsCall (history_in old ++ calls_of ws)
  all_calls h p = All-append IsCall (history_in old) (calls_of ws) h.calls p.calls

  stands : Holds HasTables old t len day → HoldsPending old t ws
      → StandsFor new (history_in old ++ calls_of ws) t
  stands h p = made (tables_of (history_in old) t) (tables_of (history_in old ++ calls_of ws) t)
      (all_written (history_in old) t ws p.written) h.tables

  pub written_history : history_in new ≡ history_in old ++ calls_of ws
  written_history = ∥∥₁_elim was.held (Coded-set (coded_list entry.the_row.coded) _ _)
      (λ h. ∥∥₁_elim held (Coded-set (coded_list entry.the_row.coded) _ _)
      (λ p. history_is new (history_in old ++ calls_of ws) t (all_calls h p) (stands h p)))

  pub written_ledger : (len' day' : ℕ) → len' ≡ length (history_in old ++ calls_of ws)
      → day' ≡ day_of (history_in old ++ calls_of ws) → IsLedger new t len' day'
  written_ledger len' day' p q = record {
    legal = rw written_history legal;
    held = ∥∥₁_elim was.held ∥∥₁_prop (λ h. ∥∥₁_map held (λ r. record {
      tables = rw written_history (stands h r);
      calls = rw written_history (all_calls h r);
      len_is = p ∙ ap length (sym written_history);
      day_is = q ∙ ap day_of (sym written_history);
    }));
  }

  pub written_followed : (index : CallIndex) → Indexes index (history_in old ++ calls_of ws)
      → IsFollowed new t index []
  written_followed index indexed = nothing_pending new t index
      (subst (Indexes index) (sym written_history) indexed)
      (subst (λ (h : List Entry). IsLegal h t) (sym written_history) legal)

-- What is always true of a book shows that it is honest.
abbrev pub ledger_of : {S : Type 0} → Held S → Terms → CallIndex → List CallWrite → Faults
    → Ledger S
ledger_of conn t index ws faults = record {
  conn = conn;
  terms = t;
  len = length (committed_among ws index.entries.items);
  day = day_of (committed_among ws index.entries.items);
  faults = faults;
  pending = calls_of ws;
}

pub sound_is_honest : {S : Type 0} (g : Ghosts S) (conn : Held S) (t : Terms) (index : CallIndex)
    (ws : List CallWrite) (answered : Bool) (faults : Faults) → IsSound g conn t index ws answered
    → HasCleanDisk (state g conn) → IsTrue (state g conn).is_open
    → IsHonest g (ledger_of conn t index ws faults)
sound_is_honest g conn t index ws answered faults sound clean opened =
    record {
      clean = clean;
      is_open = opened;
      committed = sound.settled.committed clean opened;
      ledger = sound.ledger clean opened;
      legal = (sound.followed clean opened).legal;
    }

pub honest_if_ok : {S T E : Type 0} (g : Ghosts S) (conn : Held S) (t : Terms) (index : CallIndex)
    (ws : List CallWrite) (answered : Bool) (faults : Faults) (r : Result T E)
    → IsSound g conn t index ws answered
    → (HasCleanDisk (state g conn) → OnOk r (IsTrue (state g conn).is_open))
    → HasCleanDisk (state g conn) → OnOk r (IsHonest g (ledger_of conn t index ws faults))
honest_if_ok g conn t index ws answered faults (Ok x) sound opened clean =
    sound_is_honest g conn t index ws answered faults sound clean (opened clean)
honest_if_ok g conn t index ws answered faults (Err x) sound opened clean = tt

-- What is always true is true of a new book.
pub sound_at_first : {S : Type 0} (g : Ghosts S) (conn : Held S) (t : Terms) (index : CallIndex)
    (ws : List CallWrite) (answered : Bool) → ws ≡ [] → length index.entries.items ≤ MAX_LIMIT
    → IsQuiescent g conn
    → (HasCleanDisk (state g conn) → IsTrue (state g conn).is_open)
    → (HasCleanDisk (state g conn) → IsTrue (state g conn).is_open
    → IsLedger (state g conn).now t (length index.entries.items) (day_of index.entries.items))
    → (HasCleanDisk (state g conn) → IsTrue (state g conn).is_open
    → Indexes index (history_in (state g conn).now)) → IsSound g conn t index ws answered
sound_at_first g conn t index ws answered none few settled opened ledger indexed =
    subst (λ (v : List CallWrite). IsSound g conn t index v answered) (sym none) (record {
      few = few;
      few_pending = omega arith;
      settled = settled;
      opened = λ so clean. opened clean;
      ledger = λ clean is_open. subst (λ (es : List Entry). IsLedger (state g conn).now t
          (length es)
          (day_of es)) (sym (all_committed index.entries.items)) (ledger clean is_open);
      followed = λ clean is_open. nothing_pending (state g conn).now t index (indexed clean is_open)
          (ledger clean is_open).legal;
    })

-- The value of a new book.
pub ledger_at_first : {S : Type 0} (conn : Held S) (t : Terms) (index : CallIndex)
    (ws : List CallWrite) (faults : Faults) → ws ≡ [] → faults.memory ≡ 0 → faults.store ≡ 0
    → ledger_of conn t index ws faults ≡ record {
      conn = conn;
      terms = t;
      len = length index.entries.items;
      day = day_of index.entries.items;
      faults = no_faults;
      pending = [];
    }
ledger_at_first conn t index ws faults nothing memory store =
    let counted : (m s : ℕ) → m ≡ 0 → s ≡ 0
    → ledger_of conn t index [] (record { memory = m; store = s }) ≡ ledger_of conn t index []
    no_faults = λ m s p q. rw (p, q) refl in
    subst (λ (v : List CallWrite). ledger_of conn t index v faults ≡ record {
      conn = conn;
      terms = t;
      len = length index.entries.items;
      day = day_of index.entries.items;
      faults =
          no_faults;
      pending = [];
    }) (sym nothing)
    (counted faults.memory faults.store memory store
    ∙ ap (λ (es : List Entry). record {
      conn = conn;
      terms = t;
      len = length es;
      day = day_of es;
      faults = no_faults;
      pending = [];
    }) (all_committed index.entries.items))

-- After a read.
pub sound_after_read : {S : Type 0} (g : Ghosts S) (old new : Held S) (t : Terms)
    (index : CallIndex) (ws : List CallWrite) (before after : Bool)
    → IsSound g old t index ws before → LeavesTables g old new
    → IsOpenIf g new after → IsSound g new t index ws after
sound_after_read g old new t index ws before after sound leaves opened =
    let len = length (committed_among ws index.entries.items) in
    let day = day_of (committed_among ws index.entries.items) in
    record {
      few = sound.few;
      few_pending = sound.few_pending;
      settled = leaves.settled sound.settled;
      opened = opened;
      ledger = λ clean is_open. subst (λ (d : Database). IsLedger d t len day)
          (sym (same_tables g old new t len day leaves sound.settled sound.ledger clean is_open))
          (sound.ledger (omega (arith, leaves.clean)) (leaves.was_open clean is_open));
      followed = λ clean is_open. subst (λ (d : Database). IsFollowed d t index ws)
          (sym (same_tables g old new t len day leaves sound.settled sound.ledger clean is_open))
          (sound.followed (omega (arith, leaves.clean)) (leaves.was_open clean is_open));
    }

-- After the pending calls were written, or were not.
module _ {S : Type 0} (g : Ghosts S) (old new : Held S) (t : Terms) (index : CallIndex)
    (ws now : List CallWrite) (before after : Bool) (sound : IsSound g old t index ws before)
    (settled : IsQuiescent g new)
    (clean : StaysUnclean g old new) (was_open : HasCleanDisk (state g new)
    → IsTrue (state g new).is_open → IsTrue (state g old).is_open)
    (opened : IsOpenIf g new after) where
  was_clean : HasCleanDisk (state g new) → HasCleanDisk (state g old)
  was_clean is = omega (arith, clean)

  sound_written : (HasCleanDisk (state g new) → (a b : Tables) → AreWritten ws a b
      → HasTables (state g old).now a → HasTables (state g new).now b)
      → IsSound g new t index [] after
  sound_written made = record {
    few = sound.few;
    few_pending = omega arith;
    settled = settled;
    opened = opened;
    ledger = λ is is_open.
        let followed = sound.followed (was_clean is) (was_open is is_open) in
        let all = all_committed index.entries.items ∙ followed.indexed.calls in
        written_ledger (state g old).now (state g new).now t _ _ ws
        (sound.ledger (was_clean is) (was_open is is_open)) followed.legal followed.held (made is) _
        _ (ap length all) (ap day_of all);
    followed = λ is is_open.
        let followed = sound.followed (was_clean is) (was_open is is_open) in
        written_followed (state g old).now (state g new).now t _ _ ws
        (sound.ledger (was_clean is) (was_open is is_open)) followed.legal followed.held (made is)
        index followed.indexed;
  }

  sound_unwritten : (HasCleanDisk (state g new) → IsTrue (state g new).is_open → (state g new).now
      ≡ (state g old).now) → IsSound g new t index ws after
  sound_unwritten same = record {
    few = sound.few;
    few_pending = sound.few_pending;
    settled = settled;
    opened = opened;
    ledger = λ is is_open. rw (same is is_open) (sound.ledger (was_clean is) (was_open is is_open));
    followed = λ is is_open. rw (same is is_open)
        (sound.followed (was_clean is) (was_open is is_open));
  }

  pub sound_after_write : {T E : Type 0} (r : Result T E)
      → (HasCleanDisk (state g new) → OnOk r ((a b : Tables) → AreWritten ws a b
      → HasTables (state g old).now a → HasTables (state g new).now b))
      → (HasCleanDisk (state g new) → IsTrue (state g new).is_open
      → OnErr r ((state g new).now ≡ (state g old).now)) → OnOk r (now ≡ [])
      → OnErr r (now ≡ ws) → IsSound g new t index now after
  sound_after_write (Ok x) made same emptied left =
      subst (λ (v : List CallWrite). IsSound g new t index v after) (sym emptied)
      (sound_written made)
  sound_after_write (Err x) made same emptied left =
      subst (λ (v : List CallWrite). IsSound g new t index v after) (sym left)
      (sound_unwritten same)

  -- The history is as before.
  pub same_after_write : {T E : Type 0} (r : Result T E)
      → (HasCleanDisk (state g new) → OnOk r ((a b : Tables) → AreWritten ws a b
      → HasTables (state g old).now a → HasTables (state g new).now b))
      → (HasCleanDisk (state g new) → IsTrue (state g new).is_open
      → OnErr r ((state g new).now ≡ (state g old).now)) → OnOk r (now ≡ [])
      → OnErr r (now ≡ ws)
      → HasCleanDisk (state g new) → IsTrue (state g new).is_open → history_in (state g new).now
      ++ calls_of now ≡ history_in (state g old).now ++ calls_of ws
  same_after_write (Ok x) made same emptied left is is_open =
      ap (λ (v : List CallWrite). history_in (state g new).now ++ calls_of v) emptied
      ∙ append-nil (history_in (state g new).now)
      ∙ (let followed = sound.followed (was_clean is) (was_open is is_open) in
      written_history (state g old).now (state g new).now t _ _ ws
      (sound.ledger (was_clean is) (was_open is is_open)) followed.legal followed.held (made is))
  same_after_write (Err x) made same emptied left is is_open =
      ap (λ (d : Database). history_in d ++ calls_of now) (same is is_open)
      ∙ ap (λ (v : List CallWrite). history_in (state g old).now ++ calls_of v) left

  -- No committed call is lost.
  pub grows_after_write : {T E : Type 0} (r : Result T E)
      → (HasCleanDisk (state g new) → OnOk r ((a b : Tables) → AreWritten ws a b
      → HasTables (state g old).now a → HasTables (state g new).now b))
      → (HasCleanDisk (state g new) → IsTrue (state g new).is_open
      → OnErr r ((state g new).now ≡ (state g old).now))
      → HasCleanDisk (state g new) → IsTrue (state g new).is_open
      → Grows (history_in (state g old).now) (history_in (state g new).now)
  grows_after_write (Ok x) made same is is_open =
      let followed = sound.followed (was_clean is) (was_open is is_open) in (
        calls_of ws,
        written_history (state g old).now (state g new).now t _ _ ws
            (sound.ledger (was_clean is) (was_open is is_open)) followed.legal followed.held
            (made is),
      )
  grows_after_write (Err x) made same is is_open =
      grows_same (history_in (state g old).now) (history_in (state g new).now)
      (ap history_in (same is is_open))

-- One more call after the pending ones.
module _ (db : Database) (t : Terms) (len day : ℕ) (index : CallIndex) (ws : List CallWrite)
    (w : CallWrite) (e : Entry) (was : IsLedger db t len day) (followed : IsFollowed db t index ws)
    (follows : MayFollow (history_in db ++ calls_of ws) t e) (call : w.entry ≡ e) where
  pub longer_calls : calls_of (ws ++ w ∷ []) ≡ calls_of ws ++ e ∷ []
  longer_calls = map-append (λ (v : CallWrite). v.entry) ws (w ∷ [])
      ∙ ap (λ (d : Entry). calls_of ws ++ d ∷ []) call

  pub longer : history_in db ++ calls_of (ws ++ w ∷ []) ≡ (history_in db ++ calls_of ws) ++ e ∷ []
  longer = ap (λ (p : List Entry). history_in db ++ p) longer_calls
      ∙ sym (append_assoc (history_in db) (calls_of ws) (e ∷ []))

  pub legal_push : IsLegal (history_in db ++ calls_of (ws ++ w ∷ [])) t
  legal_push = subst (λ (h : List Entry). IsLegal h t) (sym longer)
      (IsLegal-push (history_in db ++ calls_of ws) t e followed.legal follows)

  pub held_push : IsWriteOf index e w → ∥ HoldsPending db t (ws ++ w ∷ []) ∥₁
  held_push writes = ∥∥₁_elim was.held ∥∥₁_prop (λ h. ∥∥₁_map followed.held (λ p.
      let it = writes (history_in db ++ calls_of ws) t followed.legal follows
      (All-append IsCall (history_in db) (calls_of ws) h.calls p.calls) followed.indexed in
      record {
        calls = subst (All IsCall) (sym longer_calls)
            (All-push IsCall (calls_of ws) e p.calls it.0);
        written = written_push (history_in db) t ws w p.written
            (subst (λ (d : Entry). Writes w (tables_of (history_in db ++ calls_of ws) t)
            (tables_of ((history_in db ++ calls_of ws) ++ d ∷ []) t)) (sym call) it.1);
      }))

  pub followed_push : (after : CallIndex) → IsWriteOf index e w
      → Indexes after ((history_in db ++ calls_of ws) ++ e ∷ [])
      → IsFollowed db t after (ws ++ w ∷ [])
  followed_push after writes indexed = record {
    indexed = subst (Indexes after) (sym longer) indexed;
    legal = legal_push;
    held = held_push writes;
  }

pub written_calls : {T E : Type 0} (index : CallIndex) (ws now : List CallWrite) (e : Entry)
    (r : Result T E) → OnOk r ((w : CallWrite) × (now ≡ ws ++ w ∷ []) × (w.entry ≡ e)
    × IsWriteOf index e w)
    → OnOk r (calls_of now ≡ calls_of ws ++ e ∷ [])
written_calls index ws now e (Ok x) written =
    ap calls_of written.1 ∙ map-append (λ (v : CallWrite). v.entry) ws (written.0 ∷ [])
    ∙ ap (λ (d : Entry). calls_of ws ++ d ∷ []) written.2
written_calls index ws now e (Err x) written = tt

-- After a call was appended, or was not.
module _ {S : Type 0} (g : Ghosts S) (conn : Held S) (t : Terms) (index after : CallIndex)
    (ws now : List CallWrite) (e : Entry) (answered : Bool)
    (sound : IsSound g conn t index ws answered)
    (room : length ws < 64) (follows : HasCleanDisk (state g conn)
    → IsTrue (state g conn).is_open → MayFollow (history_in (state g conn).now ++ calls_of ws) t
    e)
    (few : length index.entries.items ≤ MAX_LIMIT → length after.entries.items ≤ MAX_LIMIT) where
  sound_held : (w : CallWrite) → w.entry ≡ e → after.entries.items ≡ index.entries.items ++ e ∷ []
      → IsWriteOf index e w
      → ((h : List Entry) (u : Terms) → IsLegal h u → MayFollow h u e → Indexes index h
      → Indexes after (h ++ e ∷ [])) → IsSound g conn t after (ws ++ w ∷ []) answered
  sound_held w call calls writes indexed =
      let same = ap (committed_among (ws ++ w ∷ [])) calls ∙ committed_push ws w index.entries.items
      e in
      record {
        few = few sound.few;
        few_pending = omega (arith, length-append ws (w ∷ []));
        settled = sound.settled;
        opened = sound.opened;
        ledger = λ clean is_open. subst (λ (es : List Entry). IsLedger (state g conn).now t
            (length es) (day_of es)) (sym same) (sound.ledger clean is_open);
        followed = λ clean is_open.
            let f = sound.followed clean is_open in
            let may = follows clean is_open in
            followed_push (state g conn).now t _ _ index ws w e (sound.ledger clean is_open) f may
            call after writes (indexed _ t f.legal may f.indexed);
      }

  sound_unheld : after.entries.items ≡ index.entries.items → ((h : List Entry) → Indexes index h
      → Indexes after h) → IsSound g conn t after ws answered
  sound_unheld calls indexed = record {
    few = few sound.few;
    few_pending = sound.few_pending;
    settled = sound.settled;
    opened = sound.opened;
    ledger = λ clean is_open. rw calls (sound.ledger clean is_open);
    followed = λ clean is_open. let f = sound.followed clean is_open in
        record { indexed = indexed _ f.indexed; legal = f.legal; held = f.held };
  }

  pub sound_after_hold : {T E : Type 0} (r : Result T E)
      → OnOk r (after.entries.items ≡ index.entries.items ++ e ∷ [])
      → OnErr r (after.entries.items ≡ index.entries.items)
      → OnOk r ((w : CallWrite) × (now ≡ ws ++ w ∷ []) × (w.entry ≡ e) × IsWriteOf index e w)
      → OnErr r (now ≡ ws)
      → ((h : List Entry) (u : Terms) → IsLegal h u → MayFollow h u e → Indexes index h
      → OnOk r (Indexes after (h ++ e ∷ [])))
      → ((h : List Entry) → Indexes index h → OnErr r (Indexes after h))
      → IsSound g conn t after now answered
  sound_after_hold (Ok x) calls same written left indexed kept =
      subst (λ (v : List CallWrite). IsSound g conn t after v answered) (sym written.1)
      (sound_held written.0 written.2 calls written.3 indexed)
  sound_after_hold (Err x) calls same written left indexed kept =
      subst (λ (v : List CallWrite). IsSound g conn t after v answered) (sym left)
      (sound_unheld same kept)

pub calls_if_left : {T E : Type 0} (r : Result T E) (ws now : List CallWrite) → OnErr r (now ≡ ws)
    → OnErr r (calls_of now ≡ calls_of ws)
calls_if_left (Ok x) ws now left = tt
calls_if_left (Err x) ws now left = ap calls_of left

pub calls_if_emptied : {T E : Type 0} (r : Result T E) (now : List CallWrite) → OnOk r (now ≡ [])
    → OnOk r (calls_of now ≡ [])
calls_if_emptied (Ok x) now emptied = ap calls_of emptied
calls_if_emptied (Err x) now emptied = tt

pub unwritten_history : {T E : Type 0} (old new : Database) (r : Result T E) → OnErr r (new ≡ old)
    → OnErr r (history_in new ≡ history_in old)
unwritten_history old new (Ok x) same = tt
unwritten_history old new (Err x) same = ap history_in same

-- What a stop leaves once they are written.
pub written_in : {S : Type 0} (g : Ghosts S) (conn : Held S) (t : Terms) (index : CallIndex)
    (ws : List CallWrite) (answered : Bool) (db : Trees) → IsSound g conn t index ws answered
    → HasCleanDisk (state g conn) → IsTrue (state g conn).is_open
    → ((a b : Tables) → AreWritten ws a b → HasTables (state g conn).now a
    → HasTables (record (state g conn).now { trees = db }) b)
    → HoldsCalls db t (history_in (state g conn).now ++ calls_of ws)
written_in g conn t index ws answered db sound clean opened made =
    let old = (state g conn).now in
    let new : Database = record old { trees = db } in
    let followed = sound.followed clean opened in
    subst (HoldsCalls db t) (written_history old new t _ _ ws (sound.ledger clean opened)
    followed.legal followed.held made) (ledger_holds new t _ _ (written_ledger old new t _ _ ws
    (sound.ledger clean opened) followed.legal followed.held made _ _ refl refl))

-- An append that succeeded.
pub pushed : {T E : Type 0} (r : Result T E) (new old : List CallWrite) (w : CallWrite)
    → is_err r ≡ false → new ≡ (if is_ok r then old ++ w ∷ [] else old) → new ≡ old ++ w ∷ []
pushed (Ok x) new old w passed is = is
pushed (Err e) new old w passed is = absurd cc

pub not_pushed : {T E : Type 0} (r : Result T E) (new old : List CallWrite) (w : CallWrite)
    → is_err r ≡ true → new ≡ (if is_ok r then old ++ w ∷ [] else old) → new ≡ old
not_pushed (Ok x) new old w failed is = absurd cc
not_pushed (Err e) new old w failed is = is

-- Lemmas about a call that was kept with all pending ones, or was not.
module _ {S : Type 0} (g : Ghosts S) (old new : Held S) (t : Terms) (index after : CallIndex)
    (ws : List CallWrite) (e : Entry) (before : Bool) (sound : IsSound g old t index ws before)
    (follows : HasCleanDisk (state g old) → IsTrue (state g old).is_open
    → MayFollow (history_in (state g old).now ++ calls_of ws) t e) where
  -- What the tables hold once all these calls are written.
  module _ (db : Database) (clean : HasCleanDisk (state g old))
      (opened : IsTrue (state g old).is_open)
      (made : IsWrittenWith (state g old).now db index ws e) where
    kept_legal : IsLegal (history_in (state g old).now ++ calls_of (ws ++ made.0 ∷ [])) t
    kept_legal = legal_push (state g old).now t _ _ index ws made.0 e (sound.ledger clean opened)
        (sound.followed clean opened) (follows clean opened) made.1

    kept_held : ∥ HoldsPending (state g old).now t (ws ++ made.0 ∷ []) ∥₁
    kept_held = held_push (state g old).now t _ _ index ws made.0 e (sound.ledger clean opened)
        (sound.followed clean opened) (follows clean opened) made.1 made.2

    kept_longer : history_in (state g old).now ++ calls_of (ws ++ made.0 ∷ [])
        ≡ (history_in (state g old).now ++ calls_of ws) ++ e ∷ []
    kept_longer = longer (state g old).now t _ _ index ws made.0 e (sound.ledger clean opened)
        (sound.followed clean opened) (follows clean opened) made.1

    pub kept_history : history_in db ≡ (history_in (state g old).now ++ calls_of ws) ++ e ∷ []
    kept_history = written_history (state g old).now db t _ _ (ws ++ made.0 ∷ [])
        (sound.ledger clean opened) kept_legal kept_held made.3 ∙ kept_longer

    pub kept_ledger : (len day : ℕ)
        → len ≡ length ((history_in (state g old).now ++ calls_of ws) ++ e ∷ [])
        → day ≡ day_of ((history_in (state g old).now ++ calls_of ws) ++ e ∷ [])
        → IsLedger db t len day
    kept_ledger len day p q = written_ledger (state g old).now db t _ _ (ws ++ made.0 ∷ [])
        (sound.ledger clean opened) kept_legal kept_held made.3 len day
        (p ∙ ap length (sym kept_longer)) (q ∙ ap day_of (sym kept_longer))

    pub kept_followed : Indexes after ((history_in (state g old).now ++ calls_of ws) ++ e ∷ [])
        → IsFollowed db t after []
    kept_followed indexed = written_followed (state g old).now db t _ _ (ws ++ made.0 ∷ [])
        (sound.ledger clean opened) kept_legal kept_held made.3 after
        (subst (Indexes after) (sym kept_longer) indexed)

  -- What a stop leaves once all these calls are written.
  pub kept_in : (db : Trees) → HasCleanDisk (state g old) → IsTrue (state g old).is_open
      → IsWrittenWith (state g old).now (record (state g old).now { trees = db }) index ws e
      → HoldsCalls db t ((history_in (state g old).now ++ calls_of ws) ++ e ∷ [])
  kept_in db clean opened made =
      let new : Database = record (state g old).now { trees = db } in
      subst (HoldsCalls db t) (kept_history new clean opened made)
      (ledger_holds new t _ _ (kept_ledger new clean opened made _ _ refl refl))

  module _ (now : List CallWrite) (answered : Bool)
      (few : length index.entries.items ≤ MAX_LIMIT → length after.entries.items ≤ MAX_LIMIT)
      (settled : IsQuiescent g new) (clean : StaysUnclean g old new)
      (was_open : HasCleanDisk (state g new) → IsTrue (state g new).is_open
      → IsTrue (state g old).is_open)
      (opened : IsOpenIf g new answered) where
    old_clean : HasCleanDisk (state g new) → HasCleanDisk (state g old)
    old_clean is = omega (arith, clean)

    sound_kept : after.entries.items ≡ index.entries.items ++ e ∷ []
        → ((h : List Entry) (u : Terms) → IsLegal h u → MayFollow h u e → Indexes index h
        → Indexes after (h ++ e ∷ []))
        → (HasCleanDisk (state g new) → IsWrittenWith (state g old).now (state g new).now index ws
        e)
        → IsSound g new t after [] answered
    sound_kept calls indexed made = record {
      few = few sound.few;
      few_pending = omega arith;
      settled = settled;
      opened = opened;
      ledger = λ is is_open.
          let f = sound.followed (old_clean is) (was_open is is_open) in
          let all = all_committed after.entries.items ∙ calls
          ∙ ap (λ (es : List Entry). es ++ e ∷ []) f.indexed.calls in
          kept_ledger (state g new).now (old_clean is) (was_open is is_open) (made is) _ _
          (ap length all) (ap day_of all);
      followed = λ is is_open.
          let f = sound.followed (old_clean is) (was_open is is_open) in
          kept_followed (state g new).now (old_clean is) (was_open is is_open) (made is)
          (indexed _ t f.legal (follows (old_clean is) (was_open is is_open)) f.indexed);
    }

    sound_not_kept : after.entries.items ≡ index.entries.items
        → ((h : List Entry) → Indexes index h → Indexes after h)
        → (HasCleanDisk (state g new) → IsTrue (state g new).is_open → (state g new).now
        ≡ (state g old).now) → IsSound g new t after ws answered
    sound_not_kept calls indexed same = record {
      few = few sound.few;
      few_pending = sound.few_pending;
      settled = settled;
      opened = opened;
      ledger = λ is is_open. rw (same is is_open, calls)
          (sound.ledger (old_clean is) (was_open is is_open));
      followed = λ is is_open.
          let f = sound.followed (old_clean is) (was_open is is_open) in
          rw (same is is_open)
          (record { indexed = indexed _ f.indexed; legal = f.legal; held = f.held });
    }

    pub sound_after_keep : {T E : Type 0} (r : Result T E)
        → OnOk r (after.entries.items ≡ index.entries.items ++ e ∷ [])
        → OnErr r (after.entries.items ≡ index.entries.items)
        → ((h : List Entry) (u : Terms) → IsLegal h u → MayFollow h u e → Indexes index h
        → OnOk r (Indexes after (h ++ e ∷ [])))
        → ((h : List Entry) → Indexes index h → OnErr r (Indexes after h))
        → (HasCleanDisk (state g new) → OnOk r (IsWrittenWith (state g old).now (state g new).now
        index ws e))
        → (HasCleanDisk (state g new) → IsTrue (state g new).is_open
        → OnErr r ((state g new).now ≡ (state g old).now))
        → OnOk r (now ≡ []) → OnErr r (now ≡ ws) → IsSound g new t after now answered
    sound_after_keep (Ok x) calls same_calls indexed same_index made same emptied left =
        subst (λ (v : List CallWrite). IsSound g new t after v answered) (sym emptied)
        (sound_kept calls indexed made)
    sound_after_keep (Err x) calls same_calls indexed same_index made same emptied left =
        subst (λ (v : List CallWrite). IsSound g new t after v answered) (sym left)
        (sound_not_kept same_calls same_index same)

    -- If the call was kept, the history has one more call.
    pub longer_if_kept : {T E : Type 0} (r : Result T E)
        → (HasCleanDisk (state g new) → OnOk r (IsWrittenWith (state g old).now (state g new).now
        index ws e)) → OnOk r (now ≡ []) → HasCleanDisk (state g new)
        → IsTrue (state g new).is_open
        → OnOk r (history_in (state g new).now ++ calls_of now
        ≡ (history_in (state g old).now ++ calls_of ws) ++ e ∷ [])
    longer_if_kept (Ok x) made emptied is is_open =
        ap (λ (v : List CallWrite). history_in (state g new).now ++ calls_of v) emptied
        ∙ append-nil (history_in (state g new).now)
        ∙ kept_history (state g new).now (old_clean is) (was_open is is_open) (made is)
    longer_if_kept (Err x) made emptied is is_open = tt

    -- No committed call is lost.
    pub grows_after_keep : {T E : Type 0} (r : Result T E)
        → (HasCleanDisk (state g new) → OnOk r (IsWrittenWith (state g old).now (state g new).now
        index ws e))
        → (HasCleanDisk (state g new) → IsTrue (state g new).is_open
        → OnErr r ((state g new).now ≡ (state g old).now))
        → HasCleanDisk (state g new) → IsTrue (state g new).is_open
        → Grows (history_in (state g old).now) (history_in (state g new).now)
    grows_after_keep (Ok x) made same is is_open = (
      calls_of ws ++ e ∷ [],
      kept_history (state g new).now (old_clean is) (was_open is is_open) (made is)
          ∙ append_assoc (history_in (state g old).now) (calls_of ws) (e ∷ []),
    )
    grows_after_keep (Err x) made same is is_open =
        grows_same (history_in (state g old).now) (history_in (state g new).now)
        (ap history_in (same is is_open))

pub no_calls : (ws : List CallWrite) (n : ℕ) → (n == 0) ≡ true → length ws ≡ n
    → calls_of ws ≡ []
no_calls ws n empty is = ap calls_of (nil_from_length ws (is ∙ eqb-true n 0 empty))

pub some_calls : (ws : List CallWrite) (n : ℕ) → (n == 0) ≡ false → length ws ≡ n
    → calls_of ws ≡ [] → ⊥
some_calls [] n some is none = true≢false (ap (λ (k : ℕ). k == 0) is ∙ some)
some_calls (w ∷ ws) n some is none = absurd cc

-- If no call is pending, all calls are committed.
pub all_are_committed : {S : Type 0} (g : Ghosts S) (book : Ledger S) {T E : Type 0}
    (r : Result T E) → OnOk r (book.pending ≡ [])
    → OnOk r (committed_of g book ≡ history_of g book)
all_are_committed g book (Ok x) none = rw none (sym (append-nil (committed_of g book)))
all_are_committed g book (Err x) none = tt

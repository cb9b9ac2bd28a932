-- How the first of the pending calls are committed.
use Rattle.std.proofs.Common.{◌≡◌, ℕ, zero, suc, ◌-◌, ◌⊎◌, inl, inr, ⊎_elim, length, List, [], ◌∷◌}
use Rattle.std.proofs.Common.{◌++◌, All, Result, Ok, Err, drop}
use Rattle.std.proofs.Common.{OnOk, OnErr, IsTrue, Bool, sym, ap, subst, refl, ◌∙◌, arith, take}
use Rattle.std.proofs.Common.{length-append, take_all}
use Rattle.std.proofs.lemmas.List.{append_assoc, map-append, append-nil, take-append-le}
use Rattle.std.proofs.lemmas.List.{length-map, take-append-drop}
use Rattle.std.proofs.lemmas.List.Elements.{All-nil, All-cons, All-head, All-tail}
use Rattle.std.proofs.Math.Logic.{∥∥₁_map}
use Rattle.sqlite_trees.specs.Tree.{Trees}
use Rattle.sqlite_trees.specs.declared.store.Store.{Ghosts}
use Rattle.sqlite.specs.Effect.{Database}
use Rattle.sqlite.specs.State.{HasCleanDisk}
use Rattle.sqlite.specs.Held.{Held, state}
use Rattle.s10_history.specs.declared.entry.Entry.{Entry}
use Rattle.s10_history.specs.Settings.{Terms}
use Rattle.s10_history.specs.History.{day_of}
use Rattle.s10_book.specs.Rules.{IsLegal}
use Rattle.s10_book.specs.Book.{Grows, FindsAfter, IsBetween}
use Rattle.s10_book.specs.declared.faults.Faults.{Faults}
use Rattle.s10_book.proofs.Calls.{grows_same}
use Rattle.s10_book.proofs.Legal.{IsLegal-first}
use Rattle.s10_index.specs.declared.call_index.CallIndex.{CallIndex}
use Rattle.s10_index.specs.CallIndex.{Indexes}
use Rattle.s10_rows.specs.declared.call_write.CallWrite.{CallWrite}
use Rattle.s10_rows.specs.CallWrite.{AreWritten}
use Rattle.s10_rows.specs.Selected.{IsCall}
use Rattle.s10_rows.specs.Tables.{Tables}
use Rattle.s10_statements.specs.ConnectionState.{IsQuiescent, IsOpenIf, StaysUnclean}
use Rattle.s10_statements.specs.Shown.{HasTables}
use Rattle.s10_statements.proofs.CrashLemmas.{either}
use Rattle.s10_ledger.specs.Ledger.{Ledger, IsLedger, IsHonest, HoldsCalls, history_in}
use Rattle.s10_ledger.specs.Ledger.{history_of, committed_of, IsOverCleanDisk, IsOpenIfClean}
use Rattle.s10_ledger.specs.Ledger.{MayFind, MayFindAlso, CommitsSomeOf}
use Rattle.s10_ledger.specs.Found.{ledger_holds}
use Rattle.s10_ledger.specs.Pending.{calls_of, committed_among, HoldsPending, IsFollowed, IsSound}
use Rattle.s10_ledger.specs.Pending.{AreWrittenAfter}
use Rattle.s10_ledger.proofs.BookLemmas.{may_find_also}
use Rattle.s10_ledger.proofs.PendingLemmas.{written_history, written_ledger, sound_is_honest}
use Rattle.s10_ledger.proofs.PendingLemmas.{ledger_of}

all_first : {X : Type 0} (P : X → Type 0) (xs ys : List X) → All P (xs ++ ys) → All P xs
all_first P [] ys all = All-nil P
all_first P (x ∷ xs) ys all = All-cons P x xs (All-head P x (xs ++ ys) all)
    (all_first P xs ys (All-tail P x (xs ++ ys) all))

all_rest : {X : Type 0} (P : X → Type 0) (xs ys : List X) → All P (xs ++ ys) → All P ys
all_rest P [] ys all = all
all_rest P (x ∷ xs) ys all = all_rest P xs ys (All-tail P x (xs ++ ys) all)

-- The calls of the first writes and then of the rest.
pub calls_parted : (first rest : List CallWrite) → calls_of (first ++ rest)
    ≡ calls_of first ++ calls_of rest
calls_parted first rest = map-append (λ (w : CallWrite). w.entry) first rest

history_parted : (h : List Entry) (first rest : List CallWrite) → h ++ calls_of (first ++ rest)
    ≡ (h ++ calls_of first) ++ calls_of rest
history_parted h first rest = ap (λ (l : List Entry). h ++ l) (calls_parted first rest)
    ∙ sym (append_assoc h (calls_of first) (calls_of rest))

-- Once the first calls are committed, they are the last before the pending ones.
committed_first : (h es : List Entry) (first rest : List CallWrite)
    → es ≡ h ++ calls_of (first ++ rest) → committed_among rest es ≡ h ++ calls_of first
committed_first h es first rest are =
    let front = h ++ calls_of first in
    let parted : es ≡ front ++ calls_of rest = are ∙ history_parted h first rest in
    let n : length es - length rest ≡ length front =
    omega (
      arith,
      ap length parted,
      length-append front (calls_of rest),
      length-map rest (λ (w : CallWrite). w.entry),
    ) in
    rw n (rw parted (take-append-le (length front) front (calls_of rest) (omega arith)
    ∙ take_all (length front) front (omega arith)))

after_first : (h : List Entry) (t : Terms) (first rest : List CallWrite)
    → AreWrittenAfter h t (first ++ rest) → AreWrittenAfter h t first
unfolding AreWrittenAfter
after_first h t [] rest are = tt
after_first h t (w ∷ ws) rest are = (are.0, after_first (h ++ w.entry ∷ []) t ws rest are.1)

after_rest : (h : List Entry) (t : Terms) (first rest : List CallWrite)
    → AreWrittenAfter h t (first ++ rest) → AreWrittenAfter (h ++ calls_of first) t rest
unfolding AreWrittenAfter
after_rest h t [] rest are = subst (λ (l : List Entry). AreWrittenAfter l t rest)
    (sym (append-nil h)) are
after_rest h t (w ∷ ws) rest are = subst (λ (l : List Entry). AreWrittenAfter l t rest)
    (append_assoc h (w.entry ∷ []) (calls_of ws)) (after_rest (h ++ w.entry ∷ []) t ws rest are.1)

-- Once the first pending calls are written, the tables stand for the history with them.
module _ (old new : Database) (t : Terms) (len day : ℕ) (index : CallIndex)
    (first rest : List CallWrite) (was : IsLedger old t len day)
    (followed : IsFollowed old t index (first ++ rest))
    (made : (before after : Tables) → AreWritten first before after → HasTables old before
    → HasTables new after) where
  first_legal : IsLegal (history_in old ++ calls_of first) t
  first_legal = IsLegal-first (history_in old ++ calls_of first) (calls_of rest) t
      (subst (λ (h : List Entry). IsLegal h t) (history_parted (history_in old) first rest)
      followed.legal)

  first_held : ∥ HoldsPending old t first ∥₁
  first_held = ∥∥₁_map followed.held (λ p. record {
    calls = all_first IsCall (calls_of first) (calls_of rest)
        (subst (All IsCall) (calls_parted first rest) p.calls);
    written = after_first (history_in old) t first rest p.written;
  })

  pub first_history : history_in new ≡ history_in old ++ calls_of first
  first_history = written_history old new t len day first was first_legal first_held made

  pub first_ledger : (len' day' : ℕ) → len' ≡ length (history_in old ++ calls_of first)
      → day' ≡ day_of (history_in old ++ calls_of first) → IsLedger new t len' day'
  first_ledger = written_ledger old new t len day first was first_legal first_held made

  pub whole_history : history_in new ++ calls_of rest
      ≡ history_in old ++ calls_of (first ++ rest)
  whole_history = ap (λ (h : List Entry). h ++ calls_of rest) first_history
      ∙ sym (history_parted (history_in old) first rest)

  pub rest_followed : IsFollowed new t index rest
  rest_followed = record {
    indexed = subst (Indexes index) (sym whole_history) followed.indexed;
    legal = subst (λ (h : List Entry). IsLegal h t) (sym whole_history) followed.legal;
    held = ∥∥₁_map followed.held (λ p. record {
      calls = all_rest IsCall (calls_of first) (calls_of rest)
          (subst (All IsCall) (calls_parted first rest) p.calls);
      written = subst (λ (h : List Entry). AreWrittenAfter h t rest) (sym first_history)
          (after_rest (history_in old) t first rest p.written);
    });
  }

-- After the first pending calls were written, or none of them.
module _ {S : Type 0} (g : Ghosts S) (old new : Held S) (t : Terms) (index : CallIndex)
    (first rest now : List CallWrite) (before after : Bool)
    (sound : IsSound g old t index (first ++ rest) before) (settled : IsQuiescent g new)
    (clean : StaysUnclean g old new) (was_open : HasCleanDisk (state g new)
    → IsTrue (state g new).is_open → IsTrue (state g old).is_open)
    (opened : IsOpenIf g new after) where
  was_clean : HasCleanDisk (state g new) → HasCleanDisk (state g old)
  was_clean is = omega (arith, clean)

  sound_part : (HasCleanDisk (state g new) → (a b : Tables) → AreWritten first a b
      → HasTables (state g old).now a → HasTables (state g new).now b)
      → IsSound g new t index rest after
  sound_part made = record {
    few = sound.few;
    few_pending = omega (arith, sound.few_pending, length-append first rest);
    settled = settled;
    opened = opened;
    ledger = λ is is_open.
        let was = sound.ledger (was_clean is) (was_open is is_open) in
        let followed = sound.followed (was_clean is) (was_open is is_open) in
        let front = committed_first (history_in (state g old).now) index.entries.items first rest
        followed.indexed.calls in
        first_ledger (state g old).now (state g new).now t _ _ index first rest was followed
        (made is) _ _ (ap length front) (ap day_of front);
    followed = λ is is_open.
        rest_followed (state g old).now (state g new).now t _ _ index first rest
        (sound.ledger (was_clean is) (was_open is is_open))
        (sound.followed (was_clean is) (was_open is is_open)) (made is);
  }

  sound_none : (HasCleanDisk (state g new) → IsTrue (state g new).is_open → (state g new).now
      ≡ (state g old).now) → IsSound g new t index (first ++ rest) after
  sound_none same = record {
    few = sound.few;
    few_pending = sound.few_pending;
    settled = settled;
    opened = opened;
    ledger = λ is is_open. rw (same is is_open) (sound.ledger (was_clean is) (was_open is is_open));
    followed = λ is is_open. rw (same is is_open)
        (sound.followed (was_clean is) (was_open is is_open));
  }

  pub sound_after_part : {T E : Type 0} (r : Result T E)
      → (HasCleanDisk (state g new) → OnOk r ((a b : Tables) → AreWritten first a b
      → HasTables (state g old).now a → HasTables (state g new).now b))
      → (HasCleanDisk (state g new) → IsTrue (state g new).is_open
      → OnErr r ((state g new).now ≡ (state g old).now)) → OnOk r (now ≡ rest)
      → OnErr r (now ≡ first ++ rest) → IsSound g new t index now after
  sound_after_part (Ok x) made same rest_is left =
      subst (λ (v : List CallWrite). IsSound g new t index v after) (sym rest_is)
      (sound_part made)
  sound_after_part (Err x) made same rest_is left =
      subst (λ (v : List CallWrite). IsSound g new t index v after) (sym left)
      (sound_none same)

  -- The history is as before.
  pub same_after_part : {T E : Type 0} (r : Result T E)
      → (HasCleanDisk (state g new) → OnOk r ((a b : Tables) → AreWritten first a b
      → HasTables (state g old).now a → HasTables (state g new).now b))
      → (HasCleanDisk (state g new) → IsTrue (state g new).is_open
      → OnErr r ((state g new).now ≡ (state g old).now)) → OnOk r (now ≡ rest)
      → OnErr r (now ≡ first ++ rest)
      → HasCleanDisk (state g new) → IsTrue (state g new).is_open → history_in (state g new).now
      ++ calls_of now ≡ history_in (state g old).now ++ calls_of (first ++ rest)
  same_after_part (Ok x) made same rest_is left is is_open =
      ap (λ (v : List CallWrite). history_in (state g new).now ++ calls_of v) rest_is
      ∙ whole_history (state g old).now (state g new).now t _ _ index first rest
      (sound.ledger (was_clean is) (was_open is is_open))
      (sound.followed (was_clean is) (was_open is is_open)) (made is)
  same_after_part (Err x) made same rest_is left is is_open =
      ap (λ (d : Database). history_in d ++ calls_of now) (same is is_open)
      ∙ ap (λ (v : List CallWrite). history_in (state g old).now ++ calls_of v) left

  -- No committed call is lost.
  pub grows_after_part : {T E : Type 0} (r : Result T E)
      → (HasCleanDisk (state g new) → OnOk r ((a b : Tables) → AreWritten first a b
      → HasTables (state g old).now a → HasTables (state g new).now b))
      → (HasCleanDisk (state g new) → IsTrue (state g new).is_open
      → OnErr r ((state g new).now ≡ (state g old).now))
      → HasCleanDisk (state g new) → IsTrue (state g new).is_open
      → Grows (history_in (state g old).now) (history_in (state g new).now)
  grows_after_part (Ok x) made same is is_open = (
    calls_of first,
    first_history (state g old).now (state g new).now t _ _ index first rest
        (sound.ledger (was_clean is) (was_open is is_open))
        (sound.followed (was_clean is) (was_open is is_open)) (made is),
  )
  grows_after_part (Err x) made same is is_open =
      grows_same (history_in (state g old).now) (history_in (state g new).now)
      (ap history_in (same is is_open))

-- What a stop leaves once the first calls are written.
pub part_written_in : {S : Type 0} (g : Ghosts S) (conn : Held S) (t : Terms) (index : CallIndex)
    (first rest : List CallWrite) (answered : Bool) (db : Trees)
    → IsSound g conn t index (first ++ rest) answered
    → HasCleanDisk (state g conn) → IsTrue (state g conn).is_open
    → ((a b : Tables) → AreWritten first a b → HasTables (state g conn).now a
    → HasTables (record (state g conn).now { trees = db }) b)
    → HoldsCalls db t (history_in (state g conn).now ++ calls_of first)
part_written_in g conn t index first rest answered db sound clean opened made =
    let old = (state g conn).now in
    let new : Database = record old { trees = db } in
    let was = sound.ledger clean opened in
    let followed = sound.followed clean opened in
    subst (HoldsCalls db t) (first_history old new t _ _ index first rest was followed made)
    (ledger_holds new t _ _ (first_ledger old new t _ _ index first rest was followed made _ _ refl
    refl))

-- Such a stop leaves calls between the committed ones and the whole history.
finds_between : {S : Type 0} (g : Ghosts S) (old new : Ledger S) (calls : List Entry)
    → MayFindAlso g old new calls
    → IsBetween (committed_of g old) (history_of g old) calls
    → FindsAfter (IsHonest g) (IsOverCleanDisk g) (MayFind g) old new
    (IsBetween (committed_of g old) (history_of g old))
finds_between g old new calls stop between = record {
  was_clean = stop.was_clean;
  finds = λ clean found may. ⊎_elim inl (λ it. inr (
    it.0,
    (
      it.1.0,
      it.1.1,
      subst (IsBetween (committed_of g old) (history_of g old)) (sym it.1.2) between,
    ),
  )) (stop.finds clean found may);
}

-- After the first n pending calls were written, or none of them.
module _ {S T E : Type 0} (g : Ghosts S) (old new : Held S) (t : Terms) (index : CallIndex)
    (ws now : List CallWrite) (n : ℕ) (before after : Bool) (r : Result T E)
    (sound : IsSound g old t index ws before) (settled : IsQuiescent g new)
    (clean : StaysUnclean g old new) (was_open : HasCleanDisk (state g new)
    → IsTrue (state g new).is_open → IsTrue (state g old).is_open)
    (opened : IsOpenIf g new after)
    (made : HasCleanDisk (state g new) → OnOk r ((a b : Tables) → AreWritten (take n ws) a b
    → HasTables (state g old).now a → HasTables (state g new).now b))
    (same : HasCleanDisk (state g new) → IsTrue (state g new).is_open
    → OnErr r ((state g new).now ≡ (state g old).now)) (rest : OnOk r (now ≡ drop n ws))
    (left : OnErr r (now ≡ ws)) where
  in_parts : IsSound g old t index (take n ws ++ drop n ws) before
  in_parts = subst (λ (v : List CallWrite). IsSound g old t index v before)
      (sym (take-append-drop n ws)) sound

  left_in_parts : OnErr r (now ≡ take n ws ++ drop n ws)
  left_in_parts = subst (λ (v : List CallWrite). OnErr r (now ≡ v)) (sym (take-append-drop n ws))
      left

  pub sound_after_first : IsSound g new t index now after
  sound_after_first = sound_after_part g old new t index (take n ws) (drop n ws) now before after
      in_parts settled clean was_open opened r made same rest left_in_parts

  pub first_commits : (faults faults' : Faults) → IsOpenIfClean g old
      → (HasCleanDisk (state g new) → (db : Trees) → (state g new).may_leave db
      → (state g old).may_leave db
      ⊎ ((a b : Tables) → AreWritten (take n ws) a b → HasTables (state g old).now a
      → HasTables (record (state g old).now { trees = db }) b))
      → CommitsSomeOf g (ledger_of old t index ws faults) (ledger_of new t index now faults')
  first_commits faults faults' open_if crash =
      let h = history_in (state g old).now in
      let first = calls_of (take n ws) in
      let whole : h ++ calls_of (take n ws ++ drop n ws) ≡ h ++ calls_of ws =
      ap (λ (v : List CallWrite). h ++ calls_of v) (take-append-drop n ws) in
      record {
        was_honest = λ it. sound_is_honest g old t index ws before faults sound
            (omega (arith, clean, it.clean)) (was_open it.clean it.is_open);
        same_history = λ it. same_after_part g old new t index (take n ws) (drop n ws) now before
            after in_parts settled clean was_open opened r made same rest left_in_parts it.clean
            it.is_open ∙ whole;
        same_terms = λ it. refl;
        stays_committed = λ it. grows_after_part g old new t index (take n ws) (drop n ws) now
            before after in_parts settled clean was_open opened r made same it.clean it.is_open;
        stop = finds_between g (ledger_of old t index ws faults)
            (ledger_of new t index now faults') (h ++ first)
            (may_find_also g (ledger_of old t index ws faults)
            (ledger_of new t index now faults') (h ++ first) clean refl
            (λ is db leaves.
            let was : HasCleanDisk (state g old) = omega (arith, clean, is) in
            either (crash is db leaves) (λ kept. kept) (λ written. (
              sound_is_honest g old t index ws before faults sound was (open_if was),
              part_written_in g old t index (take n ws) (drop n ws) before db in_parts was
                  (open_if was) written,
            )))) (
              (first, refl),
              (
                calls_of (drop n ws),
                sym whole ∙ history_parted h (take n ws) (drop n ws),
              ),
            );
      }

-- The calls that are left once the first ones are committed.
drop_calls : (n : ℕ) (ws : List CallWrite) → calls_of (drop n ws) ≡ drop n (calls_of ws)
drop_calls zero ws = refl
drop_calls (suc n) [] = refl
drop_calls (suc n) (w ∷ ws) = drop_calls n ws

pub calls_dropped : {T E : Type 0} (r : Result T E) (n : ℕ) (ws now : List CallWrite)
    → OnOk r (now ≡ drop n ws) → OnOk r (calls_of now ≡ drop n (calls_of ws))
calls_dropped (Ok x) n ws now rest = ap calls_of rest ∙ drop_calls n ws
calls_dropped (Err x) n ws now rest = tt

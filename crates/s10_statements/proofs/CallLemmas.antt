-- The calls that are written so far, of those that are committed together.
use Rattle.std.proofs.Common.{◌≡◌, ◌≢◌, ℕ, ◌+◌, ◌-◌, ◌<◌, ◌≤◌, List, [], ◌∷◌, ◌++◌, length, take}
use Rattle.std.proofs.Common.{drop, take_all, get_or, refl, sym, ap, subst, ◌∙◌}
use Rattle.std.specs.Borrow.{MutBor}
use Rattle.std.proofs.Math.Logic.{∥∥₁_map, ∥∥₁_elim, ∥∥₁_prop}
use Rattle.std.proofs.lemmas.List.{take_more, take_rest, drop_more, drop_all}
use Rattle.std.proofs.lemmas.List.Sorted.{IsPermutation-map, IsPermutation-trans}
use Rattle.sqlite.specs.Effect.{Database}
use Rattle.sqlite.specs.Held.{Held, state}
use Rattle.sqlite_trees.specs.declared.store.Store.{Ghosts}
use Rattle.s10_rows.specs.Tables.{Tables}
use Rattle.s10_rows.specs.declared.call_write.CallWrite.{CallWrite}
use Rattle.s10_rows.specs.declared.range_write.RangeWrite.{RangeWrite}
use Rattle.s10_rows.specs.CallWrite.{AreWritten, Writes, with_call}
use Rattle.s10_rows.specs.RowWrites.{FindAtMostOne}
use Rattle.s10_statements.specs.Shown.{HasTables, shown_serial}
use Rattle.s10_statements.specs.ConnectionState.{IsOpen}
use Rattle.s10_statements.specs.LaterMarks.{HasTablesBut, unmarked, range_writes}
use Rattle.s10_statements.proofs.LaterMarkLemmas.{but_nothing, shown_same, whole}

-- Tables with the rows of a call are those that it writes, in any order.
written_so : (later : List RangeWrite) (db : Database) (w : CallWrite) (before after : Tables)
    → Writes w before after → HasTablesBut later db (with_call w before)
    → HasTablesBut later db after
written_so later db w before after it but = record {
  ranges = but.ranges;
  held = record {
    schema = but.held.schema;
    heads = rw it.heads but.held.heads;
    calls = rw it.calls but.held.calls;
    ranges = but.held.ranges;
    serials = shown_same shown_serial _ _ _ but.held.serials it.serials;
    numbered = but.held.numbered;
    closed = rw it.closed but.held.closed;
  };
  same = ∥∥₁_elim but.same ∥∥₁_prop
      (λ a. ∥∥₁_map it.ranges
      (λ b. IsPermutation-trans _ _ _ a (IsPermutation-map (unmarked later) _ _ b)));
}

-- The last call is written after those before it.
last_written : (ws : List CallWrite) (w : CallWrite) (before after : Tables)
    → AreWritten (ws ++ w ∷ []) before after → (between : Tables) × AreWritten ws before between
    × Writes w between after
unfolding AreWritten
last_written [] w before after it = (before, refl, subst (Writes w before) (sym it.2) it.1)
last_written (x ∷ ws) w before after it =
    let rest = last_written ws w it.0 after it.2 in
    (rest.0, (it.0, it.1, rest.1), rest.2)

-- The tables become those that the first calls of the list write, but for the marks of the others.
pub record AreCalled {S : Type 0} (g : Ghosts S) (old new : MutBor (Held S)) (ws : List CallWrite)
    (i : ℕ) : Type 0 where
  pub made : (before after : Tables) → AreWritten (take i ws) before after
      → HasTables (state g old.now).now before
      → HasTablesBut (range_writes (drop i ws)) (state g new.now).now after
  pub was_open : take i ws ≢ [] → IsOpen g old.now

pub none_called : {S : Type 0} (g : Ghosts S) (a : MutBor (Held S)) (ws : List CallWrite)
    → AreCalled g a a ws 0
unfolding AreWritten
none_called g a ws = record {
  made = λ before after written held. but_nothing (range_writes ws) (state g a.now).now after
      (subst (HasTables (state g a.now).now) (sym written) held);
  was_open = λ some. absurd (some refl);
}

-- One more call of the list is written.
pub one_called : {S : Type 0} {g : Ghosts S} {a b c : MutBor (Held S)} (ws : List CallWrite) (i : ℕ)
    (w : CallWrite) → i < length ws → w ≡ get_or ws i w
    → (IsOpen g b.now → IsOpen g a.now) → AreCalled g a b ws i → IsOpen g b.now
    × ((tables : Tables) → FindAtMostOne w.serials.items tables.serials
    → HasTablesBut
    (w.ranges.items ++ range_writes (take (length ws - (i + 1)) (drop (i + 1) ws)))
    (state g b.now).now tables
    → HasTablesBut (range_writes (take (length ws - (i + 1)) (drop (i + 1) ws)))
    (state g c.now).now (with_call w tables))
    → AreCalled g a c ws (i + 1)
one_called {g = g} {b = b} {c = c} ws i w within is opened so_far one =
    let more : take (i + 1) ws ≡ take i ws ++ w ∷ [] = take_more ws i w within
    ∙ ap (λ (x : CallWrite). take i ws ++ x ∷ []) (sym is) in
    let left : drop i ws ≡ w ∷ drop (i + 1) ws = drop_more ws i w within
    ∙ ap (λ (x : CallWrite). x ∷ drop (i + 1) ws) (sym is) in
    let made = rw (take_rest ws (i + 1)) at one.1 in
    record {
      made = λ before after written held.
          let last = last_written (take i ws) w before after (rw more at written) in
          written_so (range_writes (drop (i + 1) ws)) (state g c.now).now w last.0 after last.2
          (made last.0 last.2.few (rw left at so_far.made before last.0 last.1 held));
      was_open = λ some. opened one.0;
    }

-- All calls of the list are written.
pub all_called : {S : Type 0} {g : Ghosts S} {a b : MutBor (Held S)} (ws : List CallWrite) (i : ℕ)
    → length ws ≤ i → AreCalled g a b ws i → (ws ≢ [] → IsOpen g a.now)
    × ((before after : Tables) → AreWritten ws before after → HasTables (state g a.now).now before
    → HasTables (state g b.now).now after)
all_called {g = g} {b = b} ws i past it =
    let all : take i ws ≡ ws = take_all i ws past in (
      λ some. it.was_open (rw all some),
      λ before after written held. whole (state g b.now).now after
          (rw (drop_all i ws past) at it.made before after (rw all written) held),
    )

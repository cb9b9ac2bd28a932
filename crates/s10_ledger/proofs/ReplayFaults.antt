-- What a replay in the process gives, and which faults it has.
use Rattle.std.proofs.Common.{◌≡◌, ◌≢◌, ◌∙◌, refl, sym, ap, ℤ, pos, arith, List, [], ◌∷◌, Result}
use Rattle.std.proofs.Common.{Ok, Err, IfOk, IfErr, subst}
use Rattle.s10_history.specs.Settings.{Terms}
use Rattle.s10_book.specs.declared.faults.Faults.{Faults}
use Rattle.s10_rows.specs.declared.head_row.HeadRow.{HeadRow}
use Rattle.s10_rows.specs.declared.open_fault.OpenFault.{OpenFault}
use Rattle.s10_rows.specs.declared.open_fault.OpenFault.TheVariants.{NotALedger, Schema, Damaged}
use Rattle.s10_rows.specs.declared.open_fault.OpenFault.TheVariants.{NotEmpty, Memory, Store}
use Rattle.s10_rows.specs.Tables.{Tables}
use Rattle.s10_replay.specs.CheckedTables.{IsHead, IsRefusal}
use Rattle.s10_replay.specs.FaultNames.{IsHeadFault, CountsReplayFault}
use Rattle.s10_rows.specs.CallRow.{StoredCall}
use Rattle.s10_replay.specs.RightRows.{AreRight, kept_of}
use Rattle.s10_index.specs.declared.indexed_book.IndexedBook.{IndexedBook}
use Rattle.s10_ledger.specs.Replaying.{IsReplayedBook, IsReplayFault}

-- A book that counts no fault of the store has none.
pub replay_fault : (f : OpenFault) (before after : Faults) → before.store ≡ 0 → after.store ≡ 0
    → CountsReplayFault f before after → IsReplayFault f
replay_fault NotALedger before after was is counted = counted
replay_fault (Schema n) before after was is counted = counted
replay_fault (Damaged k) before after was is counted = tt
replay_fault NotEmpty before after was is counted = counted
replay_fault Memory before after was is counted = tt
replay_fault Store before after was is counted =
    absurd (omega (arith, was, counted.0.unless_greatest (is ∙ sym was)))

-- A fault of head is none of the store.
pub no_head_store : {T : Type 0} (r : Result T OpenFault) → IfErr r IsHeadFault → r ≢ Err Store
no_head_store (Ok x) is same = absurd cc
no_head_store (Err NotALedger) is same = absurd cc
no_head_store (Err (Schema n)) is same = absurd cc
no_head_store (Err (Damaged k)) is same = is
no_head_store (Err NotEmpty) is same = is
no_head_store (Err Memory) is same = is
no_head_store (Err Store) is same = is

-- A fault of a replay is none of the store.
pub no_replay_store : {T : Type 0} (r : Result T OpenFault) → IfErr r IsReplayFault → r ≢ Err Store
no_replay_store (Ok x) is same = absurd cc
no_replay_store (Err NotALedger) is same = is
no_replay_store (Err (Schema n)) is same = is
no_replay_store (Err (Damaged k)) is same = absurd cc
no_replay_store (Err NotEmpty) is same = is
no_replay_store (Err Memory) is same = absurd cc
no_replay_store (Err Store) is same = is

abbrev schema_in : List HeadRow → ℤ
schema_in [] = pos 0
schema_in (r ∷ rs) = r.schema

abbrev with_heads : List HeadRow → Tables
with_heads heads = record { heads = heads; calls = []; ranges = []; serials = []; closed = [] }

-- The head of a ledger is not refused.
pub right_head : (heads : List HeadRow) (t : Terms) → IsHead heads (pos 1) t → (f : OpenFault)
    → IsHeadFault f → ((tables : Tables) → tables.heads ≡ heads → IsRefusal tables f) → ⊥
right_head heads t head NotALedger is refused = refused (with_heads heads) refl (pos 1) t head
right_head heads t head (Schema n) is refused =
    let other = refused (with_heads heads) refl in
    other.2 (ap schema_in (sym other.1.row ∙ head.row))
right_head heads t head (Damaged k) is refused = is
right_head heads t head NotEmpty is refused = is
right_head heads t head Memory is refused = is
right_head heads t head Store is refused = is

-- The book of the right calls under the settings of head.
pub replayed : (heads : List HeadRow) (rows calls : List StoredCall) (t : Terms) → rows ≡ calls
    → IsHead heads (pos 1) t → (r : Result IndexedBook OpenFault)
    → IfOk r (λ book. book.settings ≡ t) → IfOk r (λ book. AreRight t rows)
    → IfOk r (λ book. book.index.entries.items ≡ kept_of rows) → IfOk r (IsReplayedBook heads calls)
replayed heads rows calls t are head (Ok book) same right kept = record {
  head = subst (λ (u : Terms). IsHead heads (pos 1) u) (sym same) head;
  right = subst (λ (u : Terms). AreRight u calls) (sym same)
      (subst (λ (l : List StoredCall). AreRight t l) are right);
  kept = kept ∙ ap kept_of are;
}
replayed heads rows calls t are head (Err fault) same right kept = tt

-- The history that the rows of calls stand for.
use Rattle.std.proofs.Common.{◌≡◌, ℕ, suc, ◌+◌, pos, List, [], ◌∷◌, length, map, filter, slice_get}
use Rattle.std.proofs.Common.{All, Some, refl, ap, subst, ◌∙◌, arith}
use Rattle.std.proofs.Math.Logic.{∥∥₁_map}
use Rattle.std.specs.List.Sorted.{IsPermutation}
use Rattle.std.proofs.lemmas.List.Sorted.{IsPermutation-map}
use Rattle.sqlite.specs.Effect.{Database}
use Rattle.s10_history.specs.declared.entry.Entry.{Entry}
use Rattle.s10_history.specs.Settings.{Terms}
use Rattle.s10_rows.specs.CallRow.{StoredCall}
use Rattle.s10_replay.specs.RightRows.{entry_of}
use Rattle.s10_rows.specs.Tables.{HaveSameRows, call_row, call_rows, call_rows_from}
use Rattle.s10_rows.specs.Selected.{IsCall, arrives_between}
use Rattle.s10_statements.specs.Shown.{StandsFor, shown_call, call_columns, call_from}
use Rattle.s10_ledger.specs.Ledger.{in_turn, history_in}
use Rattle.s10_replay.proofs.SameRows.{same_length}
use Rattle.s10_replay.proofs.Calls.{entry_of-call_row}
use Rattle.s10_replay.proofs.CallRows.{AreThose, selected_by_place}
use Rattle.sqlite_keyed.proofs.ListLemmas.{IsPermutation-filter, map_back}

-- The rows of one arrival are the row of its call.
abbrev IsAt : List StoredCall → ℕ → Entry → Type 0
IsAt calls at e = (n : ℕ) × IsCall e × (filter (arrives_between (pos at) (pos at)) calls
    ≡ call_row n e ∷ [])

in_turn_is : (h : List Entry) (at : ℕ) (calls : List StoredCall)
    → ((k : ℕ) (e : Entry) → slice_get h k ≡ Some e → IsAt calls (at + k) e)
    → in_turn (length h) at calls ≡ h
in_turn_is [] at calls each = refl
in_turn_is (e ∷ es) at calls each =
    let here : IsAt calls at e = subst (λ n. IsAt calls n e) (omega arith) (each 0 e refl) in
    let one : map entry_of (filter (arrives_between (pos at) (pos at)) calls) ≡ e ∷ [] =
    ap (map entry_of) here.2 ∙ ap (λ d. d ∷ []) (entry_of-call_row here.0 e here.1) in
    let more : in_turn (length es) (at + 1) calls ≡ es =
    in_turn_is es (at + 1) calls (λ k d is. subst (λ n. IsAt calls n d) (omega arith)
    (each (suc k) d is)) in
    rw (one, more) refl

length_from : (at : ℕ) (h : List Entry) → length (call_rows_from at h) ≡ length h
length_from at [] = refl
length_from at (e ∷ es) = ap suc (length_from (at + 1) es)

at_rows : (h : List Entry) (calls : List StoredCall) → All IsCall h
    → HaveSameRows (call_rows h) calls → (k : ℕ) (e : Entry) → slice_get h k ≡ Some e
    → IsAt calls (1 + k) e
at_rows h calls all same k e is =
    let these = selected_by_place (filter (arrives_between (pos (suc k)) (pos (suc k))) calls) h all
    (suc k) (∥∥₁_map same
    (λ p. IsPermutation-filter (arrives_between (pos (suc k)) (pos (suc k))) _ _ p)) in
    let found = subst (AreThose (filter (arrives_between (pos (suc k)) (pos (suc k))) calls)) is
    these in
    subst (λ n. IsAt calls n e) (omega arith) found

-- Rows that stand for a history give this history.
pub kept_history : (h : List Entry) (calls : List StoredCall) → All IsCall h
    → HaveSameRows (call_rows h) calls → in_turn (length calls) 1 calls ≡ h
kept_history h calls all same =
    let long : length calls ≡ length h = same_length (call_rows h) calls same ∙ length_from 1 h in
    ap (λ n. in_turn n 1 calls) long ∙ in_turn_is h 1 calls (at_rows h calls all same)

-- The calls of the table are those of a history.
pub calls_history : (db : Database) (h : List Entry) → All IsCall h
    → HaveSameRows (map shown_call (call_rows h)) (map call_columns (db.trees 1))
    → history_in db ≡ h
unfolding history_in
calls_history db h all shown =
    kept_history h (map call_from (map call_columns (db.trees 1))) all
    (∥∥₁_map shown
    (λ p. subst (λ l. IsPermutation l (map call_from (map call_columns (db.trees 1))))
    (map_back shown_call call_from (λ c. refl) (call_rows h)) (IsPermutation-map call_from _ _ p)))

pub history_is : (db : Database) (h : List Entry) (t : Terms) → All IsCall h → StandsFor db h t
    → history_in db ≡ h
history_is db h t all stands = calls_history db h all stands.calls

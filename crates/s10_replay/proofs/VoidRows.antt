-- The row that a Done Void writes.
use Rattle.std.proofs.Common.{◌≡◌, ℕ, ◌+◌, Bool, true, false, not, pos, List, [], ◌∷◌, ◌++◌, map}
use Rattle.std.proofs.Common.{length, get_or, Some, sym, ap, ap₂, ◌∙◌, subst}
use Rattle.std.specs.Prelude.{filter, All, option_to_list}
use Rattle.std.proofs.lemmas.Bool.Decides.{same_from_decides}
use Rattle.s10_core.specs.declared.id.Id.{Id}
use Rattle.s10_core.specs.Id.{IsId, same_id}
use Rattle.s10_wire.specs.declared.body.Body.{Body}
use Rattle.s10_wire.specs.declared.body.Body.TheVariants.{Void}
use Rattle.s10_wire.specs.declared.outcome.Outcome.{Outcome}
use Rattle.s10_wire.specs.declared.outcome.Outcome.TheVariants.{Granted, Voided}
use Rattle.s10_wire.specs.Datagrams.{IsBody}
use Rattle.s10_history.specs.declared.entry.Entry.{Entry}
use Rattle.s10_history.specs.declared.issuance.Issuance.{Issuance}
use Rattle.s10_history.specs.Settings.{Terms}
use Rattle.s10_history.specs.History.{ranges_of}
use Rattle.s10_history.specs.Issues.{issues_of, is_of, carried_by, voids, voids_by, last_issues}
use Rattle.s10_history.specs.Issues.{last_issuance_of}
use Rattle.s10_book.specs.Rules.{IsLegal}
use Rattle.s10_book.proofs.Own.{IsOwned, owned}
use Rattle.s10_book.proofs.Spaced.{id_same}
use Rattle.s10_book.proofs.Free.{id_equal}
use Rattle.s10_rows.specs.declared.serial_row.SerialRow.{SerialRow}
use Rattle.s10_rows.specs.declared.serial_write.SerialWrite.TheVariants.{Again}
use Rattle.s10_core.specs.Pair.{pair_of}
use Rattle.s10_rows.specs.Tables.{HaveSameRows, range_rows, serial_row, serial_rows}
use Rattle.s10_rows.specs.Selected.{IsCall, IsIssuance}
use Rattle.s10_rows.specs.RowWrites.{MakesWrites, is_at}
use Rattle.s10_replay.proofs.LastIssues.{last_of}
use Rattle.s10_replay.proofs.SerialRows.{issues_of_fit, last_passes}
use Rattle.s10_rows.proofs.Replaced.{replaced, same_rows}
use Rattle.s10_history.proofs.Push.{same_issues}
use Rattle.s10_history.proofs.Voided.{same_voided, now_voided}
use Rattle.s10_replay.proofs.RowsAfterCall.{row_in, same_range_rows, none_made}
use Rattle.s10_replay.proofs.IssueRows.{few_at, rows_but_at}

other_id : (x y : Id) → same_id x y ≡ same_id y x
other_id x y = same_from_decides (same_id x y) (same_id y x) (id_equal x y, id_same x y)
    (λ e. sym (id_equal y x e), λ e. id_same y x (sym e))

voids_is : (e : Entry) (x y : Id) → e.request.body ≡ Void x → e.outcome ≡ Voided
    → voids y e ≡ same_id x y
voids_is e x y asks done = ap₂ (λ (b : Body) (o : Outcome). voids_by y b o) asks done

-- The row of the last issuance is written again, voided.
pub void_makes : (h : List Entry) (t : Terms) (e : Entry) (x : Id) (i : Issuance) → IsLegal h t
    → All IsCall h → IsCall e → e.request.body ≡ Void x → e.outcome ≡ Voided
    → last_issuance_of (issues_of h) x ≡ Some i
    → MakesWrites h e [] (Again (serial_row true i) ∷ [])
void_makes h t e x i legal calls call asks done last =
    let body : IsBody (Void x) = subst IsBody asks call.request.2 in
    let fit : All IsIssuance (issues_of h) = issues_of_fit h calls in
    let carried : carried_by e.outcome ≡ [] = ap carried_by done in
    let other : (n : ℕ) → ¬ (e.outcome ≡ Granted n) = λ n is. not_both n (sym done ∙ is) in
    let new : Issuance → SerialRow = row_in (h ++ e ∷ []) in
    let lasts : List Issuance = last_issues (issues_of h) in
    let here = last_passes (IsOwned h) x (issues_of h) i (owned h t legal) last in
    let voided : new i ≡ serial_row true i =
    ap (λ (b : Bool). serial_row b i) (now_voided i.arrival h e i.id here.0.1
    (voids_is e x i.id asks done ∙ id_same x i.id (sym here.1))) in
    let left : (j : Issuance) → is_of x j ≡ false → row_in h j ≡ new j =
    λ j fails. ap (λ (b : Bool). serial_row b j)
    (sym (same_voided j.arrival h e j.id (voids_is e x j.id asks done ∙ other_id x j.id
    ∙ fails))) in
    let moved : HaveSameRows (map (row_in h) (filter (λ j. not (is_of x j)) lasts) ++ new i ∷ [])
    (map new lasts) =
    replaced (is_of x) (row_in h) new lasts i (last_of (issues_of h) x ∙ ap option_to_list last)
    (λ k d lt. left (get_or lasts k d)) in
    let front : map (row_in h) (filter (λ j. not (is_of x j)) lasts) ++ new i ∷ []
    ≡ filter (λ row. not (is_at (pos (pair_of x.service x.country)) (pos x.serial) row))
    (serial_rows h) ++ serial_row true i ∷ [] =
    ap₂ (λ (l : List SerialRow) (row : SerialRow). l ++ row ∷ [])
    (sym (rows_but_at h (issues_of h) x fit body)) voided in
    let P : List SerialRow → Type 0 = λ l. HaveSameRows l (map new lasts) in
    let Q : List Issuance → Type 0 =
    λ is. HaveSameRows
    (filter (λ row. not (is_at (pos (pair_of x.service x.country)) (pos x.serial) row))
    (serial_rows h) ++ serial_row true i ∷ []) (map new (last_issues is)) in
    let R : Id → Type 0 =
    λ y. HaveSameRows
    (filter (λ row. not (is_at (pos (pair_of y.service y.country)) (pos y.serial) row))
    (serial_rows h) ++ serial_row true i ∷ []) (serial_rows (h ++ e ∷ [])) in
    record {
      ranges = same_rows (range_rows h) (range_rows (h ++ e ∷ []))
          (same_range_rows h e carried (none_made (1 + length (ranges_of h)) e.request.body
          e.outcome other));
      serials = subst R (sym here.1) (subst Q (sym (same_issues h e carried))
          (subst P front moved));
      few = (few_at h (issues_of h) i.id fit (subst IsId (sym here.1) body), tt);
    }
  where
    not_both : (n : ℕ) → Voided ≡ Granted n → ⊥
    not_both n e = cc

-- The row that a Done Grant adds.
use Rattle.std.proofs.Common.{◌≡◌, ℕ, ◌+◌, List, [], ◌∷◌, ◌++◌, map}
use Rattle.std.proofs.Common.{length, Option, Some, sym, ap, ap₂, ◌∙◌, arith}
use Rattle.std.specs.Prelude.{option_to_list}
use Rattle.std.proofs.lemmas.List.{map-append}
use Rattle.s10_wire.specs.declared.body.Body.{Body}
use Rattle.s10_wire.specs.declared.body.Body.TheVariants.{Grant}
use Rattle.s10_wire.specs.declared.outcome.Outcome.{Outcome}
use Rattle.s10_wire.specs.declared.outcome.Outcome.TheVariants.{Granted, Voided}
use Rattle.s10_history.specs.declared.entry.Entry.{Entry}
use Rattle.s10_history.specs.declared.range.Range.{Range}
use Rattle.s10_history.specs.declared.issuance.Issuance.{Issuance}
use Rattle.s10_history.specs.Settings.{Terms}
use Rattle.s10_history.specs.History.{ranges_of, range_of_grant}
use Rattle.s10_history.specs.Issues.{issues_of, pick_of, carried_by}
use Rattle.s10_book.specs.Rules.{IsLegal, MayFollow, body_answer}
use Rattle.s10_history.proofs.Push.{ranges_from-push, same_issues}
use Rattle.s10_book.proofs.Marks.{pick_new}
use Rattle.s10_rows.specs.declared.range_row.RangeRow.{RangeRow}
use Rattle.s10_rows.specs.declared.range_write.RangeWrite.TheVariants.{New}
use Rattle.s10_rows.specs.Tables.{range_row, range_rows, serial_rows}
use Rattle.s10_rows.specs.RowWrites.{MakesWrites}
use Rattle.s10_rows.proofs.Replaced.{same_rows}
use Rattle.s10_replay.proofs.RowsAfterCall.{same_serial_rows, none_voided}
use Rattle.s10_book.proofs.Apart.{granted_parts}

-- A Done Grant adds the range of its number.
made_range : (h : List Entry) (customer day interval num : ℕ) (b : Body) (o : Outcome) (r : Range)
    → o ≡ body_answer h customer b day interval → o ≡ Granted num
    → range_of_grant num b (Granted num) ≡ Some r
    → range_of_grant (length (ranges_of h) + 1) b o ≡ Some r
made_range h customer day interval num (Grant holder s c first last) o r is done made =
    let count : length (ranges_of h) + 1 ≡ num = granted_parts _ _ _ _ _ (sym is ∙ done) in
    ap₂ (λ (n : ℕ) (y : Outcome). range_of_grant n (Grant holder s c first last) y) count done
    ∙ made
made_range h customer day interval num b o r is done made = absurd cc

pub grant_makes : (h : List Entry) (t : Terms) (e : Entry) (num : ℕ) (r : Range) → IsLegal h t
    → MayFollow h t e → e.outcome ≡ Granted num → range_of_grant num e.request.body (Granted num)
    ≡ Some r
    → MakesWrites h e (New (range_row r.first r) ∷ []) []
grant_makes h t e num r legal may done makes =
    let made : range_of_grant (length (ranges_of h) + 1) e.request.body e.outcome ≡ Some r =
    made_range h e.request.customer e.day t.interval num e.request.body e.outcome r may.right done
    makes in
    let turned : 1 + length (ranges_of h) ≡ length (ranges_of h) + 1 = omega arith in
    let ranges : ranges_of (h ++ e ∷ []) ≡ ranges_of h ++ r ∷ [] =
    ranges_from-push 1 h e ∙ ap (λ (o : Option Range). ranges_of h ++ option_to_list o)
    (ap (λ (n : ℕ). range_of_grant n e.request.body e.outcome) turned ∙ made) in
    let carried : carried_by e.outcome ≡ [] = ap carried_by done in
    let f : List Issuance → Range → RangeRow = λ is s. range_row (pick_of is s) s in
    let rows : range_rows (h ++ e ∷ []) ≡ range_rows h ++ range_row r.first r ∷ [] =
    ap (map (f (issues_of (h ++ e ∷ [])))) ranges
    ∙ map-append (f (issues_of (h ++ e ∷ []))) (ranges_of h) (r ∷ [])
    ∙ ap₂ (λ (is : List Issuance) (mark : ℕ). map (f is) (ranges_of h) ++ range_row mark r ∷ [])
    (same_issues h e carried) (pick_new h t e legal may r made) in
    let voided : (o : Outcome) → o ≡ Granted num → ¬ (o ≡ Voided) = λ o is no'. cc in
    record {
      ranges = same_rows (range_rows h ++ range_row r.first r ∷ []) (range_rows (h ++ e ∷ []))
          (sym rows);
      serials = same_rows (serial_rows h) (serial_rows (h ++ e ∷ []))
          (same_serial_rows h e carried (λ x. none_voided x e.request.body e.outcome
          (voided e.outcome done)));
      few = tt;
    }

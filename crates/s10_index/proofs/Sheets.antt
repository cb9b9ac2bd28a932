-- One more call leaves the calls before it as they were.
use Rattle.std.proofs.Common.{◌≡◌, ◌∙◌, ℕ, ◌≤◌, List, [], ◌∷◌, ◌++◌, map, length, refl, sym, subst}
use Rattle.std.proofs.Common.{ap, ap₂, arith, append-nil}
use Rattle.std.proofs.Math.ListN.{get_or-append}
use Rattle.std.specs.Prelude.{All}
use Rattle.std.proofs.lemmas.List.{map_push}
use Rattle.std.proofs.lemmas.List.Elements.{All-head, All-tail, All-push, All-weaker}
use Rattle.s10_core.specs.declared.id.Id.{Id}
use Rattle.s10_wire.specs.declared.outcome.Outcome.{Outcome}
use Rattle.s10_wire.specs.declared.outcome.Outcome.TheVariants as outcomes
use Rattle.s10_history.specs.declared.entry.Entry.{Entry}
use Rattle.s10_index.specs.declared.compact_outcome.CompactOutcome.{CompactOutcome}
use Rattle.s10_index.specs.declared.compact_outcome.CompactOutcome.TheVariants.{DrawnMany}
use Rattle.s10_index.specs.declared.compact_call.CompactCall.{CompactCall}
use Rattle.s10_index.specs.CompactOutcomes.{outcome_of, entry_of, sheet_of, NamesSheetOf}

-- An outcome whose sheet is in the list is the same over a longer list.
same_outcome : (sheets more : List (List Id)) (o : CompactOutcome) → NamesSheetOf (length sheets) o
    → outcome_of (sheets ++ more) o ≡ outcome_of sheets o
same_outcome sheets more (DrawnMany day sheet) there =
    ap (outcomes.DrawnMany day) (get_or-append sheets more [] sheet there)
same_outcome sheets more o there = refl

-- Each call is the same over a longer list of sheets.
same_calls : (sheets more : List (List Id)) (rows : List CompactCall)
    → All (λ row. NamesSheetOf (length sheets) row.outcome) rows
    → map (entry_of (sheets ++ more)) rows ≡ map (entry_of sheets) rows
same_calls sheets more [] there = refl
same_calls sheets more (row ∷ rows) there =
    let Named : CompactCall → Type 0 = λ r. NamesSheetOf (length sheets) r.outcome in
    let restored : Outcome → Entry = λ o. record {
      request = row.request;
      day = row.day;
      outcome = o;
    } in
    ap₂ (λ (e : Entry) (es : List Entry). e ∷ es)
    (ap restored (same_outcome sheets more row.outcome (All-head Named row rows there)))
    (same_calls sheets more rows (All-tail Named row rows there))

-- The calls with one more, expanded over the sheets with its own.
pub calls-push : (old more new : List (List Id)) (rows all : List CompactCall) (row : CompactCall)
    (e : Entry) → new ≡ old ++ more → all ≡ rows ++ row ∷ []
    → All (λ r. NamesSheetOf (length old) r.outcome) rows
    → entry_of new row ≡ e → map (entry_of new) all ≡ map (entry_of old) rows ++ e ∷ []
calls-push old more new rows all row e grown longer there is =
    ap (map (entry_of new)) longer
    ∙ map_push (entry_of new) rows row
    ∙ ap₂ (λ (es : List Entry) (x : Entry). es ++ x ∷ [])
    (ap (λ (sheets : List (List Id)). map (entry_of sheets) rows) grown
    ∙ same_calls old more rows there) is

-- A sheet in the list is in a longer one.
still_named : (count more : ℕ) (o : CompactOutcome) → count ≤ more → NamesSheetOf count o
    → NamesSheetOf more o
still_named count more (DrawnMany day sheet) le there = omega arith
still_named count more o le there = tt

-- The sheets of all calls are in the list, that of one more call too.
pub named-push : (count more : ℕ) (rows all : List CompactCall) (row : CompactCall) → count ≤ more
    → all ≡ rows ++ row ∷ [] → All (λ r. NamesSheetOf count r.outcome) rows
    → NamesSheetOf more row.outcome → All (λ r. NamesSheetOf more r.outcome) all
named-push count more rows all row le longer there named =
    let Named : ℕ → CompactCall → Type 0 = λ n r. NamesSheetOf n r.outcome in
    subst (All (Named more)) (sym longer)
    (All-push (Named more) rows row (All-weaker (Named count) (Named more)
    (λ r. still_named count more r.outcome le) rows there) named)

-- A call has at most one sheet.
pub one_sheet : (o : Outcome) → length (sheet_of o) ≤ 1
one_sheet (outcomes.DrawnMany day ids) = omega arith
one_sheet o = omega arith

-- An outcome without a sheet leaves the sheets as they were.
pub no_sheet : (sheets : List (List Id)) (o known : Outcome) → o ≡ known → sheet_of known ≡ []
    → sheets ≡ sheets ++ sheet_of o
no_sheet sheets o known is none = sym (append-nil sheets)
    ∙ ap (λ (more : List (List Id)). sheets ++ more) (sym (ap sheet_of is ∙ none))

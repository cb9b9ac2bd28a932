-- The issuances of one call, one after another.
use Rattle.std.proofs.Common.{◌≡◌, ℕ, suc, ◌+◌, ◌<◌, List, [], ◌∷◌, ◌++◌, Option, sym, ap, ◌∙◌}
use Rattle.std.proofs.Common.{arith, length, take, append_assoc}
use Rattle.std.specs.Prelude.{slice_get, option_to_list}
use Rattle.s10_history.specs.declared.entry.Entry.{Entry}
use Rattle.s10_history.specs.declared.issuance.Issuance.{Issuance}
use Rattle.s10_history.specs.Issues.{issues_at, carried_by}
use Rattle.s10_book.proofs.Carried.{made_by}
use Rattle.std.proofs.lemmas.List.{length-map}
use Rattle.s10_book.proofs.Legal.{element}

pub length-issues_at : (arrival : ℕ) (e : Entry) → length (issues_at arrival e)
    ≡ length (carried_by e.outcome)
length-issues_at arrival e = length-map (carried_by e.outcome) (made_by e arrival)

-- One more issuance after those so far.
pub issues_more : (old now new xs : List Issuance) (i : ℕ) (o : Option Issuance) → i < length xs
    → o ≡ slice_get xs i → now ≡ old ++ take i xs → new ≡ now ++ option_to_list o
    → new ≡ old ++ take (i + 1) xs
issues_more old now new xs i o lt got before after =
    let next = element xs i lt in
    let one : i + 1 ≡ suc i = omega arith in
    after ∙ ap (λ (l : List Issuance). l ++ option_to_list o) before
    ∙ ap (λ (u : Option Issuance). old ++ take i xs ++ option_to_list u) (got ∙ next.1)
    ∙ append_assoc old (take i xs) (next.0 ∷ []) ∙ ap (λ (l : List Issuance). old ++ l) (sym next.2)
    ∙ ap (λ (n : ℕ). old ++ take n xs) (sym one)

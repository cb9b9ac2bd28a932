-- A span that overlaps a range has a serial in common with it.
use Rattle.std.proofs.Common.{◌≡◌, ℕ, ◌≤◌, true, inl, inr, arith, ◌∙◌, sym}
use Rattle.std.proofs.lemmas.Bool.{and_parts, leb-true, cases_lt}
use Rattle.s10_core.specs.declared.id.Id.{Id}
use Rattle.s10_history.specs.declared.range.Range.{Range}
use Rattle.s10_history.specs.History.{overlaps}
use Rattle.s10_history.specs.Issues.{id_at}
use Rattle.s10_book.specs.Promises.{IsInCommon}
use Rattle.s10_book.proofs.Apart.{within, letters_equal, overlapping}
use Rattle.s10_book.proofs.Own.{lies_at}

common_at : (r : Range) (s c : ℕ × ℕ) (first last serial : ℕ) → r.service ≡ s → r.country ≡ c
    → r.first ≤ serial → serial ≤ r.last → first ≤ serial → serial ≤ last → (x : Id)
    × IsInCommon r s c first last x
common_at r s c first last serial es ec low high from to = (
  id_at r serial,
  record {
    in_range = lies_at r serial (record { low = low; high = high });
    same_service = es;
    same_country = ec;
    from = from;
    to = to;
  },
)

pub in_common : (r : Range) (s c : ℕ × ℕ) (first last : ℕ) → r.first ≤ r.last
    → overlaps s c first last r ≡ true → (x : Id) × IsInCommon r s c first last x
in_common r s c first last order over =
    let a = and_parts _ _ over in
    let b = and_parts _ _ a.0 in
    let d = and_parts _ _ b.0 in
    let e = and_parts _ _ d.0 in
    let es = letters_equal r.service s e.0 in
    let ec = letters_equal r.country c e.1 in
    let up : first ≤ last = leb-true first last a.1 in
    let below : first ≤ r.last = leb-true first r.last b.1 in
    let above : r.first ≤ last = leb-true r.first last d.1 in
    elim (cases_lt r.first first) [
      | inl lt ↦ common_at r s c first last first es ec (omega (arith, lt)) below (omega arith) up
      | inr ge ↦ common_at r s c first last r.first es ec (omega arith) order (omega (arith, ge))
          above
    ]

pub overlaps_in_common : (r : Range) (s c : ℕ × ℕ) (first last : ℕ) → (x : Id)
    → IsInCommon r s c first last x → overlaps s c first last r ≡ true
overlaps_in_common r s c first last x common =
    let in' = within r x common.in_range in
    overlapping s c first last r (sym in'.service ∙ common.same_service) (sym in'.country
    ∙ common.same_country) (omega (arith, in'.low, common.to))
    (omega (arith, in'.high, common.from)) (omega (arith, common.from, common.to))

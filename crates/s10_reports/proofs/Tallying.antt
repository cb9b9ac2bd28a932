-- The tally of a ledger's ranges, one range after another.
use Rattle.std.proofs.Common.{◌≡◌, ℕ, ◌+◌, ◌≤◌, Bool, true, false, cond, List, [], ◌∷◌, ◌++◌, length, take}
use Rattle.std.proofs.Common.{Some, sym, ap, ap₂, ◌∙◌, arith, sum_by}
use Rattle.std.specs.Prelude.{find, ◌==◌}
use Rattle.std.proofs.lemmas.List.{take_all}
use Rattle.std.proofs.lemmas.List.Sums.{sum_by_push}
use Rattle.std.proofs.lemmas.Grind.{common_steps}
use Rattle.s10_history.specs.declared.entry.Entry.{Entry}
use Rattle.s10_history.specs.declared.range.Range.{Range}
use Rattle.s10_history.specs.declared.usage.Usage.{Usage}
use Rattle.s10_history.specs.History.{ranges_of, is_closed}
use Rattle.s10_history.specs.Usage.{usage_of}
use Rattle.s10_reports.specs.Info.{drawable, tally_of}
use Rattle.s10_reports.specs.declared.info_report.Tally.{Tally}
use Rattle.s10_reports.proofs.Reporting.{next_range}

one_longer : (front : List Range) (r : Range) → length (front ++ r ∷ []) ≡ length front + 1
one_longer front r = grind (arith, common_steps)

sum_next : (f : Range → ℕ) (front all : List Range) (r : Range) → all ≡ front ++ r ∷ []
    → sum_by f all ≡ sum_by f front + f r
sum_next f front all r more = ap (sum_by f) more ∙ sum_by_push f front r

pub one_small : (closed : Bool) → cond closed 1 0 ≤ 1
one_small true = omega arith
one_small false = omega arith

-- One more range.
pub tally_more : (h : List Entry) (day interval done one free : ℕ) (r : Range) (u : Usage)
    (closed : Bool) (t : Tally) → find (λ x. x.num == (done + 1)) (ranges_of h) ≡ Some r
    → t ≡ tally_of h day interval (take done (ranges_of h)) → u ≡ usage_of h r day interval
    → closed ≡ is_closed h r.num → one ≡ cond closed 1 0 → free ≡ drawable closed u.free
    → record {
      ranges = t.ranges + 1;
      closed = t.closed + one;
      used = t.used + u.used;
      voided = t.voided + u.voided;
      free = t.free + free;
    } ≡ tally_of h day interval (take (done + 1) (ranges_of h))
tally_more h day interval done one free r u closed t found before usage is_shut ones frees =
    let all : List Range = take (done + 1) (ranges_of h) in
    let front : List Range = take done (ranges_of h) in
    let more : all ≡ front ++ r ∷ [] = next_range h done r found in
    let ranges : t.ranges + 1 ≡ length all =
    ap (λ (x : Tally). x.ranges + 1) before
    ∙ sym (ap length more ∙ one_longer front r) in
    let shut : t.closed + one ≡ sum_by (λ x. cond (is_closed h x.num) 1 0) all =
    ap₂ (λ (a b : ℕ). a + b) (ap (λ (x : Tally). x.closed) before)
    (ones ∙ ap (λ (b : Bool). cond b 1 0) is_shut)
    ∙ sym (sum_next (λ x. cond (is_closed h x.num) 1 0) front all r more) in
    let used : t.used + u.used ≡ sum_by (λ x. (usage_of h x day interval).used) all =
    ap₂ (λ (a b : ℕ). a + b) (ap (λ (x : Tally). x.used) before) (ap (λ (x : Usage). x.used) usage)
    ∙ sym (sum_next (λ x. (usage_of h x day interval).used) front all r more) in
    let voided : t.voided + u.voided ≡ sum_by (λ x. (usage_of h x day interval).voided) all =
    ap₂ (λ (a b : ℕ). a + b) (ap (λ (x : Tally). x.voided) before)
    (ap (λ (x : Usage). x.voided) usage)
    ∙ sym (sum_next (λ x. (usage_of h x day interval).voided) front all r more) in
    let left : t.free + free
    ≡ sum_by (λ x. drawable (is_closed h x.num) (usage_of h x day interval).free) all =
    ap₂ (λ (a b : ℕ). a + b) (ap (λ (x : Tally). x.free) before)
    (frees ∙ ap₂ (λ (b : Bool) (n : ℕ). drawable b n) is_shut (ap (λ (x : Usage). x.free) usage))
    ∙ sym (sum_next (λ x. drawable (is_closed h x.num) (usage_of h x day interval).free) front all r
    more) in
    λ i. record {
      ranges = ranges i;
      closed = shut i;
      used = used i;
      voided = voided i;
      free = left i;
    }

-- All ranges were counted.
pub tally_all : (h : List Entry) (day interval done : ℕ) (t : Tally)
    → length (ranges_of h) ≤ done → t ≡ tally_of h day interval (take done (ranges_of h))
    → t ≡ tally_of h day interval (ranges_of h)
tally_all h day interval done t past is =
    is ∙ ap (tally_of h day interval) (take_all done (ranges_of h) past)

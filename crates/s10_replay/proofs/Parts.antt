-- The ranges of calls that have rows have rows too: each part is in its bounds.
use Rattle.std.proofs.Common.{◌≡◌, ℕ, ◌+◌, ◌^◌, ◌<◌, ◌≤◌, List, [], ◌∷◌, length, Option, Some, None}
use Rattle.std.proofs.Common.{refl, arith, subst}
use Rattle.std.specs.Prelude.{All}
use Rattle.std.proofs.lemmas.Option.{none-some, same_Some}
use Rattle.std.proofs.lemmas.List.Elements.{All-nil, All-cons, All-head, All-tail}
use Rattle.s10_wire.specs.declared.body.Body.{Body}
use Rattle.s10_wire.specs.declared.body.Body.TheVariants.{Grant}
use Rattle.s10_wire.specs.declared.outcome.Outcome.{Outcome}
use Rattle.s10_wire.specs.declared.outcome.Outcome.TheVariants.{Granted}
use Rattle.s10_wire.specs.Datagrams.{IsBody}
use Rattle.s10_history.specs.declared.entry.Entry.{Entry}
use Rattle.s10_history.specs.declared.range.Range.{Range}
use Rattle.s10_history.specs.History.{range_of_grant, then_ranges, ranges_from, ranges_of}
use Rattle.s10_rows.specs.Selected.{IsCall, IsRange}

-- A granted range.
pub grant_fits : (num : ℕ) (b : Body) (o : Outcome) (r : Range) → num < 2 ^ 32 → IsBody b
    → range_of_grant num b o ≡ Some r → IsRange r
grant_fits num (Grant holder service country first last) (Granted n) r fit ok is =
    subst IsRange (same_Some _ r is) (record {
      num = fit;
      holder = ok.0;
      service = ok.1;
      country = ok.2;
      first = ok.3;
      last = ok.4;
    })
grant_fits num b o r fit ok is = absurd (none-some r is)

fit_then : (o : Option Range) (num : ℕ) (es : List Entry) → ((r : Range) → o ≡ Some r → IsRange r)
    → All IsRange (ranges_from num es) → All IsRange (ranges_from (num + 1) es)
    → All IsRange (then_ranges o (ranges_from num es) (ranges_from (num + 1) es))
fit_then None num es fits here next = here
fit_then (Some r) num es fits here next = All-cons IsRange r (ranges_from (num + 1) es)
    (fits r refl) next

ranges_fit : (num : ℕ) (es : List Entry) → num + length es ≤ 2 ^ 32 → All IsCall es
    → All IsRange (ranges_from num es)
ranges_fit num [] few calls = All-nil IsRange
ranges_fit num (e ∷ es) few calls =
    let rest = All-tail IsCall e es calls in
    fit_then (range_of_grant num e.request.body e.outcome) num es
    (λ r is. grant_fits num e.request.body e.outcome r (omega arith)
    (All-head IsCall e es calls).request.2 is)
    (ranges_fit num es (omega arith) rest) (ranges_fit (num + 1) es (omega arith) rest)

pub ranges_of_fit : (h : List Entry) → length h < 2 ^ 32 → All IsCall h → All IsRange (ranges_of h)
ranges_of_fit h few calls = ranges_fit 1 h (omega arith) calls

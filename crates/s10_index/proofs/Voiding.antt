-- A Done Void has an issuance to void.
use Rattle.std.proofs.Common.{◌≡◌, ℕ, Bool, true, false, cond, List, Option, Some, None, ap}
use Rattle.std.specs.Option.{option_map}
use Rattle.s10_core.specs.declared.id.Id.{Id}
use Rattle.s10_wire.specs.declared.outcome.Outcome.TheVariants.{Voided, NotYours}
use Rattle.s10_history.specs.declared.entry.Entry.{Entry}
use Rattle.s10_history.specs.declared.issue.Issue.{Issue}
use Rattle.s10_history.specs.History.{ranges_of, is_own}
use Rattle.s10_history.specs.Issues.{issues_of, is_voided, last_issuance_of}
use Rattle.s10_book.specs.Rules.{void_answer, void_issue}
use Rattle.std.specs.List.{list_any}

not_voided : (own : Bool) (last : Option Issue) → last ≡ None
    → ¬ (cond own (void_issue last) NotYours ≡ Voided)
not_voided true None none is = cc
not_voided true (Some i) none is = cc
not_voided false last none is = cc

-- An identifier without an issuance is not voided.
pub never_voided : (h : List Entry) (customer : ℕ) (x : Id) → last_issuance_of (issues_of h) x
    ≡ None → ¬ (void_answer h customer x ≡ Voided)
never_voided h customer x none is =
    not_voided (list_any (is_own customer x) (ranges_of h)) _
    (ap (option_map (λ i. record {
      day = i.day;
      voided = is_voided h x;
      customer = i.customer;
      number = i.number;
    })) none) is

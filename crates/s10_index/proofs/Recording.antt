-- What is voided, and the last issue of an identifier.
use Rattle.std.proofs.Common.{◌≡◌, false, List}
use Rattle.std.proofs.Common.{Option, Some, None, refl}
use Rattle.std.specs.Option.{option_map, unwrap_or}
use Rattle.s10_core.specs.declared.id.Id.{Id}
use Rattle.s10_wire.specs.declared.body.Body.{Body}
use Rattle.s10_wire.specs.declared.body.Body.TheVariants.{Void}
use Rattle.s10_wire.specs.declared.outcome.Outcome.{Outcome}
use Rattle.s10_wire.specs.declared.outcome.Outcome.TheVariants.{Voided}
use Rattle.s10_history.specs.declared.entry.Entry.{Entry}
use Rattle.s10_history.specs.declared.issue.Issue.{Issue}
use Rattle.s10_history.specs.declared.issuance.Issuance.{Issuance}
use Rattle.s10_history.specs.Issues.{issues_of, voids_by}
use Rattle.s10_history.specs.Issues.{voided_after, last_issuance_of, last_issue_of}

-- What is voided.

pub none_voided : (x : Id) (b : Body) (o : Outcome) → ((y : Id) → b ≡ Void y → o ≡ Voided → ⊥)
    → voids_by x b o ≡ false
none_voided x (Void id) Voided other = absurd (other id refl refl)
none_voided x b o other = refl

-- The last issue.

-- The issue that the history gives for an issuance of the identifier.
abbrev pub issue_in_history : List Entry → Id → Issuance → Issue
issue_in_history h x i = record {
  day = i.day;
  voided = voided_after i.arrival h x;
  customer = i.customer;
  number = i.number;
}

told_is : (h : List Entry) (x : Id) (o : Option Issuance)
    → option_map (λ (i : Issuance). record {
      day = i.day;
      voided = unwrap_or (option_map (λ (j : Issuance). voided_after j.arrival h x) o) false;
      customer = i.customer;
      number = i.number;
    }) o ≡ option_map (issue_in_history h x) o
told_is h x None = refl
told_is h x (Some i) = refl

pub last_told : (h : List Entry) (x : Id) → last_issue_of h x ≡ option_map (issue_in_history h x)
    (last_issuance_of (issues_of h) x)
last_told h x = told_is h x (last_issuance_of (issues_of h) x)

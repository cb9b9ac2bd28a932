-- The usage of the serials of a range.
use Rattle.std.specs.Prelude.{◌≡◌, ℕ, max, List, Option, count_by}
use Rattle.std.specs.Fn.{Shared, FnReturnsAt}
use denote.Ref.{Bor}
use Rattle.s10_core.specs.declared.id.Id.{Id}
use Rattle.s10_history.specs.declared.entry.Entry.{Entry}
use Rattle.s10_history.specs.declared.issue.Issue.{Issue}
use Rattle.s10_history.specs.declared.range.Range.{Range}
use Rattle.s10_history.specs.declared.usage.Usage.{Usage}
use Rattle.s10_history.specs.History.{day_of}
use Rattle.s10_history.specs.Issues.{issues_of, is_issued, is_voided, is_free, id_at, serials}
use Rattle.s10_history.specs.Issues.{last_issue_of}

-- A look-up finds last issues if it returns the last issue of each identifier in the history.
abbrev pub FindsLastIssues : {F : Type 0} → Shared F (Bor Id × Unit {0}) (Option Issue) → F
    → List Entry → Type 0
FindsLastIssues calls look h = (x : Id) (found : Option Issue) → FnReturnsAt calls look x found
    → found ≡ last_issue_of h x

-- A usage counts the serials of a range if it has the numbers of those that were ever issued, are
-- voided, and are free on the day.
pub record CountsSerials (h : List Entry) (r : Range) (day interval : ℕ) (u : Usage) : Type 0 where
  pub used : u.used ≡ count_by (λ serial. is_issued (issues_of h) (id_at r serial)) (serials r)
  pub voided : u.voided ≡ count_by (λ serial. is_voided h (id_at r serial)) (serials r)
  pub free : u.free ≡ count_by (λ serial. is_free (issues_of h) (id_at r serial) day interval)
      (serials r)

-- The numbers of serials that were ever issued, are voided, and are free. Free is counted on the
-- later of the day and the day of the history.
unfoldable pub usage_of : List Entry → Range → ℕ → ℕ → Usage
usage_of h r day interval =
    record {
      used = count_by (λ serial. is_issued (issues_of h) (id_at r serial)) (serials r);
      voided = count_by (λ serial. is_voided h (id_at r serial)) (serials r);
      free = count_by (λ serial. is_free (issues_of h) (id_at r serial) (max (day_of h) day)
          interval) (serials r);
    }

-- The report of a ledger as a whole: a word and a number on each line.
use Rattle.std.specs.Prelude.{ℕ, Bool, if◌then◌else◌, List, [], ◌∷◌, ◌++◌, length, codes}
use Rattle.std.specs.Prelude.{decimal, count_by}
use Rattle.std.specs.List.{sum_by}
use Rattle.s10_lines.specs.Lines.{line_of}
use Rattle.s10_history.specs.declared.entry.Entry.{Entry}
use Rattle.s10_history.specs.declared.range.Range.{Range}
use Rattle.s10_history.specs.Settings.{Terms}
use Rattle.s10_history.specs.History.{day_of, ranges_of, is_closed}
use Rattle.s10_history.specs.Usage.{usage_of}
use Rattle.s10_reports.specs.declared.info_report.Tally.{Tally}

-- The serials of a range that may be drawn on a day: none of a closed range.
abbrev pub drawable : Bool → ℕ → ℕ
drawable closed free = if closed then 0 else free

-- A line of a word and a number.
abbrev pub number_line : List ℕ → ℕ → List ℕ
number_line word number = line_of word (decimal number ∷ [])

-- The lines of the schema, the settings and the calls.
abbrev pub call_lines : ℕ → Terms → ℕ → ℕ → List (List ℕ)
call_lines schema terms calls last_day = number_line (codes "schema") schema
    ∷ number_line (codes "interval") terms.interval ∷ number_line (codes "limit") terms.limit
    ∷ number_line (codes "calls") calls ∷ number_line (codes "last-day") last_day ∷ []

-- The lines of the ranges and of their serials.
abbrev pub tally_lines : Tally → List (List ℕ)
tally_lines t = number_line (codes "ranges") t.ranges ∷ number_line (codes "closed") t.closed
    ∷ number_line (codes "used") t.used ∷ number_line (codes "voided") t.voided
    ∷ number_line (codes "free") t.free ∷ []

-- The numbers of ranges, and of closed ones; of the serials that were ever issued, that are voided,
-- and that may be drawn on a day.
abbrev pub tally_of : List Entry → ℕ → ℕ → List Range → Tally
tally_of h day interval rs = record {
  ranges = length rs;
  closed = count_by (λ r. is_closed h r.num) rs;
  used = sum_by (λ r. (usage_of h r day interval).used) rs;
  voided = sum_by (λ r. (usage_of h r day interval).voided) rs;
  free = sum_by (λ r. drawable (is_closed h r.num) (usage_of h r day interval).free) rs;
}

-- The report of a ledger with this schema number, on a day.
abbrev pub info_report : ℕ → List Entry → ℕ → Terms → List (List ℕ)
info_report schema h day terms = call_lines schema terms (length h) (day_of h)
    ++ tally_lines (tally_of h day terms.interval (ranges_of h))

use Rattle.std.proofs.Common.{◌≡◌, ◌≤◌, ◌+◌, ◌++◌, length, take, vec_len, vec_capacity}
use Rattle.s10_history.specs.Issues.{issues_at}
use Rattle.s10_book.proofs.plain_book.push_issues.Given as goal

-- The issuances so far were added, and memory for all of them is reserved.
abbrev pub invariant-loop-place : goal.invariant-loop-place
invariant-loop-place l =
    record {
      items : l.list.items ≡ l.fn.list.items ++ take l.place (issues_at l.arrival l.entry);
      room : vec_len l.fn.list + length (issues_at l.arrival l.entry) ≤ vec_capacity l.list;
    }

-- The state of an issuance, by the last issue of its identifier.
use Rattle.std.specs.Prelude.{ℕ, ◌==◌, Bool, ◌&&◌, if◌then◌else◌, List, codes, Option, Some, None}
use Rattle.s10_history.specs.declared.issue.Issue.{Issue}
use Rattle.s10_history.specs.declared.issuance.Issuance.{Issuance}

-- Whether the identifier's last issue is that of the call.
abbrev pub is_last : Issuance → Issue → Bool
is_last i last = (last.customer == i.customer) && (last.number == i.number)

-- The state of an issuance, by the last issue of its identifier.
abbrev pub state_of : Issuance → Option Issue → List ℕ
state_of i None = codes "reissued"
state_of i (Some last) =
    if is_last i last then (if last.voided then codes "voided" else codes "issued")
    else codes "reissued"

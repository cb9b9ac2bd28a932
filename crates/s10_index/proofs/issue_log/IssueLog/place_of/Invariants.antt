use Rattle.std.proofs.Common.{◌<◌, IfSome, List, length}
use Rattle.s10_history.specs.declared.issuance.Issuance.{Issuance}
use Rattle.s10_history.specs.Issues.{is_of}
use Rattle.s10_index.specs.HashChains.{link_to}
use Rattle.s10_index.specs.IssueLog.{HoldsIssues}
use Rattle.s10_index.specs.KeyHash.{id_hash}
use Rattle.s10_index.proofs.Walks.{Walks}
use Rattle.s10_index.proofs.issue_log.IssueLog.place_of.Given as goal

abbrev pub invariant-loop-found : goal.invariant-loop-found
invariant-loop-found l = record {
  within : IfSome l.found (λ place. place < length l.self.chains.hashes);
  walks : (is : List Issuance) → HoldsIssues l.seed l.self l.calls.items is
      → Walks (is_of l.id) (λ i. id_hash l.seed i.id) (id_hash l.seed l.id) is l.found;
}

abbrev pub decreases-loop-found : goal.decreases-loop-found
decreases-loop-found l = link_to l.found

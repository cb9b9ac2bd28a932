-- Defines which issuances a log of them holds.
use Rattle.std.specs.Prelude.{◌≡◌, ℕ, ◌≤◌, List, Some, All, length, map, slice_get}
use Rattle.s10_core.specs.Id.{IsId}
use Rattle.s10_history.specs.declared.entry.Entry.{Entry}
use Rattle.s10_history.specs.declared.issuance.Issuance.{Issuance}
use Rattle.s10_history.specs.Issues.{issues_of, is_of, last_issues, voided_after}
use Rattle.s10_ranges.specs.declared.hash_seed.HashSeed.{HashSeed}
use Rattle.s10_index.specs.declared.issue_place.IssuePlace.{IssuePlace}
use Rattle.s10_index.specs.declared.issue_log.IssueLog.{IssueLog}
use Rattle.s10_index.specs.CallLog.{issuance_at}
use Rattle.s10_index.specs.KeyHash.{id_hash}
use Rattle.s10_index.specs.LastPlace.{last_place}

-- The places are those of the issuances among the calls, in order.
abbrev pub ArePlaces : List Entry → List IssuePlace → List Issuance → Type 0
ArePlaces h places is = map (λ place. issuance_at h place.call place.at) places ≡ map Some is

-- A log holds these issuances of the calls: the place of each, in order, the hash of its
-- identifier, and the number of identifiers.
pub record HoldsIssues (seed : HashSeed) (log : IssueLog) (h : List Entry) (is : List Issuance) :
    Type 0 where
  pub places : ArePlaces h log.places.items is
  pub hashes : log.chains.hashes ≡ map (λ i. id_hash seed i.id) is
  pub count : log.identifiers ≡ length (last_issues is)

-- At the last issuance of each identifier the places say whether it was voided after it.
abbrev pub HasVoids : List IssuePlace → List Entry → List Issuance → Type 0
HasVoids places h is = (k : ℕ) (place : IssuePlace) (i : Issuance)
    → slice_get places k ≡ Some place → slice_get is k ≡ Some i
    → last_place (is_of i.id) is (length is) ≡ Some k → place.voided ≡ voided_after i.arrival h i.id

-- A log has the issuances of a history.
pub record HasIssues (seed : HashSeed) (log : IssueLog) (h : List Entry) : Type 0 where
  pub held : HoldsIssues seed log h (issues_of h)
  pub voids : HasVoids log.places.items h (issues_of h)

-- Each issuance is of a valid identifier.
abbrev pub HaveIds : List Issuance → Type 0
HaveIds is = All (λ i. IsId i.id) is

-- Memory is reserved for that many issuances.
pub record HasRoomForIssues (log : IssueLog) (count : ℕ) : Type 0 where
  pub places : count ≤ log.places.room
  pub chains : count ≤ log.chains.room

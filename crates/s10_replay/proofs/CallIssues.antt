-- What is true at one issuance of a call, over the issuances before it.
use Rattle.std.proofs.Common.{◌≡◌, ℕ, ◌+◌, List, [], ◌∷◌, ◌++◌, length, Some, sym}
use Rattle.std.specs.Prelude.{Contains, slice_get}
use Rattle.s10_core.specs.declared.id.Id.{Id}
use Rattle.s10_history.specs.declared.entry.Entry.{Entry}
use Rattle.s10_history.specs.declared.range.Range.{Range}
use Rattle.s10_history.specs.declared.issuance.Issuance.{Issuance}
use Rattle.s10_history.specs.Settings.{Terms}
use Rattle.s10_history.specs.History.{ranges_of}
use Rattle.s10_history.specs.Issues.{issues_at, pick_of, pick_after}
use Rattle.s10_book.specs.Rules.{IsLegal, MayFollow}
use Rattle.s10_book.proofs.Carried.{made_by, IsPicked}
use Rattle.s10_book.proofs.Marks.{mark_step, pick_turns, picked_mark}
use Rattle.s10_rows.specs.RowWrites.{issues_before}
use Rattle.s10_book.proofs.Carrying.{AtPicks, at_picks, carried_at, picked_at}

-- An issuance of a call, over the issuances before it.
pub record IsIssueAt (h : List Entry) (e : Entry) (n place : ℕ) (c : ℕ × Id) : Type 0 where
  pub picked : IsPicked (ranges_of h) e.request.customer e.day n (issues_before place h e) c
  pub turns : AtPicks (ranges_of h) (issues_before place h e)

-- The issuance at an index has the identifier that the outcome carries there, regardless of the
-- arrival.
pub issue_at : (h : List Entry) (t : Terms) (e : Entry) (arrival place : ℕ) (y : Issuance)
    → IsLegal h t → MayFollow h t e → slice_get (issues_at arrival e) place ≡ Some y
    → (c : ℕ × Id) × (y ≡ made_by e arrival c) × IsIssueAt h e t.interval place c
issue_at h t e arrival place y legal may at =
    let found = carried_at e arrival place y at in (
      found.0,
      sym found.2,
      record {
        picked = picked_at h t e place found.0 may found.1;
        turns = at_picks h t e place legal may;
      },
    )

-- An issuance moves the pick of the range that has it to the serial after its own.
pub pick_moved : (h : List Entry) (t : Terms) (e : Entry) (place : ℕ) (c : ℕ × Id) (r : Range)
    → IsLegal h t → IsIssueAt h e t.interval place c → Contains (ranges_of h) r
    → pick_of (issues_before place h e ++ made_by e (1 + length h) c ∷ []) r
    ≡ pick_after r (pick_of (issues_before place h e) r) c.1
pick_moved h t e place c r legal here there =
    let is : List Issuance = issues_before place h e in
    let y : Issuance = made_by e (1 + length h) c in
    pick_turns r (is ++ y ∷ []) (pick_after r (pick_of is r) c.1)
    (mark_step r is y (pick_of is r) (picked_mark h t e.request.customer e.day t.interval is c r legal
    here.picked there) (here.turns r there))

-- What happens to the notes of one client and to its requests, in any number of processes, each of
-- which may stop at any moment.
use Rattle.std.specs.Prelude.{◌≡◌, ◌⊎◌, ◌<◌, List, [], ◌∷◌, Some, None}
use Rattle.s10_wire.specs.declared.body.Body.{Body}
use Rattle.s10_wire.specs.declared.request.Request.{Request}
use Rattle.s10_notes.specs.Notes.{NotesState, take_fault, after_take, without_request}

-- These are the notes that an opening may find, and these the requests that were sent, if the
-- client began with the first notes. A body may get the next number, the open request may be sent,
-- and its reply may be recorded.
pub data Life (first : NotesState) : NotesState → List Request → Type 0 where
  begun : Life first first []
  taken : {n : NotesState} {sent : List Request} → Life first n sent → (body : Body)
      → take_fault n ≡ None → Life first (after_take n body) sent
  sent_open : {n : NotesState} {sent : List Request} → Life first n sent → (q : Request)
      → n.request ≡ Some q → Life first n (q ∷ sent)
  answered : {n : NotesState} {sent : List Request} → Life first n sent
      → Life first (without_request n) sent

-- The request was sent.
abbrev pub WasSent : Request → List Request → Type 0
WasSent q [] = ⊥
WasSent q (p ∷ sent) = (q ≡ p) ⊎ WasSent q sent

-- No number was sent with two requests. The next number was sent with none, and the number of the
-- open request with that request alone.
pub record UsesOnce (n : NotesState) (sent : List Request) : Type 0 where
  pub next : (q : Request) → WasSent q sent → q.number < n.next
  pub own : (q r : Request) → WasSent q sent → n.request ≡ Some r → q.number ≡ r.number → q ≡ r
  pub once : (p q : Request) → WasSent p sent → WasSent q sent → p.number ≡ q.number → p ≡ q

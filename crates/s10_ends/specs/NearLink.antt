-- What the calls of a near link do to the link and to its server.
use Rattle.std.specs.Prelude.{◌≡◌, ◌⊎◌, ℕ, List, All, Option}
use Rattle.s10_wire.specs.declared.frame.Frame.{Frame}
use Rattle.s10_link.specs.declared.peer.Peer.{Peer}
use Rattle.s10_link.specs.declared.trace.Trace.{Trace}
use Rattle.s10_link.specs.Link.{ReceiveResult, SendResult, Receives, Sends, LeadsTo}
use Rattle.s10_history.specs.declared.entry.Entry.{Entry}
use Rattle.s10_book.specs.declared.faults.Faults.{Faults}
use Rattle.s10_history.specs.Settings.{Terms}
use Rattle.s10_ends.specs.declared.answer.Answer.{Answer}
use Rattle.s10_ends.specs.NearEnds.{NearEnds}
use Rattle.s10_ends.specs.Served.{Dated, Served}
use Rattle.s10_ends.specs.Server.{book_of}
use Rattle.s10_ends.specs.Turn.{Turn, ServesOne, StaysWhole}

-- Datagrams that arrived on the day were served, from the history h to the history h'.
pub record ServedOn (day : ℕ) (h : List Entry) (t : Terms) (h' : List Entry) : Type 0 where
  pub deliveries : List Dated
  pub answers : List Answer
  pub days : All (λ d. d.1 ≡ day) deliveries
  pub served : Served h t deliveries answers h'

module _ {B F N : Type 0} (faults : B → Faults) (honest : B → Type 0) (terms : B → Terms)
    (history committed : B → List Entry) (clean : B → Type 0)
    (may_find : B → Option (List Entry) → Type 0) (far : F → Trace) (near : N → Trace) where
  -- A receive: the server first had one turn on the far end, on the day.
  abbrev pub IsNearReceive : NearEnds B F N → NearEnds B F N → Type 0
  IsNearReceive old new =
      (turn : Turn) × (came : ReceiveResult)
      × ServesOne faults honest terms history committed clean may_find old.day (
        far old.far,
        book_of
            old.server,
      ) (
        far new.far,
        book_of new.server,
      ) turn
      × StaysWhole honest history committed (book_of old.server) (book_of new.server)
      × Receives (near old.near) (near new.near) came

  -- A send: the server and the far end are unchanged.
  abbrev pub IsNearSend : NearEnds B F N → NearEnds B F N → Type 0
  IsNearSend old new = (p : Peer × Frame) × (sent : SendResult)
      × Sends (near old.near) (near new.near) p sent × (new.server ≡ old.server)
      × (new.far ≡ old.far)

  -- One call of the link. The day is unchanged, and the far end was changed by its own calls alone.
  pub record IsNearStep (far_step : F → F → Type 0) (old new : NearEnds B F N) : Type 0 where
    pub day : new.day ≡ old.day
    pub led : LeadsTo far_step old.far new.far
    pub call : IsNearReceive old new ⊎ IsNearSend old new

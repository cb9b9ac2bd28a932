-- The output lines of a server's turns.
use Rattle.std.specs.Prelude.{ℕ, Bool, true, false, List, [], ◌∷◌, ◌++◌, codes, Ok, Err}
use Rattle.hex.specs.Hex.{encode_lower}
use Rattle.s10_link.specs.declared.peer.Peer.{Peer}
use Rattle.s10_link.specs.Peer.{peer_text}
use Rattle.s10_lines.specs.Lines.{spaced, line_of}
use Rattle.s10_ends.specs.declared.server_turn.ServerTurn.TheVariants.{Quiet, Dropped, Faulted}
use Rattle.s10_ends.specs.declared.server_turn.ServerTurn.TheVariants.{Uncommitted, Replied}
use Rattle.s10_ends.specs.Turn.{Turn}
use Rattle.s10_jobs.specs.Words.{wire_fault_words, book_fault_words, link_fault_words}

-- The words that name a sender, if senders are named.
abbrev pub sender_words : Bool → Peer → List (List ℕ)
sender_words true peer = codes "from" ∷ peer_text peer ∷ []
sender_words false peer = []

-- The bytes of a reply in hex, and whom it was sent to.
abbrev pub replied_line : Bool → Peer → List ℕ → List ℕ
replied_line senders peer bytes = codes "replied " ++ encode_lower bytes
    ++ spaced (sender_words senders peer) ++ codes "\n"

-- The line of a turn, with the sender of its datagram at the end if senders are named.
abbrev pub turn_line : Bool → Turn → List ℕ
turn_line senders (Ok Quiet) = codes "quiet\n"
turn_line senders (Ok (Dropped from fault)) =
    line_of (codes "dropped") (wire_fault_words fault ++ sender_words senders from)
turn_line senders (Ok (Faulted from fault)) =
    line_of (codes "faulted") (book_fault_words fault ++ sender_words senders from)
turn_line senders (Ok (Uncommitted to fault)) =
    line_of (codes "uncommitted") (book_fault_words fault ++ sender_words senders to)
turn_line senders (Ok (Replied to frame)) = replied_line senders to frame
turn_line senders (Err fault) = line_of (codes "link") (link_fault_words fault)

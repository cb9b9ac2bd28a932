-- The text of an address.
use Rattle.std.specs.Prelude.{◌≡◌, ℕ, ◌^◌, ◌<◌, List, ◌∷◌, ◌++◌, length, slice_index, All, decimal}
use Rattle.s10_link.specs.declared.peer.Peer.{Peer}

-- A peer is valid if it has four numbers of one byte each, and a port of two bytes.
pub record IsPeer (p : Peer) : Type 0 where
  pub four : length p.ip ≡ 4
  pub bytes : All (λ n. n < 2 ^ 8) p.ip
  pub port : p.port < 2 ^ 16

-- The four numbers joined by dots, a colon, and the port.
abbrev pub peer_text : Peer → List ℕ
peer_text p =
    decimal (slice_index p.ip 0) ++ 46 ∷ (decimal (slice_index p.ip 1) ++ 46
    ∷ (decimal (slice_index p.ip 2)
    ++ 46 ∷ (decimal (slice_index p.ip 3) ++ 58 ∷ decimal p.port)))

-- A text spells a peer if it is the text of that address.
abbrev pub SpellsPeer : List ℕ → Peer → Type 0
SpellsPeer text p = IsPeer p × (text ≡ peer_text p)

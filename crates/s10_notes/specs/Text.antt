-- The text of notes.
use Rattle.std.specs.Prelude.{◌≡◌, ◌⊎◌, ℕ, ◌^◌, ◌<◌, List, ◌++◌, codes, decimal, Option, Some, None, IfSome}
use Rattle.hex.specs.Hex.{encode_lower}
use Rattle.s10_wire.specs.declared.request.Request.{Request}
use Rattle.s10_wire.specs.Datagrams.{datagram, IsRequest}
use Rattle.s10_notes.specs.CheckValue.{check_digits}
use Rattle.s10_notes.specs.Notes.{NotesState, AreNotes}

-- The open request: its datagram in lower-case hexadecimal digits between quotes, or `null`.
abbrev pub request_text : Option Request → List ℕ
request_text None = codes "null"
request_text (Some q) = codes "\"" ++ encode_lower (datagram 0 q) ++ codes "\""

-- The members of notes, in this order. No end of the line follows.
abbrev pub members_text : NotesState → List ℕ
members_text n =
    codes "{\"customer\": " ++ (decimal n.customer ++ (codes ", \"next\": " ++ (decimal n.next
    ++ (codes ", \"last\": " ++ (decimal n.last ++ (codes ", \"request\": "
    ++ request_text n.request))))))

-- The end of a line with a check value: that of all that is before, in eight lower-case hexadecimal
-- digits between quotes.
abbrev pub check_end : List ℕ → List ℕ
check_end members = codes ", \"check\": \"" ++ (check_digits members ++ codes "\"}\n")

-- The line of these members may end so: with their check value, or without any, as earlier
-- versions ended it.
abbrev pub IsEndOf : List ℕ → List ℕ → Type 0
IsEndOf members end = (end ≡ check_end members) ⊎ (end ≡ codes "}\n")

-- One line: a JSON object with four members and their check value.
abbrev pub notes_text : NotesState → List ℕ
notes_text n = members_text n ++ check_end (members_text n)

-- The text that earlier versions wrote: it has no check value.
abbrev pub older_text : NotesState → List ℕ
older_text n = members_text n ++ codes "}\n"

-- Each number of the notes is in its range, and so is the open request.
pub record AreInRange (n : NotesState) : Type 0 where
  pub customer : n.customer < 2 ^ 32
  pub last : n.last < 2 ^ 32
  pub numbered : AreNotes n
  pub request : IfSome n.request IsRequest

-- A text spells notes if it is their text, or their older text, and they are in range.
pub record SpellsNotes (text : List ℕ) (n : NotesState) : Type 0 where
  pub in_range : AreInRange n
  pub spelled : (text ≡ notes_text n) ⊎ (text ≡ older_text n)

-- The text is that of these notes, with their check value, and spells no others.
pub record SpellsOnly (text : List ℕ) (n : NotesState) : Type 0 where
  pub written : text ≡ notes_text n
  pub spells : SpellsNotes text n
  pub only : (m : NotesState) → SpellsNotes text m → m ≡ n

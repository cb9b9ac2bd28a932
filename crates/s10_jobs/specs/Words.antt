-- The words that are printed for groups and faults.
use Rattle.std.specs.Prelude.{ℕ, List, [], ◌∷◌, codes, decimal}
use Rattle.s10_core.specs.declared.group.Group.{Group}
use Rattle.s10_core.specs.declared.group.Group.TheVariants.{Parcel, Ems, Registered, Insured, Other}
use Rattle.s10_core.specs.declared.text_fault.TextFault.{TextFault}
use Rattle.s10_core.specs.declared.text_fault.TextFault.TheVariants.{Length as TextLength, Letter}
use Rattle.s10_core.specs.declared.text_fault.TextFault.TheVariants.{Digit, CheckDigit}
use Rattle.s10_book.specs.declared.book_fault.BookFault.{BookFault}
use Rattle.s10_book.specs.declared.book_fault.BookFault.TheVariants.{Memory, Store, Full}
use Rattle.s10_wire.specs.declared.wire_fault.WireFault.{WireFault}
use Rattle.s10_wire.specs.declared.wire_fault.WireFault.TheVariants.{Short, Magic, Version, Kind}
use Rattle.s10_wire.specs.declared.wire_fault.WireFault.TheVariants.{Length, Field, Outcome}
use Rattle.std.specs.Fmt.{signed_decimal}
use Rattle.s10_link.specs.declared.link_fault.LinkFault.{LinkFault}
use Rattle.s10_link.specs.declared.link_fault.LinkFault.TheVariants.{Bind, Receive, Send, Spent}
use Rattle.s10_rows.specs.declared.open_fault.OpenFault.{OpenFault}
use Rattle.s10_rows.specs.declared.open_fault.OpenFault.TheVariants.{NotALedger, Schema, Damaged}
use Rattle.s10_rows.specs.declared.open_fault.OpenFault.TheVariants.{NotEmpty, Memory as NoMemory}
use Rattle.s10_rows.specs.declared.open_fault.OpenFault.TheVariants.{Store as NotStored}
use Rattle.s10_lines.specs.Lines.{line_of}
use Rattle.s10_jobs.specs.declared.job_status.JobStatus.{JobStatus}
use Rattle.s10_jobs.specs.declared.job_status.JobStatus.TheVariants.{Refused, Failed}
use Rattle.s10_jobs.specs.declared.input_fault.InputFault.{InputFault}
use Rattle.s10_jobs.specs.declared.input_fault.InputFault.TheVariants.{Line, Read, Write}

-- The word of a group.
abbrev pub group_words : Group → List ℕ
group_words Parcel = codes "parcel"
group_words Ems = codes "ems"
group_words Registered = codes "registered"
group_words Insured = codes "insured"
group_words Other = codes "other"

-- A position in a text is counted from 0.
abbrev pub text_fault_words : TextFault → List (List ℕ)
text_fault_words TextLength = codes "length" ∷ []
text_fault_words (Letter at) = codes "letter" ∷ decimal at ∷ []
text_fault_words (Digit at) = codes "digit" ∷ decimal at ∷ []
text_fault_words CheckDigit = codes "check-digit" ∷ []

-- An offset in a datagram is counted from 0.
abbrev pub wire_fault_words : WireFault → List (List ℕ)
wire_fault_words Short = codes "short" ∷ []
wire_fault_words Magic = codes "magic" ∷ []
wire_fault_words Version = codes "version" ∷ []
wire_fault_words Kind = codes "kind" ∷ []
wire_fault_words Length = codes "length" ∷ []
wire_fault_words (Field at) = codes "field" ∷ decimal at ∷ []
wire_fault_words Outcome = codes "outcome" ∷ []

-- The word of a book's fault.
abbrev pub book_fault_words : BookFault → List (List ℕ)
book_fault_words Memory = codes "memory" ∷ []
book_fault_words Store = codes "store" ∷ []
book_fault_words Full = codes "full" ∷ []

-- The word of a link's fault.
abbrev pub link_fault_words : LinkFault → List (List ℕ)
link_fault_words Bind = codes "bind" ∷ []
link_fault_words Receive = codes "receive" ∷ []
link_fault_words Send = codes "send" ∷ []
link_fault_words Spent = codes "spent" ∷ []

-- A call is counted from 1. 0 means a row that is no call.
abbrev pub open_fault_words : OpenFault → List (List ℕ)
open_fault_words NotALedger = codes "not-a-ledger" ∷ []
open_fault_words (Schema number) = codes "schema" ∷ signed_decimal number ∷ []
open_fault_words (Damaged call) = codes "damaged" ∷ decimal call ∷ []
open_fault_words NotEmpty = codes "not-empty" ∷ []
open_fault_words NoMemory = codes "memory" ∷ []
open_fault_words NotStored = codes "store" ∷ []

-- A line is counted from 1.
abbrev pub input_fault_line : InputFault → List ℕ
input_fault_line (Line number) = line_of (codes "refused") (codes "line" ∷ decimal number ∷ [])
input_fault_line Read = codes "input\n"
input_fault_line Write = codes "output\n"

-- A refused line gives `Refused`. Any other fault gives `Failed`.
abbrev pub input_fault_status : InputFault → JobStatus
input_fault_status (Line number) = Refused
input_fault_status Read = Failed
input_fault_status Write = Failed

-- The line that `show` prints of a datagram.
use Rattle.std.specs.Prelude.{◌≡◌, ℕ, nat_le, Bool, ◌&&◌, List, [], ◌∷◌, length, codes, Option}
use Rattle.std.specs.Prelude.{None, Some, MatchBool}
use Rattle.std.specs.Io.KnownBytes.{Appends}
use Rattle.s10_wire.specs.declared.request.Request.{Request}
use Rattle.s10_wire.specs.declared.outcome.Outcome.{Outcome}
use Rattle.s10_wire.specs.declared.wire_fault.WireFault.{WireFault}
use Rattle.s10_wire.specs.Datagrams.{Asks, Replies}
use Rattle.s10_lines.specs.Lines.{request_line, reply_line}
use Rattle.s10_wire.specs.WireFault.{byte, IsFirstRefusalOfRequest, IsFirstRefusalOfReply}
use Rattle.s10_jobs.specs.declared.job_status.JobStatus.{JobStatus}
use Rattle.s10_jobs.specs.declared.job_status.JobStatus.TheVariants.{Done, Refused, CommandLine}
use Rattle.s10_jobs.specs.declared.job_status.JobStatus.TheVariants.{Failed}
use Rattle.s10_jobs.specs.Words.{wire_fault_words}
use Rattle.s10_jobs.specs.Lines.{refused_line}
use Rattle.s10_jobs.specs.InputLines.{bytes_in}

-- The kind byte exists, and is that of a reply.
abbrev pub is_marked_reply : List ℕ → Bool
is_marked_reply bytes = nat_le 4 (length bytes) && nat_le 0x80 (byte bytes 3)

-- The line of a request, or the first refusal of the bytes.
abbrev pub IsRequestShown : List ℕ → JobStatus → List ℕ → Type 0
IsRequestShown bytes Done line = (q : Request) × Asks bytes q × (line ≡ request_line q)
IsRequestShown bytes Refused line =
    (fault : WireFault) × IsFirstRefusalOfRequest bytes fault
    × (line ≡ refused_line (wire_fault_words fault))
IsRequestShown bytes CommandLine line = ⊥
IsRequestShown bytes Failed line = ⊥

-- The line of a reply, or the first refusal of the bytes.
abbrev pub IsReplyShown : List ℕ → JobStatus → List ℕ → Type 0
IsReplyShown bytes Done line = (q : Request) × (o : Outcome) × Replies bytes q o
    × (line ≡ reply_line q o)
IsReplyShown bytes Refused line =
    (fault : WireFault) × IsFirstRefusalOfReply bytes fault
    × (line ≡ refused_line (wire_fault_words fault))
IsReplyShown bytes CommandLine line = ⊥
IsReplyShown bytes Failed line = ⊥

-- The line of a datagram.
abbrev pub IsShown : List ℕ → JobStatus → List ℕ → Type 0
IsShown bytes status line =
    MatchBool (is_marked_reply bytes) (IsReplyShown bytes status line)
    (IsRequestShown bytes status line)

-- What `show` prints for hexadecimal digits, with its status.
pub record IsShownByDigits (digits : List ℕ) (status : JobStatus) (line : List ℕ) : Type 0 where
  pub hex : bytes_in digits ≡ None → (status ≡ Refused) × (line ≡ refused_line (codes "hex" ∷ []))
  pub datagram : (bytes : List ℕ) → bytes_in digits ≡ Some bytes → IsShown bytes status line

-- One such line was written.
abbrev pub Prints : Option (List ℕ) → Option (List ℕ) → (List ℕ → Type 0) → Type 0
Prints old new IsLine = (line : List ℕ) × IsLine line × Appends old new line

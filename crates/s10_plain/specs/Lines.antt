-- Datagrams as lines of text: the result and the line that it writes.
use Rattle.std.specs.Prelude.{◌≡◌, ◌⊎◌, ◌≤◌, ◌<◌, ℕ, List, length, Result, Ok, Err, IfOk, IfErr}
use Rattle.s10_wire.specs.declared.request.Request.{Request}
use Rattle.s10_wire.specs.declared.reply.Reply.{Reply}
use Rattle.s10_wire.specs.declared.wire_fault.WireFault.{WireFault}
use Rattle.s10_wire.specs.Padding.{zero_padded}
use Rattle.s10_wire.specs.Datagrams.{Asks, Replies}
use Rattle.s10_wire.specs.Reply.{request_of, outcome_of}
use Rattle.s10_wire.specs.WireFault.{IsFirstRefusalOfRequest, IsFirstRefusalOfReply}
use Rattle.s10_lines.specs.Lines.{request_line, reply_line}
use Rattle.s10_plain.specs.declared.result_code.ResultCode.{ResultCode}
use Rattle.s10_plain.specs.declared.lines.Line.{Line}
use Rattle.s10_plain.specs.Identifiers.{success_code}
use Rattle.s10_plain.specs.Requests.{code_of_wire_fault}

-- The line of a text has its length and its characters, padded with zeros.
abbrev pub line_of : List ℕ → Line
line_of text = record { len = length text; text = zero_padded 512 text }

-- The code of a line that is too long is its own.
abbrev pub no_room_code : ResultCode
no_room_code = record { code = 41; at = 0 }

-- A text of at most 512 characters is written as a line. A longer one is refused, and nothing is
-- written.
abbrev pub WritesLine : List ℕ → ResultCode → Line → Line → Type 0
WritesLine text result before after =
    ((length text ≤ 512) × (result ≡ success_code) × (after ≡ line_of text))
    ⊎ ((512 < length text) × (result ≡ no_room_code) × (after ≡ before))

-- A request that is read is written as its line; a refusal is reported and nothing is written.
abbrev pub ReportsRequest : Result Request WireFault → ResultCode → Line → Line → Type 0
ReportsRequest (Ok q) result before after = WritesLine (request_line q) result before after
ReportsRequest (Err fault) result before after = (result ≡ code_of_wire_fault fault)
    × (after ≡ before)

-- The line is that of the request which the bytes ask, or the first refusal is reported.
abbrev pub WritesRequestLine : List ℕ → ResultCode → Line → Line → Type 0
WritesRequestLine bytes result before after =
    (read : Result Request WireFault) × IfOk read (Asks bytes)
    × IfErr read (IsFirstRefusalOfRequest bytes)
    × ReportsRequest read result before after

-- A reply that is read is written as its line; a refusal is reported and nothing is written.
abbrev pub ReportsReply : Result Reply WireFault → ResultCode → Line → Line → Type 0
ReportsReply (Ok r) result before after = WritesLine (reply_line (request_of r) (outcome_of r))
    result before after
ReportsReply (Err fault) result before after = (result ≡ code_of_wire_fault fault)
    × (after ≡ before)

-- The line is that of the reply which the bytes are, or the first refusal is reported.
abbrev pub WritesReplyLine : List ℕ → ResultCode → Line → Line → Type 0
WritesReplyLine bytes result before after =
    (read : Result Reply WireFault) × IfOk read (λ r. Replies bytes (request_of r) (outcome_of r))
    × IfErr read (IsFirstRefusalOfReply bytes) × ReportsReply read result before after

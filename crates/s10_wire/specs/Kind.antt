-- The kinds of requests, and the outcomes that fit each.
use Rattle.std.specs.Prelude.{ℕ, ◌+◌, ◌*◌, ◌==◌, Bool, ◌&&◌, List, nat_lt, length, slice_index}
use Rattle.std.specs.Prelude.{true, false, if◌then◌else◌, Option, Some, None}
use Rattle.s10_wire.specs.declared.kind.Kind.{Kind}
use Rattle.s10_wire.specs.declared.kind.Kind.TheVariants as kinds
use Rattle.s10_wire.specs.declared.body.Body.{Body}
use Rattle.s10_wire.specs.declared.body.Body.TheVariants.{Grant, Draw, Void, Query, DrawMany}
use Rattle.s10_wire.specs.declared.body.Body.TheVariants.{Withdraw}
use Rattle.s10_wire.specs.declared.outcome.Outcome.{Outcome}
use Rattle.s10_wire.specs.declared.outcome.Outcome.TheVariants.{Granted, Drawn, DrawnMany, Voided}
use Rattle.s10_wire.specs.declared.outcome.Outcome.TheVariants.{Told, Withdrawn, NotThePost}
use Rattle.s10_wire.specs.declared.outcome.Outcome.TheVariants.{BadGrant, Overlap, NoRange}
use Rattle.s10_wire.specs.declared.outcome.Outcome.TheVariants.{NoneFree, NotYours, NotIssued}
use Rattle.s10_wire.specs.declared.outcome.Outcome.TheVariants.{AlreadyVoid, NoSuchRange, Closed}
use Rattle.s10_wire.specs.declared.outcome.Outcome.TheVariants.{NumberReused}

-- The kind of a body.
abbrev pub kind_of : Body → Kind
kind_of (Grant holder service country first last) = kinds.Grant
kind_of (Draw service country) = kinds.Draw
kind_of (Void id) = kinds.Void
kind_of (Query id) = kinds.Query
kind_of (DrawMany service country count) = kinds.DrawMany
kind_of (Withdraw range) = kinds.Withdraw

-- The kind byte of a request.
abbrev pub code_of : Kind → ℕ
code_of kinds.Grant = 1
code_of kinds.Draw = 2
code_of kinds.Void = 3
code_of kinds.Query = 4
code_of kinds.DrawMany = 5
code_of kinds.Withdraw = 6

-- The version byte of a kind.
abbrev pub version_of : Kind → ℕ
version_of kinds.Grant = 1
version_of kinds.Draw = 1
version_of kinds.Void = 1
version_of kinds.Query = 1
version_of kinds.DrawMany = 2
version_of kinds.Withdraw = 2

-- The kind with this version byte and this kind byte.
abbrev pub kind_of_codes : ℕ → ℕ → Option Kind
kind_of_codes version code =
    if version == 1 && code == 1 then Some kinds.Grant
    else if version == 1 && code == 2 then Some kinds.Draw
    else if version == 1 && code == 3 then Some kinds.Void
    else if version == 1 && code == 4 then Some kinds.Query
    else if version == 2 && code == 5 then Some kinds.DrawMany
    else if version == 2 && code == 6 then Some kinds.Withdraw
    else None

-- The length of a request, which is the offset of the outcome byte in its reply.
abbrev pub request_length : Kind → ℕ
request_length kinds.Grant = 28
request_length kinds.Draw = 16
request_length kinds.Void = 25
request_length kinds.Query = 25
request_length kinds.DrawMany = 17
request_length kinds.Withdraw = 16

-- The length of a Done reply with these bytes.
abbrev pub done_length : Kind → List ℕ → ℕ
done_length kinds.Grant b = 33
done_length kinds.Draw b = 34
done_length kinds.Void b = 26
done_length kinds.Query b = 31
done_length kinds.DrawMany b = 22 + 13 * slice_index b 16
done_length kinds.Withdraw b = 17

-- The length of a reply with these bytes, by its outcome byte.
abbrev pub reply_length : Kind → List ℕ → ℕ
reply_length kind b =
    if slice_index b (request_length kind) == 0 then done_length kind b else request_length kind + 1

-- Whether the outcome byte is there, and the length is that of a reply with this byte.
abbrev pub is_reply_long : Kind → List ℕ → Bool
is_reply_long kind b = nat_lt (request_length kind) (length b) && length b == reply_length kind b

-- Whether the outcome fits the body.
abbrev pub fits : Body → Outcome → Bool
fits (Grant holder service country first last) (Granted range) = true
fits (Grant holder service country first last) NotThePost = true
fits (Grant holder service country first last) BadGrant = true
fits (Grant holder service country first last) Overlap = true
fits (Draw service country) (Drawn day id) = true
fits (Draw service country) NoRange = true
fits (Draw service country) NoneFree = true
fits (Void id) Voided = true
fits (Void id) NotYours = true
fits (Void id) NotIssued = true
fits (Void id) AlreadyVoid = true
fits (Query id) (Told status) = true
fits (Query id) NotYours = true
fits (DrawMany service country count) (DrawnMany day ids) = length ids == count
fits (DrawMany service country count) NoRange = true
fits (DrawMany service country count) NoneFree = true
fits (Withdraw range) Withdrawn = true
fits (Withdraw range) NotThePost = true
fits (Withdraw range) NoSuchRange = true
fits (Withdraw range) Closed = true
fits body NumberReused = true
fits body outcome = false

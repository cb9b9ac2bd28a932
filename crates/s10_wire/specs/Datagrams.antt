-- The datagrams of requests and replies, by kind. Numbers are big-endian.
use Rattle.std.specs.Prelude.{◌≡◌, ℕ, ◌+◌, ◌^◌, ◌<◌, ⊤, IsTrue, List, [], ◌∷◌, ◌++◌}
use Rattle.std.specs.Int.{w32, to_be_bytes}
use Rattle.s10_core.specs.Letters.{AreCapitals, letters_of}
use Rattle.s10_core.specs.Serial.{IsSerial}
use Rattle.s10_core.specs.Id.{IsId, spelling_of}
use Rattle.s10_wire.specs.declared.body.Body.{Body}
use Rattle.s10_wire.specs.declared.body.Body.TheVariants.{Grant, Draw, Void, Query, DrawMany}
use Rattle.s10_wire.specs.declared.body.Body.TheVariants.{Withdraw}
use Rattle.s10_wire.specs.declared.request.Request.{Request}
use Rattle.s10_wire.specs.declared.status.Status.{Status}
use Rattle.s10_wire.specs.declared.status.Status.TheVariants.{Unknown, Never, Issued}
use Rattle.s10_wire.specs.declared.status.Status.TheVariants.{Voided as StatusVoided}
use Rattle.s10_wire.specs.declared.outcome.Outcome.{Outcome}
use Rattle.s10_wire.specs.declared.outcome.Outcome.TheVariants.{Granted, Drawn, DrawnMany, Voided}
use Rattle.s10_wire.specs.declared.outcome.Outcome.TheVariants.{Told, Withdrawn, NotThePost}
use Rattle.s10_wire.specs.declared.outcome.Outcome.TheVariants.{BadGrant, Overlap, NoRange}
use Rattle.s10_wire.specs.declared.outcome.Outcome.TheVariants.{NoneFree, NotYours, NotIssued}
use Rattle.s10_wire.specs.declared.outcome.Outcome.TheVariants.{AlreadyVoid, NoSuchRange, Closed}
use Rattle.s10_wire.specs.declared.outcome.Outcome.TheVariants.{NumberReused}
use Rattle.s10_wire.specs.Ids.{IsCount, AreIds, spellings_of}
use Rattle.s10_wire.specs.Kind.{kind_of, code_of, version_of, fits}

-- A number in four bytes.
abbrev pub u32_bytes : ℕ → List ℕ
u32_bytes n = to_be_bytes w32 n

-- The bytes of a request after its header.
abbrev pub fields : Body → List ℕ
fields (Grant holder service country first last) =
    u32_bytes holder ++ letters_of service ++ letters_of country ++ u32_bytes first
    ++ u32_bytes last
fields (Draw service country) = letters_of service ++ letters_of country
fields (Void id) = spelling_of id
fields (Query id) = spelling_of id
fields (DrawMany service country count) = letters_of service ++ letters_of country ++ count ∷ []
fields (Withdraw range) = u32_bytes range

-- The bytes of a request, with `mark` added to the kind byte.
abbrev pub datagram : ℕ → Request → List ℕ
datagram mark q =
    0x53 ∷ 0x31 ∷ version_of (kind_of q.body) ∷ (code_of (kind_of q.body) + mark) ∷ []
    ++ u32_bytes q.customer ++ u32_bytes q.number ++ fields q.body

-- A number is a u32 if it fits in four bytes.
abbrev pub IsU32 : ℕ → Type 0
IsU32 n = n < 2 ^ 32

-- A body is valid if its fields are in their ranges.
abbrev pub IsBody : Body → Type 0
IsBody (Grant holder service country first last) =
    IsU32 holder × AreCapitals service × AreCapitals country × IsSerial first × IsSerial last
IsBody (Draw service country) = AreCapitals service × AreCapitals country
IsBody (Void id) = IsId id
IsBody (Query id) = IsId id
IsBody (DrawMany service country count) = AreCapitals service × AreCapitals country × IsCount count
IsBody (Withdraw range) = IsU32 range

-- A request is valid if its fields are in their ranges.
abbrev pub IsRequest : Request → Type 0
IsRequest q = IsU32 q.customer × IsU32 q.number × IsBody q.body

-- The bytes ask a request if they are its datagram.
abbrev pub Asks : List ℕ → Request → Type 0
Asks b q = IsRequest q × (b ≡ datagram 0 q)

-- A status is valid if its day is a u32.
abbrev pub IsStatus : Status → Type 0
IsStatus Unknown = ⊤
IsStatus Never = ⊤
IsStatus (Issued day) = IsU32 day
IsStatus (StatusVoided day) = IsU32 day

-- An outcome is valid if its fields are in their ranges.
abbrev pub IsOutcome : Outcome → Type 0
IsOutcome (Granted range) = IsU32 range
IsOutcome (Drawn day id) = IsU32 day × IsId id
IsOutcome (DrawnMany day ids) = IsU32 day × AreIds ids
IsOutcome (Told status) = IsStatus status
IsOutcome outcome = ⊤

-- A status in five bytes.
abbrev pub status_bytes : Status → List ℕ
status_bytes Unknown = 0 ∷ u32_bytes 0
status_bytes Never = 1 ∷ u32_bytes 0
status_bytes (Issued day) = 2 ∷ u32_bytes day
status_bytes (StatusVoided day) = 3 ∷ u32_bytes day

-- The outcome byte, and the fields that a Done reply has after it.
abbrev pub outcome_bytes : Outcome → List ℕ
outcome_bytes (Granted range) = 0 ∷ u32_bytes range
outcome_bytes (Drawn day id) = 0 ∷ u32_bytes day ++ spelling_of id
outcome_bytes (DrawnMany day ids) = 0 ∷ u32_bytes day ++ spellings_of ids
outcome_bytes Voided = 0 ∷ []
outcome_bytes (Told status) = 0 ∷ status_bytes status
outcome_bytes Withdrawn = 0 ∷ []
outcome_bytes NotThePost = 1 ∷ []
outcome_bytes BadGrant = 2 ∷ []
outcome_bytes Overlap = 3 ∷ []
outcome_bytes NoRange = 4 ∷ []
outcome_bytes NoneFree = 5 ∷ []
outcome_bytes NotYours = 6 ∷ []
outcome_bytes NotIssued = 7 ∷ []
outcome_bytes AlreadyVoid = 8 ∷ []
outcome_bytes NoSuchRange = 10 ∷ []
outcome_bytes Closed = 11 ∷ []
outcome_bytes NumberReused = 9 ∷ []

-- The bytes reply to a request with an outcome if it fits the request and they are the datagram of
-- that reply.
abbrev pub Replies : List ℕ → Request → Outcome → Type 0
Replies b q o =
    IsRequest q × IsOutcome o × IsTrue (fits q.body o) × (b ≡ datagram 0x80 q ++ outcome_bytes o)

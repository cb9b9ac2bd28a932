-- Requests and replies as lines of words.
use Rattle.std.specs.Prelude.{ℕ, List, [], ◌∷◌, ◌++◌, map, codes, decimal}
use Rattle.s10_core.specs.Letters.{letters_of}
use Rattle.s10_core.specs.Serial.{digits_of}
use Rattle.s10_core.specs.Id.{spelling_of}
use Rattle.s10_wire.specs.declared.body.Body.{Body}
use Rattle.s10_wire.specs.declared.body.Body.TheVariants.{Grant, Draw, Void, Query, DrawMany}
use Rattle.s10_wire.specs.declared.body.Body.TheVariants.{Withdraw}
use Rattle.s10_wire.specs.declared.request.Request.{Request}
use Rattle.s10_wire.specs.declared.status.Status.{Status}
use Rattle.s10_wire.specs.declared.status.Status.TheVariants.{Unknown, Never, Issued}
use Rattle.s10_wire.specs.declared.status.Status.TheVariants.{Voided as StatusVoided}
use Rattle.s10_wire.specs.declared.outcome.Outcome.{Outcome}
use Rattle.s10_wire.specs.declared.outcome.Outcome.TheVariants.{Granted, Drawn, DrawnMany, Voided}
use Rattle.s10_wire.specs.declared.outcome.Outcome.TheVariants.{Told, Withdrawn, NotThePost}
use Rattle.s10_wire.specs.declared.outcome.Outcome.TheVariants.{BadGrant, Overlap, NoRange}
use Rattle.s10_wire.specs.declared.outcome.Outcome.TheVariants.{NoneFree, NotYours, NotIssued}
use Rattle.s10_wire.specs.declared.outcome.Outcome.TheVariants.{AlreadyVoid, NoSuchRange, Closed}
use Rattle.s10_wire.specs.declared.outcome.Outcome.TheVariants.{NumberReused}

-- The words, with a space before each.
unfoldable pub spaced : List (List ℕ) → List ℕ
spaced [] = []
spaced (word ∷ words) = 32 ∷ word ++ spaced words

-- The line of a first word and others, with a space between them and a line feed at the end.
abbrev pub line_of : List ℕ → List (List ℕ) → List ℕ
line_of first words = first ++ spaced words ++ codes "\n"

-- The words of a body after its kind.
abbrev pub body_words : Body → List (List ℕ)
body_words (Grant holder service country first last) =
    codes "holder" ∷ decimal holder ∷ letters_of service ∷ letters_of country ∷ digits_of first
    ∷ digits_of last ∷ []
body_words (Draw service country) = letters_of service ∷ letters_of country ∷ []
body_words (Void id) = spelling_of id ∷ []
body_words (Query id) = spelling_of id ∷ []
body_words (DrawMany service country count) = letters_of service ∷ letters_of country
    ∷ decimal count ∷ []
body_words (Withdraw range) = decimal range ∷ []

-- The word of the kind of a body.
abbrev pub kind_word : Body → List ℕ
kind_word (Grant holder service country first last) = codes "grant"
kind_word (Draw service country) = codes "draw"
kind_word (Void id) = codes "void"
kind_word (Query id) = codes "query"
kind_word (DrawMany service country count) = codes "draw-many"
kind_word (Withdraw range) = codes "withdraw"

-- The words of a request.
abbrev pub request_words : Request → List (List ℕ)
request_words q =
    kind_word q.body ∷ codes "customer" ∷ decimal q.customer ∷ codes "number" ∷ decimal q.number
    ∷ body_words q.body

-- The words of a status.
abbrev pub status_words : Status → List (List ℕ)
status_words Unknown = codes "unknown" ∷ []
status_words Never = codes "never" ∷ []
status_words (Issued day) = codes "issued" ∷ decimal day ∷ []
status_words (StatusVoided day) = codes "voided" ∷ decimal day ∷ []

-- The words of an outcome.
abbrev pub outcome_words : Outcome → List (List ℕ)
outcome_words (Granted range) = codes "done" ∷ codes "range" ∷ decimal range ∷ []
outcome_words (Drawn day id) = codes "done" ∷ codes "day" ∷ decimal day ∷ spelling_of id ∷ []
outcome_words (DrawnMany day ids) = codes "done" ∷ codes "day" ∷ decimal day ∷ map spelling_of ids
outcome_words Voided = codes "done" ∷ []
outcome_words (Told status) = codes "done" ∷ status_words status
outcome_words Withdrawn = codes "done" ∷ []
outcome_words NotThePost = codes "not-the-post" ∷ []
outcome_words BadGrant = codes "bad-grant" ∷ []
outcome_words Overlap = codes "overlap" ∷ []
outcome_words NoRange = codes "no-range" ∷ []
outcome_words NoneFree = codes "none-free" ∷ []
outcome_words NotYours = codes "not-yours" ∷ []
outcome_words NotIssued = codes "not-issued" ∷ []
outcome_words AlreadyVoid = codes "already-void" ∷ []
outcome_words NoSuchRange = codes "no-such-range" ∷ []
outcome_words Closed = codes "closed" ∷ []
outcome_words NumberReused = codes "number-reused" ∷ []

-- The line of a request.
abbrev pub request_line : Request → List ℕ
request_line q = line_of (codes "request") (request_words q)

-- The line of a reply.
abbrev pub reply_line : Request → Outcome → List ℕ
reply_line q o = line_of (codes "reply") (request_words q ++ outcome_words o)

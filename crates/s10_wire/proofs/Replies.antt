-- A datagram has its request and its outcome at their offsets.
use Rattle.std.proofs.Common.{true, ◌≡◌, ℕ, ◌+◌, ◌-◌, ◌/◌, ◌^◌, ◌<◌, List, [], ◌∷◌, ◌++◌, length, drop, refl}
use Rattle.std.proofs.Common.{ap, ◌∙◌, arith}
use Rattle.std.proofs.lemmas.Nat.{from_be_bytes-to_be_bytes_4}
use Rattle.s10_core.proofs.Decimals.{number_of-digits_of}
use Rattle.s10_wire.specs.declared.body.Body.{Body}
use Rattle.s10_wire.specs.declared.body.Body.TheVariants.{Grant, Draw, Void, Query, DrawMany}
use Rattle.s10_wire.specs.declared.body.Body.TheVariants.{Withdraw}
use Rattle.s10_wire.specs.declared.request.Request.{Request}
use Rattle.s10_wire.specs.declared.status.Status.TheVariants as statuses
use Rattle.s10_wire.specs.declared.outcome.Outcome.{Outcome}
use Rattle.s10_wire.specs.declared.outcome.Outcome.TheVariants.{Granted, Drawn, DrawnMany, Voided}
use Rattle.s10_wire.specs.declared.outcome.Outcome.TheVariants.{Told, Withdrawn, NotThePost}
use Rattle.s10_wire.specs.declared.outcome.Outcome.TheVariants.{BadGrant, Overlap, NoRange}
use Rattle.s10_wire.specs.declared.outcome.Outcome.TheVariants.{NoneFree, NotYours, NotIssued}
use Rattle.s10_wire.specs.declared.outcome.Outcome.TheVariants.{AlreadyVoid, NoSuchRange, Closed}
use Rattle.s10_wire.specs.declared.outcome.Outcome.TheVariants.{NumberReused}
use Rattle.s10_wire.specs.Kind.{kind_of, code_of, version_of, request_length, fits}
use Rattle.std.specs.Prelude.{All}
use Rattle.std.proofs.lemmas.List.Elements.{All-head, All-tail}
use Rattle.s10_core.specs.declared.id.Id.{Id}
use Rattle.s10_core.specs.Id.{IsId}
use Rattle.s10_wire.specs.Ids.{spellings_of}
use Rattle.s10_wire.proofs.Many.{length-spellings}
use Rattle.s10_wire.specs.Datagrams.{u32_bytes, fields, datagram, outcome_bytes, IsBody}
use Rattle.s10_wire.specs.Datagrams.{IsRequest, IsOutcome, Replies}
use Rattle.s10_wire.specs.Replies.{body_from, ids_in, request_from, request_in, outcome_from}
use Rattle.s10_wire.specs.Replies.{outcome_in, reply_bytes}

abbrev pub asked : ℕ → ℕ → Body → Request
asked customer number body = record { customer = customer; number = number; body = body }

pub serial_fits : (n : ℕ) → n < 10 ^ 8 → n < 2 ^ 32
serial_fits n lt = omega arith

body_again : (mark customer number : ℕ) (body : Body) (rest : List ℕ) → IsBody body
    → body_from (code_of (kind_of body)) (0x53 ∷ 0x31 ∷ version_of (kind_of body)
    ∷ (code_of (kind_of body) + mark) ∷ (u32_bytes customer ++ u32_bytes number ++ fields body
    ++ rest)) ≡ body
unfolding body_from
body_again mark customer number (Grant holder service country first last) rest ok =
    rw (
      from_be_bytes-to_be_bytes_4 holder ok.0,
      from_be_bytes-to_be_bytes_4 first (serial_fits first ok.3),
      from_be_bytes-to_be_bytes_4 last (serial_fits last ok.4),
    ) refl
body_again mark customer number (Draw service country) rest ok = refl
body_again mark customer number (Void id) rest ok = rw (number_of-digits_of id.serial ok.serial)
    refl
body_again mark customer number (Query id) rest ok = rw (number_of-digits_of id.serial ok.serial)
    refl
body_again mark customer number (DrawMany service country count) rest ok = refl
body_again mark customer number (Withdraw range) rest ok = rw (from_be_bytes-to_be_bytes_4 range ok)
    refl

same_asked : (c d m n : ℕ) (a b : Body) → c ≡ d → m ≡ n → a ≡ b → asked c m a ≡ asked d n b
same_asked c d m n a b p q r = cc

-- The datagram of a request has its parts at their offsets.
pub request_again : (mark : ℕ) (q : Request) (rest : List ℕ) → IsRequest q
    → request_from mark (datagram mark q ++ rest) ≡ q
request_again mark q rest ok =
    let code : code_of (kind_of q.body) + mark - mark ≡ code_of (kind_of q.body) = omega arith in
    same_asked _ q.customer _ q.number _ q.body (from_be_bytes-to_be_bytes_4 q.customer ok.0)
    (from_be_bytes-to_be_bytes_4 q.number ok.1)
    (ap (λ (k : ℕ). body_from k (datagram mark q ++ rest)) code
    ∙ body_again mark q.customer q.number q.body rest ok.2)

ids_again : (ids : List Id) → All IsId ids → ids_in (length ids) (spellings_of ids) ≡ ids
ids_again [] ok = refl
ids_again (id ∷ ids) ok =
    rw (
      number_of-digits_of id.serial (All-head IsId id ids ok).serial,
      ids_again ids (All-tail IsId id ids ok),
    ) refl

outcome_again : (body : Body) (o : Outcome) → IsOutcome o → fits body o ≡ true
    → outcome_from (kind_of body) (outcome_bytes o) ≡ o
unfolding outcome_from
outcome_again body NotThePost ok fit = refl
outcome_again body BadGrant ok fit = refl
outcome_again body Overlap ok fit = refl
outcome_again body NoRange ok fit = refl
outcome_again body NoneFree ok fit = refl
outcome_again body NotYours ok fit = refl
outcome_again body NotIssued ok fit = refl
outcome_again body AlreadyVoid ok fit = refl
outcome_again body NoSuchRange ok fit = refl
outcome_again body Closed ok fit = refl
outcome_again body NumberReused ok fit = refl
outcome_again (Grant h s t f l) (Granted range) ok fit = rw (from_be_bytes-to_be_bytes_4 range ok)
    refl
outcome_again (Draw s t) (Drawn day id) ok fit = rw (
  from_be_bytes-to_be_bytes_4 day ok.0,
  number_of-digits_of id.serial ok.1.serial,
) refl
outcome_again (DrawMany s t count) (DrawnMany day ids) ok fit =
    let bytes : List ℕ = outcome_bytes (DrawnMany day ids) in
    let many : length bytes / 13 ≡ length ids = omega (arith, length-spellings ids) in
    ap (λ (d : ℕ). DrawnMany d (ids_in (length bytes / 13) (spellings_of ids)))
    (from_be_bytes-to_be_bytes_4 day ok.0)
    ∙ ap (λ (k : ℕ). DrawnMany day (ids_in k (spellings_of ids))) many
    ∙ ap (DrawnMany day) (ids_again ids ok.1.1)
outcome_again (Query id) (Told statuses.Unknown) ok fit = refl
outcome_again (Query id) (Told statuses.Never) ok fit = refl
outcome_again (Query id) (Told (statuses.Issued day)) ok fit =
    rw (from_be_bytes-to_be_bytes_4 day ok) refl
outcome_again (Query id) (Told (statuses.Voided day)) ok fit =
    rw (from_be_bytes-to_be_bytes_4 day ok) refl
outcome_again (Withdraw range) Withdrawn ok fit = refl
outcome_again (Void id) Voided ok fit = refl
outcome_again body o ok fit = absurd cc

-- The bytes after those of the request.
after_request : (customer number : ℕ) (body : Body) (rest : List ℕ)
    → drop (request_length (kind_of body)) (datagram 0x80 (asked customer number body) ++ rest)
    ≡ rest
after_request customer number (Grant h s t f l) rest = refl
after_request customer number (Draw s t) rest = refl
after_request customer number (DrawMany s t count) rest = refl
after_request customer number (Withdraw range) rest = refl
after_request customer number (Void id) rest = refl
after_request customer number (Query id) rest = refl

-- Bytes that are a reply give its request and its outcome.
pub replies_read : (b : List ℕ) (q : Request) (o : Outcome) → Replies b q o → (request_in b ≡ q)
    × (outcome_in b ≡ o)
replies_read b q o r =
    let bytes : List ℕ = datagram 0x80 q ++ outcome_bytes o in
    let same : request_in bytes ≡ q = request_again 0x80 q (outcome_bytes o) r.0 in (
      ap request_in r.3 ∙ same,
      ap outcome_in r.3
          ∙ ap (λ (p : Request). outcome_from (kind_of p.body)
          (drop (request_length (kind_of p.body)) bytes)) same
          ∙ ap (outcome_from (kind_of q.body))
          (after_request q.customer q.number q.body (outcome_bytes o))
          ∙ outcome_again q.body o r.1 r.2,
    )

-- The bytes of a reply are its datagram.
pub reply_replies : (q : Request) (o : Outcome) (b : List ℕ) → Replies b q o → b ≡ reply_bytes q o
unfolding reply_bytes
reply_replies q o b r = r.3

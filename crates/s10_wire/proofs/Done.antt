-- The fields after the outcome byte of a Done reply.
use Rattle.std.proofs.Common.{◌≡◌, ℕ, ◌+◌, ◌*◌, ◌<◌, ◌≤◌, List, ◌∷◌, ◌++◌, length, get_or, drop}
use Rattle.std.proofs.Common.{sym, ap, subst, ◌∙◌, arith, append_assoc}
use Rattle.std.proofs.lemmas.List.{drop_more, get_or-drop}
use Rattle.s10_core.specs.declared.id.Id.{Id}
use Rattle.s10_core.specs.Id.{IsId, spelling_of}
use Rattle.s10_wire.specs.declared.body.Body.{Body}
use Rattle.s10_wire.specs.declared.body.Body.TheVariants.{Draw, DrawMany}
use Rattle.s10_wire.specs.declared.outcome.Outcome.{Outcome}
use Rattle.s10_wire.specs.declared.outcome.Outcome.TheVariants.{Drawn, DrawnMany}
use Rattle.s10_wire.specs.Kind.{kind_of, request_length, done_length}
use Rattle.s10_wire.specs.Datagrams.{u32_bytes, fields, outcome_bytes, IsU32, IsOutcome}
use Rattle.s10_wire.specs.Ids.{AreIds, spellings_of}
use Rattle.s10_wire.specs.WireFault.{byte, first_refusal, identifier_fields, done_fields}

-- A reply to this body is done if it is long enough, and the byte after the request is 0.
abbrev IsDone : List ℕ → Body → Type 0
IsDone b body = (done_length (kind_of body) b ≤ length b)
    × (byte b (request_length (kind_of body)) ≡ 0)

-- The bytes of the outcome follow the request.
abbrev Stands : List ℕ → Body → Outcome → Type 0
Stands b body o = IsOutcome o × (drop (request_length (kind_of body)) b ≡ outcome_bytes o
    ++ drop (done_length (kind_of body) b) b)

-- A byte and those after it.
pub after_byte : (b tail : List ℕ) (at n : ℕ) → at < length b → byte b at ≡ n → drop (at + 1) b
    ≡ tail → drop at b ≡ n ∷ tail
after_byte b tail at n within is rest = drop_more b at 0 within
    ∙ ap (λ (x : ℕ). x ∷ drop (at + 1) b) is ∙ ap (λ (l : List ℕ). n ∷ l) rest

-- The outcome byte 0, a day and identifiers, read one after the other, are all bytes up to an
-- offset.
after_done : (b day ids : List ℕ) (at upto : ℕ) → at < length b → byte b at ≡ 0 → drop (at + 1) b
    ≡ day ++ drop (at + 5) b → drop (at + 5) b ≡ ids ++ drop upto b
    → drop at b ≡ (0 ∷ day ++ ids) ++ drop upto b
after_done b day ids at upto lt done day_read ids_read =
    drop_more b at 0 lt
    ∙ ap (λ (n : ℕ). n ∷ drop (at + 1) b) done
    ∙ ap (λ (l : List ℕ). 0 ∷ l) (day_read ∙ ap (λ (l : List ℕ). day ++ l) ids_read
    ∙ sym (append_assoc day ids (drop upto b)))

-- A day and an identifier that were read are the fields of a Done Draw.
pub drawn_read : (b : List ℕ) (body : Body) (service country : ℕ × ℕ) (day : ℕ) (id : Id)
    → body ≡ Draw service country → IsDone b body → IsU32 day → drop 17 b ≡ u32_bytes day
    ++ drop 21 b → IsId id × (drop 21 b ≡ spelling_of id ++ drop 34 b)
    → Stands b body (Drawn day id)
drawn_read b body service country day id is done fits day_read id_read =
    let P : Body → Type 0 = λ (x : Body). IsDone b x → Stands b x (Drawn day id) in
    subst P (sym is) (λ here. (
      (fits, id_read.0),
      after_done b (u32_bytes day) (spelling_of id) 16
          34 (omega (arith, here.0)) here.1 day_read id_read.1,
    )) done

-- The number of identifiers that the request asks for.
pub asked_count : (b : List ℕ) (service country : ℕ × ℕ) (count : ℕ)
    → drop 12 b ≡ fields (DrawMany service country count) ++ drop 17 b → count ≡ byte b 16
asked_count b service country count begins = sym (ap (λ (l : List ℕ). get_or l 4 0) begins)
    ∙ get_or-drop 12 b 4 0

-- A day and as many identifiers as the request asks for are the fields of a Done sheet.
pub drawn_many_read : (b : List ℕ) (body : Body) (service country : ℕ × ℕ) (count day : ℕ)
    (ids : List Id) → body ≡ DrawMany service country count → IsDone b body
    → drop 12 b ≡ fields body ++ drop (request_length (kind_of body)) b → IsU32 day
    → drop 18 b ≡ u32_bytes day ++ drop 22 b
    → AreIds ids × (length ids ≡ count) × (drop 22 b ≡ spellings_of ids ++ drop (22 + 13 * count) b)
    → Stands b body (DrawnMany day ids)
drawn_many_read b body service country count day ids is done begins fits day_read ids_read =
    let P : Body → Type 0 = λ (x : Body). IsDone b x → drop 12 b ≡ fields x
    ++ drop (request_length (kind_of x)) b → Stands b x (DrawnMany day ids) in
    subst P (sym is) (λ here starts.
    let asked : count ≡ byte b 16 = asked_count b service country count starts in
    let read : drop 22 b ≡ spellings_of ids ++ drop (22 + 13 * byte b 16) b = ids_read.2
    ∙ ap (λ (n : ℕ). spellings_of ids ++ drop (22 + 13 * n) b) asked in (
      (fits, ids_read.0),
      after_done b (u32_bytes day) (spellings_of ids) 17 (22 + 13 * byte b 16)
          (omega (arith, here.0)) here.1 day_read read,
    )) done begins

-- The first refused identifier, among as many as the request asks for, is the first refused field
-- of a Done sheet.
pub many_refused : (b : List ℕ) (body : Body) (service country : ℕ × ℕ) (count : ℕ)
    → body ≡ DrawMany service country count → drop 12 b ≡ fields body
    ++ drop (request_length (kind_of body)) b
    → first_refusal (identifier_fields 22 count b) ≡ first_refusal (done_fields (kind_of body) b)
many_refused b body service country count is begins =
    let P : Body → Type 0 = λ (x : Body). drop 12 b ≡ fields x ++ drop (request_length (kind_of x))
    b → first_refusal (identifier_fields 22 count b)
    ≡ first_refusal (done_fields (kind_of x) b) in
    subst P (sym is) (λ starts. ap (λ (n : ℕ). first_refusal (identifier_fields 22 n b))
    (asked_count b service country count starts)) begins

-- The digits of a datagram, and the bytes that they decode to.
use Rattle.std.proofs.Common.{◌≡◌, ℕ, zero, suc, ◌+◌, ◌*◌, ◌<◌, List, [], ◌∷◌, ◌++◌, length}
use Rattle.std.proofs.Common.{Result, Ok, Err, arith, lit<, ap, ◌∙◌}
use Rattle.std.specs.Prelude.{MatchResult}
use Rattle.hex.specs.declared.error.FromHexError.{FromHexError}
use Rattle.hex.specs.Hex.{IsBytes, encode_lower, decode_sized, lower_digits}
use Rattle.hex.proofs.HexLemmas.{decode_sized-encode_lower, length-encode_with}
use Rattle.s10_core.specs.declared.id.Id.{Id}
use Rattle.s10_core.specs.Letters.{AreCapitals, letters_of}
use Rattle.s10_core.specs.Serial.{digits_of, digit_of, check_digit_of, character_of}
use Rattle.s10_core.specs.Id.{IsId, spelling_of}
use Rattle.s10_wire.specs.declared.body.Body.{Body}
use Rattle.s10_wire.specs.declared.body.Body.TheVariants.{Grant, Draw, Void, Query, DrawMany}
use Rattle.s10_wire.specs.declared.body.Body.TheVariants.{Withdraw}
use Rattle.s10_wire.specs.declared.request.Request.{Request}
use Rattle.s10_wire.specs.declared.kind.Kind.{Kind}
use Rattle.s10_wire.specs.declared.kind.Kind.TheVariants as kinds
use Rattle.s10_wire.specs.Kind.{kind_of, code_of, version_of}
use Rattle.s10_wire.specs.Datagrams.{datagram, fields, u32_bytes, IsRequest, IsBody}

-- Each number is a byte.
pub data AreBytes : List ℕ → Type 0 where
  none : AreBytes []
  more : {x : ℕ} {xs : List ℕ} → x < 256 → AreBytes xs → AreBytes (x ∷ xs)

indexed : (xs : List ℕ) → AreBytes xs → IsBytes xs
indexed [] none i = lit< tt
indexed (x ∷ xs) (more h hs) zero = h
indexed (x ∷ xs) (more h hs) (suc i) = indexed xs hs i

both : (xs ys : List ℕ) → AreBytes xs → AreBytes ys → AreBytes (xs ++ ys)
both [] ys none hy = hy
both (x ∷ xs) ys (more h hs) hy = more h (both xs ys hs hy)

number : (n : ℕ) → AreBytes (u32_bytes n)
number n = more (omega arith) (more (omega arith) (more (omega arith)
    (more (omega arith) none)))

letters : (pair : ℕ × ℕ) → AreCapitals pair → AreBytes (letters_of pair)
letters pair h =
    let first : pair.0 < 256 = omega (arith, h.0.1) in
    let second : pair.1 < 256 = omega (arith, h.1.1) in
    more first (more second none)

digit : (serial place : ℕ) → character_of (digit_of serial place) < 256
digit serial place = omega arith

digits : (serial : ℕ) → AreBytes (digits_of serial)
digits s = more (digit s 1) (more (digit s 2) (more (digit s 3) (more (digit s 4)
    (more (digit s 5) (more (digit s 6) (more (digit s 7) (more (digit s 8)
    none)))))))

check_digit : (serial : ℕ) → character_of (check_digit_of serial) < 256
unfolding check_digit_of
check_digit serial = grind arith

spelling : (id : Id) → IsId id → AreBytes (spelling_of id)
spelling id h =
    both (letters_of id.service ++ digits_of id.serial ++ character_of (check_digit_of id.serial)
    ∷ []) (letters_of id.country)
    (both (letters_of id.service ++ digits_of id.serial) (character_of (check_digit_of id.serial)
    ∷ [])
    (both (letters_of id.service) (digits_of id.serial) (letters id.service h.service)
    (digits id.serial))
    (more (check_digit id.serial) none))
    (letters id.country h.country)

pair : (service country : ℕ × ℕ) → AreCapitals service → AreCapitals country
    → AreBytes (letters_of service ++ letters_of country)
pair service country hs hc = both (letters_of service) (letters_of country) (letters service hs)
    (letters country hc)

body_bytes : (body : Body) → IsBody body → AreBytes (fields body)
body_bytes (Grant holder service country first last) h =
    both (u32_bytes holder ++ letters_of service ++ letters_of country ++ u32_bytes first)
    (u32_bytes last)
    (both (u32_bytes holder ++ letters_of service ++ letters_of country) (u32_bytes first)
    (both (u32_bytes holder ++ letters_of service) (letters_of country)
    (both (u32_bytes holder) (letters_of service) (number holder) (letters service h.1))
    (letters country h.2)) (number first)) (number last)
body_bytes (Draw service country) h = pair service country h.0 h.1
body_bytes (Void id) h = spelling id h
body_bytes (Query id) h = spelling id h
body_bytes (DrawMany service country count) h =
    let small : count < 256 = omega (arith, h.2.1) in
    both (letters_of service ++ letters_of country) (count ∷ []) (pair service country h.0 h.1)
    (more small none)
body_bytes (Withdraw range) h = number range

version : (kind : Kind) → version_of kind < 256
version kinds.Grant = lit< tt
version kinds.Draw = lit< tt
version kinds.Void = lit< tt
version kinds.Query = lit< tt
version kinds.DrawMany = lit< tt
version kinds.Withdraw = lit< tt

code : (kind : Kind) → code_of kind + 0 < 256
code kinds.Grant = lit< tt
code kinds.Draw = lit< tt
code kinds.Void = lit< tt
code kinds.Query = lit< tt
code kinds.DrawMany = lit< tt
code kinds.Withdraw = lit< tt

-- Each byte of a datagram is below 256.
pub datagram_bytes : (q : Request) → IsRequest q → IsBytes (datagram 0 q)
datagram_bytes q h =
    let heading : List ℕ = 0x53 ∷ 0x31 ∷ version_of (kind_of q.body) ∷ (code_of (kind_of q.body) + 0)
    ∷ [] in
    let header : AreBytes heading = more (lit< tt) (more (lit< tt)
    (more (version (kind_of q.body))
    (more (code (kind_of q.body)) none))) in
    indexed (datagram 0 q) (both (heading ++ u32_bytes q.customer ++ u32_bytes q.number)
    (fields q.body)
    (both (heading ++ u32_bytes q.customer) (u32_bytes q.number)
    (both heading (u32_bytes q.customer) header (number q.customer)) (number q.number))
    (body_bytes q.body h.2))

-- The number of digits is twice that of bytes.
pub digits_length : (digits bytes : List ℕ) → digits ≡ encode_lower bytes
    → length digits ≡ 2 * length bytes
digits_length digits bytes is = ap length is ∙ length-encode_with lower_digits bytes

abbrev pub IsDone : Result (Unit {0}) FromHexError → Type 0
IsDone r = r ≡ Ok tt

-- Digits of bytes decode to these bytes, in a room of their length.
pub digits_decode : (digits bytes out : List ℕ) (n : ℕ) (r : Result (Unit {0}) FromHexError)
    → IsBytes bytes → digits ≡ encode_lower bytes
    → MatchResult (decode_sized digits n) (λ read. (r ≡ Ok tt) × (out ≡ read)) (λ e. r ≡ Err e)
    → length bytes ≡ n → (r ≡ Ok tt) × (out ≡ bytes)
digits_decode digits bytes out n r small is m same =
    rw (is, decode_sized-encode_lower bytes n same small) at m

-- Encoding and decoding requests: the result and the struct that it writes.
use Rattle.std.specs.Prelude.{◌≡◌, ℕ, ◌≤◌, ◌⊎◌, List, [], ◌∷◌, ◌++◌, length, take, replicate, All}
use Rattle.std.specs.Prelude.{Result, Ok, Err, IfOk, IfErr}
use Rattle.s10_core.specs.declared.id.Id.{Id}
use Rattle.s10_core.specs.Letters.{IsCapital, letters_of}
use Rattle.s10_core.specs.Serial.{IsSerial}
use Rattle.s10_core.specs.Id.{spelling_of}
use Rattle.s10_core.specs.TextFault.{IsFirstRefusal}
use Rattle.s10_wire.specs.declared.body.Body.{Body}
use Rattle.s10_wire.specs.declared.body.Body.TheVariants.{Grant, Draw, Void, Query, DrawMany}
use Rattle.s10_wire.specs.declared.body.Body.TheVariants.{Withdraw}
use Rattle.s10_wire.specs.declared.request.Request.{Request}
use Rattle.s10_wire.specs.declared.wire_fault.WireFault.{WireFault}
use Rattle.s10_wire.specs.declared.wire_fault.WireFault.TheVariants as wire
use Rattle.s10_wire.specs.Ids.{IsCount}
use Rattle.s10_wire.specs.Padding.{zero_padded}
use Rattle.s10_wire.specs.Datagrams.{datagram, IsRequest, Asks}
use Rattle.s10_wire.specs.WireFault.{IsFirstRefusalOfRequest}
use Rattle.s10_plain.specs.declared.result_code.ResultCode.{ResultCode}
use Rattle.s10_plain.specs.declared.plain_id.PlainId.{PlainId}
use Rattle.s10_plain.specs.declared.plain_request.PlainRequest.{PlainRequest}
use Rattle.s10_plain.specs.declared.plain_frame.PlainFrame.{PlainFrame}
use Rattle.s10_plain.specs.declared.field_fault.FieldFault.{FieldFault}
use Rattle.s10_plain.specs.declared.field_fault.FieldFault.TheVariants as field
use Rattle.s10_plain.specs.Identifiers.{success_code, code_of_text_fault, plain_id_of}

-- The code of a datagram that is refused is that of its first refusal, with its offset.
abbrev pub code_of_wire_fault : WireFault → ResultCode
code_of_wire_fault wire.Short = record { code = 11; at = 0 }
code_of_wire_fault wire.Magic = record { code = 12; at = 0 }
code_of_wire_fault wire.Version = record { code = 13; at = 0 }
code_of_wire_fault wire.Kind = record { code = 14; at = 0 }
code_of_wire_fault wire.Length = record { code = 15; at = 0 }
code_of_wire_fault (wire.Field at) = record { code = 16; at = at }
code_of_wire_fault wire.Outcome = record { code = 17; at = 0 }

-- The code of a wrong field is its own, and that of the refusal for a text.
abbrev pub code_of_field_fault : FieldFault → ResultCode
code_of_field_fault field.Kind = record { code = 31; at = 0 }
code_of_field_fault field.Service = record { code = 32; at = 0 }
code_of_field_fault field.Country = record { code = 33; at = 0 }
code_of_field_fault field.First = record { code = 34; at = 0 }
code_of_field_fault field.Last = record { code = 35; at = 0 }
code_of_field_fault field.Count = record { code = 36; at = 0 }
code_of_field_fault (field.Text fault) = code_of_text_fault fault

-- Letters that a request lacks are zeros.
abbrev pub no_letters : List ℕ
no_letters = 0 ∷ 0 ∷ []

-- A text that a request lacks is zeros.
abbrev pub no_text : List ℕ
no_text = replicate 14 0

-- The struct of a kind alone has customer, number and kind; all other fields are zero.
abbrev pub plain_of_kind : ℕ → ℕ → ℕ → PlainRequest
plain_of_kind customer number kind = record {
  customer = customer;
  number = number;
  holder = 0;
  first = 0;
  «last» = 0;
  range = 0;
  kind = kind;
  count = 0;
  service = no_letters;
  country = no_letters;
  text = no_text;
}

-- The struct of a body has its fields, and zero for those that its kind lacks.
abbrev pub plain_body_of : ℕ → ℕ → Body → PlainRequest
plain_body_of customer number (Grant holder service country first lst) =
    record (plain_of_kind customer number 1) {
      holder = holder;
      first = first;
      «last» = lst;
      service = letters_of service;
      country = letters_of country;
    }
plain_body_of customer number (Draw service country) = record (plain_of_kind customer number 2) {
  service = letters_of service;
  country = letters_of country;
}
plain_body_of customer number (Void id) = record (plain_of_kind customer number 3) {
  text = spelling_of id ++ 0 ∷ [];
}
plain_body_of customer number (Query id) = record (plain_of_kind customer number 4) {
  text = spelling_of id ++ 0 ∷ [];
}
plain_body_of customer number (DrawMany service country count) =
    record (plain_of_kind customer number 5) {
      count = count;
      service = letters_of service;
      country = letters_of country;
    }
plain_body_of customer number (Withdraw range) = record (plain_of_kind customer number 6) {
  range = range;
}

-- The struct of a request has its customer, its number and its body.
abbrev pub plain_request_of : Request → PlainRequest
plain_request_of q = plain_body_of q.customer q.number q.body

-- The code of a decoding is success or that of its refusal.
abbrev pub code_of_decode : Result Request WireFault → ResultCode
code_of_decode (Ok q) = success_code
code_of_decode (Err fault) = code_of_wire_fault fault

-- The struct after a decoding is that of the request, or as before if refused.
abbrev pub request_after : Result Request WireFault → PlainRequest → PlainRequest
request_after (Ok q) before = plain_request_of q
request_after (Err fault) before = before

-- Bytes are decoded as the request that they ask, or refused with their first refusal.
abbrev pub DecodesRequest : List ℕ → ResultCode → PlainRequest → PlainRequest → Type 0
DecodesRequest bytes result before after =
    (read : Result Request WireFault) × IfOk read (Asks bytes)
    × IfErr read (IsFirstRefusalOfRequest bytes)
    × (result ≡ code_of_decode read) × (after ≡ request_after read before)

-- The fields match a body if they have its kind and its parts; other fields may be anything.
abbrev pub MatchesBody : PlainRequest → Body → Type 0
MatchesBody fields (Grant holder service country first lst) =
    (fields.kind ≡ 1) × (fields.holder ≡ holder) × (letters_of service ≡ fields.service)
    × (letters_of country ≡ fields.country)
    × (fields.first ≡ first) × (fields.«last» ≡ lst)
MatchesBody fields (Draw service country) = (fields.kind ≡ 2)
    × (letters_of service ≡ fields.service) × (letters_of country ≡ fields.country)
MatchesBody fields (Void id) = (fields.kind ≡ 3) × (take 13 fields.text ≡ spelling_of id)
MatchesBody fields (Query id) = (fields.kind ≡ 4) × (take 13 fields.text ≡ spelling_of id)
MatchesBody fields (DrawMany service country count) =
    (fields.kind ≡ 5) × (letters_of service ≡ fields.service)
    × (letters_of country ≡ fields.country) × (fields.count ≡ count)
MatchesBody fields (Withdraw range) = (fields.kind ≡ 6) × (fields.range ≡ range)

-- The fields match a request if they have its customer, its number and its body.
abbrev pub MatchesRequest : PlainRequest → Request → Type 0
MatchesRequest fields q = (fields.customer ≡ q.customer) × (fields.number ≡ q.number)
    × MatchesBody fields q.body

-- The kind has letters if it is a grant, a draw or a draw-many.
abbrev pub HasLetters : ℕ → Type 0
HasLetters kind = (kind ≡ 1) ⊎ ((kind ≡ 2) ⊎ (kind ≡ 5))

-- The fault applies to the fields, and no fault before it does.
abbrev pub IsFirstFieldFault : PlainRequest → FieldFault → Type 0
IsFirstFieldFault fields field.Kind = ¬ ((1 ≤ fields.kind) × (fields.kind ≤ 6))
IsFirstFieldFault fields field.Service = HasLetters fields.kind × ¬ All IsCapital fields.service
IsFirstFieldFault fields field.Country = HasLetters fields.kind × All IsCapital fields.service
    × ¬ All IsCapital fields.country
IsFirstFieldFault fields field.First = (fields.kind ≡ 1) × All IsCapital fields.service
    × All IsCapital fields.country × ¬ IsSerial fields.first
IsFirstFieldFault fields field.Last =
    (fields.kind ≡ 1) × All IsCapital fields.service × All IsCapital fields.country
    × IsSerial fields.first × ¬ IsSerial fields.«last»
IsFirstFieldFault fields field.Count = (fields.kind ≡ 5) × All IsCapital fields.service
    × All IsCapital fields.country × ¬ IsCount fields.count
IsFirstFieldFault fields (field.Text fault) = ((fields.kind ≡ 3) ⊎ (fields.kind ≡ 4))
    × IsFirstRefusal (take 13 fields.text) fault

-- The frame of bytes has their number and the bytes, padded with zeros.
abbrev pub frame_of : List ℕ → PlainFrame
frame_of bytes = record { len = length bytes; bytes = zero_padded 28 bytes }

-- The code of an encoding is success or that of the first wrong field.
abbrev pub code_of_encode : Result Request FieldFault → ResultCode
code_of_encode (Ok q) = success_code
code_of_encode (Err fault) = code_of_field_fault fault

-- The frame after an encoding is the datagram of the request, or as before if refused.
abbrev pub frame_after : Result Request FieldFault → PlainFrame → PlainFrame
frame_after (Ok q) before = frame_of (datagram 0 q)
frame_after (Err fault) before = before

-- Fields are encoded as the request that they match, or refused with their first fault.
abbrev pub EncodesRequest : PlainRequest → ResultCode → PlainFrame → PlainFrame → Type 0
EncodesRequest fields result before after =
    (read : Result Request FieldFault) × IfOk read IsRequest × IfOk read (MatchesRequest fields)
    × IfErr read (IsFirstFieldFault fields)
    × (result ≡ code_of_encode read) × (after ≡ frame_after read before)

-- The parts are those of the identifier.
abbrev pub HasParts : List ℕ → ℕ → List ℕ → Id → Type 0
HasParts service serial country id =
    (letters_of id.service ≡ service) × (id.serial ≡ serial) × (letters_of id.country ≡ country)

-- The fault applies to the parts, and no fault before it does.
abbrev pub IsFirstPartFault : List ℕ → ℕ → List ℕ → FieldFault → Type 0
IsFirstPartFault service serial country field.Service = ¬ All IsCapital service
IsFirstPartFault service serial country field.First = All IsCapital service × ¬ IsSerial serial
IsFirstPartFault service serial country field.Country = All IsCapital service × IsSerial serial
    × ¬ All IsCapital country
IsFirstPartFault service serial country fault = ⊥

-- The code of a making is success or that of the first wrong part.
abbrev pub code_of_make : Result Id FieldFault → ResultCode
code_of_make (Ok id) = success_code
code_of_make (Err fault) = code_of_field_fault fault

-- The struct after a making is that of the identifier, or as before if refused.
abbrev pub made_id_after : Result Id FieldFault → PlainId → PlainId
made_id_after (Ok id) before = plain_id_of id
made_id_after (Err fault) before = before

-- Parts make the identifier that has them, or are refused with their first fault.
abbrev pub MakesId : List ℕ → ℕ → List ℕ → ResultCode → PlainId → PlainId → Type 0
MakesId service serial country result before after =
    (made : Result Id FieldFault) × IfOk made (HasParts service serial country)
    × IfErr made (IsFirstPartFault service serial country)
    × (result ≡ code_of_make made) × (after ≡ made_id_after made before)

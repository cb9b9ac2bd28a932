-- Why bytes are not a request, or not a reply: conditions in order, each on the bytes alone.
use Rattle.std.specs.Prelude.{◌≡◌, ℕ, zero, suc, ◌+◌, ◌-◌, ◌==◌, nat_le, nat_lt, Bool, not, ◌&&◌}
use Rattle.std.specs.Prelude.{◌||◌, if◌then◌else◌, List, [], ◌∷◌, ◌++◌, length, take, drop}
use Rattle.std.specs.Prelude.{slice_index, Option, Some, None, is_none}
use Rattle.std.specs.Int.{w32, from_be_bytes}
use Rattle.std.specs.Char.{is_ascii_digit}
use Rattle.std.specs.List.{list_all}
use Rattle.s10_core.specs.Serial.{number_of, check_digit_of, character_of}
use Rattle.s10_wire.specs.declared.wire_fault.WireFault.{WireFault}
use Rattle.s10_wire.specs.declared.wire_fault.WireFault.TheVariants.{Short, Magic, Version}
use Rattle.s10_wire.specs.declared.wire_fault.WireFault.TheVariants.{Kind as KindFault, Length}
use Rattle.s10_wire.specs.declared.wire_fault.WireFault.TheVariants.{Field, Outcome}
use Rattle.s10_wire.specs.declared.kind.Kind.{Kind}
use Rattle.s10_wire.specs.declared.kind.Kind.TheVariants.{Grant, Draw, Void, Query, DrawMany}
use Rattle.s10_wire.specs.declared.kind.Kind.TheVariants.{Withdraw}
use Rattle.s10_wire.specs.Kind.{kind_of_codes, request_length, is_reply_long}

-- The first refusal whose condition holds, in a list of conditions and refusals.
abbrev pub first_refusal : List (Bool × WireFault) → Option WireFault
first_refusal [] = None
first_refusal (refusal ∷ more) = if refusal.0 then Some refusal.1 else first_refusal more

-- The byte at an offset.
abbrev pub byte : List ℕ → ℕ → ℕ
byte b at = slice_index b at

-- The number in the four bytes at an offset.
abbrev pub number : List ℕ → ℕ → ℕ
number b at = from_be_bytes w32 (take 4 (drop at b))

-- Whether a byte is a capital ASCII letter.
abbrev pub is_capital : ℕ → Bool
is_capital c = nat_le 65 c && nat_le c 90

-- Whether the two bytes at an offset are capital letters.
abbrev pub are_letters : List ℕ → ℕ → Bool
are_letters b at = is_capital (byte b at) && is_capital (byte b (at + 1))

-- Whether the four bytes at an offset are a serial number.
abbrev pub is_serial : List ℕ → ℕ → Bool
is_serial b at = nat_lt (number b at) 100000000

-- Whether a text is two capital letters, eight digits, their check digit and two capital letters.
abbrev pub is_spelling : List ℕ → Bool
is_spelling text =
    let digits = take 8 (drop 2 text) in
    are_letters text 0 && list_all is_ascii_digit digits
    && byte text 10 == character_of (check_digit_of (number_of digits)) && are_letters text 11

-- Whether the 13 bytes at an offset spell an identifier.
abbrev pub is_identifier : List ℕ → ℕ → Bool
is_identifier b at = is_spelling (take 13 (drop at b))

-- Whether a number is from 1 to 16.
abbrev pub is_count : ℕ → Bool
is_count n = nat_le 1 n && nat_le n 16

-- The kind that the header names, with `mark` added to the kind byte.
abbrev pub kind_named : ℕ → List ℕ → Option Kind
kind_named mark b = kind_of_codes (byte b 2) (byte b 3 - mark)

-- The refusals of a header.
abbrev pub header_refusals : ℕ → List ℕ → List (Bool × WireFault)
header_refusals mark b =
    (nat_lt (length b) 12, Short)
    ∷ (not (byte b 0 == 0x53 && byte b 1 == 0x31), Magic)
    ∷ (not (byte b 2 == 1 || byte b 2 == 2), Version)
    ∷ (is_none (kind_named mark b), KindFault) ∷ []

-- The refusals after a header, by the kind that it names.
abbrev pub of_kind : Option Kind → (Kind → List (Bool × WireFault)) → List (Bool × WireFault)
of_kind None refusals = []
of_kind (Some kind) refusals = refusals kind

-- The refusals of the fields of a request, from left to right.
abbrev pub request_fields : Kind → List ℕ → List (Bool × WireFault)
request_fields Grant b =
    (not (are_letters b 16), Field 16) ∷ (not (are_letters b 18), Field 18)
    ∷ (not (is_serial b 20), Field 20) ∷ (not (is_serial b 24), Field 24) ∷ []
request_fields Draw b = (not (are_letters b 12), Field 12) ∷ (not (are_letters b 14), Field 14) ∷ []
request_fields Void b = (not (is_identifier b 12), Field 12) ∷ []
request_fields Query b = (not (is_identifier b 12), Field 12) ∷ []
request_fields DrawMany b =
    (not (are_letters b 12), Field 12) ∷ (not (are_letters b 14), Field 14)
    ∷ (not (is_count (byte b 16)), Field 16) ∷ []
request_fields Withdraw b = []

-- The refusals of `count` identifiers, one after the other from an offset on.
abbrev pub identifier_fields : ℕ → ℕ → List ℕ → List (Bool × WireFault)
identifier_fields at zero b = []
identifier_fields at (suc count) b = (not (is_identifier b at), Field at) ∷ identifier_fields
    (at + 13) count b

-- The refusals of the fields after the outcome byte of a Done reply, from left to right.
abbrev pub done_fields : Kind → List ℕ → List (Bool × WireFault)
done_fields Grant b = []
done_fields Draw b = (not (is_identifier b 21), Field 21) ∷ []
done_fields Void b = []
done_fields Query b =
    (nat_lt 3 (byte b 26), Field 26) ∷ (nat_lt (byte b 26) 2 && not (number b 27 == 0), Field 27)
    ∷ []
done_fields DrawMany b = identifier_fields 22 (byte b 16) b
done_fields Withdraw b = []

-- Whether the outcome byte fits the kind.
abbrev pub code_fits : Kind → ℕ → Bool
code_fits Grant code = nat_le code 3 || code == 9
code_fits Draw code = code == 0 || code == 4 || code == 5 || code == 9
code_fits Void code = code == 0 || code == 6 || code == 7 || code == 8 || code == 9
code_fits Query code = code == 0 || code == 6 || code == 9
code_fits DrawMany code = code == 0 || code == 4 || code == 5 || code == 9
code_fits Withdraw code = code == 0 || code == 1 || code == 9 || code == 10 || code == 11

-- The refusals of the outcome byte, and of the fields after it.
abbrev pub outcome_refusals : Kind → List ℕ → List (Bool × WireFault)
outcome_refusals kind b =
    let code = byte b (request_length kind) in
    if code == 0 then done_fields kind b else (not (code_fits kind code), Outcome) ∷ []

-- The refusals of a request of this kind, after its header.
abbrev pub refusals_after_request : List ℕ → Kind → List (Bool × WireFault)
refusals_after_request b kind = (not (length b == request_length kind), Length) ∷ request_fields
    kind b

-- The refusals of a request.
abbrev pub request_refusals : List ℕ → List (Bool × WireFault)
request_refusals b = header_refusals 0 b ++ of_kind (kind_named 0 b) (refusals_after_request b)

-- The refusals of a reply of this kind, after its header.
abbrev pub refusals_after_reply : List ℕ → Kind → List (Bool × WireFault)
refusals_after_reply b kind =
    (not (is_reply_long kind b), Length) ∷ (request_fields kind b ++ outcome_refusals kind b)

-- The refusals of a reply.
abbrev pub reply_refusals : List ℕ → List (Bool × WireFault)
reply_refusals b = header_refusals 0x80 b ++ of_kind (kind_named 0x80 b) (refusals_after_reply b)

-- A fault is the first refusal of bytes as a request if it applies, and none before it does.
abbrev pub IsFirstRefusalOfRequest : List ℕ → WireFault → Type 0
IsFirstRefusalOfRequest b fault = first_refusal (request_refusals b) ≡ Some fault

-- A fault is the first refusal of bytes as a reply if it applies, and none before it does.
abbrev pub IsFirstRefusalOfReply : List ℕ → WireFault → Type 0
IsFirstRefusalOfReply b fault = first_refusal (reply_refusals b) ≡ Some fault

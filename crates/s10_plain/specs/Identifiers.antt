-- Reading identifiers: the result and the struct that it writes.
use Rattle.std.specs.Prelude.{◌≡◌, ℕ, List, [], ◌∷◌, ◌++◌, Result, Ok, Err, IfOk, IfErr}
use Rattle.s10_core.specs.declared.id.Id.{Id}
use Rattle.s10_core.specs.declared.group.Group.{Group}
use Rattle.s10_core.specs.declared.group.Group.TheVariants.{Parcel, Ems, Registered, Insured, Other}
use Rattle.s10_core.specs.declared.text_fault.TextFault.{TextFault}
use Rattle.s10_core.specs.declared.text_fault.TextFault.TheVariants.{Length, Letter, Digit}
use Rattle.s10_core.specs.declared.text_fault.TextFault.TheVariants.{CheckDigit}
use Rattle.s10_core.specs.Letters.{letters_of, group_of}
use Rattle.s10_core.specs.Id.{Spells, spelling_of}
use Rattle.s10_core.specs.TextFault.{IsFirstRefusal}
use Rattle.s10_plain.specs.declared.result_code.ResultCode.{ResultCode}
use Rattle.s10_plain.specs.declared.plain_id.PlainId.{PlainId}

-- The code of success is zero.
abbrev pub success_code : ResultCode
success_code = record { code = 0; at = 0 }

-- The code of a text that is refused is that of its first refusal, with its position.
abbrev pub code_of_text_fault : TextFault → ResultCode
code_of_text_fault Length = record { code = 1; at = 0 }
code_of_text_fault (Letter at) = record { code = 2; at = at }
code_of_text_fault (Digit at) = record { code = 3; at = at }
code_of_text_fault CheckDigit = record { code = 4; at = 0 }

-- The code of a group is its number from 1.
abbrev pub group_code_of : Group → ℕ
group_code_of Parcel = 1
group_code_of Ems = 2
group_code_of Registered = 3
group_code_of Insured = 4
group_code_of Other = 5

-- The struct of an identifier has its text with a closing zero, and its parts.
abbrev pub plain_id_of : Id → PlainId
plain_id_of id = record {
  text = spelling_of id ++ 0 ∷ [];
  service = letters_of id.service;
  country = letters_of id.country;
  serial = id.serial;
  group = group_code_of (group_of id.service.0);
}

-- The code of a reading is success or that of its refusal.
abbrev pub code_of_read : Result Id TextFault → ResultCode
code_of_read (Ok id) = success_code
code_of_read (Err fault) = code_of_text_fault fault

-- The struct after a reading is that of the identifier, or as before if refused.
abbrev pub id_after : Result Id TextFault → PlainId → PlainId
id_after (Ok id) before = plain_id_of id
id_after (Err fault) before = before

-- A text is read as the identifier that it spells, or refused with its first refusal.
abbrev pub ReadsId : List ℕ → ResultCode → PlainId → PlainId → Type 0
ReadsId text result before after =
    (read : Result Id TextFault) × IfOk read (Spells text) × IfErr read (IsFirstRefusal text)
    × (result ≡ code_of_read read) × (after ≡ id_after read before)

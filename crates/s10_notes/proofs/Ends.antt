-- How the line of notes ends.
use Rattle.std.proofs.Common.{◌≡◌, ◌⊎◌, ℕ, ◌+◌, ◌-◌, List, ◌++◌, length, take, inl, inr, ap, ◌∙◌, arith}
use Rattle.std.proofs.Common.{length-append, refl}
use Rattle.std.proofs.Math.Seq.{take-append_seam}
use Rattle.std.specs.Prelude.{codes}
use Rattle.s10_notes.specs.Notes.{NotesState}
use Rattle.s10_notes.specs.Text.{AreInRange, IsEndOf, SpellsNotes, check_end, members_text}

-- What is before the end.
pub front : (text members end : List ℕ) → text ≡ members ++ end
    → take (length text - length end) text ≡ members
front text members end is =
    let long : length (members ++ end) ≡ length members + length end = length-append members end in
    let at : length (members ++ end) - length end ≡ length members = omega (arith, long) in
    rw (is, at) (take-append_seam members end)

-- Notes with a right end are spelled.
pub spelled : (text end : List ℕ) (n : NotesState) → AreInRange n → text ≡ members_text n ++ end
    → IsEndOf (members_text n) end → SpellsNotes text n
spelled text end n ok is (inl checked) = record {
  in_range = ok;
  spelled = inl (is ∙ ap (λ e. members_text n ++ e) checked);
}
spelled text end n ok is (inr older) = record {
  in_range = ok;
  spelled = inr (is ∙ ap (λ e. members_text n ++ e) older);
}

-- A text that spells notes has their members, and a right end.
pub record Ended (text : List ℕ) (n : NotesState) : Type 0 where
  pub end : List ℕ
  pub is : text ≡ members_text n ++ end
  pub ends : IsEndOf (members_text n) end

pub ended : (text : List ℕ) (n : NotesState) → SpellsNotes text n → Ended text n
ended text n spells = from spells.spelled where
  from : (text ≡ members_text n ++ check_end (members_text n)) ⊎ (text ≡ members_text n ++ codes "}\n")
      → Ended text n
  from (inl is) = record { end = check_end (members_text n); is = is; ends = inl refl }
  from (inr is) = record { end = codes "}\n"; is = is; ends = inr refl }

-- Refusals in order, one list of them after another.
use Rattle.std.proofs.Common.{◌≡◌, ◌≢◌, ℕ, Bool, true, false, not, cond, eqb, List, [], ◌∷◌, ◌++◌}
use Rattle.std.proofs.Common.{Option, Some, None, refl, sym, ap, ◌∙◌}
use Rattle.s10_wire.specs.declared.wire_fault.WireFault.{WireFault}
use Rattle.s10_wire.specs.declared.wire_fault.WireFault.TheVariants.{Outcome}
use Rattle.std.proofs.lemmas.Bool.{ne_eqb}
use Rattle.s10_wire.specs.declared.kind.Kind.{Kind}
use Rattle.s10_wire.specs.Kind.{request_length, is_reply_long}
use Rattle.s10_wire.specs.WireFault.{byte, code_fits, done_fields, first_refusal, kind_named}
use Rattle.s10_wire.specs.WireFault.{of_kind, header_refusals, request_fields, request_refusals}
use Rattle.s10_wire.specs.WireFault.{outcome_refusals, reply_refusals, refusals_after_request}
use Rattle.s10_wire.specs.WireFault.{refusals_after_reply}

passed_over : (applies : Bool) (fault : WireFault) (r s : List (Bool × WireFault))
    → (first_refusal r ≡ None → first_refusal (r ++ s) ≡ first_refusal s)
    → first_refusal ((applies, fault) ∷ r) ≡ None → first_refusal ((applies, fault) ∷ (r ++ s))
    ≡ first_refusal s
passed_over true fault r s later none = absurd cc
passed_over false fault r s later none = later none

-- If none of the first list applies, the second list decides.
pub second_decides : (r s : List (Bool × WireFault)) → first_refusal r ≡ None
    → first_refusal (r ++ s) ≡ first_refusal s
second_decides [] s none = refl
second_decides (refusal ∷ r) s none = passed_over refusal.0 refusal.1 r s (second_decides r s) none

found_before : (applies : Bool) (other fault : WireFault) (r s : List (Bool × WireFault))
    → (first_refusal r ≡ Some fault → first_refusal (r ++ s) ≡ Some fault)
    → first_refusal ((applies, other) ∷ r) ≡ Some fault
    → first_refusal ((applies, other) ∷ (r ++ s)) ≡ Some fault
found_before true other fault r s later found = found
found_before false other fault r s later found = later found

-- If one of the first list applies, the first list decides.
pub first_decides : (r s : List (Bool × WireFault)) (fault : WireFault) → first_refusal r
    ≡ Some fault → first_refusal (r ++ s) ≡ Some fault
first_decides [] s fault found = absurd cc
first_decides (refusal ∷ r) s fault found = found_before refusal.0 refusal.1 fault r s
    (first_decides r s fault) found

-- After the header of a request, its length and its fields decide.
pub length_decides : (b : List ℕ) (kind : Kind) → None ≡ first_refusal (header_refusals 0 b)
    → kind_named 0 b ≡ Some kind
    → first_refusal (request_refusals b) ≡ first_refusal (refusals_after_request b kind)
length_decides b kind passed named =
    second_decides (header_refusals 0 b) (of_kind (kind_named 0 b) (refusals_after_request b))
    (sym passed)
    ∙ ap (λ (named : Option Kind). first_refusal (of_kind named (refusals_after_request b))) named

-- After the header of a reply, its length and its fields decide.
pub reply_length_decides : (b : List ℕ) (kind : Kind)
    → None ≡ first_refusal (header_refusals 0x80 b) → kind_named 0x80 b ≡ Some kind
    → first_refusal (reply_refusals b) ≡ first_refusal (refusals_after_reply b kind)
reply_length_decides b kind passed named =
    second_decides (header_refusals 0x80 b) (of_kind (kind_named 0x80 b) (refusals_after_reply b))
    (sym passed)
    ∙ ap (λ (named : Option Kind). first_refusal (of_kind named (refusals_after_reply b))) named

-- After the header and the length of a reply, its fields decide.
pub fields_decide : (b : List ℕ) (kind : Kind) → None ≡ first_refusal (header_refusals 0x80 b)
    → kind_named 0x80 b ≡ Some kind → is_reply_long kind b ≡ true
    → first_refusal (reply_refusals b) ≡ first_refusal (request_fields kind b ++ outcome_refusals
    kind b)
fields_decide b kind passed named long = reply_length_decides b kind passed named ∙ rw long refl

one_decides : (fit : Bool) → cond fit None (Some Outcome) ≡ first_refusal ((not fit, Outcome) ∷ [])
one_decides true = refl
one_decides false = refl

-- An outcome byte other than 0 is refused if it does not fit.
pub not_done : (b : List ℕ) (kind : Kind) (code : ℕ) → code ≢ 0
    → code ≡ byte b (request_length kind) → cond (code_fits kind code) None (Some Outcome)
    ≡ first_refusal (outcome_refusals kind b)
not_done b kind code other is =
    one_decides (code_fits kind code)
    ∙ ap (λ (t : Bool). first_refusal
    (cond t (done_fields kind b) ((not (code_fits kind code), Outcome) ∷ [])))
    (sym (ne_eqb code 0 other))
    ∙ ap (λ (n : ℕ). first_refusal (cond (eqb n 0) (done_fields kind b)
    ((not (code_fits kind n), Outcome) ∷ []))) is

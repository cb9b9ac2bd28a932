-- Identifiers one after the other.
use Rattle.std.proofs.Common.{◌≡◌, ℕ, zero, suc, ◌+◌, ◌-◌, ◌*◌, ◌<◌, ◌≤◌, true, false, List, []}
use Rattle.std.proofs.Common.{◌∷◌, ◌++◌, length, get_or, take, drop, set, Option, Some, None, subst}
use Rattle.std.proofs.Common.{length-take-le, refl, sym, ap, ◌∙◌, arith, append_assoc}
use Rattle.std.specs.Prelude.{All, SomeIff}
use Rattle.std.proofs.lemmas.List.{drop-drop, take_more, take_more_set, flat_map_more}
use Rattle.std.proofs.lemmas.List.Elements.{All-head, All-tail}
use Rattle.s10_core.specs.declared.id.Id.{Id}
use Rattle.s10_core.specs.Id.{IsId, spelling_of}
use Rattle.s10_wire.specs.Ids.{IsCount, AreIds, spellings_of}
use Rattle.s10_wire.specs.WireFault.{first_refusal, identifier_fields, is_identifier}
use Rattle.s10_wire.specs.declared.wire_fault.WireFault.{WireFault}
use Rattle.s10_wire.specs.declared.wire_fault.WireFault.TheVariants.{Field}
use Rattle.s10_wire.proofs.Identifiers.{spelling_passes}

pub length-spellings : (ids : List Id) → length (spellings_of ids) ≡ 13 * length ids
length-spellings [] = refl
length-spellings (id ∷ ids) = omega (arith, length-spellings ids)

-- None of the identifiers is refused.
pub identifiers_pass : (at : ℕ) (b : List ℕ) (ids : List Id) (rest : List ℕ) → All IsId ids
    → drop at b ≡ spellings_of ids ++ rest → first_refusal (identifier_fields at (length ids) b)
    ≡ None
identifiers_pass at b [] rest ok e = refl
identifiers_pass at b (id ∷ ids) rest ok e =
    let text : take 13 (drop at b) ≡ spelling_of id = ap (take 13) e in
    let later : drop (at + 13) b ≡ spellings_of ids ++ rest = sym (drop-drop 13 at b)
    ∙ ap (drop 13) e in
    rw (text, spelling_passes id (All-head IsId id ids ok)) (identifiers_pass (at + 13) b ids rest
    (All-tail IsId id ids ok) later)

-- One more element of a list.
pub one_more : (ids : List Id) (i : ℕ) (x : Id) → i < length ids → x ≡ get_or ids i x
    → take (i + 1) ids ≡ take i ids ++ x ∷ []
one_more ids i x lt e = take_more ids i x lt ∙ ap (λ (y : Id). take i ids ++ y ∷ []) (sym e)

-- The texts with that of one more identifier at the end.
pub spellings_more : (old now new : List ℕ) (ids more : List Id) (x : Id)
    → now ≡ old ++ spellings_of ids → new ≡ now ++ spelling_of x → more ≡ ids ++ x ∷ []
    → new ≡ old ++ spellings_of more
spellings_more old now new ids more x before after grown =
    after ∙ ap (λ (l : List ℕ). l ++ spelling_of x) before ∙ flat_map_more spelling_of old ids x
    ∙ ap (λ (l : List Id). old ++ spellings_of l) (sym grown)

-- If the first identifier passes, those after it decide.
pub passed_one : (at count : ℕ) (b : List ℕ) → 1 ≤ count → is_identifier b at ≡ true
    → first_refusal (identifier_fields at count b)
    ≡ first_refusal (identifier_fields (at + 13) (count - 1) b)
passed_one at zero b some ok = absurd (omega (arith, some))
passed_one at (suc n) b some ok = let e : suc n - 1 ≡ n = omega arith in rw (ok, e) refl

-- If the first identifier does not pass, it is the first refusal.
pub refused_one : (at count : ℕ) (b : List ℕ) → 1 ≤ count → is_identifier b at ≡ false
    → first_refusal (identifier_fields at count b) ≡ Some (Field at)
refused_one at zero b some no' = absurd (omega (arith, some))
refused_one at (suc n) b some no' = rw no' refl

-- One more identifier was read into the array.
pub read_more : (b : List ℕ) (room : List Id) (p at : ℕ) (x : Id) → p < length room
    → at ≡ 22 + 13 * p → drop 22 b ≡ spellings_of (take p room) ++ drop (22 + 13 * p) b
    → drop at b ≡ spelling_of x ++ drop (at + 13) b
    → drop 22 b ≡ spellings_of (take (p + 1) (set room p x)) ++ drop (22 + 13 * (p + 1)) b
read_more b room p at x lt is before here =
    let next : at + 13 ≡ 22 + 13 * (p + 1) = omega (arith, is) in
    before ∙ ap (λ (n : ℕ). spellings_of (take p room) ++ drop n b) (sym is)
    ∙ ap (λ (l : List ℕ). spellings_of (take p room) ++ l) here
    ∙ sym (append_assoc (spellings_of (take p room)) (spelling_of x) (drop (at + 13) b))
    ∙ ap (λ (l : List ℕ). l ++ drop (at + 13) b) (flat_map_more spelling_of [] (take p room) x)
    ∙ ap (λ (l : List Id). spellings_of l ++ drop (at + 13) b) (sym (take_more_set room p x lt))
    ∙ ap (λ (n : ℕ). spellings_of (take (p + 1) (set room p x)) ++ drop n b) next

pub passed_more : (b : List ℕ) (p at count : ℕ) → p < count → at ≡ 22 + 13 * p
    → first_refusal (identifier_fields 22 count b)
    ≡ first_refusal (identifier_fields (22 + 13 * p) (count - p) b) → is_identifier b at ≡ true
    → first_refusal (identifier_fields 22 count b)
    ≡ first_refusal (identifier_fields (22 + 13 * (p + 1)) (count - (p + 1)) b)
passed_more b p at count lt is before ok =
    let next : at + 13 ≡ 22 + 13 * (p + 1) = omega (arith, is) in
    let left : count - p - 1 ≡ count - (p + 1) = omega arith in
    before ∙ ap (λ (n : ℕ). first_refusal (identifier_fields n (count - p) b)) (sym is)
    ∙ passed_one at (count - p) b (omega (arith, lt)) ok
    ∙ ap (λ (n : ℕ). first_refusal (identifier_fields n (count - p - 1) b)) next
    ∙ ap (λ (n : ℕ). first_refusal (identifier_fields (22 + 13 * (p + 1)) n b)) left

pub refused_here : (b : List ℕ) (p at count asked : ℕ) (fault : WireFault) → p < count
    → at ≡ 22 + 13 * p → count ≡ asked → first_refusal (identifier_fields 22 count b)
    ≡ first_refusal (identifier_fields (22 + 13 * p) (count - p) b)
    → (fault ≡ Field at) × (is_identifier b at ≡ false)
    → Some fault ≡ first_refusal (identifier_fields 22 asked b)
refused_here b p at count asked fault lt is same before err =
    ap Some err.0 ∙ sym (refused_one at (count - p) b (omega (arith, lt)) err.1)
    ∙ ap (λ (n : ℕ). first_refusal (identifier_fields n (count - p) b)) is ∙ sym before
    ∙ ap (λ (n : ℕ). first_refusal (identifier_fields 22 n b)) same

-- All `count` identifiers were read.
pub read_ids : (b : List ℕ) (room : List Id) (count asked p : ℕ) (result : Option (List Id))
    (ids : List Id) → result ≡ Some ids → SomeIff result (IsCount (length (take count room)))
    (take count room)
    → count ≡ asked → count ≤ 16 → p ≤ count → count ≤ p → length room ≡ 16 → All IsId (take p room)
    → drop 22 b ≡ spellings_of (take p room) ++ drop (22 + 13 * p) b
    → AreIds ids × (length ids ≡ asked) × (drop 22 b ≡ spellings_of ids ++ drop (22 + 13 * asked) b)
read_ids b room count asked p result ids is some same few upto whole long ok read =
    let P : Option (List Id) → Type 0 = λ o. SomeIff o (IsCount (length (take count room)))
    (take count room) in
    let both : IsCount (length (take count room)) × (ids ≡ take count room) = subst P is some in
    let place : p ≡ count = omega arith in
    let are : take p room ≡ ids = ap (λ (n : ℕ). take n room) place ∙ sym both.1 in
    let n : length ids ≡ count = ap length both.1 ∙ length-take-le count room
    (omega (arith, long)) in
    let Q : List Id → Type 0 = All IsId in
    let R : List Id → Type 0 = λ l. IsCount (length l) in (
      (subst R (sym both.1) both.0, subst Q are ok),
      n ∙ same,
      read ∙ ap (λ (l : List Id). spellings_of l ++ drop (22 + 13 * p) b) are
          ∙ ap (λ (k : ℕ). spellings_of ids ++ drop (22 + 13 * k) b) (place ∙ same),
    )

-- Bytes that are put into an array padded with zeros.
use Rattle.std.proofs.Common.{◌≡◌, ℕ, ◌+◌, ◌-◌, ◌≤◌, List, ◌++◌, length, take, drop, refl, sym, ap}
use Rattle.std.proofs.Common.{ap₂, ◌∙◌, arith, length-append}
use Rattle.std.specs.Prelude.{replicate}
use Rattle.std.proofs.Math.Seq.{take-append_seam, drop-append-add}
use Rattle.std.proofs.lemmas.List.{drop-replicate, take-append-drop}
use Rattle.std.proofs.lemmas.Slice.{take-put_mid, drop-put_mid}
use borrow.Rule.Slice.PartMut.{put_mid}
use Rattle.s10_wire.specs.Padding.{zero_padded, IsZeroPadded}

-- The bytes in front of the zeros are those that were padded.
pub front_is : (size : ℕ) (room : List ℕ) (len : ℕ) (bytes : List ℕ) → len ≡ length bytes
    → room ≡ zero_padded size bytes → take len room ≡ bytes
front_is size room len bytes long rest = ap₂ take long rest
    ∙ take-append_seam bytes (replicate (size - length bytes) 0)

pub is_roomed : (size : ℕ) (room : List ℕ) (len : ℕ) (bytes : List ℕ) → len ≤ size
    → len ≡ length bytes → room ≡ zero_padded size bytes → IsZeroPadded size room len
is_roomed size room len bytes few long rest =
    let front : take len room ≡ bytes = front_is size room len bytes long rest in
    record {
      few = few;
      long = ap length front ∙ sym long;
      rest = rest
          ∙ sym (ap (zero_padded size) front);
    }

-- An array of zeros holds the bytes that are written at its front.
pub fill_roomed : (size len : ℕ) (front bytes : List ℕ) → len ≡ length bytes → len ≤ size
    → front ≡ bytes → IsZeroPadded size (front ++ drop len (replicate size 0)) len
fill_roomed size len front bytes long few same =
    let zeros : drop len (replicate size 0) ≡ replicate (size - length bytes) 0 =
    drop-replicate len size 0 ∙ ap (λ (n : ℕ). replicate (size - n) 0) long in
    is_roomed size _ len bytes few long (ap₂ (λ (l m : List ℕ). l ++ m) same zeros)

-- Equal arrays that hold the same number of bytes hold the same bytes.
pub one_front : (size : ℕ) (a b : List ℕ) → zero_padded size a ≡ zero_padded size b
    → length a ≡ length b → a ≡ b
one_front size a b rooms lens = sym (front_is size (zero_padded size a) (length a) a refl refl)
    ∙ front_is size (zero_padded size a) (length a) b lens rooms

-- The array once bytes are appended to those that it holds.
pub put_is : (size : ℕ) (room : List ℕ) (len k : ℕ) (ys bytes : List ℕ) → IsZeroPadded size room len
    → len + length bytes ≤ size → k ≡ length bytes → ys ≡ bytes
    → put_mid len k room ys ≡ zero_padded size (take len room ++ bytes)
put_is size room len k ys bytes is fits count same =
    let front : List ℕ = take len room in
    let zeros : List ℕ = replicate (size - length front) 0 in
    let end : ℕ = len + length bytes in
    let made : List ℕ = put_mid len k room ys in
    let written : length ys ≡ length bytes = ap length same in
    let within : len ≤ length room = omega (
      arith,
      ap length is.rest,
      length-append front zeros,
      is.long,
    ) in
    let taken : take end made ≡ front ++ ys =
    take-put_mid len k room ys end (omega (arith, written)) within in
    let left : drop end made ≡ drop end room =
    drop-put_mid len k room ys end (omega (arith, count)) within (written ∙ sym count) in
    let past : drop end room ≡ drop (length front + length bytes) (front ++ zeros) =
    ap₂ drop (ap (λ (n : ℕ). n + length bytes) (sym is.long)) is.rest in
    let few : size - length front - length bytes ≡ size - length (front ++ bytes) =
    omega (arith, length-append front bytes) in
    let rest : drop (length bytes) zeros ≡ replicate (size - length (front ++ bytes)) 0 =
    drop-replicate (length bytes) (size - length front) 0 ∙ ap (λ (n : ℕ). replicate n 0) few in
    let behind : drop end made ≡ replicate (size - length (front ++ bytes)) 0 =
    left ∙ (past ∙ (drop-append-add front zeros (length bytes) ∙ rest)) in
    let before : take end made ≡ front ++ bytes = taken ∙ ap (λ (l : List ℕ). front ++ l) same in
    sym (take-append-drop end made) ∙ ap₂ (λ (l m : List ℕ). l ++ m) before behind

-- That array holds the new bytes too.
pub put_roomed : (size : ℕ) (room : List ℕ) (len k end : ℕ) (ys bytes : List ℕ)
    → IsZeroPadded size room len → end ≡ len + length bytes → end ≤ size → k ≡ length bytes
    → ys ≡ bytes
    → IsZeroPadded size (put_mid len k room ys) end
    × (take end (put_mid len k room ys) ≡ take len room ++ bytes)
put_roomed size room len k end ys bytes is ends fits count same =
    let made = put_is size room len k ys bytes is (omega (arith, ends, fits)) count same in
    let long : end ≡ length (take len room ++ bytes) =
    omega (arith, ends, is.long, length-append (take len room) bytes) in (
      is_roomed size _ end (take len room ++ bytes) fits long made,
      front_is size _ end (take len room ++ bytes) long made,
    )

-- Lemmas about hex text, read into a buffer of half its length.
use Rattle.std.proofs.Common.{◌≡◌, ℕ, ◌≤◌, List, length, take, Some, None, Result, Ok, Err, refl}
use Rattle.std.proofs.Common.{sym, ap, ◌∙◌, arith, Bool, true}
use Rattle.std.specs.Prelude.{MatchResult, nat_le, if◌then◌else◌}
use Rattle.std.proofs.lemmas.Bool.{le-leb}
use Rattle.std.specs.Result.{result_ok}
use Rattle.std.proofs.lemmas.List.{take_all}
use Rattle.hex.specs.declared.error.FromHexError.{FromHexError}
use Rattle.hex.specs.Hex.{decode_of, decode_sized}
use Rattle.hex.proofs.HexLemmas.{decode_of-ok, decode_sized-ok, decode_sized-twice}
use Rattle.s10_jobs.specs.InputLines.{bytes_in}

abbrev pub IsSame : Unit {0} → Type 0
IsSame u = let r : Result (Unit {0}) FromHexError = Ok u in let o : Result (Unit {0}) FromHexError =
    Ok tt in r ≡ o

abbrev pub IsOther : Unit {0} → FromHexError → Type 0
IsOther u e = let r : Result (Unit {0}) FromHexError = Ok u in r ≡ Err e

decoded : (text out : List ℕ) (n : ℕ) (u : Unit {0}) (d : Result (List ℕ) FromHexError)
    → decode_sized text n ≡ d
    → MatchResult d (λ bytes. IsSame u × (out ≡ bytes)) (λ e. IsOther u e) → decode_of text ≡ Ok out
decoded text out n u (Ok bytes) is m =
    sym (decode_sized-twice text n (decode_sized-ok text n bytes is)) ∙ is ∙ ap Ok (sym m.1)
decoded text out n u (Err e) is m = absurd cc

some_bytes : (t : Bool) (d : Result (List ℕ) FromHexError) (bytes : List ℕ) → t ≡ true
    → d ≡ Ok bytes → Some bytes ≡ (if t then result_ok d else None)
some_bytes t d bytes yes' is = rw (yes', is) refl

-- The bytes that were read.
pub bytes_read : (text out : List ℕ) (n : ℕ) (u : Unit {0}) → length text ≤ 1024
    → MatchResult (decode_sized text n) (λ bytes. IsSame u × (out ≡ bytes)) (λ e. IsOther u e)
    → Some (take 512 out) ≡ bytes_in text
bytes_read text out n u short m =
    let is : decode_of text ≡ Ok out = decoded text out n u (decode_sized text n) refl m in
    let few : length out ≤ 512 = omega (arith, (decode_of-ok text out is).2) in
    ap Some (take_all 512 out few) ∙ some_bytes (nat_le (length text) 1024) (decode_of text) out
    (le-leb (length text) 1024 short) is

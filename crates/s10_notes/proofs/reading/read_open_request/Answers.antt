use Rattle.std.proofs.Common.{◌≡◌, ◌++◌, ℕ, List, Option, Some, None, get_or, arith, refl, sym, ap, ◌∙◌}
use Rattle.std.specs.Prelude.{IfSome, IsSomeAnd, codes}
use Rattle.std.proofs.lemmas.List.{append_cancel_left}
use Rattle.s10_wire.specs.declared.request.Request.{Request}
use Rattle.s10_wire.specs.Datagrams.{IsRequest}
use Rattle.s10_notes.specs.Text.{request_text}
use Rattle.s10_notes.proofs.reading.read_open_request.Goals as goal

other_letters : (x y : ℕ) → x ≡ y → x ≡ 110 → y ≡ 34 → ⊥
other_letters x y same n quote = omega (arith, same, n, quote)

-- A text that begins with `null` has no request.
is_null : (q : Option Request) (text r rest : List ℕ) → text ≡ codes "null" ++ r
    → text ≡ request_text q ++ rest → (None ≡ q) × (r ≡ rest)
is_null None text r rest null is = (refl, append_cancel_left (codes "null") r rest (sym null ∙ is))
is_null (Some x) text r rest null is = absurd (other_letters (get_or (codes "null" ++ r) 0 0)
    (get_or (request_text (Some x) ++ rest) 0 0) (ap (λ t. get_or t 0 0) (sym null ∙ is)) refl refl)

-- One that does not has one.
has_request : (q : Option Request) (text rest : List ℕ) (R : Option Request → Type 0)
    → IfSome q IsRequest → text ≡ request_text q ++ rest
    → ((r : List ℕ) → text ≡ codes "null" ++ r → ⊥)
    → ((x : Request) → IsRequest x → text ≡ request_text (Some x) ++ rest → R (Some x)) → R q
has_request None text rest R ok is null read = absurd (null rest is)
has_request (Some x) text rest R ok is null read = read x ok is

pub returns-in-Some-clause-read : goal.returns-in-Some-clause-read
returns-in-Some-clause-read c = λ q rest ok is. is_null q _ _ rest c.in-Some.ensures.spelled is

pub returns-in-None-clause-read : goal.returns-in-None-clause-read
returns-in-None-clause-read c = λ q rest ok is. has_request q _ rest
    (λ found. IsSomeAnd c.read_quoted.result (λ read. (read.0 ≡ found) × (read.1.now ≡ rest))) ok is
    (λ r null. c.in-None.ensures.read r null)
    (λ x known text. c.read_quoted.ensures.read x rest known text)

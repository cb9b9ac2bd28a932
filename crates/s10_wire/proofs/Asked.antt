-- A datagram asks at most one request, and bytes that ask one are not refused.
use Rattle.std.proofs.Common.{◌≡◌, ℕ, ◌+◌, ◌^◌, ◌<◌, true, List, [], ◌∷◌, ◌++◌, length, drop}
use Rattle.std.proofs.Common.{None, Result, Ok, Err, refl, sym, ap, ◌∙◌, arith}
use Rattle.std.specs.Prelude.{IfOk, IfErr, nat_lt}
use Rattle.std.specs.Result.{result_err}
use Rattle.std.proofs.lemmas.List.{drop_all, append-nil}
use Rattle.std.proofs.lemmas.Nat.{from_be_bytes-to_be_bytes_4}
use Rattle.std.proofs.lemmas.Grind.{common_steps}
use Rattle.s10_wire.proofs.Identifiers.{capital_passes, spelling_passes}
use Rattle.s10_wire.specs.declared.body.Body.{Body}
use Rattle.s10_wire.specs.declared.body.Body.TheVariants.{Grant, Draw, Void, Query, DrawMany}
use Rattle.s10_wire.specs.declared.body.Body.TheVariants.{Withdraw}
use Rattle.s10_wire.specs.declared.request.Request.{Request}
use Rattle.s10_wire.specs.declared.wire_fault.WireFault.{WireFault}
use Rattle.s10_wire.specs.declared.kind.Kind.{Kind}
use Rattle.s10_wire.specs.Datagrams.{u32_bytes, fields, datagram, IsBody, IsRequest, Asks}
use Rattle.s10_wire.specs.Ids.{IsCount}
use Rattle.s10_wire.specs.Kind.{kind_of, code_of, version_of, request_length}
use Rattle.s10_wire.specs.WireFault.{number, is_count, request_fields, request_refusals}
use Rattle.s10_wire.specs.WireFault.{first_refusal}
use Rattle.s10_wire.specs.Replies.{request_from}
use Rattle.s10_wire.proofs.Replies.{request_again, serial_fits}

-- A request that was read from all of the bytes is the one that they ask.
pub is_asked : (b : List ℕ) (k : Kind) (r : Result Request WireFault)
    → b ≡ 0x53 ∷ 0x31 ∷ version_of k ∷ (code_of k + 0) ∷ drop 4 b → length b ≡ request_length k
    → IfOk r (λ q. kind_of q.body ≡ k) → IfOk r IsRequest
    → IfOk r (λ q. drop 4 b ≡ u32_bytes q.customer ++ u32_bytes q.number ++ fields q.body
    ++ drop (request_length k) b)
    → IfOk r (Asks b)
is_asked b k (Err fault) head len code range rest = tt
is_asked b k (Ok q) head len code range rest =
    let nothing : drop (request_length k) b ≡ [] = drop_all (request_length k) b (omega arith) in
    let front : List ℕ = u32_bytes q.customer ++ u32_bytes q.number ++ fields q.body in
    let whole : drop 4 b ≡ front = rest ∙ ap (λ (t : List ℕ). front ++ t) nothing
    ∙ append-nil front in (
      range,
      head ∙ ap (λ (n : Kind). 0x53 ∷ 0x31 ∷ version_of n ∷ (code_of n + 0) ∷ drop 4 b)
          (sym code) ∙ ap (λ (t : List ℕ). 0x53 ∷ 0x31 ∷ version_of (kind_of q.body)
          ∷ (code_of (kind_of q.body) + 0) ∷ t) whole,
    )

serial_passes : (n : ℕ) → n < 10 ^ 8 → nat_lt n 100000000 ≡ true
serial_passes n ok = grind (arith, common_steps)

count_passes : (n : ℕ) → IsCount n → is_count n ≡ true
count_passes n ok = grind (arith, common_steps)

pub right_fields : (mark customer number : ℕ) (body : Body) (rest : List ℕ) → IsBody body
    → first_refusal (request_fields (kind_of body) (0x53 ∷ 0x31 ∷ version_of (kind_of body)
    ∷ (code_of (kind_of body) + mark) ∷ (u32_bytes customer ++ u32_bytes number ++ fields body
    ++ rest))) ≡ None
right_fields mark customer number (Grant holder service country first last) rest ok =
    rw (
      capital_passes service.0 ok.1.0,
      capital_passes service.1 ok.1.1,
      capital_passes country.0 ok.2.0,
      capital_passes country.1 ok.2.1,
      from_be_bytes-to_be_bytes_4 first (serial_fits first ok.3),
      from_be_bytes-to_be_bytes_4 last (serial_fits last ok.4),
      serial_passes first ok.3,
      serial_passes last ok.4,
    ) refl
right_fields mark customer number (Draw service country) rest ok =
    rw (
      capital_passes service.0 ok.0.0,
      capital_passes service.1 ok.0.1,
      capital_passes country.0 ok.1.0,
      capital_passes country.1 ok.1.1,
    ) refl
right_fields mark customer number (Void id) rest ok = rw (spelling_passes id ok) refl
right_fields mark customer number (Query id) rest ok = rw (spelling_passes id ok) refl
right_fields mark customer number (DrawMany service country count) rest ok =
    rw (
      capital_passes service.0 ok.0.0,
      capital_passes service.1 ok.0.1,
      capital_passes country.0 ok.1.0,
      capital_passes country.1 ok.1.1,
      count_passes count ok.2,
    )
    refl
right_fields mark customer number (Withdraw range) rest ok = refl

not_refused_of : (customer number : ℕ) (body : Body) → IsBody body
    → first_refusal
    (request_refusals (datagram 0 (record { customer = customer; number = number; body = body })))
    ≡ None
not_refused_of customer number (Grant holder service country first last) ok =
    right_fields 0 customer number (Grant holder service country first last) [] ok
not_refused_of customer number (Draw service country) ok =
    right_fields 0 customer number (Draw service country) [] ok
not_refused_of customer number (Void id) ok = right_fields 0 customer number (Void id) [] ok
not_refused_of customer number (Query id) ok = right_fields 0 customer number (Query id) [] ok
not_refused_of customer number (DrawMany service country count) ok =
    right_fields 0 customer number (DrawMany service country count) [] ok
not_refused_of customer number (Withdraw range) ok = right_fields 0 customer number (Withdraw range)
    [] ok

pub not_refused : (q : Request) → IsRequest q → first_refusal (request_refusals (datagram 0 q))
    ≡ None
not_refused q ok = not_refused_of q.customer q.number q.body ok.2

-- A datagram asks at most one request.
pub one_request : (b : List ℕ) (p q : Request) → Asks b p → Asks b q → p ≡ q
one_request b p q asks_p asks_q = sym (read p asks_p) ∙ read q asks_q
  where
    read : (r : Request) → Asks b r → request_from 0 (b ++ []) ≡ r
    read r asks = ap (λ (t : List ℕ). request_from 0 (t ++ [])) asks.1
        ∙ request_again 0 r [] asks.0

pub asked_is_read : (b : List ℕ) (r : Result Request WireFault) → IfOk r (Asks b)
    → result_err r ≡ first_refusal (request_refusals b) → (q : Request) → Asks b q → r ≡ Ok q
asked_is_read b (Ok p) found refused q asks =
    ap (λ (x : Request). Ok x) (one_request b p q found asks)
asked_is_read b (Err fault) found refused q asks =
    let none : first_refusal (request_refusals b) ≡ None =
    ap (λ (x : List ℕ). first_refusal (request_refusals x)) asks.1 ∙ not_refused q asks.0 in
    absurd cc

-- Bytes that are refused ask no request.
pub refused_asks_nothing : (b : List ℕ) (r : Result Request WireFault)
    → result_err r ≡ first_refusal (request_refusals b)
    → IfErr r (λ fault. (q : Request) → ¬ Asks b q)
refused_asks_nothing b (Ok p) refused = tt
refused_asks_nothing b (Err fault) refused = λ q asks. let none : first_refusal (request_refusals b)
    ≡ None = ap (λ (x : List ℕ). first_refusal (request_refusals x)) asks.1
    ∙ not_refused q asks.0 in absurd cc

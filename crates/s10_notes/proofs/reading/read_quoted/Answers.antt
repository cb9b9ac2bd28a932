use Rattle.std.proofs.Common.{◌≡◌, ◌++◌, ◌∷◌, ◌-◌, ℕ, List, [], Some, append_assoc, length, take, drop}
use Rattle.std.proofs.Common.{sym, ap, ◌∙◌, take-append-drop}
use Rattle.std.specs.Prelude.{codes}
use Rattle.std.proofs.lemmas.Option.{none-some}
use Rattle.hex.specs.Hex.{encode_lower}
use Rattle.s10_wire.specs.declared.request.Request.{Request}
use Rattle.s10_wire.specs.Datagrams.{datagram}
use Rattle.s10_notes.specs.Text.{request_text}
use Rattle.s10_notes.proofs.Digits.{datagram_bytes}
use Rattle.s10_notes.proofs.Numerals.{behind, cut_after, place_after}
use Rattle.s10_notes.proofs.Quotes.{digits_lack}
use Rattle.s10_notes.proofs.reading.read_quoted.Goals as goal

-- A request between quotes, and what follows.
quoted : (q : Request) (rest : List ℕ) → request_text (Some q) ++ rest
    ≡ codes "\"" ++ (encode_lower (datagram 0 q) ++ 34 ∷ rest)
quoted q rest = ap (λ text. 34 ∷ text) (append_assoc (encode_lower (datagram 0 q)) (34 ∷ []) rest)

-- A text is what is before an index and what is from it on.
joined : (xs front rest : List ℕ) (at : ℕ) → take at xs ≡ front
    → take (length xs - at) (drop at xs) ≡ rest → xs ≡ front ++ rest
joined xs front rest at before from = sym (take-append-drop at xs)
    ∙ ap (λ r. take at xs ++ r) (sym (behind xs at) ∙ from) ∙ ap (λ f. f ++ rest) before

pub returns-in_err-text-clause-read : goal.returns-in_err-text-clause-read
returns-in_err-text-clause-read c = λ q rest ok is.
    absurd (c.in_err-text.ensures.read _ (is ∙ quoted q rest))

pub returns-in_err-at-clause-read : goal.returns-in_err-at-clause-read
returns-in_err-at-clause-read c = λ q rest ok is.
    let digits : List ℕ = encode_lower (datagram 0 q) in
    let lacks = digits_lack (datagram 0 q) (datagram_bytes q ok) in
    let open_text = is ∙ quoted q rest in
    let text = c.in_ok-text.ensures.read (digits ++ 34 ∷ rest) open_text in
    absurd (place_after c.in_ok-text.text.now digits rest 34 lacks text c.in_err-at.ensures)

pub returns-in_err-rest-clause-read : goal.returns-in_err-rest-clause-read
returns-in_err-rest-clause-read c = λ q rest ok is.
    let digits : List ℕ = encode_lower (datagram 0 q) in
    let lacks = digits_lack (datagram 0 q) (datagram_bytes q ok) in
    let open_text = is ∙ quoted q rest in
    let text = c.in_ok-text.ensures.read (digits ++ 34 ∷ rest) open_text in
    let cut = cut_after c.in_ok-text.text.now c.in_ok-at.at digits rest 34 lacks text c.in_ok-at.ensures in
    absurd (c.in_err-rest.ensures.read rest (behind c.in_ok-text.text.now c.in_ok-at.at ∙ cut.1))

pub returns-in-None-clause-read : goal.returns-in-None-clause-read
returns-in-None-clause-read c = λ q rest ok is.
    let digits : List ℕ = encode_lower (datagram 0 q) in
    let lacks = digits_lack (datagram 0 q) (datagram_bytes q ok) in
    let open_text = is ∙ quoted q rest in
    let text = c.in_ok-text.ensures.read (digits ++ 34 ∷ rest) open_text in
    let cut = cut_after c.in_ok-text.text.now c.in_ok-at.at digits rest 34 lacks text c.in_ok-at.ensures in
    absurd (none-some q (c.in-None.ensures.read q ok cut.0))

pub returns-in-Some-clause-read : goal.returns-in-Some-clause-read
returns-in-Some-clause-read c = λ q rest ok is.
    let digits : List ℕ = encode_lower (datagram 0 q) in
    let lacks = digits_lack (datagram 0 q) (datagram_bytes q ok) in
    let open_text = is ∙ quoted q rest in
    let text = c.in_ok-text.ensures.read (digits ++ 34 ∷ rest) open_text in
    let cut = cut_after c.in_ok-text.text.now c.in_ok-at.at digits rest 34 lacks text c.in_ok-at.ensures in (
      c.in-Some.ensures.read q ok cut.0,
      c.in_ok-rest.ensures.read rest (behind c.in_ok-text.text.now c.in_ok-at.at ∙ cut.1),
    )

pub returns-in-Some-clause-spelled : goal.returns-in-Some-clause-spelled
returns-in-Some-clause-spelled c =
    let q = c.in-Some.request in
    let rest = c.in_ok-rest.rest.now in (
      c.in-Some.ensures.spelled.0,
      c.in_ok-text.ensures.spelled
          ∙ ap (λ t. codes "\"" ++ t) (joined c.in_ok-text.text.now (encode_lower (datagram 0 q)) (34 ∷ rest)
          c.in_ok-at.at c.in-Some.ensures.spelled.1 c.in_ok-rest.ensures.spelled)
          ∙ sym (quoted q rest),
    )

use Rattle.std.proofs.Common.{◌≡◌, ◌++◌, ℕ, List, ◌<◌, ◌^◌, Option, append_assoc}
use Rattle.std.proofs.Common.{sym, ap, ◌∙◌, arith}
use Rattle.std.specs.Prelude.{codes, decimal}
use Rattle.s10_wire.specs.declared.request.Request.{Request}
use Rattle.s10_notes.specs.Notes.{NotesState, notes_of}
use Rattle.s10_notes.specs.Text.{members_text, request_text}
use Rattle.s10_notes.proofs.reading.read_members.Goals as goal

-- Notes are those whose members were read.
same_notes : (n : NotesState) (customer next last : ℕ) (request : Option Request)
    → customer ≡ n.customer → next ≡ n.next → last ≡ n.last → request ≡ n.request
    → notes_of customer next last request ≡ n
same_notes n customer next last request a b d e = λ i. notes_of (a i) (b i) (d i) (e i)

-- The members and what follows, one after another.
regrouped : (k1 x1 k2 x2 k3 x3 k4 r rest : List ℕ)
    → (k1 ++ (x1 ++ (k2 ++ (x2 ++ (k3 ++ (x3 ++ (k4 ++ r))))))) ++ rest
    ≡ k1 ++ (x1 ++ (k2 ++ (x2 ++ (k3 ++ (x3 ++ (k4 ++ (r ++ rest)))))))
regrouped k1 x1 k2 x2 k3 x3 k4 r rest = simp append_assoc

members : (n : NotesState) (rest : List ℕ) → members_text n ++ rest
    ≡ codes "{\"customer\": " ++ (decimal n.customer ++ (codes ", \"next\": " ++ (decimal n.next
    ++ (codes ", \"last\": " ++ (decimal n.last ++ (codes ", \"request\": "
    ++ (request_text n.request ++ rest)))))))
members n rest = regrouped (codes "{\"customer\": ") (decimal n.customer) (codes ", \"next\": ")
    (decimal n.next) (codes ", \"last\": ") (decimal n.last) (codes ", \"request\": ")
    (request_text n.request) rest

-- The members that were read are those of notes.
spelled : (customer next last : ℕ) (request : Option Request) (text a b d e end : List ℕ)
    → text ≡ codes "{\"customer\": " ++ (decimal customer ++ a)
    → a ≡ codes ", \"next\": " ++ (decimal next ++ b) → b ≡ codes ", \"last\": " ++ (decimal last ++ d)
    → d ≡ codes ", \"request\": " ++ e → e ≡ request_text request ++ end
    → text ≡ members_text (notes_of customer next last request) ++ end
spelled customer next last request text a b d e end one two three four five =
    one ∙ ap (λ r. codes "{\"customer\": " ++ (decimal customer ++ r))
    (two ∙ ap (λ r. codes ", \"next\": " ++ (decimal next ++ r))
    (three ∙ ap (λ r. codes ", \"last\": " ++ (decimal last ++ r))
    (four ∙ ap (λ r. codes ", \"request\": " ++ r) five)))
    ∙ sym (members (notes_of customer next last request) end)

pub returns-in_err-customer-clause-read : goal.returns-in_err-customer-clause-read
returns-in_err-customer-clause-read c = λ n rest ok is.
    let all = is ∙ members n rest in
    let small : n.customer < 2 ^ 64 = omega (arith, ok.customer) in
    absurd (c.in_err-customer.ensures.read n.customer _ small all)

pub returns-in_err-next-clause-read : goal.returns-in_err-next-clause-read
returns-in_err-next-clause-read c = λ n rest ok is.
    let all = is ∙ members n rest in
    let small : n.customer < 2 ^ 64 = omega (arith, ok.customer) in
    let low : n.next < 2 ^ 64 = omega (arith, ok.numbered.within, ok.last) in
    let a = c.in_ok-customer.ensures.read n.customer _ small all in
    absurd (c.in_err-next.ensures.read n.next _ low a.1)

pub returns-in_err-last-clause-read : goal.returns-in_err-last-clause-read
returns-in_err-last-clause-read c = λ n rest ok is.
    let all = is ∙ members n rest in
    let small : n.customer < 2 ^ 64 = omega (arith, ok.customer) in
    let low : n.next < 2 ^ 64 = omega (arith, ok.numbered.within, ok.last) in
    let few : n.last < 2 ^ 64 = omega (arith, ok.last) in
    let a = c.in_ok-customer.ensures.read n.customer _ small all in
    let b = c.in_ok-next.ensures.read n.next _ low a.1 in
    absurd (c.in_err-last.ensures.read n.last _ few b.1)

pub returns-in_err-rest-clause-read : goal.returns-in_err-rest-clause-read
returns-in_err-rest-clause-read c = λ n rest ok is.
    let all = is ∙ members n rest in
    let small : n.customer < 2 ^ 64 = omega (arith, ok.customer) in
    let low : n.next < 2 ^ 64 = omega (arith, ok.numbered.within, ok.last) in
    let few : n.last < 2 ^ 64 = omega (arith, ok.last) in
    let a = c.in_ok-customer.ensures.read n.customer _ small all in
    let b = c.in_ok-next.ensures.read n.next _ low a.1 in
    let d = c.in_ok-last.ensures.read n.last _ few b.1 in
    absurd (c.in_err-rest.ensures.read _ d.1)

pub returns-in-None-clause-read : goal.returns-in-None-clause-read
returns-in-None-clause-read c = λ n rest ok is.
    let all = is ∙ members n rest in
    let small : n.customer < 2 ^ 64 = omega (arith, ok.customer) in
    let low : n.next < 2 ^ 64 = omega (arith, ok.numbered.within, ok.last) in
    let few : n.last < 2 ^ 64 = omega (arith, ok.last) in
    let a = c.in_ok-customer.ensures.read n.customer _ small all in
    let b = c.in_ok-next.ensures.read n.next _ low a.1 in
    let d = c.in_ok-last.ensures.read n.last _ few b.1 in
    let e = c.in_ok-rest.ensures.read _ d.1 in
    absurd (c.in-None.ensures.read n.request rest ok.request e)

pub returns-in-Some-clause-read : goal.returns-in-Some-clause-read
returns-in-Some-clause-read c = λ n rest ok is.
    let all = is ∙ members n rest in
    let small : n.customer < 2 ^ 64 = omega (arith, ok.customer) in
    let low : n.next < 2 ^ 64 = omega (arith, ok.numbered.within, ok.last) in
    let few : n.last < 2 ^ 64 = omega (arith, ok.last) in
    let a = c.in_ok-customer.ensures.read n.customer _ small all in
    let b = c.in_ok-next.ensures.read n.next _ low a.1 in
    let d = c.in_ok-last.ensures.read n.last _ few b.1 in
    let e = c.in_ok-rest.ensures.read _ d.1 in
    let f = c.in-Some.ensures.read n.request rest ok.request e in
    (same_notes n _ _ _ _ a.0 b.0 d.0 f.0, f.1)

pub returns-in-Some-clause-spelled : goal.returns-in-Some-clause-spelled
returns-in-Some-clause-spelled c = (
  c.in-Some.ensures.spelled.0,
  spelled _ _ _ _ _ _ _ _ _ _
      c.in_ok-customer.ensures.spelled c.in_ok-next.ensures.spelled c.in_ok-last.ensures.spelled
      c.in_ok-rest.ensures.spelled c.in-Some.ensures.spelled.1,
)

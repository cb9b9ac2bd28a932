-- A legal history is determined by its requests and their days.
use Rattle.std.proofs.Common.{◌≡◌, ℕ, zero, suc, ◌≤◌, List, [], ◌∷◌, ◌++◌, map, refl, sym, ap, ◌∙◌}
use Rattle.std.proofs.Common.{arith, length, take, take_all}
use Rattle.std.specs.Prelude.{slice_get}
use Rattle.std.specs.Option.{option_map}
use Rattle.std.proofs.lemmas.Option.{same_Some, slice_get-map}
use Rattle.s10_wire.specs.declared.request.Request.{Request}
use Rattle.s10_history.specs.declared.entry.Entry.{Entry}
use Rattle.s10_history.specs.Settings.{Terms}
use Rattle.s10_book.specs.Rules.{answer_of, IsLegal}
use Rattle.s10_book.specs.Promises.{request_on_day}
use Rattle.s10_book.proofs.Legal.{element}
use Rattle.std.proofs.lemmas.List.{length-map}

same_entry : (g h : List Entry) (n : ℕ) (x y : Entry) → g ≡ h → request_on_day x ≡ request_on_day y
    → x.outcome ≡ answer_of g x.request x.day n → y.outcome ≡ answer_of h y.request y.day n → x ≡ y
same_entry g h n x y same both is_x is_y =
    let same_request : x.request ≡ y.request = ap (λ (p : Request × ℕ). p.0) both in
    let same_day : x.day ≡ y.day = ap (λ (p : Request × ℕ). p.1) both in
    let same_outcome : x.outcome ≡ y.outcome =
    is_x ∙ ap (λ (l : List Entry). answer_of l x.request x.day n) same
    ∙ ap (λ (q : Request). answer_of h q x.day n) same_request
    ∙ ap (λ d. answer_of h y.request d n) same_day ∙ sym is_y in
    λ k. record { request = same_request k; day = same_day k; outcome = same_outcome k }

same_length : (g h : List Entry) → map request_on_day g ≡ map request_on_day h → length g ≡ length h
same_length g h same = sym (length-map g request_on_day) ∙ ap length same
    ∙ length-map h request_on_day

same_start : (g h : List Entry) (t : Terms) → IsLegal g t → IsLegal h t → map request_on_day g
    ≡ map request_on_day h → (n : ℕ) → n ≤ length g → take n g ≡ take n h
same_start g h t legal_g legal_h same zero le = refl
same_start g h t legal_g legal_h same (suc n) le =
    let before : take n g ≡ take n h = same_start g h t legal_g legal_h same n (omega arith) in
    let x = element g n (omega arith) in
    let y = element h n (omega (arith, same_length g h same)) in
    let both : request_on_day x.0 ≡ request_on_day y.0 =
    same_Some (request_on_day x.0) (request_on_day y.0)
    (sym (slice_get-map request_on_day g n ∙ ap (option_map request_on_day) x.1)
    ∙ ap (λ (l : List (Request × ℕ)). slice_get l n) same ∙ slice_get-map request_on_day h n
    ∙ ap (option_map request_on_day) y.1) in
    let is : x.0 ≡ y.0 = same_entry (take n g) (take n h) t.interval x.0 y.0 before both
    (legal_g.follow n x.0 x.1).right (legal_h.follow n y.0 y.1).right in
    x.2 ∙ ap (λ (l : List Entry). l ++ x.0 ∷ []) before ∙ ap (λ (e : Entry). take n h ++ e ∷ []) is
    ∙ sym y.2

pub determined : (g h : List Entry) (t : Terms) → IsLegal g t → IsLegal h t → map request_on_day g
    ≡ map request_on_day h → g ≡ h
determined g h t legal_g legal_h same =
    sym (take_all (length g) g (omega arith))
    ∙ same_start g h t legal_g legal_h same (length g) (omega arith)
    ∙ take_all (length g) h (omega (arith, same_length g h same))

-- A pick depends only on the identifiers of the issuances and on their days. Hence successive Draws
-- are successive picks.
use Rattle.std.proofs.Common.{◌≡◌, ℕ, zero, suc, ◌+◌, Bool, true, false, cond, not, ◌&&◌, ◌||◌}
use Rattle.std.proofs.Common.{List, [], ◌∷◌, ◌++◌, Option, Some, None, refl, sym, ap, ap₂, ◌∙◌}
use Rattle.std.proofs.Common.{subst, length}
use Rattle.std.specs.Prelude.{find, filter}
use Rattle.std.specs.List.{last_or}
use Rattle.std.specs.Option.{option_map, option_or, unwrap_or}
use Rattle.s10_core.specs.declared.id.Id.{Id}
use Rattle.s10_core.specs.Id.{same_id}
use Rattle.s10_history.specs.declared.entry.Entry.{Entry}
use Rattle.s10_history.specs.declared.range.Range.{Range}
use Rattle.s10_history.specs.declared.issuance.Issuance.{Issuance}
use Rattle.s10_history.specs.History.{ranges_open, lies_in}
use Rattle.s10_history.specs.Issues.{issues_of, is_of, last_issuance_of, is_issued, is_free_since}
use Rattle.s10_history.specs.Issues.{serial_issued_earliest, serials, pick_of, id_at}
use Rattle.s10_book.specs.Rules.{has_free_pick, outcome_of_pick, draw_done, then_drawn}
use Rattle.s10_book.specs.Rules.{successive_draws}
use Rattle.s10_history.proofs.Earliest.{earliest_cons}
use Rattle.s10_history.proofs.Push.{issues_from-push}
use Rattle.s10_book.proofs.Closing.{draw_open}
use Rattle.s10_book.proofs.Picking.{then_found, then_same, picks}

-- Two lists are alike if they have issuances of the same identifiers, on the same days.
abbrev pub Alike : List Issuance → List Issuance → Type 0
Alike [] [] = Unit {0}
Alike [] (j ∷ js) = ⊥
Alike (i ∷ is) [] = ⊥
Alike (i ∷ is) (j ∷ js) = (i.id ≡ j.id) × (i.day ≡ j.day) × Alike is js

pub alike_itself : (is : List Issuance) → Alike is is
alike_itself [] = tt
alike_itself (i ∷ is) = (refl, refl, alike_itself is)

pub alike_push : (is js : List Issuance) (i j : Issuance) → Alike is js → i.id ≡ j.id
    → i.day ≡ j.day → Alike (is ++ i ∷ []) (js ++ j ∷ [])
alike_push [] [] i j alike id day = (id, day, tt)
alike_push [] (y ∷ ys) i j alike id day = absurd alike
alike_push (x ∷ xs) [] i j alike id day = absurd alike
alike_push (x ∷ xs) (y ∷ ys) i j alike id day =
    (alike.0, alike.1, alike_push xs ys i j alike.2 id day)

issued_alike : (is js : List Issuance) (x : Id) → Alike is js → is_issued is x ≡ is_issued js x
issued_alike [] [] x alike = refl
issued_alike [] (j ∷ js) x alike = absurd alike
issued_alike (i ∷ is) [] x alike = absurd alike
issued_alike (i ∷ is) (j ∷ js) x alike =
    ap₂ (λ (a b : Bool). a || b) (ap (λ (z : Id). same_id z x) alike.0)
    (issued_alike is js x alike.2)

pub find_same : {A : Type 0} (p q : A → Bool) (xs : List A) → ((x : A) → p x ≡ q x)
    → find p xs ≡ find q xs
find_same p q xs same = λ i. find (λ x. same x i) xs

earliest_alike : (r : Range) (is js : List Issuance) → Alike is js → serial_issued_earliest r is
    ≡ serial_issued_earliest r js
earliest_alike r [] [] alike = refl
earliest_alike r [] (j ∷ js) alike = absurd alike
earliest_alike r (i ∷ is) [] alike = absurd alike
earliest_alike r (i ∷ is) (j ∷ js) alike =
    earliest_cons r i is
    ∙ ap (λ (x : Id). cond (lies_in r x && not (is_issued is x)) (Some x.serial)
    (serial_issued_earliest r is)) alike.0
    ∙ ap (λ (b : Bool). cond (lies_in r j.id && not b) (Some j.id.serial)
    (serial_issued_earliest r is)) (issued_alike is js j.id alike.2)
    ∙ ap (λ (o : Option ℕ). cond (lies_in r j.id && not (is_issued js j.id)) (Some j.id.serial) o)
    (earliest_alike r is js alike.2)
    ∙ sym (earliest_cons r j js)

pub pick_alike : (r : Range) (is js : List Issuance) → Alike is js → pick_of is r ≡ pick_of js r
pick_alike r is js alike =
    ap₂ (λ (f o : Option ℕ). unwrap_or (option_or f o) r.first)
    (find_same (λ serial. not (is_issued is (id_at r serial)))
    (λ serial. not (is_issued js (id_at r serial))) (serials r)
    (λ s. ap not (issued_alike is js (id_at r s) alike)))
    (earliest_alike r is js alike)

abbrev day_in : Option Issuance → Option ℕ
day_in o = option_map (λ (i : Issuance). i.day) o

last_alike : (is js : List Issuance) (x : Id) (o u : Option Issuance) → Alike is js
    → day_in o ≡ day_in u → day_in (last_or o (filter (is_of x) is))
    ≡ day_in (last_or u (filter (is_of x) js))
last_alike [] [] x o u alike e = e
last_alike [] (j ∷ js) x o u alike e = absurd alike
last_alike (i ∷ is) [] x o u alike e = absurd alike
last_alike (i ∷ is) (j ∷ js) x o u alike e =
    at (is_of x i) (is_of x j) (ap (λ (z : Id). same_id z x) alike.0)
    (last_alike is js x (Some i) (Some j) alike.2 (ap Some alike.1))
    (last_alike is js x o u alike.2 e)
  where
    at : (a b : Bool) → a ≡ b → day_in (last_or (Some i) (filter (is_of x) is))
        ≡ day_in (last_or (Some j) (filter (is_of x) js)) → day_in (last_or o (filter (is_of x) is))
        ≡ day_in (last_or u (filter (is_of x) js))
        → day_in (last_or o (cond a (i ∷ filter (is_of x) is) (filter (is_of x) is)))
        ≡ day_in (last_or u (cond b (j ∷ filter (is_of x) js) (filter (is_of x) js)))
    at true true same taken past = taken
    at false false same taken past = past
    at true false same taken past = cc
    at false true same taken past = cc

pub free_alike : (is js : List Issuance) (day n : ℕ) (r : Range) → Alike is js
    → has_free_pick is day n r ≡ has_free_pick js day n r
free_alike is js day n r alike =
    ap (λ s. is_free_since day n (day_in (last_issuance_of is (id_at r s))))
    (pick_alike r is js alike)
    ∙ ap (is_free_since day n) (last_alike is js (id_at r (pick_of js r)) None None alike refl)

drawn_then : (is : List Issuance) (day : ℕ) (rs : List Range) (o : Option Range)
    (next : Id → Option (List Id)) → then_drawn (outcome_of_pick is day rs o) next
    ≡ then_found o (λ r. option_map (λ xs. id_at r (pick_of is r) ∷ xs)
    (next (id_at r (pick_of is r))))
drawn_then is day [] None next = refl
drawn_then is day (r ∷ rs) None next = refl
drawn_then is day [] (Some r) next = refl
drawn_then is day (x ∷ rs) (Some r) next = refl

-- Successive Draws give successive picks.
pub row_is : (made : Id → Issuance) (customer : ℕ) (s c : ℕ × ℕ) (day n : ℕ)
    → ((x : Id) → (made x).id ≡ x) → ((x : Id) → (made x).day ≡ day)
    → (count : ℕ) (h : List Entry) (is : List Issuance) → Alike (issues_of h) is
    → successive_draws h customer s c day n count ≡ picks made day n (ranges_open h customer s c) is
    count
row_is made customer s c day n same on zero h is alike = refl
row_is made customer s c day n same on (suc k) h is alike =
    let rs : List Range = ranges_open h customer s c in
    drawn_then (issues_of h) day (ranges_open h customer s c)
    (find (has_free_pick (issues_of h) day n) (ranges_open h customer s c))
    (λ x. successive_draws (h ++ draw_done customer s c day x ∷ []) customer s c day n k)
    ∙ ap (λ o. then_found o (λ r. option_map (λ xs. id_at r (pick_of (issues_of h) r) ∷ xs)
    (successive_draws (h ++ draw_done customer s c day (id_at r (pick_of (issues_of h) r)) ∷ [])
    customer s c day n k)))
    (find_same (has_free_pick (issues_of h) day n) (has_free_pick is day n)
    (ranges_open h customer s c) (λ r. free_alike (issues_of h) is day n r alike))
    ∙ then_same (find (has_free_pick is day n) (ranges_open h customer s c)) _ _
    (λ r _. each r (row_is made customer s c day n same on k))
  where
    each : (r : Range) → ((g : List Entry) (js : List Issuance) → Alike (issues_of g) js
        → successive_draws g customer s c day n k ≡ picks made day n (ranges_open g customer s c) js
        k) → option_map (λ xs. id_at r (pick_of (issues_of h) r) ∷ xs)
        (successive_draws (h ++ draw_done customer s c day (id_at r (pick_of (issues_of h) r)) ∷ [])
        customer s c day n k)
        ≡ option_map (λ xs. id_at r (pick_of is r) ∷ xs)
        (picks made day n (ranges_open h customer s c) (is ++ made (id_at r (pick_of is r))
        ∷ []) k)
    each r behind =
        let x : Id = id_at r (pick_of is r) in
        let e : Entry = draw_done customer s c day (id_at r (pick_of is r)) in
        let grown : issues_of (h ++ draw_done customer s c day (id_at r (pick_of is r)) ∷ [])
        ≡ issues_of h ++ record {
          id = id_at r (pick_of is r);
          day = day;
          customer = customer;
          number = 0;
          arrival = 1 + length h;
        } ∷ [] =
        issues_from-push 1 h (draw_done customer s c day (id_at r (pick_of is r))) in
        let same_open : ranges_open (h ++ draw_done customer s c day (id_at r (pick_of is r)) ∷ [])
        customer s c ≡ ranges_open h customer s c =
        draw_open h (draw_done customer s c day (id_at r (pick_of is r))) customer s c day
        (id_at r (pick_of is r)) refl in
        let A : List Issuance → Type 0 = λ l. Alike l (is ++ made (id_at r (pick_of is r)) ∷ []) in
        let next : Alike (issues_of (h ++ draw_done customer s c day (id_at r (pick_of is r)) ∷ []))
        (is ++ made (id_at r (pick_of is r)) ∷ []) =
        subst A (sym grown) (alike_push (issues_of h) is _ (made (id_at r (pick_of is r))) alike
        (sym (same (id_at r (pick_of is r)))) (sym (on (id_at r (pick_of is r))))) in
        ap (λ v. option_map (λ xs. id_at r v ∷ xs)
        (successive_draws (h ++ draw_done customer s c day (id_at r v) ∷ []) customer s c day n
        k)) (pick_alike r (issues_of h) is alike)
        ∙ ap (option_map (λ xs. id_at r (pick_of is r) ∷ xs))
        (behind (h ++ draw_done customer s c day (id_at r (pick_of is r)) ∷ [])
        (is ++ made (id_at r (pick_of is r)) ∷ []) next
        ∙ ap (λ l. picks made day n l (is ++ made (id_at r (pick_of is r)) ∷ []) k) same_open)

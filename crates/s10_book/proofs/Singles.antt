-- A DrawMany compared with the single Draws of its identifiers.
use Rattle.std.proofs.Common.{◌≡◌, ℕ, zero, suc, ◌+◌, ◌≤◌, List, [], ◌∷◌, ◌++◌, map, take, drop}
use Rattle.std.proofs.Common.{Option, Some, None, refl, sym, ap, ◌∙◌, arith, subst, length}
use Rattle.std.proofs.Common.{append-nil, append_assoc}
use Rattle.std.specs.Prelude.{find, slice_get}
use Rattle.std.specs.Option.{option_map}
use Rattle.std.proofs.lemmas.Option.{none-some, same_Some}
use Rattle.s10_core.specs.declared.id.Id.{Id}
use Rattle.s10_wire.specs.declared.outcome.Outcome.{Outcome}
use Rattle.s10_wire.specs.declared.outcome.Outcome.TheVariants.{Drawn, DrawnMany}
use Rattle.s10_history.specs.declared.entry.Entry.{Entry}
use Rattle.s10_history.specs.declared.range.Range.{Range}
use Rattle.s10_history.specs.declared.issuance.Issuance.{Issuance}
use Rattle.s10_history.specs.Settings.{Terms}
use Rattle.s10_history.specs.History.{ranges_open}
use Rattle.s10_history.specs.Issues.{issues_of, issues_at, carried_by, pick_of, id_at}
use Rattle.s10_book.specs.Rules.{IsLegal, answer_of, body_answer, draw_answer, draw_done}
use Rattle.s10_book.specs.Rules.{draw_many_answer, successive_draws, then_drawn, has_free_pick}
use Rattle.s10_book.specs.Rules.{outcome_of_pick, outcome_of_draws}
use Rattle.s10_book.specs.Promises.{without_number}
use Rattle.s10_history.proofs.Push.{issues_from-push}
use Rattle.s10_book.proofs.Closing.{draw_open}
use Rattle.s10_book.proofs.Carried.{made_by}
use Rattle.s10_book.proofs.Picking.{picks}
use Rattle.s10_book.proofs.Alike.{Alike, alike_itself, alike_push, pick_alike, find_same}
use Rattle.s10_book.proofs.Alike.{free_alike}
use Rattle.s10_book.proofs.Taking.{drawn_on, row_of, no_picks}
use Rattle.std.proofs.Math.Seq.{take-append_seam}

-- The issuances of single Draws are alike to any other issuances of their identifiers on their day.
single_issues : (customer : ℕ) (s c : ℕ × ℕ) (day : ℕ) (made : ℕ × Id → Issuance)
    → ((p : ℕ × Id) → (made p).id ≡ p.1) → ((p : ℕ × Id) → (made p).day ≡ p.0)
    → (ids : List Id) (m : List Entry) (is : List Issuance) → Alike is (issues_of m)
    → Alike (is ++ map made (map (λ x. (day, x)) ids))
    (issues_of (m ++ map (draw_done customer s c day) ids))
single_issues customer s c day made same on [] m is alike =
    let A : List Issuance → Type 0 = λ l. Alike l (issues_of (m ++ [])) in
    let B : List Entry → Type 0 = λ l. Alike is (issues_of l) in
    subst A (sym (append-nil is)) (subst B (sym (append-nil m)) alike)
single_issues customer s c day made same on (x ∷ xs) m is alike =
    let e : Entry = draw_done customer s c day x in
    let one : issues_of (m ++ draw_done customer s c day x ∷ []) ≡ issues_of m
    ++ issues_at (1 + length m) (draw_done customer s c day x) =
    issues_from-push 1 m (draw_done customer s c day x) in
    let L : List Issuance → Type 0 = λ l. Alike (is ++ made (day, x) ∷ []) l in
    let next : Alike (is ++ made (day, x) ∷ [])
    (issues_of (m ++ draw_done customer s c day x ∷ [])) =
    subst L (sym one) (alike_push is (issues_of m) (made (day, x))
    (record { id = x; day = day; customer = customer; number = 0; arrival = 1 + length m })
    alike (same (day, x)) (on (day, x))) in
    let A : List Issuance → Type 0 =
    λ l. Alike l (issues_of (m ++ map (draw_done customer s c day) (x ∷ xs))) in
    let B : List Entry → Type 0 =
    λ l. Alike ((is ++ made (day, x) ∷ []) ++ map made (map (λ x. (day, x)) xs))
    (issues_of l) in
    subst A (append_assoc is (made (day, x) ∷ []) (map made (map (λ x. (day, x)) xs)))
    (subst B (append_assoc m (draw_done customer s c day x ∷ [])
    (map (draw_done customer s c day) xs))
    (single_issues customer s c day made same on xs (m ++ draw_done customer s c day x ∷ [])
    (is ++ made (day, x) ∷ []) next))

-- After a DrawMany each range has the pick that its single Draws would leave.
pub pick_singles : (h : List Entry) (e : Entry) (customer : ℕ) (s c : ℕ × ℕ) (day : ℕ)
    (ids : List Id) → e.outcome ≡ DrawnMany day ids
    → (r : Range) → pick_of (issues_of (h ++ e ∷ [])) r
    ≡ pick_of (issues_of (h ++ map (draw_done customer s c day) ids)) r
pick_singles h e customer s c day ids is r =
    let grown : issues_of (h ++ e ∷ []) ≡ issues_of h ++ map (made_by e (1 + length h))
    (map (λ x. (day, x)) ids) =
    issues_from-push 1 h e ∙ ap (λ (o : Outcome). issues_of h ++ map (made_by e (1 + length h))
    (carried_by o)) is in
    ap (λ (l : List Issuance). pick_of l r) grown
    ∙ pick_alike r _ _ (single_issues customer s c day (made_by e (1 + length h)) (λ p. refl)
    (λ p. refl) ids h (issues_of h) (alike_itself (issues_of h)))

-- The outcome of a Draw is the same over lists of issuances that are alike.
pick_alike_answer : (is js : List Issuance) (day : ℕ) (rs : List Range) (o : Option Range)
    → Alike is js → outcome_of_pick is day rs o ≡ outcome_of_pick js day rs o
pick_alike_answer is js day [] None alike = refl
pick_alike_answer is js day (q ∷ rs) None alike = refl
pick_alike_answer is js day [] (Some r) alike = ap (λ (v : ℕ). Drawn day (id_at r v))
    (pick_alike r is js alike)
pick_alike_answer is js day (q ∷ rs) (Some r) alike = ap (λ (v : ℕ). Drawn day (id_at r v))
    (pick_alike r is js alike)

answer_alike : (g m : List Entry) (customer : ℕ) (s c : ℕ × ℕ) (day n : ℕ)
    → ranges_open g customer s c ≡ ranges_open m customer s c → Alike (issues_of g) (issues_of m)
    → draw_answer g customer s c day n ≡ draw_answer m customer s c day n
answer_alike g m customer s c day n same_open alike =
    let rs : List Range = ranges_open m customer s c in
    ap (λ (l : List Range). outcome_of_pick (issues_of g) day l
    (find (has_free_pick (issues_of g) day n) l)) same_open
    ∙ ap (λ (o : Option Range). outcome_of_pick (issues_of g) day (ranges_open m customer s c) o)
    (find_same (has_free_pick (issues_of g) day n) (has_free_pick (issues_of m) day n)
    (ranges_open m customer s c) (λ r. free_alike (issues_of g) (issues_of m) day n r alike))
    ∙ pick_alike_answer (issues_of g) (issues_of m) day (ranges_open m customer s c)
    (find (has_free_pick (issues_of m) day n) (ranges_open m customer s c)) alike

draw_issues : (g : List Entry) (e : Entry) (customer : ℕ) (s c : ℕ × ℕ) (day : ℕ) (x : Id)
    → without_number e ≡ draw_done customer s c day x → issues_of (g ++ e ∷ []) ≡ issues_of g
    ++ made_by e (1 + length g) (day, x) ∷ []
draw_issues g e customer s c day x is = issues_from-push 1 g e
    ∙ ap (λ (f : Entry). issues_of g ++ map (made_by e (1 + length g)) (carried_by f.outcome)) is

call_after : (g : List Entry) (e : Entry) (es : List Entry) → slice_get (g ++ e ∷ es) (length g)
    ≡ Some e
call_after [] e es = refl
call_after (x ∷ g) e es = call_after g e es

-- The outcome of a Done Draw in a legal history is that of the rules.
draw_told : (g : List Entry) (e : Entry) (es : List Entry) (t : Terms) (customer : ℕ) (s c : ℕ × ℕ)
    (day : ℕ) (x : Id) → IsLegal (g ++ e ∷ es) t → without_number e ≡ draw_done customer s c day x
    → Drawn day x ≡ draw_answer g customer s c day t.interval
draw_told g e es t customer s c day x legal is =
    sym (ap (λ (f : Entry). f.outcome) is)
    ∙ (legal.follow (length g) e (call_after g e es)).right
    ∙ ap (λ (l : List Entry). answer_of l e.request e.day t.interval) (take-append_seam g (e ∷ es))
    ∙ ap (λ (f : Entry). body_answer g f.request.customer f.request.body f.day t.interval) is

singles_row : (t : Terms) (customer : ℕ) (s c : ℕ × ℕ) (day : ℕ) (es : List Entry) (ids : List Id)
    (g m : List Entry) → IsLegal (g ++ es) t → ranges_open g customer s c ≡ ranges_open m customer s
    c → Alike (issues_of g) (issues_of m) → map without_number es ≡ map (draw_done customer s c day)
    ids
    → successive_draws m customer s c day t.interval (length es) ≡ Some ids
singles_row t customer s c day [] [] g m legal same_open alike same = refl
singles_row t customer s c day [] (x ∷ xs) g m legal same_open alike same =
    absurd (omega (arith, ap length same))
singles_row t customer s c day (e ∷ es) [] g m legal same_open alike same =
    absurd (omega (arith, ap length same))
singles_row t customer s c day (e ∷ es) (x ∷ xs) g m legal same_open alike same =
    let n : ℕ = t.interval in
    let first : without_number e ≡ draw_done customer s c day x =
    same_Some (without_number e) (draw_done customer s c day x)
    (ap (λ (l : List Entry). slice_get l 0) same) in
    let rest : map without_number es ≡ map (draw_done customer s c day) xs = ap (drop 1) same in
    let told : draw_answer m customer s c day t.interval ≡ Drawn day x =
    sym (draw_told g e es t customer s c day x legal first ∙ answer_alike g m customer s c day
    t.interval same_open alike) in
    let L : List Entry → Type 0 = λ l. IsLegal l t in
    let grown : IsLegal ((g ++ e ∷ []) ++ es) t = subst L (sym (append_assoc g (e ∷ []) es))
    legal in
    let one : ranges_open (g ++ e ∷ []) customer s c
    ≡ ranges_open (m ++ draw_done customer s c day x ∷ []) customer s c =
    draw_open g e customer s c day x first ∙ same_open
    ∙ sym (draw_open m (draw_done customer s c day x) customer s c day x refl) in
    let A : List Issuance → Type 0 =
    λ l. Alike l (issues_of (m ++ draw_done customer s c day x ∷ [])) in
    let B : List Issuance → Type 0 = λ l. Alike (issues_of g ++ made_by e (1 + length g) (day, x)
    ∷ []) l in
    let next : Alike (issues_of (g ++ e ∷ []))
    (issues_of (m ++ draw_done customer s c day x ∷ [])) =
    subst A (sym (draw_issues g e customer s c day x first))
    (subst B (sym (draw_issues m (draw_done customer s c day x) customer s c day x refl))
    (alike_push (issues_of g) (issues_of m) (made_by e (1 + length g) (day, x))
    (made_by (draw_done customer s c day x) (1 + length m) (day, x)) alike refl refl)) in
    ap (λ (o : Outcome). then_drawn o (λ y. successive_draws (m ++ draw_done customer s c day y
    ∷ []) customer s c day t.interval (length es))) told
    ∙ ap (option_map (λ ys. x ∷ ys)) (singles_row t customer s c day es xs (g ++ e ∷ [])
    (m ++ draw_done customer s c day x ∷ []) grown one next rest)

row_given : (day n count : ℕ) (is : List Issuance) (rs : List Range) (row : Option (List Id))
    (ids : List Id) → 1 ≤ count → row ≡ picks (drawn_on day) day n rs is count → row ≡ Some ids
    → outcome_of_draws day rs row ≡ DrawnMany day ids
row_given day n count is [] row ids some e found =
    absurd (none-some ids (sym (e ∙ no_picks day n count is some) ∙ found))
row_given day n count is (r ∷ rs) row ids some e found = ap (outcome_of_draws day (r ∷ rs)) found

-- A DrawMany gives what single Draws of a legal history gave in its stead.
pub singles_many : (h es : List Entry) (t : Terms) (customer : ℕ) (s c : ℕ × ℕ) (day : ℕ)
    (ids : List Id) → IsLegal (h ++ es) t → 1 ≤ length es → map without_number es
    ≡ map (draw_done customer s c day) ids
    → draw_many_answer h customer s c (length es) day t.interval ≡ DrawnMany day ids
singles_many h es t customer s c day ids legal some same =
    row_given day t.interval (length es) (issues_of h) (ranges_open h customer s c)
    (successive_draws h customer s c day t.interval (length es)) ids some
    (row_of h customer s c day t.interval (length es))
    (singles_row t customer s c day es ids h h legal refl (alike_itself (issues_of h)) same)

on_day : (is : List Issuance) (day : ℕ) (rs : List Range) (o : Option Range) (d : ℕ) (x : Id)
    → outcome_of_pick is day rs o ≡ Drawn d x → d ≡ day
on_day is day [] None d x e = absurd cc
on_day is day (q ∷ rs) None d x e = absurd cc
on_day is day [] (Some r) d x e = cc
on_day is day (q ∷ rs) (Some r) d x e = cc

given_at : (h : List Entry) (customer : ℕ) (s c : ℕ × ℕ) (day n d : ℕ) (y : Id) (xs : List Id)
    → draw_answer h customer s c day n ≡ Drawn d y
    → ((j : ℕ) (x : Id) → slice_get xs j ≡ Some x
    → draw_answer ((h ++ draw_done customer s c day y ∷ []) ++ map (draw_done customer s c day)
    (take j xs)) customer s c day n ≡ Drawn day x)
    → (k : ℕ) (x : Id) → slice_get (y ∷ xs) k ≡ Some x
    → draw_answer (h ++ map (draw_done customer s c day) (take k (y ∷ xs))) customer s c day n
    ≡ Drawn day x
given_at h customer s c day n d y xs first rest zero x at =
    let on : d ≡ day = on_day (issues_of h) day (ranges_open h customer s c)
    (find (has_free_pick (issues_of h) day n) (ranges_open h customer s c)) d y first in
    ap (λ (l : List Entry). draw_answer l customer s c day n) (append-nil h) ∙ first
    ∙ ap (λ (e : ℕ). Drawn e y) on ∙ ap (λ (z : Id). Drawn day z) (same_Some y x at)
given_at h customer s c day n d y xs first rest (suc j) x at =
    ap (λ (l : List Entry). draw_answer l customer s c day n)
    (sym (append_assoc h (draw_done customer s c day y ∷ [])
    (map (draw_done customer s c day) (take j xs)))) ∙ rest j x at

-- Each identifier of successive Draws is what a single Draw gives after those before it.
row_singles : (h : List Entry) (customer : ℕ) (s c : ℕ × ℕ) (day n count : ℕ) (ids : List Id)
    → successive_draws h customer s c day n count ≡ Some ids
    → (k : ℕ) (x : Id) → slice_get ids k ≡ Some x
    → draw_answer (h ++ map (draw_done customer s c day) (take k ids)) customer s c day n
    ≡ Drawn day x
row_singles h customer s c day n zero ids is = λ k x at. let P : List Id → Type 0 =
    λ l. slice_get l k ≡ Some x in absurd (none-some x (subst P (sym (same_Some [] ids is)) at))
row_singles h customer s c day n (suc m) ids is = from (draw_answer h customer s c day n) refl is
    (λ y. row_singles (h ++ draw_done customer s c day y ∷ []) customer s c day n m)
  where
    from : (o : Outcome) → draw_answer h customer s c day n ≡ o
        → then_drawn o (λ y. successive_draws (h ++ draw_done customer s c day y ∷ []) customer s c
        day n m) ≡ Some ids
        → ((y : Id) (xs : List Id) → successive_draws (h ++ draw_done customer s c day y ∷ [])
        customer s c day n m ≡ Some xs
        → (j : ℕ) (x : Id) → slice_get xs j ≡ Some x
        → draw_answer ((h ++ draw_done customer s c day y ∷ []) ++ map (draw_done customer s c day)
        (take j xs)) customer s c day n ≡ Drawn day x)
        → (k : ℕ) (x : Id) → slice_get ids k ≡ Some x
        → draw_answer (h ++ map (draw_done customer s c day) (take k ids)) customer s c day n
        ≡ Drawn day x
    from (Drawn d y) first is' next =
        mapped (successive_draws (h ++ draw_done customer s c day y ∷ []) customer s c day n m) refl
        is'
      where
        mapped : (u : Option (List Id)) → successive_draws (h ++ draw_done customer s c day y ∷ [])
            customer s c day n m ≡ u → option_map (λ xs. y ∷ xs) u ≡ Some ids
            → (k : ℕ) (x : Id) → slice_get ids k ≡ Some x
            → draw_answer (h ++ map (draw_done customer s c day) (take k ids)) customer s c day n
            ≡ Drawn day x
        mapped None rest is'' = absurd (none-some ids is'')
        mapped (Some xs) rest is'' =
            let P : List Id → Type 0 = λ l. (k : ℕ) (x : Id) → slice_get l k ≡ Some x
            → draw_answer (h ++ map (draw_done customer s c day) (take k l)) customer s c day n
            ≡ Drawn day x in
            subst P (same_Some (y ∷ xs) ids is'') (given_at h customer s c day n d y xs first
            (next y xs rest))
    from o first is' next = absurd (none-some ids is')

row_done : (day : ℕ) (rs : List Range) (row : Option (List Id)) (ids : List Id)
    → outcome_of_draws day rs row ≡ DrawnMany day ids → row ≡ Some ids
row_done day [] row ids is = absurd cc
row_done day (r ∷ rs) None ids is = absurd cc
row_done day (r ∷ rs) (Some xs) ids is = let same : xs ≡ ids = cc in ap Some same

-- Each identifier of a DrawMany is what a single Draw gives after those before it.
pub many_singles : (h : List Entry) (customer : ℕ) (s c : ℕ × ℕ) (count day n : ℕ) (ids : List Id)
    → draw_many_answer h customer s c count day n ≡ DrawnMany day ids
    → (k : ℕ) (x : Id) → slice_get ids k ≡ Some x
    → draw_answer (h ++ map (draw_done customer s c day) (take k ids)) customer s c day n
    ≡ Drawn day x
many_singles h customer s c count day n ids is =
    row_singles h customer s c day n count ids (row_done day (ranges_open h customer s c)
    (successive_draws h customer s c day n count) ids is)

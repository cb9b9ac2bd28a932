-- The identifiers that a call carries, each over the issuances with those before it.
use Rattle.std.proofs.Common.{◌≡◌, ℕ, zero, suc, ◌+◌, Bool, true, false, List, [], ◌∷◌, ◌++◌, map}
use Rattle.std.proofs.Common.{Option, Some, None, refl, sym, ◌∙◌, subst, length, append-nil}
use Rattle.std.proofs.Common.{append_assoc}
use Rattle.std.specs.Prelude.{find, filter, All, IsTrue, Contains}
use Rattle.std.specs.Option.{option_map}
use Rattle.std.proofs.lemmas.Bool.{both_ways, eqb-true, and_parts}
use Rattle.std.proofs.lemmas.Option.{none-some, same_Some}
use Rattle.std.proofs.lemmas.List.Elements.{All-nil, All-cons, All-head, All-tail, All-contains}
use Rattle.std.proofs.lemmas.List.Elements.{All-filter, All-contains_itself, filter_passes}
use Rattle.s10_core.specs.declared.id.Id.{Id}
use Rattle.s10_wire.specs.Kind.{fits}
use Rattle.s10_wire.specs.declared.body.Body.{Body}
use Rattle.s10_wire.specs.declared.body.Body.TheVariants.{Grant, Draw, Void, Query, DrawMany}
use Rattle.s10_wire.specs.declared.body.Body.TheVariants.{Withdraw}
use Rattle.s10_wire.specs.declared.outcome.Outcome.{Outcome}
use Rattle.s10_wire.specs.declared.outcome.Outcome.TheVariants.{Drawn, DrawnMany}
use Rattle.s10_history.specs.declared.entry.Entry.{Entry}
use Rattle.s10_history.specs.declared.range.Range.{Range}
use Rattle.s10_history.specs.declared.issuance.Issuance.{Issuance}
use Rattle.s10_history.specs.Settings.{Terms}
use Rattle.s10_history.specs.History.{ranges_of, is_open, ranges_open}
use Rattle.s10_history.specs.Issues.{issues_of, carried_by, is_free, id_at, pick_of}
use Rattle.s10_book.specs.Rules.{MayFollow, body_answer, outcome_of_pick, outcome_of_draws}
use Rattle.s10_book.specs.Rules.{successive_draws, has_free_pick}
use Rattle.s10_history.proofs.Numbering.{Contains-find, found_passes}
use Rattle.s10_history.proofs.Push.{issues_from-push}
use Rattle.s10_book.proofs.Fitting.{answer_fits}
use Rattle.s10_book.proofs.Picking.{then_found, picks}
use Rattle.s10_book.proofs.Alike.{alike_itself, row_is}

-- The issuance of an identifier that a call carries.
abbrev pub made_by : Entry → ℕ → ℕ × Id → Issuance
made_by e arrival c = record {
  id = c.1;
  day = c.0;
  customer = e.request.customer;
  number = e.request.number;
  arrival = arrival;
}

-- P holds of each carried identifier, over the issuances with those before it.
abbrev pub InTurn : (List Issuance → ℕ × Id → Type 0) → (ℕ × Id → Issuance) → List Issuance
    → List (ℕ × Id) → Type 0
InTurn P made is [] = Unit {0}
InTurn P made is (c ∷ cs) = P is c × InTurn P made (is ++ made c ∷ []) cs

-- A property that holds before, and is preserved by each issuance, holds after all of them.
pub in_turn : (P : List Issuance → ℕ × Id → Type 0) (Q : List Issuance → Type 0)
    (made : ℕ × Id → Issuance) (is : List Issuance) (cs : List (ℕ × Id))
    → InTurn P made is cs → Q is → ((js : List Issuance) (c : ℕ × Id) → P js c → Q js
    → Q (js ++ made c ∷ [])) → Q (is ++ map made cs)
in_turn P Q made is [] turn start step = subst Q (sym (append-nil is)) start
in_turn P Q made is (c ∷ cs) turn start step =
    subst Q (append_assoc is (made c ∷ []) (map made cs)) (in_turn P Q made (is ++ made c ∷ []) cs
    turn.1 (step is c turn.0 start) step)

-- An identifier on its day is picked if it is the pick of one of the customer's ranges, and free.
pub record IsPicked (rs : List Range) (customer day n : ℕ) (is : List Issuance) (c : ℕ × Id) :
    Type 0 where
  pub same_day : c.0 ≡ day
  pub free : is_free is c.1 day n ≡ true
  pub range : Range
  pub there : Contains rs range
  pub holder : range.holder ≡ customer
  pub picked : id_at range (pick_of is range) ≡ c.1

pub Contains-filter : {A : Type 0} (p : A → Bool) (xs : List A) (x : A) → Contains (filter p xs) x
    → Contains xs x
Contains-filter {A} p xs x in' = let P : A → Type 0 = Contains xs in
    All-contains P (filter p xs) x (All-filter p P xs (All-contains_itself xs)) in'

-- The range of a free pick is the customer's.
unfoldable pub picked_from : (g : List Entry) (rs : List Range) (customer day n : ℕ) (s c : ℕ × ℕ)
    (is : List Issuance) (r : Range)
    → find (has_free_pick is day n) (filter (is_open g customer s c) rs) ≡ Some r
    → IsPicked rs customer day n is (day, id_at r (pick_of is r))
picked_from g rs customer day n s c is r found =
    let at : Contains (filter (is_open g customer s c) rs) r =
    Contains-find (has_free_pick is day n) (filter (is_open g customer s c) rs) r found in
    let passes : is_open g customer s c r ≡ true =
    All-contains (λ y. is_open g customer s c y ≡ true) (filter (is_open g customer s c) rs) r
    (filter_passes (is_open g customer s c) rs) at in
    record {
      same_day = refl;
      free = found_passes (has_free_pick is day n) (filter (is_open g customer s c) rs) r found;
      range = r;
      there = Contains-filter (is_open g customer s c) rs r at;
      holder = eqb-true r.holder customer
          (and_parts _ _ (and_parts _ _ (and_parts _ _ passes).0).0).0;
      picked = refl;
    }

-- A property of each pick that is found among the ranges holds of what a Draw carries.
carried_at : (P : List Issuance → ℕ × Id → Type 0) (day n : ℕ) (among : List Range)
    (is : List Issuance) (made : ℕ × Id → Issuance) (held : List Range) (o : Option Range)
    → find (has_free_pick is day n) among ≡ o
    → ((js : List Issuance) (r : Range) → find (has_free_pick js day n) among ≡ Some r
    → P js (day, id_at r (pick_of js r)))
    → InTurn P made is (carried_by (outcome_of_pick is day held o))
carried_at P day n among is made [] None found holds = tt
carried_at P day n among is made (y ∷ ys) None found holds = tt
carried_at P day n among is made [] (Some r) found holds = (holds is r found, tt)
carried_at P day n among is made (y ∷ ys) (Some r) found holds = (holds is r found, tt)

-- The picks of successive Draws.
row_carried : (P : List Issuance → ℕ × Id → Type 0) (day n : ℕ) (among : List Range)
    (made : ℕ × Id → Issuance)
    → ((js : List Issuance) (r : Range) → find (has_free_pick js day n) among ≡ Some r
    → P js (day, id_at r (pick_of js r)))
    → (count : ℕ) (is : List Issuance) (ids : List Id) → picks (λ x. made (day, x)) day n among is
    count ≡ Some ids → InTurn P made is (map (λ x. (day, x)) ids)
row_carried P day n among made holds zero is ids e = let T : List Id → Type 0 =
    λ l. InTurn P made is (map (λ x. (day, x)) l) in subst T (same_Some [] ids e) tt
row_carried P day n among made holds (suc k) is ids e =
    found_at (find (has_free_pick is day n) among) refl e (row_carried P day n among made holds k)
  where
    found_at : (o : Option Range) → find (has_free_pick is day n) among ≡ o
        → then_found o (λ r. option_map (λ xs. id_at r (pick_of is r) ∷ xs)
        (picks (λ x. made (day, x)) day n among (is ++ made (day, id_at r (pick_of is r)) ∷ [])
        k)) ≡ Some ids
        → ((js : List Issuance) (xs : List Id) → picks (λ x. made (day, x)) day n among js k
        ≡ Some xs → InTurn P made js (map (λ x. (day, x)) xs))
        → InTurn P made is (map (λ x. (day, x)) ids)
    found_at None found e' next = absurd (none-some ids e')
    found_at (Some r) found e' next =
        mapped (picks (λ x. made (day, x)) day n among (is ++ made (day, id_at r (pick_of is r))
        ∷ []) k) refl e'
      where
        mapped : (u : Option (List Id)) → picks (λ x. made (day, x)) day n among
            (is ++ made (day, id_at r (pick_of is r)) ∷ []) k ≡ u
            → option_map (λ xs. id_at r (pick_of is r) ∷ xs) u ≡ Some ids
            → InTurn P made is (map (λ x. (day, x)) ids)
        mapped None rest is' = absurd (none-some ids is')
        mapped (Some xs) rest is' =
            let T : List Id → Type 0 = λ l. InTurn P made is (map (λ x. (day, x)) l) in
            subst T (same_Some (id_at r (pick_of is r) ∷ xs) ids is') (
              holds is r found,
              next (is ++ made (day, id_at r (pick_of is r)) ∷ []) xs rest,
            )

row_at : (P : List Issuance → ℕ × Id → Type 0) (held : List Range) (day : ℕ)
    (made : ℕ × Id → Issuance) (is : List Issuance) (row : Option (List Id))
    → ((ids : List Id) → row ≡ Some ids → InTurn P made is (map (λ x. (day, x)) ids))
    → InTurn P made is (carried_by (outcome_of_draws day held row))
row_at P [] day made is row turn = tt
row_at P (x ∷ xs) day made is None turn = tt
row_at P (x ∷ xs) day made is (Some ids) turn = turn ids refl

-- An outcome that fits no Draw carries no identifier.
none_carried : (b : Body) (o : Outcome) → ((d : ℕ) (x : Id) → fits b (Drawn d x) ≡ false)
    → ((d : ℕ) (ids : List Id) → fits b (DrawnMany d ids) ≡ false) → IsTrue (fits b o)
    → carried_by o ≡ []
none_carried b (Drawn d x) other many fit = absurd (both_ways (fits b (Drawn d x)) (other d x) fit)
none_carried b (DrawnMany d ids) other many fit =
    absurd (both_ways (fits b (DrawnMany d ids)) (many d ids) fit)
none_carried b o other many fit = refl

in_turn_none : (P : List Issuance → ℕ × Id → Type 0) (made : ℕ × Id → Issuance) (is : List Issuance)
    (cs : List (ℕ × Id)) → cs ≡ [] → InTurn P made is cs
in_turn_none P made is cs e = let Q : List (ℕ × Id) → Type 0 = InTurn P made is in
    subst Q (sym e) tt

-- A property of each pick that is found among a customer's open ranges holds of what the answer of
-- the rules carries, one after another.
pub carried : (P : List Issuance → ℕ × Id → Type 0) (g : List Entry) (customer day n : ℕ) (b : Body)
    (made : ℕ × Id → Issuance) → ((c : ℕ × Id) → (made c).id ≡ c.1)
    → ((c : ℕ × Id) → (made c).day ≡ c.0)
    → ((s c : ℕ × ℕ) (js : List Issuance) (r : Range)
    → find (has_free_pick js day n) (ranges_open g customer s c) ≡ Some r
    → P js (day, id_at r (pick_of js r)))
    → InTurn P made (issues_of g) (carried_by (body_answer g customer b day n))
carried P g customer day n (Draw s c) made same on holds =
    carried_at P day n (ranges_open g customer s c) (issues_of g) made (ranges_open g customer s c)
    _ refl (holds s c)
carried P g customer day n (Grant holder s c first last) made same on holds =
    let b = Grant holder s c first last in
    in_turn_none _ made (issues_of g) _ (none_carried b _ (λ d x. refl) (λ d ids. refl)
    (answer_fits g customer b day n))
carried P g customer day n (Void x) made same on holds = in_turn_none _ made (issues_of g) _
    (none_carried (Void x) _ (λ d y. refl) (λ d ids. refl) (answer_fits g customer (Void x) day n))
carried P g customer day n (Query x) made same on holds = in_turn_none _ made (issues_of g) _
    (none_carried (Query x) _ (λ d y. refl) (λ d ids. refl) (answer_fits g customer (Query x) day
    n))
carried P g customer day n (Withdraw range) made same on holds = in_turn_none _ made (issues_of g) _
    (none_carried (Withdraw range) _ (λ d y. refl) (λ d ids. refl)
    (answer_fits g customer (Withdraw range) day n))
carried P g customer day n (DrawMany s c count) made same on holds =
    row_at P (ranges_open g customer s c) day made (issues_of g)
    (successive_draws g customer s c day n count)
    (λ ids e. row_carried P day n (ranges_open g customer s c) made (holds s c) count (issues_of g)
    ids
    (sym (row_is (λ x. made (day, x)) customer s c day n (λ x. same (day, x)) (λ x. on (day, x))
    count g (issues_of g) (alike_itself (issues_of g))) ∙ e))

-- A property of each issuance of an outcome holds of all of them.
pub issued_at : (P : Issuance → Type 0) (customer number arrival : ℕ) (o : Outcome)
    → ((d : ℕ) (x : Id) → o ≡ Drawn d x
    → P (record { id = x; day = d; customer = customer; number = number; arrival = arrival }))
    → ((d : ℕ) (ids : List Id) → o ≡ DrawnMany d ids
    → All (λ x. P (record {
      id = x;
      day = d;
      customer = customer;
      number = number;
      arrival = arrival;
    })) ids)
    → All P (map (λ (c : ℕ × Id). record {
      id = c.1;
      day = c.0;
      customer = customer;
      number = number;
      arrival = arrival;
    }) (carried_by o))
issued_at P customer number arrival (Drawn d x) new many =
    All-cons P _ [] (new d x refl) (All-nil P)
issued_at P customer number arrival (DrawnMany d ids) new many = all_made ids (many d ids refl)
  where
    all_made : (xs : List Id)
        → All (λ x. P (record {
          id = x;
          day = d;
          customer = customer;
          number = number;
          arrival = arrival;
        })) xs
        → All P (map (λ (c : ℕ × Id). record {
          id = c.1;
          day = c.0;
          customer = customer;
          number = number;
          arrival = arrival;
        }) (map (λ x. (d, x)) xs))
    all_made [] holds = All-nil P
    all_made (x ∷ xs) holds =
        let Q : Id → Type 0 =
        λ x. P (record {
          id = x;
          day = d;
          customer = customer;
          number = number;
          arrival = arrival;
        }) in
        All-cons P _ _ (All-head Q x xs holds) (all_made xs (All-tail Q x xs holds))
issued_at P customer number arrival o new many = All-nil P

-- The identifiers that a call carries were picked, one after another.
pub carried_call : (g : List Entry) (t : Terms) (e : Entry) → MayFollow g t e
    → InTurn (IsPicked (ranges_of g) e.request.customer e.day t.interval) (made_by e (1 + length g))
    (issues_of g) (carried_by e.outcome)
carried_call g t e may =
    let T : Outcome → Type 0 =
    λ o. InTurn (IsPicked (ranges_of g) e.request.customer e.day t.interval)
    (made_by e (1 + length g)) (issues_of g) (carried_by o) in
    subst T (sym may.right)
    (carried (IsPicked (ranges_of g) e.request.customer e.day t.interval) g e.request.customer e.day
    t.interval e.request.body (made_by e (1 + length g)) (λ c. refl) (λ c. refl)
    (λ s c. picked_from g (ranges_of g) e.request.customer e.day t.interval s c))

-- A property of the issuances of a history that each pick preserves holds after one more call.
pub after_call : (Q : List Issuance → Type 0) (g : List Entry) (t : Terms) (e : Entry)
    → MayFollow g t e → Q (issues_of g)
    → ((is : List Issuance) (c : ℕ × Id) → IsPicked (ranges_of g) e.request.customer e.day
    t.interval is c → Q is → Q (is ++ made_by e (1 + length g) c ∷ []))
    → Q (issues_of (g ++ e ∷ []))
after_call Q g t e may start step =
    subst Q (sym (issues_from-push 1 g e))
    (in_turn (IsPicked (ranges_of g) e.request.customer e.day t.interval) Q
    (made_by e (1 + length g)) (issues_of g) (carried_by e.outcome) (carried_call g t e may)
    start step)

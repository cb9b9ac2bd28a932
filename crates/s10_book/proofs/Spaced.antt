-- In a legal history the issuances of one identifier are an interval apart.
use Rattle.std.proofs.Common.{◌≡◌, ℕ, suc, ◌+◌, ◌-◌, ◌<◌, ◌≤◌, Bool, true, false, eqb, List, []}
use Rattle.std.proofs.Common.{◌∷◌, ◌++◌, Option, Some, None, refl, sym, ap, ◌∙◌, inl, inr, arith}
use Rattle.std.proofs.Common.{subst, length, get_or}
use Rattle.std.specs.Prelude.{filter, fold, All, AllPairs}
use Rattle.std.specs.List.{last_or}
use Rattle.std.proofs.lemmas.Bool.{both_ways, cases_lt, eq-eqb, leb-true, and_from}
use Rattle.std.proofs.lemmas.Option.{none-some, same_Some}
use Rattle.std.proofs.lemmas.List.Quantifiers.{all_pairs_push}
use Rattle.std.proofs.lemmas.List.Elements.{All-nil, All-cons, All-head, All-tail, All-push}
use Rattle.std.proofs.lemmas.List.Elements.{All-weaker}
use Rattle.std.specs.Option.{option_map}
use Rattle.s10_core.specs.declared.id.Id.{Id}
use Rattle.s10_core.specs.Letters.{same_letters}
use Rattle.s10_core.specs.Id.{same_id}
use Rattle.s10_history.specs.declared.entry.Entry.{Entry}
use Rattle.s10_history.specs.declared.issuance.Issuance.{Issuance}
use Rattle.s10_history.specs.Settings.{Terms}
use Rattle.s10_history.specs.History.{day_of}
use Rattle.s10_history.specs.Issues.{issues_of, is_of, last_issuance_of, is_free, is_free_since}
use Rattle.s10_book.specs.Rules.{IsLegal}
use Rattle.s10_book.specs.Promises.{IsSpaced}
use Rattle.s10_book.proofs.Carried.{made_by, after_call}
use Rattle.s10_book.proofs.Legal.{legal_induction}

abbrev pub InDays : List Issuance → Type 0
InDays is = AllPairs (λ i j. i.day ≤ j.day) is

pub tail_days : (x : Issuance) (xs : List Issuance) → InDays (x ∷ xs) → InDays xs
tail_days x xs h = λ i j d lt lt'. h (suc i) (suc j) d (omega arith) (omega arith)

pub head_days : (x : Issuance) (xs : List Issuance) → InDays (x ∷ xs) → All (λ i. x.day ≤ i.day) xs
head_days x xs h = λ k d lt. h 0 (suc k) d (omega arith) (omega arith)

-- The last element that passes has the greatest day of those that pass.
record IsLatest (p : Issuance → Bool) (o : Option Issuance) (is : List Issuance) (l : Issuance) :
    Type 0 where
  each : All (λ i. p i ≡ true → i.day ≤ l.day) is
  before : (m : Issuance) → o ≡ Some m → m.day ≤ l.day

latest_at : (p : Issuance → Bool) (o : Option Issuance) (i : Issuance) (is : List Issuance)
    (l : Issuance) (b : Bool) → p i ≡ b
    → ((b ≡ true) → IsLatest p (Some i) is l) → ((b ≡ false) → IsLatest p o is l)
    → ((m : Issuance) → o ≡ Some m → m.day ≤ i.day) → IsLatest p o (i ∷ is) l
latest_at p o i is l true e yes' no' up =
    let rest = yes' refl in
    record {
      each = All-cons (λ j. p j ≡ true → j.day ≤ l.day) i is (λ _. rest.before i refl) rest.each;
      before = λ m s. omega (arith, up m s, rest.before i refl);
    }
latest_at p o i is l false e yes' no' up =
    let rest = no' refl in
    record {
      each = All-cons (λ j. p j ≡ true → j.day ≤ l.day) i is (λ t. absurd (both_ways (p i) e t))
          rest.each;
      before = rest.before;
    }

is_latest : (p : Issuance → Bool) (o : Option Issuance) (is : List Issuance) (l : Issuance)
    → InDays is → ((m : Issuance) → o ≡ Some m → All (λ i. m.day ≤ i.day) is)
    → last_or o (filter p is) ≡ Some l → IsLatest p o is l
is_latest p o [] l days from last = record {
  each = All-nil (λ i. p i ≡ true → i.day ≤ l.day);
  before = λ m s. let e : m ≡ l = same_Some m l (sym s ∙ last) in
      omega (arith, ap (λ (x : Issuance). x.day) e);
}
is_latest p o (i ∷ is) l days from last =
    latest_at p o i is l (p i) refl
    (λ t. is_latest p (Some i) is l (tail_days i is days) (λ m s. let Q : Issuance
    → Type 0 = λ x. All (λ j. x.day ≤ j.day) is in
    subst Q (same_Some i m s) (head_days i is days))
    (rw t at last))
    (λ f. is_latest p o is l (tail_days i is days) (λ m s. All-tail (λ j. m.day ≤ j.day) i is
    (from m s)) (rw f at last))
    (λ m s. All-head (λ j. m.day ≤ j.day) i is (from m s))

-- If there is no last one, none passes.
pub last_none : (p : Issuance → Bool) (o : Option Issuance) (is : List Issuance)
    → last_or o (filter p is) ≡ None → (o ≡ None) × All (λ i. p i ≡ false) is
last_none p o [] last = (last, All-nil (λ i. p i ≡ false))
last_none p o (i ∷ is) last = none_at (p i) refl (λ t. last_none p (Some i) is (rw t at last))
    (λ f. last_none p o is (rw f at last))
  where
    none_at : (b : Bool) → p i ≡ b → ((p i ≡ true) → (Some i ≡ None) × All (λ j. p j ≡ false) is)
        → ((p i ≡ false) → (o ≡ None) × All (λ j. p j ≡ false) is) → (o ≡ None)
        × All (λ j. p j ≡ false) (i ∷ is)
    none_at true e yes' no' = absurd (none-some i (sym (yes' e).0))
    none_at false e yes' no' = let rest = no' e in
        (rest.0, All-cons (λ j. p j ≡ false) i is e rest.1)

free_at : (is : List Issuance) (x : Id) (day n : ℕ) (o : Option Issuance) → last_issuance_of is x
    ≡ o → InDays is → is_free_since day n (option_map (λ (i : Issuance). i.day) o) ≡ true → 0 < n
    → All (λ i. is_of x i ≡ true → i.day + n ≤ day) is
free_at is x day n None last days free pos =
    All-weaker (λ i. is_of x i ≡ false) (λ i. is_of x i ≡ true → i.day + n ≤ day)
    (λ i f t. absurd (both_ways (is_of x i) f t)) is (last_none (is_of x) None is last).1
free_at is x day n (Some l) last days free pos =
    let le : n ≤ day - l.day = leb-true n (day - l.day) free in
    All-weaker (λ i. is_of x i ≡ true → i.day ≤ l.day) (λ i. is_of x i ≡ true → i.day + n ≤ day)
    (λ i up t. omega (arith, up t)) is
    (is_latest (is_of x) None is l days (λ m s. absurd (none-some m s)) last).each

-- A free identifier was issued at least an interval before, if at all.
pub free_since : (is : List Issuance) (x : Id) (day n : ℕ) → InDays is → is_free is x day n ≡ true
    → 0 < n → All (λ i. is_of x i ≡ true → i.day + n ≤ day) is
free_since is x day n days free pos = free_at is x day n (last_issuance_of is x) refl days free pos

pub letters_itself : (a : ℕ × ℕ) → same_letters a a ≡ true
letters_itself a = and_from (eqb a.0 a.0) (eqb a.1 a.1) (eq-eqb _ _ refl) (eq-eqb _ _ refl)

pub id_itself : (x : Id) → same_id x x ≡ true
id_itself x = and_from _ _ (and_from _ _ (letters_itself x.service) (eq-eqb x.serial x.serial refl))
    (letters_itself x.country)

pub id_same : (x y : Id) → x ≡ y → same_id x y ≡ true
id_same x y e = let P : Id → Type 0 = λ z. same_id x z ≡ true in subst P e (id_itself x)

-- The properties of the issuances of every legal history.
pub record IsSound (is : List Issuance) (day n : ℕ) : Type 0 where
  pub days : AllPairs (λ i j. i.day ≤ j.day) is
  pub upto : All (λ i. i.day ≤ day) is
  pub spaced : AllPairs (λ i j. i.id ≡ j.id → i.day + n ≤ j.day) is

-- One more issuance of an identifier that is free.
pub sound_more : (is : List Issuance) (y : Issuance) (day n : ℕ) → y.day ≡ day
    → is_free is y.id day n ≡ true → IsSound is day n → IsSound (is ++ y ∷ []) day n
sound_more is y day n same free sound =
    let since : All (λ i. is_of y.id i ≡ true → i.day + n ≤ day) is =
    elim (cases_lt 0 n) [
      | inl pos ↦ free_since is y.id day n sound.days free pos
      | inr zero' ↦ All-weaker (λ i. i.day ≤ day) (λ i. is_of y.id i ≡ true → i.day + n ≤ day)
          (λ i up t. omega arith) is sound.upto
    ] in
    record {
      days = all_pairs_push (λ i j. i.day ≤ j.day) is y sound.days
          (λ k e lt. omega (arith, sound.upto k e lt, same));
      upto = All-push (λ i. i.day ≤ day) is y sound.upto (omega (arith, same));
      spaced = all_pairs_push (λ i j. i.id ≡ j.id → i.day + n ≤ j.day) is y sound.spaced
          (λ k e lt alike. omega (
            arith,
            since k e lt (id_same (get_or is k e).id y.id alike),
            same,
          ));
    }

-- The same on a later day.
pub sound_later : (is : List Issuance) (before day n : ℕ) → before ≤ day → IsSound is before n
    → IsSound is day n
sound_later is before day n le sound =
    record {
      days = sound.days;
      upto = All-weaker (λ i. i.day ≤ before) (λ i. i.day ≤ day)
          (λ i h. omega arith) is sound.upto;
      spaced = sound.spaced;
    }

day_push : (a : ℕ) (g : List Entry) (e : Entry) → fold (λ d x. x.day) a (g ++ e ∷ []) ≡ e.day
day_push a [] e = refl
day_push a (x ∷ xs) e = day_push x.day xs e

pub sound : (h : List Entry) (t : Terms) → IsLegal h t → IsSound (issues_of h) (day_of h) t.interval
sound h t legal = legal_induction (λ g. IsSound (issues_of g) (day_of g) t.interval) h t legal
    (record {
      days = λ i j d lt lt'. absurd (omega arith);
      upto = All-nil (λ i. i.day ≤ 0);
      spaced = λ i j d lt lt'. absurd (omega arith);
    })
    (λ g e legal_g before may.
    rw (day_push 0 g e)
    (after_call (λ is. IsSound is e.day t.interval) g t e may (sound_later (issues_of g) (day_of g)
    e.day t.interval may.in_order before)
    (λ is c picked. sound_more is (made_by e (1 + length g) c) e.day t.interval picked.same_day
    picked.free)))

pub spaced : (h : List Entry) (t : Terms) → IsLegal h t → IsSpaced h t.interval
spaced h t legal = (sound h t legal).spaced

-- The one range of an identifier decides who its customer is.
use Rattle.std.proofs.Common.{◌≡◌, ℕ, suc, Bool, true, false, cond, eqb, leb, ◌&&◌, ◌||◌, List, []}
use Rattle.std.proofs.Common.{◌∷◌, Option, Some, None, refl, sym, ap, ◌∙◌, arith, get_or}
use Rattle.std.specs.Prelude.{find, AllPairs}
use Rattle.std.specs.List.{list_any}
use Rattle.std.proofs.lemmas.Bool.{le-leb, and_right, false_from_ne_true}
use Rattle.std.proofs.lemmas.List.Folds.{list_any_none}
use Rattle.s10_core.specs.declared.id.Id.{Id}
use Rattle.s10_history.specs.declared.range.Range.{Range}
use Rattle.s10_history.specs.History.{lies_in, overlaps, is_own}
use Rattle.std.specs.Prelude.{is_some, not}
use Rattle.s10_wire.specs.declared.status.Status.TheVariants.{Unknown}
use Rattle.s10_history.specs.declared.entry.Entry.{Entry}
use Rattle.s10_history.specs.History.{ranges_of}
use Rattle.s10_history.specs.Issues.{last_issue_of}
use Rattle.s10_wire.specs.declared.outcome.Outcome.TheVariants.{Told, NotYours}
use Rattle.s10_book.specs.Rules.{status_of, status_of_issue, query_answer}
use Rattle.s10_book.proofs.Granting.{any_is}
use Rattle.s10_book.proofs.Apart.{Apart}

-- Whether the range that was found is the customer's.
abbrev pub found_own : ℕ → Option Range → Bool
found_own customer None = false
found_own customer (Some r) = eqb r.holder customer

and_true : (a b : Bool) → b ≡ true → (a && b) ≡ a
and_true true b e = e
and_true false b e = refl

same_test : (x : Id) (r : Range) → overlaps x.service x.country x.serial x.serial r ≡ lies_in r x
same_test x r = and_true (lies_in r x) (leb x.serial x.serial)
    (le-leb x.serial x.serial (omega arith))

tail_apart : (r : Range) (rs : List Range) → AllPairs Apart (r ∷ rs) → AllPairs Apart rs
tail_apart r rs h = λ i j d lt lt'. h (suc i) (suc j) d (omega arith) (omega arith)

others : (customer : ℕ) (x : Id) (r : Range) (rs : List Range) → AllPairs Apart (r ∷ rs)
    → lies_in r x ≡ true → list_any (is_own customer x) rs ≡ false
others customer x r rs h lies = list_any_none (is_own customer x) rs
    (λ k d lt. and_right (eqb (get_or rs k d).holder customer) (lies_in (get_or rs k d) x)
    (false_from_ne_true (lies_in (get_or rs k d) x) (h 0 (suc k) d (omega arith) (omega arith) x
    lies)))

own_at : (b : Bool) (customer : ℕ) (x : Id) (r : Range) (rs : List Range) → lies_in r x ≡ b
    → AllPairs Apart (r ∷ rs)
    → list_any (is_own customer x) rs ≡ found_own customer
    (find (overlaps x.service x.country x.serial x.serial) rs)
    → (is_own customer x r || list_any (is_own customer x) rs) ≡ found_own customer
    (cond b (Some r) (find (overlaps x.service x.country x.serial x.serial) rs))
own_at true customer x r rs lies h rest = rw (lies, others customer x r rs h lies)
    (or_false (eqb r.holder customer))
  where
    or_false : (a : Bool) → ((a && true) || false) ≡ a
    or_false true = refl
    or_false false = refl
own_at false customer x r rs lies h rest = rw (and_right (eqb r.holder customer) (lies_in r x) lies)
    rest

pub own_found : (customer : ℕ) (x : Id) (rs : List Range) → AllPairs Apart rs
    → list_any (is_own customer x) rs ≡ found_own customer
    (find (overlaps x.service x.country x.serial x.serial) rs)
own_found customer x [] h = refl
own_found customer x (r ∷ rs) h = own_at (overlaps x.service x.country x.serial x.serial r) customer
    x r rs (sym (same_test x r)) h (own_found customer x rs (tail_apart r rs h))

any_agree : {A : Type 0} (p q : A → Bool) → ((x : A) → p x ≡ q x) → (xs : List A)
    → list_any p xs ≡ list_any q xs
any_agree p q same [] = refl
any_agree p q same (x ∷ xs) = ap (λ b. b || list_any p xs) (same x)
    ∙ ap (λ b. q x || b) (any_agree p q same xs)

-- Whether an identifier lies in a range.
pub lies_any : (x : Id) (rs : List Range) (o : Option Range) (b : Bool)
    → o ≡ find (overlaps x.service x.country x.serial x.serial) rs → is_some o ≡ b
    → list_any (λ r. lies_in r x) rs ≡ b
lies_any x rs o b e t =
    any_agree (λ r. lies_in r x) (overlaps x.service x.country x.serial x.serial)
    (λ r. sym (same_test x r)) rs ∙ any_is (overlaps x.service x.country x.serial x.serial) rs o b e
    t

pub none_is : (t b : Bool) → not t ≡ b → t ≡ not b
none_is true b e = ap not e
none_is false b e = ap not e

pub status_at : (h : List Entry) (x : Id) (b : Bool) → list_any (λ r. lies_in r x) (ranges_of h) ≡ b
    → status_of h x ≡ cond b (status_of_issue (last_issue_of h x)) Unknown
status_at h x b e = ap (λ c. cond c (status_of_issue (last_issue_of h x)) Unknown) e

own_lies_at : (a b c d : Bool) → ((a && b) || c) ≡ true → (c ≡ true → d ≡ true) → (b || d) ≡ true
own_lies_at true true c d own rest = refl
own_lies_at true false c d own rest = rest own
own_lies_at false true c d own rest = refl
own_lies_at false false c d own rest = rest own

-- An identifier in a range of the customer lies in a range.
own_lies : (customer : ℕ) (x : Id) (rs : List Range) → list_any (is_own customer x) rs ≡ true
    → list_any (λ r. lies_in r x) rs ≡ true
own_lies customer x [] own = own
own_lies customer x (r ∷ rs) own = own_lies_at (eqb r.holder customer) (lies_in r x)
    (list_any (is_own customer x) rs) (list_any (λ r. lies_in r x) rs) own (own_lies customer x rs)

or_true : (a : Bool) → (a || true) ≡ true
or_true true = refl
or_true false = refl

-- The customer of an identifier gets the status of its last issue.
pub own_query : (h : List Entry) (customer : ℕ) (x : Id)
    → list_any (is_own customer x) (ranges_of h) ≡ true → query_answer h customer x
    ≡ Told (status_of_issue (last_issue_of h x))
own_query h customer x own =
    ap (λ b. cond (eqb customer 0 || b) (Told (status_of h x)) NotYours) own
    ∙ ap (λ b. cond b (Told (status_of h x)) NotYours) (or_true (eqb customer 0))
    ∙ ap (λ s. Told s) (status_at h x true (own_lies customer x (ranges_of h) own))

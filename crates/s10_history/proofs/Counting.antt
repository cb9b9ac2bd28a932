-- Serials of a range, counted from its first to its last.
use Rattle.std.proofs.Common.{◌≡◌, ℕ, suc, ◌+◌, ◌-◌, ◌<◌, ◌≤◌, Bool, true, false, cond, ◌||◌}
use Rattle.std.proofs.Common.{List, [], ◌∷◌, Option, Some, None, refl, sym, ap, ◌∙◌, arith}
use Rattle.std.specs.Prelude.{max, filter, count_by, is_some}
use Rattle.std.specs.List.{list_any, last_or, range_with_len}
use Rattle.std.specs.Option.{option_map, unwrap_or}
use Rattle.std.proofs.lemmas.List.Sums.{sum_by-cons}
use Rattle.s10_core.specs.declared.id.Id.{Id}
use Rattle.s10_history.specs.declared.entry.Entry.{Entry}
use Rattle.s10_history.specs.declared.range.Range.{Range}
use Rattle.s10_history.specs.declared.issue.Issue.{Issue}
use Rattle.s10_history.specs.declared.issuance.Issuance.{Issuance}
use Rattle.s10_history.specs.declared.usage.Usage.{Usage}
use Rattle.s10_history.specs.Issues.{issues_of, is_of, is_issued, is_voided, is_free, is_free_since}
use Rattle.s10_history.specs.Issues.{last_issuance_of, last_issue_of, id_at, serials}
use Rattle.s10_history.specs.History.{day_of}
use Rattle.s10_history.specs.Usage.{usage_of, CountsSerials}
use Rattle.s10_history.proofs.Issued.{free_last}

-- n serials below low pass; with those from low on, they are all that pass in the range.
abbrev pub Counted : (ℕ → Bool) → Range → ℕ → ℕ → Type 0
Counted p r low n = n + count_by p (range_with_len low (r.last + 1 - low)) ≡ count_by p (serials r)

Counted-start : (p : ℕ → Bool) (r : Range) (low : ℕ) → low ≡ r.first → Counted p r low 0
Counted-start p r low at = omega (
  arith,
  ap (λ n. count_by p (range_with_len n (r.last + 1 - n)))
      at,
)

Counted-step : (p : ℕ → Bool) (r : Range) (low n : ℕ) (b : Bool) → low ≤ r.last → b ≡ p low
    → Counted p r low n → Counted p r (low + 1) (n + cond b 1 0)
Counted-step p r low n b le is counted =
    let long : r.last + 1 - low ≡ suc (r.last + 1 - (low + 1)) = omega arith in
    let rest = range_with_len (low + 1) (r.last + 1 - (low + 1)) in
    let split : count_by p (range_with_len low (r.last + 1 - low)) ≡ cond b 1 0 + count_by p rest =
    ap (λ m. count_by p (range_with_len low m)) long ∙ sum_by-cons (λ s. cond (p s) 1 0) low rest
    ∙ ap (λ t. cond t 1 0 + count_by p rest) (sym is) in
    omega (arith, counted, split)

-- After the last serial, all are counted.
Counted-all : (p : ℕ → Bool) (r : Range) (low n : ℕ) → r.last < low → Counted p r low n
    → n ≡ count_by p (serials r)
Counted-all p r low n lt counted =
    let none : r.last + 1 - low ≡ 0 = omega arith in
    omega (arith, counted, ap (λ m. count_by p (range_with_len low m)) none)

some_at : {A : Type 0} (b : Bool) (d : Option A) (x : A) (ys : List A)
    → is_some (last_or (Some x) ys) ≡ true → is_some (last_or d ys) ≡ true
    → is_some (last_or d (cond b (x ∷ ys) ys)) ≡ true
some_at true d x ys with_x without_x = with_x
some_at false d x ys with_x without_x = without_x

some_or : {A : Type 0} (p : A → Bool) (d : Option A) (xs : List A) → is_some d ≡ true
    → is_some (last_or d (filter p xs)) ≡ true
some_or p d [] some = some
some_or p d (x ∷ xs) some = some_at (p x) d x (filter p xs) (some_or p (Some x) xs refl)
    (some_or p d xs some)

last_at : {A : Type 0} (b rest : Bool) (x : A) (ys : List A) → is_some (last_or (Some x) ys) ≡ true
    → is_some (last_or None ys) ≡ rest → is_some (last_or None (cond b (x ∷ ys) ys)) ≡ (b || rest)
last_at true rest x ys with_x without_x = with_x
last_at false rest x ys with_x without_x = without_x

-- A list has a last element that passes if any passes.
some_last : {A : Type 0} (p : A → Bool) (xs : List A) → is_some (last_or None (filter p xs))
    ≡ list_any p xs
some_last p [] = refl
some_last p (x ∷ xs) = last_at (p x) (list_any p xs) x (filter p xs) (some_or p (Some x) xs refl)
    (some_last p xs)

mapped_some : {A B : Type 0} (f : A → B) (o : Option A) → is_some (option_map f o) ≡ is_some o
mapped_some f None = refl
mapped_some f (Some x) = refl

pub issued_is : (h : List Entry) (x : Id) → is_some (last_issue_of h x) ≡ is_issued (issues_of h) x
issued_is h x = mapped_some _ (last_issuance_of (issues_of h) x) ∙ some_last (is_of x) (issues_of h)

voided_by : (o : Option Issuance) (f : Issuance → Issue) (g : Issuance → Bool)
    → ((i : Issuance) → (f i).voided ≡ unwrap_or (option_map g o) false)
    → unwrap_or (option_map (λ (i : Issue). i.voided) (option_map f o)) false
    ≡ unwrap_or (option_map g o) false
voided_by None f g same = refl
voided_by (Some i) f g same = same i

pub voided_is : (h : List Entry) (x : Id)
    → unwrap_or (option_map (λ (i : Issue). i.voided) (last_issue_of h x)) false ≡ is_voided h x
voided_is h x = voided_by (last_issuance_of (issues_of h) x) _ _ (λ i. refl)

-- The usage of the serials below low.
pub record UsedBelow (h : List Entry) (r : Range) (day interval low : ℕ) (u : Usage) : Type 0 where
  pub used : Counted (λ serial. is_issued (issues_of h) (id_at r serial)) r low u.used
  pub voided : Counted (λ serial. is_voided h (id_at r serial)) r low u.voided
  pub free : Counted (λ serial. is_free (issues_of h) (id_at r serial) day interval) r low u.free

pub UsedBelow-step : (h : List Entry) (r : Range) (day interval low : ℕ) (u v : Usage)
    (last : Option Issue) (some voided free : Bool) → low ≤ r.last
    → last ≡ last_issue_of h (id_at r low)
    → some ≡ is_some last → voided ≡ unwrap_or (option_map (λ (i : Issue). i.voided) last) false
    → free ≡ is_free_since day interval (option_map (λ (i : Issue). i.day) last)
    → v.used ≡ u.used + cond some 1 0 → v.voided ≡ u.voided + cond voided 1 0
    → v.free ≡ u.free + cond free 1 0
    → UsedBelow h r day interval low u → UsedBelow h r day interval (low + 1) v
UsedBelow-step h r day interval low u v last some voided free le known is0 is1 is2 e0 e1 e2 below =
    let x = id_at r low in
    let some_is : some ≡ is_issued (issues_of h) x = is0 ∙ ap is_some known ∙ issued_is h x in
    let void_is : voided ≡ is_voided h x =
    is1 ∙ ap (λ o. unwrap_or (option_map (λ (i : Issue). i.voided) o) false) known
    ∙ voided_is h x in
    let free_is : free ≡ is_free (issues_of h) x day interval =
    is2 ∙ ap (λ o. is_free_since day interval (option_map (λ (i : Issue). i.day) o)) known
    ∙ free_last day interval (last_issuance_of (issues_of h) x) _ (λ i. refl) in
    record {
      used = rw e0 (Counted-step _ r low u.used some le some_is below.used);
      voided = rw e1 (Counted-step _ r low u.voided voided le void_is below.voided);
      free = rw e2 (Counted-step _ r low u.free free le free_is below.free);
    }

pub UsedBelow-start : (h : List Entry) (r : Range) (day interval low : ℕ) → low ≡ r.first
    → UsedBelow h r day interval low (record { used = 0; voided = 0; free = 0 })
UsedBelow-start h r day interval low at = record {
  used = Counted-start _ r low at;
  voided = Counted-start _ r low at;
  free = Counted-start _ r low at;
}

pub one_more : (b : Bool) (n m : ℕ) → m ≡ n + cond b 1 0 → m ≤ n + 1
one_more true n m is = omega (arith, is)
one_more false n m is = omega (arith, is)

-- After the last serial, the usage is that of the range.
pub UsedBelow-all : (h : List Entry) (r : Range) (day interval low : ℕ) (u : Usage) → r.last < low
    → UsedBelow h r day interval low u → CountsSerials h r day interval u
UsedBelow-all h r day interval low u lt below = record {
  used = Counted-all _ r low u.used lt below.used;
  voided = Counted-all _ r low u.voided lt below.voided;
  free = Counted-all _ r low u.free lt below.free;
}

pub same_usage : (a b : Usage) → a.used ≡ b.used → a.voided ≡ b.voided → a.free ≡ b.free → a ≡ b
same_usage a b e0 e1 e2 = λ k. record { used = e0 k; voided = e1 k; free = e2 k }

pub usage_is : (h l : List Entry) (is : List Issuance) (r : Range) (day later n interval : ℕ)
    (u : Usage) → l ≡ h → is ≡ issues_of h → later ≡ max (day_of h) day → n ≡ interval
    → u.used ≡ count_by (λ serial. is_issued is (id_at r serial)) (serials r)
    → u.voided ≡ count_by (λ serial. is_voided l (id_at r serial)) (serials r)
    → u.free ≡ count_by (λ serial. is_free is (id_at r serial) later n) (serials r)
    → u ≡ usage_of h r day interval
unfolding usage_of
usage_is h l is r day later n interval u same are later_is n_is e0 e1 e2 =
    let f0 = e0 ∙ ap (λ (m : List Issuance). count_by (λ serial. is_issued m (id_at r serial))
    (serials r)) are in
    let f1 = e1 ∙ ap (λ (m : List Entry). count_by (λ serial. is_voided m (id_at r serial))
    (serials r)) same in
    let f2 = e2 ∙ ap (λ (m : List Issuance). count_by (λ serial. is_free m (id_at r serial) later n)
    (serials r)) are
    ∙ ap (λ d. count_by (λ serial. is_free (issues_of h) (id_at r serial) d n) (serials r)) later_is
    ∙ ap (λ k. count_by (λ serial. is_free (issues_of h) (id_at r serial) (max (day_of h) day) k)
    (serials r)) n_is in
    same_usage u _ f0 f1 f2

-- Lemmas about the deliveries of a run, one after another.
use Rattle.std.proofs.Common.{◌≡◌, ◌∙◌, ap, Bool, true, false, cond, ℕ, ◌+◌, ◌≤◌, List, [], ◌∷◌}
use Rattle.std.proofs.Common.{◌++◌, map, refl, sym, inl, inr, arith, subst}
use Rattle.std.specs.List.{count_by}
use Rattle.std.proofs.lemmas.Bool.{cases_lt}
use Rattle.std.proofs.lemmas.List.{map-append}
use Rattle.std.proofs.lemmas.List.Sums.{sum_by_push}
use Rattle.s10_history.specs.declared.entry.Entry.{Entry}
use Rattle.s10_book.specs.declared.book_fault.BookFault.TheVariants.{Memory, Store, Full}
use Rattle.s10_book.specs.declared.faults.Faults.{Faults}
use Rattle.s10_history.specs.Settings.{Terms}
use Rattle.s10_book.specs.Rules.{IsLegal}
use Rattle.s10_book.specs.BookFault.{RisesByOne}
use Rattle.s10_book.proofs.Spaced.{spaced}
use Rattle.s10_book.proofs.Own.{own}
use Rattle.s10_book.proofs.Apart.{apart}
use Rattle.s10_ends.specs.declared.answer.Answer.{Answer}
use Rattle.s10_ends.specs.declared.answer.Answer.TheVariants.{Reply, Dropped, Faulted}
use Rattle.s10_ends.specs.declared.delivery.Delivery.{Delivery}
use Rattle.s10_ends.specs.Served.{Dated, Served, CountsAnswer}
use Rattle.s10_ends.specs.Runs.{dated, is_memory, is_store, CountsEach, CountsAll, KeepsPromises}
use Rattle.s10_ends.proofs.Whole.{Served-push}

none_counted : (kind : Answer → Bool) (n : ℕ) → CountsEach kind [] n n
none_counted kind n = record {
  at_most = omega arith;
  never_falls = omega arith;
  each = λ _. omega arith;
}

pub CountsAll-nil : (faults : Faults) → CountsAll [] faults faults
CountsAll-nil faults = record {
  memory = none_counted is_memory faults.memory;
  store = none_counted is_store faults.store;
}

more_same : (kind : Answer → Bool) (ans : List Answer) (a : Answer) (x y z : ℕ)
    → CountsEach kind ans x y → kind a ≡ false → z ≡ y → CountsEach kind (ans ++ a ∷ []) x z
more_same kind ans a x y z counts no' same =
    let e : count_by kind (ans ++ a ∷ []) ≡ count_by kind ans + 0 = sum_by_push _ ans a
    ∙ ap (λ (b : Bool). count_by kind ans + cond b 1 0) no' in
    record {
      at_most = omega (arith, e, counts.at_most);
      never_falls = omega (arith, counts.never_falls);
      each =
          λ lt. omega (arith, e, same, counts.each (omega arith));
    }

more_risen : (kind : Answer → Bool) (ans : List Answer) (a : Answer) (x y z : ℕ)
    → CountsEach kind ans x y → kind a ≡ true → RisesByOne y z → CountsEach kind (ans ++ a ∷ []) x z
more_risen kind ans a x y z counts yes' rises =
    let e : count_by kind (ans ++ a ∷ []) ≡ count_by kind ans + 1 = sum_by_push _ ans a
    ∙ ap (λ (b : Bool). count_by kind ans + cond b 1 0) yes' in
    record {
      at_most = omega (arith, e, counts.at_most, rises.by_one);
      never_falls = omega (arith, counts.never_falls, rises.never_falls);
      each = λ lt.
          let few : count_by kind ans + x ≤ y =
          omega (arith, counts.each (omega (arith, rises.never_falls, lt))) in
          elim (cases_lt y z) [
            | inl up ↦ omega (arith, e)
            | inr ge ↦ absurd
                (omega (arith, lt, rises.unless_greatest (omega (arith, rises.never_falls))))
          ];
    }

neither : (ans : List Answer) (a : Answer) (x y z : Faults) → CountsAll ans x y
    → is_memory a ≡ false → is_store a ≡ false → z ≡ y → CountsAll (ans ++ a ∷ []) x z
neither ans a x y z counts no_memory no_store same =
    record {
      memory = more_same is_memory ans a x.memory y.memory z.memory counts.memory no_memory
          (ap (λ (f : Faults). f.memory) same);
      store = more_same is_store ans a x.store y.store z.store counts.store no_store
          (ap (λ (f : Faults). f.store) same);
    }

-- One more answer.
pub CountsAll-push : (ans : List Answer) (a : Answer) (x y z : Faults) → CountsAll ans x y
    → CountsAnswer a y z → CountsAll (ans ++ a ∷ []) x z
CountsAll-push ans (Reply frame) x y z counts step = neither ans (Reply frame) x y z counts refl
    refl step
CountsAll-push ans (Dropped fault) x y z counts step = neither ans (Dropped fault) x y z counts refl
    refl step
CountsAll-push ans (Faulted Memory) x y z counts step =
    record {
      memory = more_risen is_memory ans (Faulted Memory) x.memory y.memory z.memory counts.memory
          refl step.0;
      store = more_same is_store ans (Faulted Memory) x.store y.store z.store counts.store refl
          step.1;
    }
CountsAll-push ans (Faulted Store) x y z counts step =
    record {
      memory = more_same is_memory ans (Faulted Store) x.memory y.memory z.memory counts.memory refl
          step.1;
      store = more_risen is_store ans (Faulted Store) x.store y.store z.store counts.store refl
          step.0;
    }
CountsAll-push ans (Faulted Full) x y z counts step = neither ans (Faulted Full) x y z counts refl
    refl step

-- One more delivery.
pub Served-map_push : (h h1 h2 : List Entry) (t t1 : Terms) (ds : List Delivery) (ans : List Answer)
    (d : Delivery) (a : Answer)
    → Served h t (map dated ds) ans h1 → t1 ≡ t → Served h1 t1 (dated d ∷ []) (a ∷ []) h2
    → Served h t (map dated (ds ++ d ∷ [])) (ans ++ a ∷ []) h2
Served-map_push h h1 h2 t t1 ds ans d a before same one =
    let P : Terms → Type 0 = λ u. Served h1 u (dated d ∷ []) (a ∷ []) h2 in
    let Q : List Dated → Type 0 = λ l. Served h t l (ans ++ a ∷ []) h2 in
    subst Q (sym (map-append dated ds (d ∷ []))) (Served-push h h1 h2 t (map dated ds) ans (dated d)
    a before (subst P same one))

pub KeepsPromises-legal : (h : List Entry) (t : Terms) → IsLegal h t → KeepsPromises h t
KeepsPromises-legal h t legal = record {
  legal = legal;
  spaced = spaced h t legal;
  own = own h t legal;
  apart = apart h t legal;
}

-- One call after another.
use Rattle.std.proofs.Common.{◌≡◌, ◌++◌, ◌∙◌, refl, sym, ap, List, [], ◌∷◌, append-nil}
use Rattle.std.proofs.Common.{append_assoc, Option, subst, inl, inr, ⊎_elim}
use Rattle.s10_history.specs.declared.entry.Entry.{Entry}
use Rattle.s10_history.specs.Settings.{Terms}
use Rattle.s10_book.specs.Book.{Grows, FindsAfter, IsBetween, IsPerhapsWith, Unchanged}
use Rattle.s10_book.specs.GroupCommit.{CommitsSome}

pub grows_none : (xs : List Entry) → Grows xs xs
grows_none xs = ([], sym (append-nil xs))

-- Equal lists: each begins with the other.
pub grows_same : (xs ys : List Entry) → ys ≡ xs → Grows xs ys
grows_same xs ys same = ([], same ∙ sym (append-nil xs))

pub grows_trans : (xs ys zs : List Entry) → Grows xs ys → Grows ys zs → Grows xs zs
grows_trans xs ys zs first second = (
  first.0 ++ second.0,
  second.1 ∙ (ap (λ l. l ++ second.0) first.1 ∙ append_assoc xs first.0 second.0),
)

pub FindsAfter-refl : {B : Type 0} {honest clean : B → Type 0}
    {may_find : B → Option (List Entry) → Type 0} (a : B) (IsSuch : List Entry → Type 0)
    → FindsAfter honest clean may_find a a IsSuch
FindsAfter-refl {B} {honest} {clean} {may_find} a IsSuch = record {
  was_clean = λ c. c;
  finds = λ c found may. inl may;
}

pub Unchanged-refl : {B : Type 0} {history committed : B → List Entry} {terms : B → Terms}
    {honest clean : B → Type 0} {may_find : B → Option (List Entry) → Type 0} (a : B)
    → Unchanged history committed terms honest clean may_find a a
Unchanged-refl {B} {history} {committed} {terms} {honest} {clean} {may_find} a =
    record {
      was_honest = λ h. h;
      same_history = λ _. refl;
      same_terms = λ _. refl;
      stays_committed = λ _. grows_none (committed a);
      stop = FindsAfter-refl a (λ calls. calls ≡ history a);
    }

-- A call that left the book unchanged, and then one after which an opening may find such calls.
pub finds_after_unchanged : {B : Type 0} {history committed : B → List Entry} {terms : B → Terms}
    {honest clean : B → Type 0} {may_find : B → Option (List Entry) → Type 0} {a b c : B}
    (IsThen IsSuch : List Entry → Type 0)
    → Unchanged history committed terms honest clean may_find a b
    → FindsAfter honest clean may_find b c IsThen
    → (honest a → (calls : List Entry) → calls ≡ history a → IsSuch calls)
    → (honest b → (calls : List Entry) → IsThen calls → IsSuch calls)
    → FindsAfter honest clean may_find a c IsSuch
finds_after_unchanged {B} {history} {committed} {terms} {honest} {clean} {may_find} {a} {b} {c}
    IsThen IsSuch first second same such = record {
      was_clean = λ d. first.stop.was_clean (second.was_clean d);
      finds = λ d found may. ⊎_elim
          (λ was. ⊎_elim inl (λ it. inr (it.0, (it.1.0, it.1.1, same it.0 it.1.0 it.1.2)))
          (first.stop.finds (second.was_clean d) found was))
          (λ it. inr (first.was_honest it.0, (it.1.0, it.1.1, such it.0 it.1.0 it.1.2)))
          (second.finds d found may);
    }

pub Unchanged-trans : {B : Type 0} {history committed : B → List Entry} {terms : B → Terms}
    {honest clean : B → Type 0} {may_find : B → Option (List Entry) → Type 0} {a b c : B}
    → Unchanged history committed terms honest clean may_find a b
    → Unchanged history committed terms honest clean may_find b c
    → Unchanged history committed terms honest clean may_find a c
Unchanged-trans {B} {history} {committed} {terms} {honest} {clean} {may_find} {a} {b} {c} first
    second = record {
      was_honest = λ h. first.was_honest (second.was_honest h);
      same_history = λ h. second.same_history h ∙ first.same_history (second.was_honest h);
      same_terms = λ h. second.same_terms h ∙ first.same_terms (second.was_honest h);
      stays_committed = λ h. grows_trans (committed a) (committed b) (committed c)
          (first.stays_committed (second.was_honest h)) (second.stays_committed h);
      stop = finds_after_unchanged (λ calls. calls ≡ history b) (λ calls. calls ≡ history a) first
          second.stop (λ h calls same. same) (λ h calls same. same ∙ first.same_history h);
    }

-- A call that leaves a book unchanged commits none of the pending calls, or all.
pub commits_unchanged : {B : Type 0} {history committed : B → List Entry} {terms : B → Terms}
    {honest clean : B → Type 0} {may_find : B → Option (List Entry) → Type 0} {a b : B}
    → (honest a → Grows (committed a) (history a))
    → Unchanged history committed terms honest clean may_find a b
    → CommitsSome history committed terms honest clean may_find a b
commits_unchanged {B} {history} {committed} {terms} {honest} {clean} {may_find} {a} {b} first
    unchanged = record {
      was_honest = unchanged.was_honest;
      same_history = unchanged.same_history;
      same_terms = unchanged.same_terms;
      stays_committed = unchanged.stays_committed;
      stop = record {
        was_clean = unchanged.stop.was_clean;
        finds = λ c found may. ⊎_elim inl (λ it. inr (
          it.0,
          (
            it.1.0,
            it.1.1,
            (
              subst (Grows (committed a)) (sym it.1.2) (first it.0),
              grows_same it.1.0 (history a) (sym it.1.2),
            ),
          ),
        )) (unchanged.stop.finds c found may);
      };
    }

pub CommitsSome-refl : {B : Type 0} {history committed : B → List Entry} {terms : B → Terms}
    {honest clean : B → Type 0} {may_find : B → Option (List Entry) → Type 0} (a : B)
    → CommitsSome history committed terms honest clean may_find a a
CommitsSome-refl {B} {history} {committed} {terms} {honest} {clean} {may_find} a =
    record {
      was_honest = λ h. h;
      same_history = λ _. refl;
      same_terms = λ _. refl;
      stays_committed = λ _. grows_none (committed a);
      stop = FindsAfter-refl a (IsBetween (committed a) (history a));
    }

pub CommitsSome-trans : {B : Type 0} {history committed : B → List Entry} {terms : B → Terms}
    {honest clean : B → Type 0} {may_find : B → Option (List Entry) → Type 0} {a b c : B}
    → CommitsSome history committed terms honest clean may_find a b
    → CommitsSome history committed terms honest clean may_find b c
    → CommitsSome history committed terms honest clean may_find a c
CommitsSome-trans {B} {history} {committed} {terms} {honest} {clean} {may_find} {a} {b} {c} first
    second = record {
      was_honest = λ h. first.was_honest (second.was_honest h);
      same_history = λ h. second.same_history h ∙ first.same_history (second.was_honest h);
      same_terms = λ h. second.same_terms h ∙ first.same_terms (second.was_honest h);
      stays_committed = λ h. grows_trans (committed a) (committed b) (committed c)
          (first.stays_committed (second.was_honest h)) (second.stays_committed h);
      stop = record {
        was_clean = λ d. first.stop.was_clean (second.stop.was_clean d);
        finds = λ d found may. ⊎_elim (first.stop.finds (second.stop.was_clean d) found)
            (λ it. inr (
              first.was_honest it.0,
              (
                it.1.0,
                it.1.1,
                (
                  grows_trans (committed a) (committed b) it.1.0 (first.stays_committed it.0)
                      it.1.2.0,
                  subst (Grows it.1.0) (first.same_history it.0) it.1.2.1,
                ),
              ),
            ))
            (second.stop.finds d found may);
      };
    }

-- The same for one more call at the end.
pub finds_one_more : {B : Type 0} {history committed : B → List Entry} {terms : B → Terms}
    {honest clean : B → Type 0} {may_find : B → Option (List Entry) → Type 0} {a b c : B}
    (entry : Entry) → Unchanged history committed terms honest clean may_find a b
    → FindsAfter honest clean may_find b c (IsPerhapsWith (history b) entry)
    → FindsAfter honest clean may_find a c (IsPerhapsWith (history a) entry)
finds_one_more {B} {history} {committed} {terms} {honest} {clean} {may_find} {a} {b} {c} entry first
    second = finds_after_unchanged (IsPerhapsWith (history b) entry)
    (IsPerhapsWith (history a) entry) first second (λ h calls same. inl same)
    (λ h calls is. subst (λ (l : List Entry). IsPerhapsWith l entry calls) (first.same_history h)
    is)

-- A list that equals itself followed by more is followed by nothing.
no_more : (xs ys zs : List Entry) → xs ≡ (xs ++ ys) ++ zs → ys ≡ []
no_more [] [] zs same = refl
no_more [] (y ∷ ys) zs same = absurd cc
no_more (x ∷ xs) ys zs same = no_more xs ys zs (cc)

-- If all calls were committed and the history is the same, all calls are still committed.
pub whole_stays : (committed history committed' history' : List Entry) → committed ≡ history
    → history' ≡ history → Grows committed committed' → Grows committed' history'
    → committed' ≡ history'
whole_stays committed history committed' history' whole same grew first =
    let e : committed ≡ (committed ++ grew.0) ++ first.0 =
    whole ∙ (sym same ∙ (first.1 ∙ ap (λ l. l ++ first.0) grew.1)) in
    grew.1 ∙ (ap (λ l. committed ++ l) (no_more committed grew.0 first.0 e)
    ∙ (append-nil committed ∙ (whole ∙ sym same)))

-- The same for two books of which the call left one unchanged.
pub whole_kept : {B : Type 0} {history committed : B → List Entry} {terms : B → Terms}
    {honest clean : B → Type 0} {may_find : B → Option (List Entry) → Type 0} (a b : B)
    → Unchanged history committed terms honest clean may_find a b → honest b → Grows (committed b)
    (history b)
    → committed a ≡ history a → committed b ≡ history b
whole_kept {B} {history} {committed} {terms} {honest} {clean} {may_find} a b unchanged h first whole
    =
    whole_stays (committed a) (history a) (committed b) (history b) whole (unchanged.same_history h)
    (unchanged.stays_committed h) first

-- Which fault a refusal or a call returns.
use Rattle.std.proofs.Common.{◌≡◌, ◌≢◌, ◌⊎◌, inl, inr, Result, Ok, Err, IfErr, subst}
use Rattle.sqlite_schema.specs.declared.schema.Schema.{Schema}
use Rattle.s10_book.specs.declared.book_fault.BookFault.{BookFault}
use Rattle.s10_book.specs.declared.book_fault.BookFault.TheVariants as book
use Rattle.s10_book.specs.declared.faults.Faults.{Faults}
use Rattle.s10_book.specs.BookFault.{CountsResult}
use Rattle.s10_rows.specs.declared.open_fault.OpenFault.{OpenFault}
use Rattle.s10_rows.specs.declared.open_fault.OpenFault.TheVariants.{NotEmpty, Store}
use Rattle.s10_statements.specs.Creating.{HasOneOfTheNames, IsCreateRefusal}

-- A database with one of the five names is refused as such.
pub named : (s : Schema) (f : OpenFault) → IsCreateRefusal s f → (f ≡ NotEmpty) ⊎ (f ≡ Store)
    → HasOneOfTheNames s → f ≡ NotEmpty
named s f refusal (inl is) one = is
named s f refusal (inr is) one =
    absurd (subst (λ (x : OpenFault). IsCreateRefusal s x) is refusal one)

-- A database without one of them is not refused for them.
pub unnamed : (s : Schema) (f : OpenFault) → IsCreateRefusal s f → (f ≡ NotEmpty) ⊎ (f ≡ Store)
    → ¬ HasOneOfTheNames s → f ≡ Store
unnamed s f refusal (inl is) none =
    absurd (none (subst (λ (x : OpenFault). IsCreateRefusal s x) is refusal))
unnamed s f refusal (inr is) none = is

-- A call that fails only for lack of memory does not blame the store.
pub not_store : {T : Type 0} (r : Result T BookFault) → IfErr r (λ f. f ≡ book.Memory)
    → r ≢ Err book.Store
not_store (Ok x) memory same = absurd cc
not_store (Err f) memory same = absurd cc

-- A fault that is counted is not Full.
pub not_full : {T : Type 0} (r : Result T BookFault) (before after : Faults)
    → CountsResult r before after → r ≢ Err book.Full
not_full (Ok x) before after counted same = absurd cc
not_full (Err book.Memory) before after counted same = absurd cc
not_full (Err book.Store) before after counted same = absurd cc
not_full (Err book.Full) before after counted same = counted

-- A result is not both at once.
pub not_ok : {T : Type 0} (x : T) (r : Result T BookFault) → r ≡ Ok x → r ≡ Err book.Store → ⊥
not_ok x r is store = absurd cc

-- The store is not blamed for lack of memory.
pub not_memory : {T : Type 0} (f : BookFault) (r : Result T BookFault) → r ≡ Err f
    → r ≡ Err book.Store → f ≡ book.Memory → ⊥
not_memory f r is store memory = absurd cc

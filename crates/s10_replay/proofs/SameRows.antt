-- Rows that are the same in any order.
use Rattle.std.proofs.Common.{◌≡◌, List, [], ◌∷◌, length}
use Rattle.std.proofs.Math.Logic.{∥∥₁_elim}
use Rattle.std.specs.Coded.{Coded, Coded-set, coded_ℕ, coded_list}
use Rattle.std.proofs.lemmas.List.Sorted.{length_permutation}
use Rattle.s10_rows.specs.Tables.{HaveSameRows}
use Rattle.s10_replay.proofs.Sorting.{one_permutation}
use Rattle.std.proofs.lemmas.List.{nil_from_length}

pub same_length : {R : Type 0} (xs ys : List R) → HaveSameRows xs ys → length ys ≡ length xs
same_length xs ys same = ∥∥₁_elim same (Coded-set coded_ℕ (length ys) (length xs))
    (length_permutation xs ys)

pub no_rows : {R : Type 0} (ys : List R) → HaveSameRows [] ys → ys ≡ []
no_rows ys same = nil_from_length ys (same_length [] ys same)

pub one_row : {R : Type 0} → Coded R → (x : R) (ys : List R) → HaveSameRows (x ∷ []) ys
    → ys ≡ x ∷ []
one_row code x ys same = ∥∥₁_elim same (Coded-set (coded_list code) ys (x ∷ []))
    (one_permutation x ys)

-- The length of a normalized text.
use Rattle.std.proofs.Common.{◌≡◌, ℕ, ◌+◌, ◌<◌, ◌≤◌, Bool, true, not, List, length, get_or, take}
use Rattle.std.proofs.Common.{arith}
use Rattle.std.specs.Prelude.{count_by, ◌==◌}
use Rattle.std.proofs.lemmas.List.Sums.{length-filter, count_by_more_yes, sum_by-take-le}
use Rattle.std.proofs.lemmas.List.{length-map}
use Rattle.s10_core.specs.Id.{normalized}

abbrev is_kept : ℕ → Bool
is_kept character = not (character == 32)

-- A normalized text has one character for each that is not a space.
pub length-normalized : (text : List ℕ) → length (normalized text) ≡ count_by is_kept text
length-normalized text = simp length-map (length-filter is_kept text)

-- If the next character is kept, the whole text has more characters than the front.
pub one_more_kept : (text : List ℕ) (i : ℕ) → i < length text → is_kept (get_or text i 0) ≡ true
    → length (normalized (take i text)) < length (normalized text)
one_more_kept text i h kept =
    let front = length-normalized (take i text) in
    let whole = length-normalized text in
    let more = count_by_more_yes is_kept text i 0 h kept in
    let part : count_by is_kept (take (i + 1) text) ≤ count_by is_kept text =
    sum_by-take-le _ text (i + 1) in
    omega arith

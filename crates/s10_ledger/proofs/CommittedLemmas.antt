-- Whether the call of a key is committed.
use Rattle.std.proofs.Common.{◌≡◌, ℕ, suc, ◌↔◌, Bool, true, false, not, ◌||◌, IsTrue, List}
use Rattle.std.proofs.Common.{[], ◌∷◌, ◌++◌, get_or, Option, Some, None, refl, sym, ap, ◌∙◌, arith}
use Rattle.std.specs.Prelude.{find, is_some, AllPairs}
use Rattle.std.specs.List.{list_any}
use Rattle.std.specs.Option.{option_or}
use Rattle.std.proofs.lemmas.Bool.{true≢false, or_from, or_right}
use Rattle.std.proofs.lemmas.List.Folds.{find-append, list_any-append, Any-from_list_any}
use Rattle.s10_history.specs.declared.entry.Entry.{Entry}
use Rattle.s10_history.specs.Settings.{Terms}
use Rattle.s10_history.specs.History.{has_key, find_entry}
use Rattle.s10_book.specs.GroupCommit.{IsCommittedCall}
use Rattle.s10_book.specs.Rules.{IsLegal}
use Rattle.s10_rows.specs.declared.call_write.CallWrite.{CallWrite}
use Rattle.s10_ledger.specs.Pending.{calls_of}
use Rattle.s10_book.proofs.Granting.{any_find}
use Rattle.s10_book.proofs.Legal.{legal_distinct}

-- A test of the calls of these writes.
pub any_call : (test : Entry → Bool) (ws : List CallWrite) → list_any test (calls_of ws)
    ≡ list_any (λ (w : CallWrite). test w.entry) ws
any_call test [] = refl
any_call test (w ∷ ws) = ap (λ b. test w.entry || b) (any_call test ws)

-- A call is found if one has its key.
found_if_any : (customer number : ℕ) (h : List Entry) → list_any (has_key customer number) h
    ≡ is_some (find_entry h customer number)
found_if_any customer number h = any_find (has_key customer number) h

-- No two calls have the same key.
abbrev HaveDistinctKeys : List Entry → Type 0
HaveDistinctKeys = AllPairs (λ d e. ¬ (IsTrue (has_key d.request.customer d.request.number e)))

not_both : (customer number : ℕ) (d e : Entry)
    → ¬ (IsTrue (has_key d.request.customer d.request.number e)) → has_key customer number e ≡ true
    → has_key customer number d ≡ false
not_both customer number d e apart there = grind arith

-- The key of a later call is not one of those before it.
not_before : (customer number : ℕ) (xs ys : List Entry) → HaveDistinctKeys (xs ++ ys)
    → list_any (has_key customer number) ys ≡ true → list_any (has_key customer number) xs ≡ false
not_before customer number [] ys distinct there = refl
not_before customer number (x ∷ xs) ys distinct there =
    let key = has_key customer number in
    let at = Any-from_list_any key (xs ++ ys) (list_any-append key xs ys
    ∙ or_right (list_any key xs) (list_any key ys) there) in
    or_from (key x) (list_any key xs) (not_both customer number x (get_or (xs ++ ys) at.0 at.1)
    (distinct 0 (suc at.0) at.1 (omega arith) (omega (arith, at.2))) (ap key at.3 ∙ at.4))
    (not_before customer number xs ys (λ i j d lt within. distinct (suc i) (suc j) d (omega arith)
    (omega arith)) there)

alone : (found other : Option Entry) → is_some other ≡ false → found ≡ option_or found other
alone (Some e) other none = refl
alone None (Some e) none = absurd (true≢false none)
alone None None none = refl

-- A call of a legal history is committed if no pending one has its key.
pub committed_unless_pending : (committed pending : List Entry) (t : Terms) (customer number : ℕ)
    (b : Bool) → IsLegal (committed ++ pending) t → b ≡ list_any (has_key customer number) pending
    → (IsTrue (not b) ↔ IsCommittedCall committed (committed ++ pending) customer number)
committed_unless_pending committed pending t customer number false legal is =
    let key = has_key customer number in
    let none : is_some (find key pending) ≡ false =
    sym (is ∙ found_if_any customer number pending) in (
      λ _. alone (find key committed) (find key pending) none
          ∙ sym (find-append key committed pending),
      λ _. refl,
    )
committed_unless_pending committed pending t customer number true legal is =
    let key = has_key customer number in
    let before : list_any key committed ≡ false = not_before customer number committed pending
    (legal_distinct (committed ++ pending) t legal) (sym is) in
    let all : list_any key (committed ++ pending) ≡ true = list_any-append key committed pending
    ∙ or_right (list_any key committed) (list_any key pending) (sym is) in (
      λ none. absurd (true≢false (sym none)),
      λ same. absurd (true≢false (sym all ∙ found_if_any customer number (committed ++ pending)
          ∙ sym (ap is_some same) ∙ sym (found_if_any customer number committed) ∙ before)),
    )

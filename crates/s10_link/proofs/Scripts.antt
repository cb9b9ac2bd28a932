-- A scripted link takes the next receipt, and the next bool.
use Rattle.std.proofs.Common.{◌≡◌, ℕ, zero, suc, ◌+◌, ◌<◌, Bool, List, [], ◌∷◌, length, get_or}
use Rattle.std.proofs.Common.{drop, Option, Some, None, refl, sym, ap, subst, ◌∙◌, add-one}
use Rattle.std.specs.Prelude.{slice_get}
use Rattle.std.specs.Borrow.{Bor}
use Rattle.std.specs.Option.{option_copied}
use Rattle.std.specs.Slice.{IsItemAt}
use Rattle.std.proofs.lemmas.Option.{none-some, same_Some, slice_get_read}
use Rattle.std.proofs.Math.Seq.{drop-cons}
use Rattle.s10_link.specs.declared.receipt.Receipt.{Receipt}
use Rattle.s10_link.specs.Link.{ReceiveResult, SendResult}
use Rattle.s10_link.specs.ScriptLink.{result_of, TakesReceipt, TakesSend}

takes_suc : (xs : List Receipt) (k : ℕ) (r : Receipt) (result : ReceiveResult)
    → slice_get xs k ≡ Some r → result ≡ result_of r → TakesReceipt (drop k xs) (drop (suc k) xs)
    result
takes_suc [] k r result found is = absurd (none-some r found)
takes_suc (x ∷ xs) zero r result found is = (is ∙ ap result_of (sym (same_Some x r found)), refl)
takes_suc (x ∷ xs) (suc k) r result found is = takes_suc xs k r result found is

pub takes_receipt : (xs : List Receipt) (k : ℕ) (r : Receipt) (result : ReceiveResult)
    → slice_get xs k ≡ Some r → result ≡ result_of r → TakesReceipt (drop k xs) (drop (k + 1) xs)
    result
takes_receipt xs k r result found is = rw (add-one k) (takes_suc xs k r result found is)

-- The receipt that was looked up is the one at its index.
pub receipt_at : (xs : List Receipt) (k : ℕ) (found : Option (Bor Receipt)) (r : Receipt)
    → IsItemAt xs k found → Some r ≡ option_copied found → slice_get xs k ≡ Some r
receipt_at xs k None r looked is = absurd (none-some r (sym is))
receipt_at xs k (Some b) r looked is = slice_get_read xs (length xs) k b.now refl looked.3.0
    looked.1 ∙ sym is

-- The bool at its index is the result of the send.
pub takes_send : (xs : List Bool) (k : ℕ) (read passes : Bool) (result : SendResult) → k < length xs
    → read ≡ get_or xs k read → read ≡ passes → TakesSend (passes ∷ drop (k + 1) xs)
    (drop (k + 1) xs) result
    → TakesSend (drop k xs) (drop (k + 1) xs) result
takes_send xs k read passes result within looked is takes =
    let left : List Bool = drop (k + 1) xs in
    let front : drop k xs ≡ passes ∷ left =
    drop-cons xs k read within ∙ ap (λ (n : ℕ). get_or xs k read ∷ drop n xs) (sym (add-one k))
    ∙ ap (λ (b : Bool). b ∷ left) (sym looked ∙ is) in
    subst (λ (all : List Bool). TakesSend all left result) (sym front) takes

-- How a scripted link follows its script.
use Rattle.std.specs.Prelude.{◌≡◌, ◌⊎◌, ◌-◌, ◌^◌, ◌<◌, length, Some, None, Ok, Err, List, [], ◌∷◌, ◌++◌, Bool}
use Rattle.std.specs.Prelude.{true, false}
use Rattle.s10_link.specs.declared.receipt.Receipt.{Receipt}
use Rattle.s10_link.specs.declared.receipt.Receipt.TheVariants.{Deliver, Nothing, Fail}
use Rattle.s10_link.specs.declared.peer.Peer.{Peer}
use Rattle.s10_wire.specs.declared.frame.Frame.{Frame}
use Rattle.s10_link.specs.declared.trace.Trace.{Trace}
use Rattle.s10_link.specs.declared.link_fault.LinkFault.TheVariants.{Receive, Send, Spent}
use Rattle.s10_link.specs.Link.{ReceiveResult, SendResult}

-- The receipts and the sends that are left, the frames sent, and the trace.
pub record Script : Type 0 where
  pub receipts : List Receipt
  pub sends : List Bool
  pub log : List (Peer × Frame)
  pub trace : Trace

-- No send is left: the calls are at their end, or the script has no send left.
abbrev pub HasNoSend : Script → Type 0
HasNoSend link = (length link.trace ≡ 2 ^ 64 - 1) ⊎ (link.sends ≡ [])

-- The result of a receive with this receipt.
abbrev pub result_of : Receipt → ReceiveResult
result_of (Deliver from packet) = Ok (Some (from, packet))
result_of Nothing = Ok None
result_of Fail = Err Receive

-- A receive takes the next receipt; after the last one nothing arrives.
abbrev pub TakesReceipt : List Receipt → List Receipt → ReceiveResult → Type 0
TakesReceipt [] left result = (result ≡ Ok None) × (left ≡ [])
TakesReceipt (receipt ∷ others) left result = (result ≡ result_of receipt) × (left ≡ others)

-- A send takes the next bool, which says whether it succeeds; after the last one it is refused.
abbrev pub TakesSend : List Bool → List Bool → SendResult → Type 0
TakesSend [] left result = (result ≡ Err Spent) × (left ≡ [])
TakesSend (true ∷ others) left result = (result ≡ Ok tt) × (left ≡ others)
TakesSend (false ∷ others) left result = (result ≡ Err Send) × (left ≡ others)

-- The frames sent, after a send with this result.
abbrev pub log_after : List (Peer × Frame) → Peer × Frame → SendResult → List (Peer × Frame)
log_after log p (Ok _) = log ++ p ∷ []
log_after log p (Err _) = log

-- A receive follows the script: it takes from the receipts and changes neither the sends nor the
-- log.
pub record FollowsReceipts (old new : Script) (result : ReceiveResult) : Type 0 where
  pub receipts : length old.trace < 2 ^ 64 - 1 → TakesReceipt old.receipts new.receipts result
  pub spent : result ≡ Err Spent → new.receipts ≡ old.receipts
  pub sends : new.sends ≡ old.sends
  pub log : new.log ≡ old.log

-- A send follows the script: it takes from the sends, logs its frame if it succeeds, and leaves the
-- receipts.
pub record FollowsSends (old new : Script) (p : Peer × Frame) (result : SendResult) : Type 0 where
  pub sends : length old.trace < 2 ^ 64 - 1 → TakesSend old.sends new.sends result
  pub spent : result ≡ Err Spent → new.sends ≡ old.sends
  pub receipts : new.receipts ≡ old.receipts
  pub log : new.log ≡ log_after old.log p result

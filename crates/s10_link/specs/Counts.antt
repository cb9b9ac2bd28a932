-- How many calls there are of each kind.
use Rattle.std.specs.Prelude.{Bool, true, false, List, length, count_by, map}
use Rattle.s10_link.specs.declared.link_call.LinkCall.{LinkCall}
use Rattle.s10_link.specs.declared.link_call.LinkCall.TheVariants.{FailedReceive, FailedSend}
use Rattle.s10_link.specs.declared.link_call.LinkCall.TheVariants.{Received, Sent}
use Rattle.s10_link.specs.declared.counts.Counts.{Counts}

-- The calls that were logged.
abbrev pub calls_in : List (LinkCall × Unit {0}) → List LinkCall
calls_in items = map (λ item. item.0) items

-- Whether the call failed.
abbrev pub is_failure : LinkCall → Bool
is_failure FailedReceive = true
is_failure (FailedSend to frame) = true
is_failure call = false

-- Whether the call sent a frame.
abbrev pub is_send : LinkCall → Bool
is_send (Sent to frame) = true
is_send call = false

-- Whether the call received a datagram.
abbrev pub is_receipt : LinkCall → Bool
is_receipt (Received from packet) = true
is_receipt call = false

-- How many calls there are, and how many of each kind.
abbrev pub counts_of : List LinkCall → Counts
counts_of calls = record {
  calls = length calls;
  failures = count_by is_failure calls;
  sends = count_by is_send calls;
  received = count_by is_receipt calls;
}

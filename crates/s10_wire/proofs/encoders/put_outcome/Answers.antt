use Rattle.std.proofs.Common.{arith}
use Rattle.s10_wire.proofs.encoders.put_outcome.Goals as goal

pub put-requires : goal.put-requires
put-requires c = omega arith

pub returns-in-Voided-clause-bytes : goal.returns-in-Voided-clause-bytes
returns-in-Voided-clause-bytes c = rw c.in-Voided.is c.put.ensures.bytes

pub returns-in-Voided-clause-in_range : goal.returns-in-Voided-clause-in_range
returns-in-Voided-clause-in_range c = rw c.in-Voided.is tt

pub put-requires-in-Withdrawn : goal.put-requires-in-Withdrawn
put-requires-in-Withdrawn c = omega arith

pub returns-in-Withdrawn-clause-bytes : goal.returns-in-Withdrawn-clause-bytes
returns-in-Withdrawn-clause-bytes c = rw c.in-Withdrawn.is c.put-in-Withdrawn.ensures.bytes

pub returns-in-Withdrawn-clause-in_range : goal.returns-in-Withdrawn-clause-in_range
returns-in-Withdrawn-clause-in_range c = rw c.in-Withdrawn.is tt

pub put-requires-in-NotThePost : goal.put-requires-in-NotThePost
put-requires-in-NotThePost c = omega arith

pub returns-in-NotThePost-clause-bytes : goal.returns-in-NotThePost-clause-bytes
returns-in-NotThePost-clause-bytes c = rw c.in-NotThePost.is c.put-in-NotThePost.ensures.bytes

pub returns-in-NotThePost-clause-in_range : goal.returns-in-NotThePost-clause-in_range
returns-in-NotThePost-clause-in_range c = rw c.in-NotThePost.is tt

pub put-requires-in-BadGrant : goal.put-requires-in-BadGrant
put-requires-in-BadGrant c = omega arith

pub returns-in-BadGrant-clause-bytes : goal.returns-in-BadGrant-clause-bytes
returns-in-BadGrant-clause-bytes c = rw c.in-BadGrant.is c.put-in-BadGrant.ensures.bytes

pub returns-in-BadGrant-clause-in_range : goal.returns-in-BadGrant-clause-in_range
returns-in-BadGrant-clause-in_range c = rw c.in-BadGrant.is tt

pub put-requires-in-Overlap : goal.put-requires-in-Overlap
put-requires-in-Overlap c = omega arith

pub returns-in-Overlap-clause-bytes : goal.returns-in-Overlap-clause-bytes
returns-in-Overlap-clause-bytes c = rw c.in-Overlap.is c.put-in-Overlap.ensures.bytes

pub returns-in-Overlap-clause-in_range : goal.returns-in-Overlap-clause-in_range
returns-in-Overlap-clause-in_range c = rw c.in-Overlap.is tt

pub put-requires-in-NoRange : goal.put-requires-in-NoRange
put-requires-in-NoRange c = omega arith

pub returns-in-NoRange-clause-bytes : goal.returns-in-NoRange-clause-bytes
returns-in-NoRange-clause-bytes c = rw c.in-NoRange.is c.put-in-NoRange.ensures.bytes

pub returns-in-NoRange-clause-in_range : goal.returns-in-NoRange-clause-in_range
returns-in-NoRange-clause-in_range c = rw c.in-NoRange.is tt

pub put-requires-in-NoneFree : goal.put-requires-in-NoneFree
put-requires-in-NoneFree c = omega arith

pub returns-in-NoneFree-clause-bytes : goal.returns-in-NoneFree-clause-bytes
returns-in-NoneFree-clause-bytes c = rw c.in-NoneFree.is c.put-in-NoneFree.ensures.bytes

pub returns-in-NoneFree-clause-in_range : goal.returns-in-NoneFree-clause-in_range
returns-in-NoneFree-clause-in_range c = rw c.in-NoneFree.is tt

pub put-requires-in-NotYours : goal.put-requires-in-NotYours
put-requires-in-NotYours c = omega arith

pub returns-in-NotYours-clause-bytes : goal.returns-in-NotYours-clause-bytes
returns-in-NotYours-clause-bytes c = rw c.in-NotYours.is c.put-in-NotYours.ensures.bytes

pub returns-in-NotYours-clause-in_range : goal.returns-in-NotYours-clause-in_range
returns-in-NotYours-clause-in_range c = rw c.in-NotYours.is tt

pub put-requires-in-NotIssued : goal.put-requires-in-NotIssued
put-requires-in-NotIssued c = omega arith

pub returns-in-NotIssued-clause-bytes : goal.returns-in-NotIssued-clause-bytes
returns-in-NotIssued-clause-bytes c = rw c.in-NotIssued.is c.put-in-NotIssued.ensures.bytes

pub returns-in-NotIssued-clause-in_range : goal.returns-in-NotIssued-clause-in_range
returns-in-NotIssued-clause-in_range c = rw c.in-NotIssued.is tt

pub put-requires-in-AlreadyVoid : goal.put-requires-in-AlreadyVoid
put-requires-in-AlreadyVoid c = omega arith

pub returns-in-AlreadyVoid-clause-bytes : goal.returns-in-AlreadyVoid-clause-bytes
returns-in-AlreadyVoid-clause-bytes c = rw c.in-AlreadyVoid.is c.put-in-AlreadyVoid.ensures.bytes

pub returns-in-AlreadyVoid-clause-in_range : goal.returns-in-AlreadyVoid-clause-in_range
returns-in-AlreadyVoid-clause-in_range c = rw c.in-AlreadyVoid.is tt

pub put-requires-in-NoSuchRange : goal.put-requires-in-NoSuchRange
put-requires-in-NoSuchRange c = omega arith

pub returns-in-NoSuchRange-clause-bytes : goal.returns-in-NoSuchRange-clause-bytes
returns-in-NoSuchRange-clause-bytes c = rw c.in-NoSuchRange.is c.put-in-NoSuchRange.ensures.bytes

pub returns-in-NoSuchRange-clause-in_range : goal.returns-in-NoSuchRange-clause-in_range
returns-in-NoSuchRange-clause-in_range c = rw c.in-NoSuchRange.is tt

pub put-requires-in-Closed : goal.put-requires-in-Closed
put-requires-in-Closed c = omega arith

pub returns-in-Closed-clause-bytes : goal.returns-in-Closed-clause-bytes
returns-in-Closed-clause-bytes c = rw c.in-Closed.is c.put-in-Closed.ensures.bytes

pub returns-in-Closed-clause-in_range : goal.returns-in-Closed-clause-in_range
returns-in-Closed-clause-in_range c = rw c.in-Closed.is tt

pub put-requires-in-NumberReused : goal.put-requires-in-NumberReused
put-requires-in-NumberReused c = omega arith

pub returns-in-NumberReused-clause-bytes : goal.returns-in-NumberReused-clause-bytes
returns-in-NumberReused-clause-bytes c = rw c.in-NumberReused.is c.put-in-NumberReused.ensures.bytes

pub returns-in-NumberReused-clause-in_range : goal.returns-in-NumberReused-clause-in_range
returns-in-NumberReused-clause-in_range c = rw c.in-NumberReused.is tt

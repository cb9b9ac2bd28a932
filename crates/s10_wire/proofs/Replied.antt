-- A datagram is at most one reply, and bytes that are one are not refused.
use Rattle.std.proofs.Common.{Bool, true, cond, Some, ltb, eqb, ◌≡◌, ℕ, ◌+◌, ◌*◌, List, [], ◌++◌}
use Rattle.std.proofs.Common.{length, None, Result, Ok, Err, refl, sym, ap, ◌∙◌, arith, append-nil}
use Rattle.std.specs.Prelude.{IfOk, IfErr, IsOkAnd}
use Rattle.std.specs.Result.{result_err}
use Rattle.s10_wire.specs.declared.body.Body.{Body}
use Rattle.s10_wire.specs.declared.body.Body.TheVariants.{Grant, Draw, Void, Query, DrawMany}
use Rattle.s10_wire.specs.declared.body.Body.TheVariants.{Withdraw}
use Rattle.s10_wire.specs.declared.request.Request.{Request}
use Rattle.s10_wire.specs.declared.status.Status.TheVariants as statuses
use Rattle.s10_wire.specs.declared.outcome.Outcome.{Outcome}
use Rattle.s10_wire.specs.declared.outcome.Outcome.TheVariants.{Granted, Drawn, DrawnMany, Voided}
use Rattle.s10_wire.specs.declared.outcome.Outcome.TheVariants.{Told, Withdrawn, NotThePost}
use Rattle.s10_wire.specs.declared.outcome.Outcome.TheVariants.{BadGrant, Overlap, NoRange}
use Rattle.s10_wire.specs.declared.outcome.Outcome.TheVariants.{NoneFree, NotYours, NotIssued}
use Rattle.s10_wire.specs.declared.outcome.Outcome.TheVariants.{AlreadyVoid, NoSuchRange, Closed}
use Rattle.s10_wire.specs.declared.outcome.Outcome.TheVariants.{NumberReused}
use Rattle.s10_wire.specs.declared.wire_fault.WireFault.{WireFault}
use Rattle.s10_wire.specs.declared.wire_fault.WireFault.TheVariants.{Short}
use Rattle.s10_wire.specs.declared.reply.Reply.{Reply}
use Rattle.s10_wire.specs.declared.kind.Kind.TheVariants as kinds
use Rattle.s10_wire.specs.Ids.{spellings_of}
use Rattle.s10_wire.specs.Kind.{kind_of, is_reply_long, fits}
use Rattle.s10_wire.specs.Datagrams.{datagram, outcome_bytes, IsBody, IsOutcome, Replies}
use Rattle.s10_wire.specs.Reply.{request_of, outcome_of}
use Rattle.s10_wire.specs.WireFault.{first_refusal, identifier_fields, header_refusals}
use Rattle.s10_wire.specs.WireFault.{request_fields, outcome_refusals, reply_refusals}
use Rattle.s10_wire.proofs.Identifiers.{spelling_passes}
use Rattle.s10_wire.proofs.Refusals.{second_decides, fields_decide}
use Rattle.std.proofs.lemmas.Bool.{and_from, lt-ltb, le-ltb, eq-eqb, eqb-true}
use Rattle.s10_wire.proofs.Many.{length-spellings, identifiers_pass}
use Rattle.s10_wire.proofs.Asked.{right_fields}
use Rattle.s10_wire.proofs.Replies.{asked, replies_read}

-- A datagram is at most one reply.
pub one_reply : (b : List ℕ) (p q : Request) (u o : Outcome) → Replies b p u → Replies b q o
    → (p ≡ q) × (u ≡ o)
one_reply b p q u o rp rq =
    let one = replies_read b p u rp in
    let other = replies_read b q o rq in (sym one.0 ∙ other.0, sym one.1 ∙ other.1)

-- The header and the length of a reply pass, so its fields decide.
reply_after : (c n : ℕ) (body : Body) (o : Outcome) → IsBody body → IsOutcome o → fits body o ≡ true
    → let b : List ℕ = datagram 0x80 (asked c n body) ++ outcome_bytes o in
    (first_refusal (reply_refusals b) ≡ first_refusal (request_fields (kind_of body) b
    ++ outcome_refusals (kind_of body) b))
    × (first_refusal (outcome_refusals (kind_of body) b) ≡ None)
reply_after c n (Grant h s t f l) (Granted range) ok out fit = (refl, refl)
reply_after c n (Draw s t) (Drawn day id) ok out fit = (refl, rw (spelling_passes id out.1) refl)
reply_after c n (Void x) Voided ok out fit = (refl, refl)
reply_after c n (Query x) (Told statuses.Unknown) ok out fit = (refl, refl)
reply_after c n (Query x) (Told statuses.Never) ok out fit = (refl, refl)
reply_after c n (Query x) (Told (statuses.Issued day)) ok out fit = (refl, refl)
reply_after c n (Query x) (Told (statuses.Voided day)) ok out fit = (refl, refl)
reply_after c n (Grant h s t f l) NotThePost ok out fit = (refl, refl)
reply_after c n (Grant h s t f l) BadGrant ok out fit = (refl, refl)
reply_after c n (Grant h s t f l) Overlap ok out fit = (refl, refl)
reply_after c n (Grant h s t f l) NumberReused ok out fit = (refl, refl)
reply_after c n (Draw s t) NoRange ok out fit = (refl, refl)
reply_after c n (Draw s t) NoneFree ok out fit = (refl, refl)
reply_after c n (Draw s t) NumberReused ok out fit = (refl, refl)
reply_after c n (Void x) NotYours ok out fit = (refl, refl)
reply_after c n (Void x) NotIssued ok out fit = (refl, refl)
reply_after c n (Void x) AlreadyVoid ok out fit = (refl, refl)
reply_after c n (Void x) NumberReused ok out fit = (refl, refl)
reply_after c n (Query x) NotYours ok out fit = (refl, refl)
reply_after c n (Query x) NumberReused ok out fit = (refl, refl)
reply_after c n (DrawMany s t count) (DrawnMany day ids) ok out fit =
    let b : List ℕ = datagram 0x80 (asked c n (DrawMany s t count)) ++ outcome_bytes
    (DrawnMany day ids) in
    let same : length ids ≡ count = eqb-true (length ids) count fit in
    let long : length (spellings_of ids) ≡ 13 * count = length-spellings ids
    ∙ ap (λ (k : ℕ). 13 * k) same in
    let right : first_refusal (identifier_fields 22 count b) ≡ None =
    ap (λ (k : ℕ). first_refusal (identifier_fields 22 k b)) (sym same) ∙ identifiers_pass 22 b ids
    [] out.1.1 (sym (append-nil (spellings_of ids))) in
    let header : None ≡ first_refusal (header_refusals 0x80 b) =
    ap (λ (t : Bool). cond t (Some Short) None) (sym (le-ltb (length b) 12 (omega arith))) in
    let said : is_reply_long kinds.DrawMany b ≡ true =
    and_from (ltb 17 (length b)) (eqb (length b) (22 + 13 * count))
    (lt-ltb 17 (length b) (omega arith)) (eq-eqb (length b) (22 + 13 * count)
    (omega (arith, long))) in
    (fields_decide b kinds.DrawMany header refl said, right)
reply_after c n (DrawMany s t count) NoRange ok out fit = (refl, refl)
reply_after c n (DrawMany s t count) NoneFree ok out fit = (refl, refl)
reply_after c n (DrawMany s t count) NumberReused ok out fit = (refl, refl)
reply_after c n (Withdraw range) Withdrawn ok out fit = (refl, refl)
reply_after c n (Withdraw range) NotThePost ok out fit = (refl, refl)
reply_after c n (Withdraw range) NoSuchRange ok out fit = (refl, refl)
reply_after c n (Withdraw range) Closed ok out fit = (refl, refl)
reply_after c n (Withdraw range) NumberReused ok out fit = (refl, refl)
reply_after c n body o ok out fit = absurd cc

-- A reply with these parts is not refused.
reply_right : (c n : ℕ) (body : Body) (o : Outcome) → IsBody body → IsOutcome o → fits body o ≡ true
    → first_refusal (reply_refusals (datagram 0x80 (asked c n body) ++ outcome_bytes o)) ≡ None
reply_right c n body o ok out fit =
    let b : List ℕ = datagram 0x80 (asked c n body) ++ outcome_bytes o in
    let right = reply_after c n body o ok out fit in
    right.0 ∙ second_decides (request_fields (kind_of body) b) (outcome_refusals (kind_of body) b)
    (right_fields 0x80 c n body (outcome_bytes o) ok) ∙ right.1

pub reply_unrefused : (b : List ℕ) (q : Request) (o : Outcome) → Replies b q o
    → first_refusal (reply_refusals b) ≡ None
reply_unrefused b q o r = ap (λ (x : List ℕ). first_refusal (reply_refusals x)) r.3
    ∙ reply_right q.customer q.number q.body o r.0.2 r.1 r.2

pub replied_is_read : (b : List ℕ) (r : Result Reply WireFault)
    → IfOk r (λ reply. Replies b (request_of reply) (outcome_of reply))
    → result_err r ≡ first_refusal (reply_refusals b)
    → (q : Request) (o : Outcome) → Replies b q o
    → IsOkAnd r (λ reply. (request_of reply ≡ q) × (outcome_of reply ≡ o))
replied_is_read b (Ok reply) found refused q o replies = one_reply b reply.request q reply.outcome o
    found replies
replied_is_read b (Err fault) found refused q o replies =
    let none : first_refusal (reply_refusals b) ≡ None = reply_unrefused b q o replies in absurd cc

-- Bytes that are refused are not a reply.
pub refused_replies_nothing : (b : List ℕ) (r : Result Reply WireFault)
    → result_err r ≡ first_refusal (reply_refusals b)
    → IfErr r (λ fault. (q : Request) (o : Outcome) → ¬ Replies b q o)
refused_replies_nothing b (Ok reply) refused = tt
refused_replies_nothing b (Err fault) refused = λ q o replies. let none :
    first_refusal (reply_refusals b) ≡ None = reply_unrefused b q o replies in absurd cc

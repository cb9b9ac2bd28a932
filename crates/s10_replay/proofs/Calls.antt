-- A row of calls, and the call that it stands for.
use Rattle.std.proofs.Common.{◌≡◌, ℕ, ◌^◌, ◌<◌, pos, Some, refl, sym, ap, ◌∙◌, subst}
use Rattle.s10_wire.specs.declared.request.Request.{Request}
use Rattle.s10_wire.specs.declared.outcome.Outcome.{Outcome}
use Rattle.s10_wire.specs.Datagrams.{Replies}
use Rattle.s10_history.specs.declared.entry.Entry.{Entry}
use Rattle.s10_rows.specs.CallRow.{StoredCall}
use Rattle.s10_rows.specs.Tables.{call_row}
use Rattle.s10_wire.specs.Replies.{request_in, outcome_in, reply_bytes}
use Rattle.s10_replay.specs.RightRows.{entry_of, day_in}
use Rattle.s10_rows.specs.Selected.{IsCall}
use Rattle.s10_replay.specs.ReadRows.{IsCallOf}
use Rattle.s10_wire.proofs.Replies.{replies_read}

abbrev pub kept_as : Request → ℕ → Outcome → Entry
kept_as q day o = record { request = q; day = day; outcome = o }

same_kept : (p q : Request) (c d : ℕ) (u o : Outcome) → p ≡ q → c ≡ d → u ≡ o
    → kept_as p c u ≡ kept_as q d o
same_kept p q c d u o e f g = cc

-- The call that was read of a row is the call that it stands for.
pub read_is : (row : StoredCall) (p q : Request) (day : ℕ) (u o : Outcome) → p ≡ q → u ≡ o
    → Replies row.reply q o → row.day ≡ pos day → day < 2 ^ 32
    → IsCallOf row (kept_as p day u)
read_is row p q day u o same_q same_o replies on fit =
    let P : Request → Type 0 = λ x. Replies row.reply x o in
    let Q : Outcome → Type 0 = λ x. Replies row.reply p x in
    let r : Replies row.reply p u = subst Q (sym same_o) (subst P (sym same_q) replies) in
    let at = replies_read row.reply p u r in
    record {
      entry = same_kept p (request_in row.reply) day (day_in row.day) u (outcome_in row.reply)
          (sym at.0) (sym (ap day_in on)) (sym at.1);
      call = record { request = r.0; outcome = r.1; fitting = r.2; day = fit };
      replies = r;
      day = on;
    }

-- The row of a call replies to its request with its outcome.
pub row_replies : (row : StoredCall) (n : ℕ) (e : Entry) → IsCall e → row ≡ call_row n e
    → Replies row.reply e.request e.outcome
unfolding reply_bytes
row_replies row n e call is = (
  call.request,
  call.outcome,
  call.fitting,
  ap (λ (r : StoredCall). r.reply) is,
)

-- The row of a call stands for it.
pub entry_of-call_row : (n : ℕ) (e : Entry) → IsCall e → entry_of (call_row n e) ≡ e
entry_of-call_row n e call =
    let at = replies_read (call_row n e).reply e.request e.outcome
    (row_replies (call_row n e) n e call refl) in
    same_kept (request_in (call_row n e).reply) e.request e.day e.day
    (outcome_in (call_row n e).reply) e.outcome at.0 refl at.1

-- The call that was read of the row of a call is this call.
pub read_again : (row : StoredCall) (n : ℕ) (e d : Entry) → IsCall e → row ≡ call_row n e
    → d ≡ entry_of row → Some d ≡ Some e
read_again row n e d call is read = ap Some (read ∙ ap entry_of is ∙ entry_of-call_row n e call)

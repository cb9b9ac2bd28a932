use Rattle.std.proofs.Common.{◌≡◌, ◌≢◌, ◌∙◌, ◌∷◌, [], ◌≤◌, ℕ, List, Some, None, refl, sym, subst}
use Rattle.std.proofs.Common.{arith, take}
use Rattle.s10_history.specs.Settings.{Terms}
use Rattle.s10_ends.specs.Served.{Served}
use Rattle.s10_ends.specs.Runs.{dated}
use Rattle.s10_jobs.specs.InputLines.{without_return}
use Rattle.s10_jobs.specs.LineReader.{ReadsByte, ReadsLine}
use Rattle.s10_jobs.specs.declared.line_reader.NextLine.TheVariants.{End, Whole, Long}
use Rattle.s10_jobs.proofs.ReplayedLines.{at_start, one_more, one_empty, ends_at_end, ends_too_long}
use Rattle.s10_jobs.proofs.ReplayedLines.{ends_refused, ends_stopped, ends_unread, ends_last}
use Rattle.s10_jobs.proofs.ReplayedLines.{ends_one_too_many, not_empty, is_nothing}
use Rattle.s10_jobs.proofs.replaying.replay_on.Goals as goal
use Rattle.s10_jobs.proofs.replaying.replay_on.Goals.{in-Some+in-Ok-write_answer, in-None}

pub loop-done-init : goal.loop-done-init
loop-done-init g c = record {
  few = omega arith;
  was_honest = λ h. h;
  same_terms = λ h. refl;
  replayed = λ h. at_start (g.B.Book.history c.args.server.now.book)
      (g.B.Book.terms c.args.server.now.book) (g.R.Read.remaining c.args.input.now)
      (g.W.Write.contents c.args.output.now);
}

pub returns-in_default-clause-replayed : goal.returns-in_default-clause-replayed
returns-in_default-clause-replayed g c = λ h.
    ends_stopped (g.B.Book.history c.args.server.now.book)
    (g.B.Book.history c.loop-done.server.book) (g.B.Book.terms c.args.server.now.book)
    (g.R.Read.remaining c.args.input.now) (g.R.Read.remaining c.loop-done.input)
    (g.R.Read.remaining c.read_line.new.input) (g.W.Write.contents c.args.output.now)
    (g.W.Write.contents c.loop-done.output)
    c.loop-done.done c.loop-done.count (c.loop-done.invariant.replayed h)
    c.in_default.ensures.stopped (omega arith)

pub returns-in-End-clause-replayed : goal.returns-in-End-clause-replayed
returns-in-End-clause-replayed g c = λ h.
    let read : ReadsLine (g.R.Read.remaining c.loop-done.input)
    (g.R.Read.remaining c.read_line.new.input) c.read_line.new.buffer End =
    rw c.in-End.is at c.in-Ok.ensures.line in
    ends_at_end (g.B.Book.history c.args.server.now.book) (g.B.Book.history c.loop-done.server.book)
    (g.B.Book.terms c.args.server.now.book)
    (g.R.Read.remaining c.args.input.now) (g.R.Read.remaining c.loop-done.input)
    (g.R.Read.remaining c.read_line.new.input) (g.W.Write.contents c.args.output.now)
    (g.W.Write.contents c.loop-done.output)
    c.read_line.new.buffer c.loop-done.done c.loop-done.count (c.loop-done.invariant.replayed h)
    read

pub returns-in-Long-clause-replayed : goal.returns-in-Long-clause-replayed
returns-in-Long-clause-replayed g c = λ h.
    let read : ReadsLine (g.R.Read.remaining c.loop-done.input)
    (g.R.Read.remaining c.read_line.new.input) c.read_line.new.buffer Long =
    rw c.in-Long.is at c.in-Ok.ensures.line in
    ends_too_long (g.B.Book.history c.args.server.now.book)
    (g.B.Book.history c.loop-done.server.book) (g.B.Book.terms c.args.server.now.book)
    (g.R.Read.remaining c.args.input.now) (g.R.Read.remaining c.loop-done.input)
    (g.R.Read.remaining c.read_line.new.input) (g.W.Write.contents c.args.output.now)
    (g.W.Write.contents c.loop-done.output)
    c.read_line.new.buffer c.loop-done.done c.loop-done.count (c.loop-done.invariant.replayed h)
    read c.in-Ok.ensures.left (omega arith)

pub returns-in-None-2-clause-replayed : goal.returns-in-None-2-clause-replayed
returns-in-None-2-clause-replayed g c = λ h.
    let read : ReadsLine (g.R.Read.remaining c.loop-done.input)
    (g.R.Read.remaining c.read_line.new.input) c.read_line.new.buffer (Whole c.in-Whole.len) =
    rw c.in-Whole.is at c.in-Ok.ensures.line in
    let full : without_return (take c.in-Whole.len c.read_line.new.buffer) ≢ [] =
    not_empty c.without_return.result.now
    (without_return (take c.in-Whole.len c.read_line.new.buffer)) c.is_empty.result
    c.without_return.ensures c.is_empty.ensures c.if-is_empty.false in
    ends_refused (g.B.Book.history c.args.server.now.book)
    (g.B.Book.history c.loop-done.server.book) (g.B.Book.terms c.args.server.now.book)
    (g.R.Read.remaining c.args.input.now) (g.R.Read.remaining c.loop-done.input)
    (g.R.Read.remaining c.read_line.new.input) (g.W.Write.contents c.args.output.now)
    (g.W.Write.contents c.loop-done.output)
    c.read_line.new.buffer c.in-Whole.len c.loop-done.done c.loop-done.count
    (c.loop-done.invariant.replayed h) read c.in-Ok.ensures.left (omega arith)
    (sym c.in-None-2.ensures) full

pub returns-in-Ok-None-clause-replayed : goal.returns-in-Ok-None-clause-replayed
returns-in-Ok-None-clause-replayed g c = λ h.
    let read : ReadsByte (g.R.Read.remaining c.loop-done.input)
    (g.R.Read.remaining c.next_byte.new.input) None =
    rw c.in-Ok-None.field-0-is at c.in-Ok-None.ensures.read in
    ends_last (g.B.Book.history c.args.server.now.book) (g.B.Book.history c.loop-done.server.book)
    (g.B.Book.terms c.args.server.now.book)
    (g.R.Read.remaining c.args.input.now) (g.R.Read.remaining c.loop-done.input)
    (g.R.Read.remaining c.next_byte.new.input) (g.W.Write.contents c.args.output.now)
    (g.W.Write.contents c.loop-done.output)
    c.loop-done.done c.loop-done.count (c.loop-done.invariant.replayed h) read

pub returns-in-Ok-Some-clause-replayed : goal.returns-in-Ok-Some-clause-replayed
returns-in-Ok-Some-clause-replayed g c = λ h.
    let read : ReadsByte (g.R.Read.remaining c.loop-done.input)
    (g.R.Read.remaining c.next_byte.new.input) (Some c.in-Ok-Some._byte) =
    rw c.in-Ok-Some.field-0-is at c.in-Ok-Some.ensures.read in
    ends_one_too_many (g.B.Book.history c.args.server.now.book)
    (g.B.Book.history c.loop-done.server.book) (g.B.Book.terms c.args.server.now.book)
    (g.R.Read.remaining c.args.input.now) (g.R.Read.remaining c.loop-done.input)
    (g.R.Read.remaining c.next_byte.new.input) (g.W.Write.contents c.args.output.now)
    (g.W.Write.contents c.loop-done.output)
    c.in-Ok-Some._byte c.loop-done.done c.loop-done.count (c.loop-done.invariant.replayed h) read
    (omega arith)

pub returns-in-Err-clause-replayed : goal.returns-in-Err-clause-replayed
returns-in-Err-clause-replayed g c = λ h.
    ends_unread (g.B.Book.history c.args.server.now.book) (g.B.Book.history c.loop-done.server.book)
    (g.B.Book.terms c.args.server.now.book)
    (g.R.Read.remaining c.args.input.now) (g.R.Read.remaining c.loop-done.input)
    (g.R.Read.remaining c.next_byte.new.input) (g.W.Write.contents c.args.output.now)
    (g.W.Write.contents c.loop-done.output)
    c.loop-done.done c.loop-done.count (c.loop-done.invariant.replayed h) c.in-Err.ensures.kept

pub loop-done-preserved : goal.loop-done-preserved
loop-done-preserved g c =
    let before = c.loop-done.invariant in
    let read : ReadsLine (g.R.Read.remaining c.loop-done.input)
    (g.R.Read.remaining c.read_line.new.input) c.read_line.new.buffer (Whole c.in-Whole.len) =
    rw c.in-Whole.is at c.in-Ok.ensures.line in
    let short : c.in-Whole.len ≤ 1036 = rw c.in-Whole.is at c.in-Ok.ensures.fits in
    elim c.match-read_delivery.branch [
      | in-Some+in-Ok-write_answer w ↦ rw (w.server-is, w.output-is, w.count-is) (record {
        few = omega (arith, before.few);
        was_honest = λ h. before.was_honest (w.handle-answer.ensures.was_honest h);
        same_terms = λ h. w.handle-answer.ensures.same_terms h
            ∙ before.same_terms (w.handle-answer.ensures.was_honest h);
        replayed = λ h.
            let h0 = w.handle-answer.ensures.was_honest h in
            let served = w.handle-answer.ensures.served h in
            let P : Terms → Type 0 = λ t. Served (g.B.Book.history c.loop-done.server.book) t
            ((w.bytes.result.now, w.in-Some.delivery.day) ∷ []) (w.handle-answer.result ∷ [])
            (g.B.Book.history w.handle-answer.new.self.book) in
            let Q : List ℕ → Type 0 = λ b. Served (g.B.Book.history c.loop-done.server.book)
            (g.B.Book.terms c.args.server.now.book) ((b, w.in-Some.delivery.day) ∷ [])
            (w.handle-answer.result ∷ []) (g.B.Book.history w.handle-answer.new.self.book) in
            one_more (g.B.Book.history c.args.server.now.book)
            (g.B.Book.history c.loop-done.server.book)
            (g.B.Book.history w.handle-answer.new.self.book)
            (g.B.Book.terms c.args.server.now.book)
            (g.R.Read.remaining c.args.input.now) (g.R.Read.remaining c.loop-done.input)
            (g.R.Read.remaining c.read_line.new.input) (g.W.Write.contents c.args.output.now)
            (g.W.Write.contents c.loop-done.output) (g.W.Write.contents w.write_answer.new.out)
            c.read_line.new.buffer c.in-Whole.len c.loop-done.done c.loop-done.count
            (dated w.in-Some.delivery) w.handle-answer.result
            (before.replayed h0) read c.read_line.ensures.taken short (omega arith)
            (sym w.in-Some.ensures)
            (subst Q w.bytes.ensures.bytes (subst P (before.same_terms h0) served))
            w.in-Ok-write_answer.ensures;
      })
      | in-None w ↦ rw (w.server-is, w.output-is, w.count-is) (record {
        few = omega (arith, before.few);
        was_honest = before.was_honest;
        same_terms = before.same_terms;
        replayed = λ h.
            let nothing : without_return (take c.in-Whole.len c.read_line.new.buffer) ≡ [] =
            is_nothing w.without_return.result.now
            (without_return (take c.in-Whole.len c.read_line.new.buffer)) w.is_empty.result
            w.without_return.ensures w.is_empty.ensures w.if-is_empty.true in
            one_empty (g.B.Book.history c.args.server.now.book)
            (g.B.Book.history c.loop-done.server.book) (g.B.Book.terms c.args.server.now.book)
            (g.R.Read.remaining c.args.input.now) (g.R.Read.remaining c.loop-done.input)
            (g.R.Read.remaining c.read_line.new.input) (g.W.Write.contents c.args.output.now)
            (g.W.Write.contents c.loop-done.output)
            c.read_line.new.buffer c.in-Whole.len c.loop-done.done c.loop-done.count
            (before.replayed h) read c.read_line.ensures.taken short (omega arith)
            (sym w.in-None.ensures) nothing;
      })
    ]

pub returns-in_default-clause-was_honest : goal.returns-in_default-clause-was_honest
returns-in_default-clause-was_honest g c = c.loop-done.invariant.was_honest

pub returns-in-End-clause-was_honest : goal.returns-in-End-clause-was_honest
returns-in-End-clause-was_honest g c = c.loop-done.invariant.was_honest

pub returns-in-Long-clause-was_honest : goal.returns-in-Long-clause-was_honest
returns-in-Long-clause-was_honest g c = c.loop-done.invariant.was_honest

pub returns-in-None-2-clause-was_honest : goal.returns-in-None-2-clause-was_honest
returns-in-None-2-clause-was_honest g c = c.loop-done.invariant.was_honest

pub returns-in-Ok-None-clause-was_honest : goal.returns-in-Ok-None-clause-was_honest
returns-in-Ok-None-clause-was_honest g c = c.loop-done.invariant.was_honest

pub returns-in-Ok-Some-clause-was_honest : goal.returns-in-Ok-Some-clause-was_honest
returns-in-Ok-Some-clause-was_honest g c = c.loop-done.invariant.was_honest

pub returns-in-Err-clause-was_honest : goal.returns-in-Err-clause-was_honest
returns-in-Err-clause-was_honest g c = c.loop-done.invariant.was_honest

-- Lemmas about what a request to a server prints.
use Rattle.std.proofs.Common.{◌≡◌, ℕ, List, Option, Result, Ok, Err, refl, sym, subst, inl, inr}
use Rattle.std.specs.Prelude.{IfOk, codes}
use Rattle.std.specs.Io.KnownBytes.{Appends}
use Rattle.s10_wire.specs.declared.body.Body.{Body}
use Rattle.s10_link.specs.declared.peer.Peer.{Peer}
use Rattle.s10_wire.specs.declared.reply.Reply.{Reply}
use Rattle.s10_link.specs.declared.trace.Trace.{Trace}
use Rattle.s10_link.specs.declared.link_fault.LinkFault.{LinkFault}
use Rattle.s10_link.specs.declared.link_fault.LinkFault.TheVariants.{Bind}
use Rattle.s10_lines.specs.declared.write_fault.WriteFault.{WriteFault}
use Rattle.s10_lines.specs.Lines.{line_of}
use Rattle.s10_link.specs.Peer.{SpellsPeer}
use Rattle.s10_link.specs.Link.{new_trace}
use Rattle.s10_link.specs.UdpLink.{BoundLink, IsBoundAt}
use Rattle.s10_ends.specs.Client.{ClientState, new_client}
use Rattle.s10_ends.specs.Calls.{Calls}
use Rattle.s10_ends.specs.declared.calls.CallFault.{CallFault}
use Rattle.s10_jobs.specs.declared.job_status.JobStatus.{JobStatus}
use Rattle.s10_jobs.specs.declared.job_status.JobStatus.TheVariants.{Refused, Failed}
use Rattle.s10_jobs.specs.declared.refusal.Refusal.{Refusal}
use Rattle.s10_jobs.specs.declared.asker.Asker.{Asker}
use Rattle.s10_jobs.specs.declared.question.Question.{Question}
use Rattle.s10_jobs.specs.Asked.{asked_status, asked_line}
use Rattle.s10_jobs.specs.Lines.{refused_line}
use Rattle.s10_jobs.specs.Words.{link_fault_words}
use Rattle.s10_jobs.specs.Questions.{refusal_words, WordsAsk, IsQuestionRefusal}
use Rattle.s10_jobs.specs.Questioning.{IsUnasked, IsAsked, any_address}
use Rattle.s10_host.specs.Asking.{HasAsked}
use Rattle.s10_host.specs.NotesJobs.{OpenNotes}

-- A text that cannot be read.
pub refused_unasked : (question : Question) (refusal : Refusal) (old new : Option (List ℕ))
    (r : Result JobStatus WriteFault) → IsQuestionRefusal question.to.now question.body refusal
    → IfOk r (λ status. (status ≡ Refused) × Appends old new (refused_line (refusal_words refusal)))
    → IfOk r (λ status. (line : List ℕ) × IsUnasked question status line × Appends old new line)
refused_unasked question refusal old new (Ok status) is (same, line) =
    (refused_line (refusal_words refusal), inl (refusal, is, same, refl), line)
refused_unasked question refusal old new (Err fault) is says = tt

-- A socket that cannot be bound.
pub unbound_unasked : (question : Question) (to : Peer) (body : Body) (fault : LinkFault)
    (old new : Option (List ℕ)) (r : Result JobStatus WriteFault)
    → SpellsPeer question.to.now to → WordsAsk question.body body → fault ≡ Bind
    → IfOk r (λ status. (status ≡ Failed)
    × Appends old new (line_of (codes "link") (link_fault_words fault)))
    → IfOk r (λ status. (line : List ℕ) × IsUnasked question status line × Appends old new line)
unbound_unasked question to body Bind old new (Ok status) peer asks is (same, line) =
    (line_of (codes "link") (link_fault_words Bind), inr (to, body, peer, asks, same, refl), line)
unbound_unasked question to body fault old new (Ok status) peer asks is says = absurd cc
unbound_unasked question to body fault old new (Err failed) peer asks is says = tt

-- A call over a new link.
pub asked_over : (customer number : ℕ) (question : Question) (to : Peer) (body : Body)
    (begun : Trace) (link : BoundLink) (old new : Option (List ℕ)) (r : Result JobStatus WriteFault)
    → SpellsPeer question.to.now to → WordsAsk question.body body → begun ≡ new_trace
    → ((client : ClientState) × (called : Result Reply CallFault)
    × Calls (new_client customer number number) client begun link.trace to body question.tries called
    × IfOk r (λ status. (status ≡ asked_status called) × Appends old new (asked_line called)))
    → IsBoundAt any_address link.at → IsAsked customer number question link old new r
asked_over customer number question to body begun link old new r peer asks fresh
    (client, called, calls, shows) bound =
    record {
      at = bound;
      to = to;
      body = body;
      peer = peer;
      asks = asks;
      left = client;
      called = called;
      calls = subst
          (λ (t : Trace). Calls (new_client customer number number) client t link.trace to body
          question.tries called) fresh calls;
      shows = shows;
    }

-- The question was asked by the asker that was matched.
pub asked_as : (asker same : Asker) (question : Question) (old new : Option (List ℕ))
    (r : Result JobStatus WriteFault) (link : Option BoundLink) (notes : Option OpenNotes)
    → asker ≡ same → HasAsked same question old new r link notes
    → HasAsked asker question old new r link notes
asked_as asker same question old new r link notes is did =
    subst (λ (a : Asker). HasAsked a question old new r link notes) (sym is) did

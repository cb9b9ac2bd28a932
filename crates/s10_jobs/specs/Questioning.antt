-- The line and the status of a request to a server.
use Rattle.std.specs.Prelude.{◌≡◌, ◌⊎◌, ℕ, List, [], ◌∷◌, codes, Option, Result, IfOk}
use Rattle.std.specs.Io.KnownBytes.{Appends}
use Rattle.s10_wire.specs.declared.body.Body.{Body}
use Rattle.s10_wire.specs.declared.reply.Reply.{Reply}
use Rattle.s10_lines.specs.declared.write_fault.WriteFault.{WriteFault}
use Rattle.s10_lines.specs.Lines.{line_of}
use Rattle.s10_link.specs.declared.peer.Peer.{Peer}
use Rattle.s10_link.specs.Peer.{SpellsPeer}
use Rattle.s10_link.specs.Link.{new_trace}
use Rattle.s10_link.specs.UdpLink.{BoundLink, IsBoundAt}
use Rattle.s10_ends.specs.Client.{ClientState, new_client}
use Rattle.s10_ends.specs.Calls.{Calls}
use Rattle.s10_ends.specs.declared.calls.CallFault.{CallFault}
use Rattle.s10_jobs.specs.declared.job_status.JobStatus.{JobStatus}
use Rattle.s10_jobs.specs.declared.job_status.JobStatus.TheVariants.{Refused, Failed}
use Rattle.s10_jobs.specs.declared.refusal.Refusal.{Refusal}
use Rattle.s10_jobs.specs.declared.question.Question.{Question}
use Rattle.s10_jobs.specs.Asked.{asked_status, asked_line}
use Rattle.s10_jobs.specs.Lines.{refused_line}
use Rattle.s10_jobs.specs.Questions.{refusal_words, WordsAsk, IsQuestionRefusal}

-- Any address of this machine, with a port that the system picks.
abbrev pub any_address : Peer
any_address = record { ip = 0 ∷ 0 ∷ 0 ∷ 0 ∷ []; port = 0 }

-- No call was made: the first text that cannot be read is refused; otherwise no socket was bound.
abbrev pub IsUnasked : Question → JobStatus → List ℕ → Type 0
IsUnasked question status line =
    ((refusal : Refusal) × IsQuestionRefusal question.to.now question.body refusal
    × (status ≡ Refused) × (line ≡ refused_line (refusal_words refusal)))
    ⊎ ((to : Peer) × (body : Body) × SpellsPeer question.to.now to × WordsAsk question.body body
    × (status ≡ Failed) × (line ≡ line_of (codes "link") (codes "bind" ∷ [])))

-- The words were asked in one call of a new client of the customer, with the question's number.
-- That is all that this link carried, which is bound at any address of this machine. The line was
-- written unless the writer failed.
pub record IsAsked (customer number : ℕ) (question : Question) (link : BoundLink)
    (old new : Option (List ℕ)) (result : Result JobStatus WriteFault) : Type 0 where
  pub at : IsBoundAt any_address link.at
  pub to : Peer
  pub body : Body
  pub peer : SpellsPeer question.to.now to
  pub asks : WordsAsk question.body body
  pub left : ClientState
  pub called : Result Reply CallFault
  pub calls : Calls (new_client customer number number) left new_trace link.trace to body
      question.tries called
  pub shows : IfOk result (λ status. (status ≡ asked_status called)
      × Appends old new (asked_line called))

-- The line and the status of a call of a client.
use Rattle.std.specs.Prelude.{ℕ, List, [], codes, Result, Ok, Err}
use Rattle.s10_wire.specs.declared.outcome.Outcome.{Outcome}
use Rattle.s10_wire.specs.declared.outcome.Outcome.TheVariants.{Granted, Drawn, DrawnMany, Voided}
use Rattle.s10_wire.specs.declared.outcome.Outcome.TheVariants.{Told, Withdrawn, NotThePost}
use Rattle.s10_wire.specs.declared.outcome.Outcome.TheVariants.{BadGrant, Overlap, NoRange}
use Rattle.s10_wire.specs.declared.outcome.Outcome.TheVariants.{NoneFree, NotYours, NotIssued}
use Rattle.s10_wire.specs.declared.outcome.Outcome.TheVariants.{AlreadyVoid, NoSuchRange, Closed}
use Rattle.s10_wire.specs.declared.outcome.Outcome.TheVariants.{NumberReused}
use Rattle.s10_wire.specs.declared.reply.Reply.{Reply}
use Rattle.s10_wire.specs.Reply.{request_of, outcome_of}
use Rattle.s10_lines.specs.Lines.{line_of, reply_line}
use Rattle.s10_ends.specs.declared.calls.CallFault.{CallFault}
use Rattle.s10_ends.specs.declared.calls.CallFault.TheVariants.{Submit, GaveUp, Link}
use Rattle.s10_jobs.specs.declared.job_status.JobStatus.{JobStatus}
use Rattle.s10_jobs.specs.declared.job_status.JobStatus.TheVariants.{Done, Refused, CommandLine}
use Rattle.s10_jobs.specs.declared.job_status.JobStatus.TheVariants.{Failed}
use Rattle.s10_jobs.specs.Words.{link_fault_words}

-- The first six outcomes mean that the request was done. The others are refusals.
abbrev pub outcome_status : Outcome → JobStatus
outcome_status (Granted range) = Done
outcome_status (Drawn day id) = Done
outcome_status (DrawnMany day ids) = Done
outcome_status Voided = Done
outcome_status (Told status) = Done
outcome_status Withdrawn = Done
outcome_status NotThePost = Refused
outcome_status BadGrant = Refused
outcome_status Overlap = Refused
outcome_status NoRange = Refused
outcome_status NoneFree = Refused
outcome_status NotYours = Refused
outcome_status NotIssued = Refused
outcome_status AlreadyVoid = Refused
outcome_status NoSuchRange = Refused
outcome_status Closed = Refused
outcome_status NumberReused = Refused

-- The status of a call, by its result.
abbrev pub asked_status : Result Reply CallFault → JobStatus
asked_status (Ok reply) = outcome_status (outcome_of reply)
asked_status (Err (Submit fault)) = CommandLine
asked_status (Err (GaveUp q)) = Failed
asked_status (Err (Link q fault)) = Failed

-- The line of a call, by its result. It is empty if no request was submitted.
abbrev pub asked_line : Result Reply CallFault → List ℕ
asked_line (Ok reply) = reply_line (request_of reply) (outcome_of reply)
asked_line (Err (Submit fault)) = []
asked_line (Err (GaveUp q)) = codes "gave-up\n"
asked_line (Err (Link q fault)) = line_of (codes "link") (link_fault_words fault)

use Rattle.std.proofs.Common.{ap}
use Rattle.std.proofs.lemmas.Result.{IfOk-weaker}
use Rattle.s10_core.specs.declared.text_fault.TextFault.{TextFault}
use Rattle.s10_core.proofs.Spellings.{one_spelled, one_refusal, spelled_unrefused}
use Rattle.s10_jobs.specs.Words.{text_fault_words}
use Rattle.s10_jobs.specs.Lines.{valid_line, refused_line}
use Rattle.s10_jobs.proofs.checking.check.Goals as goal

pub returns-in-Ok : goal.returns-in-Ok
returns-in-Ok g c = IfOk-weaker c.write_valid.result _ _ (λ status written. (
  valid_line c.in-Ok.id,
  record {
    valid = λ id spelled. (
      written.0,
      ap valid_line (one_spelled _ c.in-Ok.id id c.in-Ok.ensures.ok spelled),
    );
    refused = λ fault refused.
        absurd (spelled_unrefused _ c.in-Ok.id fault c.in-Ok.ensures.ok refused);
  },
  written.1,
)) c.write_valid.ensures

pub returns-in-Err : goal.returns-in-Err
returns-in-Err g c = IfOk-weaker c.refuse_text.result _ _ (λ status written. (
  refused_line (text_fault_words c.in-Err.fault),
  record {
    valid = λ id spelled.
        absurd (spelled_unrefused _ id c.in-Err.fault spelled c.in-Err.ensures.refused);
    refused = λ fault refused. (
      written.0,
      ap (λ (x : TextFault). refused_line (text_fault_words x))
          (one_refusal _ c.in-Err.fault fault c.in-Err.ensures.refused refused),
    );
  },
  written.1,
)) c.refuse_text.ensures

-- Lemmas about a job that is done for each line of an input.
use Rattle.std.proofs.Common.{◌≡◌, ℕ, ◌+◌, ◌<◌, ◌≤◌, List, [], ◌∷◌, ◌++◌, length, take, Option}
use Rattle.std.proofs.Common.{Some, None, Result, Ok, Err, refl, sym, ap, ap₂, subst, ◌∙◌, inl, inr}
use Rattle.std.proofs.Common.{append-nil, arith, Bool, true, false}
use Rattle.std.specs.Prelude.{⊤, IfSome, if◌then◌else◌, ◌||◌}
use Rattle.std.specs.List.{list_any}
use Rattle.std.specs.Io.KnownBytes.{Keeps}
use Rattle.std.proofs.lemmas.List.{flat_map_more, map-append}
use Rattle.std.proofs.lemmas.List.Elements.{All-push, All-nil}
use Rattle.std.proofs.lemmas.List.Folds.{list_any-append}
use Rattle.std.proofs.lemmas.Grind.{common_steps}
use Rattle.s10_jobs.specs.InputLines.{lines_of, without_return, IsPastLimits, NoneRefused}
use Rattle.s10_jobs.specs.LineReader.{ReadsByte, ReadsLine, ReadsNoFurther, BeginsLine}
use Rattle.s10_jobs.specs.Shown.{Prints}
use Rattle.s10_jobs.specs.EachLine.{IsPrinted, PrintedLine, PrintsEach, is_refusal, status_of_all}
use Rattle.s10_jobs.specs.EachLine.{EndsEach, EachPrinted}
use Rattle.s10_jobs.specs.declared.line_job.LineJob.{LineJob}
use Rattle.s10_jobs.specs.declared.line_reader.NextLine.TheVariants.{End, Whole, Long}
use Rattle.s10_jobs.specs.declared.job_status.JobStatus.{JobStatus}
use Rattle.s10_jobs.specs.declared.job_status.JobStatus.TheVariants.{Done, Refused}
use Rattle.s10_jobs.specs.declared.input_fault.InputFault.{InputFault}
use Rattle.s10_jobs.specs.declared.input_fault.InputFault.TheVariants.{Line, Read}
use Rattle.s10_jobs.proofs.WalkedLines.{Walk, Walk-start, Walk-push, Walk-all, Walk-refused}
use Rattle.s10_jobs.proofs.WalkedLines.{Walk-stopped, Takes, no_line, long_line}
use Rattle.s10_jobs.proofs.WalkedLines.{no_further, at_end, kept, begins, after_first, some_line}

within_limits : (line : List ℕ) (n : ℕ) → length line ≤ 1036 → n ≤ 1000000 → ¬ IsPastLimits line n
within_limits line n short few past =
    elim past [ inl long ↦ omega arith | inr many ↦ omega arith ]

-- The status with one more line.
abbrev pub joined : JobStatus → JobStatus → JobStatus
joined status next = if is_refusal next then Refused else status

status_of_more : (printed : List PrintedLine) (p : PrintedLine)
    → joined (status_of_all printed) p.status ≡ status_of_all (printed ++ p ∷ [])
status_of_more printed p =
    go (list_any (λ x. is_refusal x.status) printed) (is_refusal p.status)
    ∙ ap (λ (b : Bool). if b then Refused else Done)
    (sym (list_any-append (λ x. is_refusal x.status) printed (p ∷ [])))
  where
    go : (any next : Bool) → (if next then Refused else (if any then Refused else Done))
        ≡ (if any || (next || false) then Refused else Done)
    go true true = refl
    go true false = refl
    go false true = refl
    go false false = refl

-- After n lines, each with its line: the lines that remain, and the status so far.
pub record Front (job : LineJob) (bytes rest held now : List ℕ) (done : ℕ) (status : JobStatus) :
    Type 0 where
  pub walk : Walk IsPastLimits bytes rest done
  pub each : PrintsEach job walk.before held now
  pub status_is : status ≡ status_of_all each.printed

Front-start : (job : LineJob) (bytes held : List ℕ) → Front job bytes bytes held held 0 Done
Front-start job bytes held = record {
  walk = Walk-start IsPastLimits bytes;
  each = record {
    printed = [];
    texts = refl;
    right = All-nil (λ p. IsPrinted job p.text p.status p.line);
    written = sym (append-nil held);
  };
  status_is = refl;
}

Front-line : (job : LineJob) (bytes left rest held now after line taken : List ℕ) (done : ℕ)
    (status : JobStatus) (p : PrintedLine) → Front job bytes left held now done status
    → left ≡ taken ++ rest → lines_of left ≡ line ∷ lines_of rest → length line ≤ 1036
    → done < 1000000 → p.text ≡ without_return line → IsPrinted job p.text p.status p.line
    → after ≡ now ++ p.line
    → Front job bytes rest held after (done + 1) (joined status p.status)
Front-line job bytes left rest held now after line taken done status p front read next short few
    text right out = record {
      walk = Walk-push IsPastLimits bytes left rest line taken done front.walk read next
          (within_limits line (done + 1) short (omega arith));
      each = record {
        printed = front.each.printed ++ p ∷ [];
        texts = map-append (λ x. x.text) front.each.printed (p ∷ [])
            ∙ ap₂ (λ (xs ys : List (List ℕ)). xs ++ ys) front.each.texts (ap (λ t. t ∷ []) text)
            ∙ sym (map-append without_return front.walk.before (line ∷ []));
        right = All-push (λ x. IsPrinted job x.text x.status x.line) front.each.printed p
            front.each.right right;
        written = out ∙ ap (λ l. l ++ p.line) front.each.written
            ∙ flat_map_more (λ x. x.line) held front.each.printed p;
      };
      status_is = ap (λ s. joined s p.status) front.status_is
          ∙ status_of_more front.each.printed p;
    }

Front-end : (job : LineJob) (bytes left held now : List ℕ) (new : Option (List ℕ)) (done : ℕ)
    (status : JobStatus) → Front job bytes left held now done status → left ≡ [] → new ≡ Some []
    → EndsEach job bytes new held now (Ok status)
Front-end job bytes left held now new done status front end over =
    let P : List (List ℕ) → Type 0 = λ l. (each : PrintsEach job l held now)
    × NoneRefused IsPastLimits l × (status ≡ status_of_all each.printed) × (new ≡ Some []) in
    subst P (Walk-all IsPastLimits bytes left done front.walk end)
    (front.each, front.walk.none_refused, front.status_is, over)

-- The same if the bytes and the output are known.
abbrev pub HasPrinted : LineJob → Option (List ℕ) → Option (List ℕ) → Option (List ℕ)
    → Option (List ℕ) → ℕ → JobStatus → Type 0
HasPrinted job None left held now done status = ⊤
HasPrinted job (Some bytes) left None now done status = ⊤
HasPrinted job (Some bytes) None (Some held) now done status = ⊥
HasPrinted job (Some bytes) (Some left) (Some held) None done status = ⊥
HasPrinted job (Some bytes) (Some left) (Some held) (Some now) done status =
    Front job bytes left held now done status

pub at_start : (job : LineJob) (bytes held : Option (List ℕ))
    → HasPrinted job bytes bytes held held 0 Done
at_start job None held = tt
at_start job (Some bytes) None = tt
at_start job (Some bytes) (Some held) = Front-start job bytes held

-- The next line.
pub one_more : (job : LineJob) (bytes left rest held now after : Option (List ℕ))
    (buffer text : List ℕ) (n done : ℕ) (status next : JobStatus)
    → HasPrinted job bytes left held now done status → ReadsLine left rest buffer (Whole n)
    → Takes left rest → n ≤ 1036 → done < 1000000 → text ≡ without_return (take n buffer)
    → Prints now after (IsPrinted job text next)
    → HasPrinted job bytes rest held after (done + 1) (joined status next)
one_more job None left rest held now after buffer text n done status next front line read short few
    is printed = tt
one_more job (Some bytes) left rest None now after buffer text n done status next front line read
    short few is printed = tt
one_more job (Some bytes) None rest (Some held) now after buffer text n done status next front line
    read short few is printed = absurd front
one_more job (Some bytes) (Some left) None (Some held) now after buffer text n done status next
    front line read short few is printed = absurd line
one_more job (Some bytes) (Some left) (Some rest) (Some held) None after buffer text n done status
    next front line read short few is printed = absurd front
one_more job (Some bytes) (Some left) (Some rest) (Some held) (Some now) None buffer text n done
    status next front line read short few is printed = absurd printed.2
one_more job (Some bytes) (Some left) (Some rest) (Some held) (Some now) (Some after) buffer text n
    done status next front line read short few is printed =
    let fits : length (take n buffer) ≤ 1036 = grind (arith, common_steps) in
    Front-line job bytes left rest held now after (take n buffer) read.0 done status
    (record { text = text; status = next; line = printed.0 }) front read.1 line fits few is
    printed.1 printed.2

-- How the job ends, if the bytes and the output are known.
abbrev pub EndsSo : LineJob → Option (List ℕ) → Option (List ℕ) → Option (List ℕ) → Option (List ℕ)
    → Result JobStatus InputFault → Type 0
EndsSo job bytes new held now result =
    IfSome bytes (λ b. IfSome held (λ w. EachPrinted job b new w now result))

ends : (job : LineJob) (bytes left new held now : Option (List ℕ)) (done : ℕ) (status : JobStatus)
    (result : Result JobStatus InputFault) → HasPrinted job bytes left held now done status
    → ((b l w n : List ℕ) → left ≡ Some l → Front job b l w n done status
    → EndsEach job b new w n result) → EndsSo job bytes new held now result
ends job None left new held now done status result front finish = tt
ends job (Some b) left new None now done status result front finish = tt
ends job (Some b) None new (Some w) now done status result front finish = absurd front
ends job (Some b) (Some l) new (Some w) None done status result front finish = absurd front
ends job (Some b) (Some l) new (Some w) (Some n) done status result front finish =
    finish b l w n refl front

pub ends_at_end : (job : LineJob) (bytes left rest held now : Option (List ℕ)) (buffer : List ℕ)
    (done : ℕ) (status : JobStatus) → HasPrinted job bytes left held now done status
    → ReadsLine left rest buffer End → EndsSo job bytes rest held now (Ok status)
ends_at_end job bytes left rest held now buffer done status front read =
    ends job bytes left rest held now done status (Ok status) front
    (λ b l w n is at. let over = no_line left rest buffer l is read in
    Front-end job b l w n rest done status at over.0 over.1)

pub ends_last : (job : LineJob) (bytes left rest held now : Option (List ℕ)) (done : ℕ)
    (status : JobStatus) → HasPrinted job bytes left held now done status
    → ReadsByte left rest None → EndsSo job bytes rest held now (Ok status)
ends_last job bytes left rest held now done status front read =
    ends job bytes left rest held now done status (Ok status) front
    (λ b l w n is at. let over = at_end left rest l is read in
    Front-end job b l w n rest done status at over.0 over.1)

pub ends_too_long : (job : LineJob) (bytes left rest held now : Option (List ℕ)) (buffer : List ℕ)
    (done : ℕ) (status : JobStatus) → HasPrinted job bytes left held now done status
    → ReadsLine left rest buffer Long → ReadsNoFurther left rest → done < 1000000
    → EndsSo job bytes rest held now (Err (Line (done + 1)))
ends_too_long job bytes left rest held now buffer done status front read stopped few =
    ends job bytes left rest held now done status (Err (Line (done + 1))) front
    (λ b l w n is at. let long = long_line left rest buffer l is read in
    Walk-refused IsPastLimits (λ lines. PrintsEach job lines w n) b l long.0 rest long.1.0 done
    at.walk at.each long.1.1 (inl long.2)
    (no_further left rest l (done + 1) is stopped (omega arith)))

pub ends_stopped : (job : LineJob) (bytes left rest held now : Option (List ℕ)) (done : ℕ)
    (status : JobStatus) → HasPrinted job bytes left held now done status → BeginsLine left rest
    → done < 1000000 → EndsSo job bytes rest held now (Err Read)
ends_stopped job bytes left rest held now done status front stopped few =
    ends job bytes left rest held now done status (Err Read) front
    (λ b l w n is at. let P : Option (List ℕ) → Type 0 = λ o. BeginsLine o rest in
    Walk-stopped IsPastLimits (λ lines. PrintsEach job lines w n) b l rest done at.walk at.each
    (subst P is stopped) (λ many. absurd (omega arith)))

pub ends_unread : (job : LineJob) (bytes left rest held now : Option (List ℕ)) (done : ℕ)
    (status : JobStatus) → HasPrinted job bytes left held now done status → Keeps left rest
    → EndsSo job bytes rest held now (Err Read)
ends_unread job bytes left rest held now done status front read =
    ends job bytes left rest held now done status (Err Read) front
    (λ b l w n is at. let same = kept left rest l is read in
    Walk-stopped IsPastLimits (λ lines. PrintsEach job lines w n) b l rest done at.walk at.each
    (begins rest l same) (λ many. same))

pub ends_one_too_many : (job : LineJob) (bytes left rest held now : Option (List ℕ))
    (byte done : ℕ) (status : JobStatus) → HasPrinted job bytes left held now done status
    → ReadsByte left rest (Some byte) → done ≡ 1000000
    → EndsSo job bytes rest held now (Err (Line 1000001))
ends_one_too_many job bytes left rest held now byte done status front read many =
    let P : ℕ → Type 0 = λ k. EndsSo job bytes rest held now (Err (Line (k + 1))) in
    subst P many (ends job bytes left rest held now done status (Err (Line (done + 1))) front
    (λ b l w n is at. let line = some_line left rest byte l is read in
    Walk-refused IsPastLimits (λ lines. PrintsEach job lines w n) b l line.0 rest line.1.0 done
    at.walk at.each line.1.1 (inr (omega arith)) (after_first left rest byte done l many is read)))

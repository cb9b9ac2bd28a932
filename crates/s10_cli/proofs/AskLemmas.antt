-- Lemmas about the options that a job needs, and about the job that words ask for.
use Rattle.std.proofs.Common.{◌≡◌, ℕ, sym, ap, List, [], Option, Some, None, Bool, true, false, refl}
use Rattle.std.specs.Prelude.{codes}
use Rattle.std.proofs.Common.{subst, nat_eq, slice_index, ◌||◌, inl, inr}
use Rattle.clap.specs.Words.{Row, Text, fault_of, subcommand_of}
use Rattle.s10_grammar.specs.Grammar.{grammar}
use Rattle.s10_jobs.specs.declared.job.Job.{Job}
use Rattle.s10_jobs.specs.declared.job.Job.TheVariants.{Create, Serve, Ask, Notes}
use Rattle.s10_jobs.specs.declared.job.Job.TheVariants.{Again, Report, Audit, Snapshot, Copy, Loop}
use Rattle.s10_jobs.specs.declared.asker.Asker.{Asker}
use Rattle.s10_jobs.specs.declared.look.Look.TheVariants.{Report as ReportOf, Audit as AuditOf}
use Rattle.s10_reports.specs.declared.issue_filter.IssueFilter.{IssueFilter}
use Rattle.s10_jobs.specs.declared.report_kind.ReportKind.{ReportKind}
use Rattle.s10_jobs.specs.declared.report_kind.ReportKind.TheVariants.{Ranges, Issues, Info}
use Rattle.s10_jobs.specs.declared.body_words.BodyWords.{BodyWords}
use Rattle.s10_jobs.specs.declared.body_words.BodyWords.TheVariants.{Grant, Draw, DrawMany}
use Rattle.s10_jobs.specs.declared.body_words.BodyWords.TheVariants.{Withdraw, Void, Query}
use Rattle.s10_cli.specs.Options.{IsAsker, HasIssueFilter}
use Rattle.s10_cli.specs.Jobs.{AsksFor, AsksInWords, AsksByWords, AsksOrFails, IsNamedJob, status_in}
use Rattle.s10_cli.specs.Jobs.{IsBodyOf, IsKind, is_of_the_post}
use Rattle.s10_cli.specs.CommandLine.{EndsLine}
use Rattle.s10_cli.specs.declared.line_end.LineEnd.{LineEnd}
use Rattle.s10_cli.specs.declared.line_end.LineEnd.TheVariants.{Ended, Asks}

-- The first letter is that of a subcommand that calls a server.
abbrev pub asks_server : Text → Bool
asks_server name = let first = slice_index name 0 in
    nat_eq first 103 || nat_eq first 100 || nat_eq first 118 || nat_eq first 113 || nat_eq first 119

other : (name name' : Text) → name ≡ name' → asks_server name ≡ true → asks_server name' ≡ false → ⊥
other name name' same is is_not = let is' = subst (λ (n : Text). asks_server n ≡ true) same is in cc

-- Whether the subcommand is one of the post.
abbrev pub is_posts : Text → Bool
is_posts name = let first = slice_index name 0 in nat_eq first 103 || nat_eq first 119

-- The post asks exactly if the subcommand is one of its own.
same_side : (name : Text) (rows : List Row) (body : BodyWords) → IsBodyOf name rows body
    → is_of_the_post body ≡ is_posts name
same_side name rows (Grant holder service country first lst) asks =
    subst (λ (n : Text). true ≡ is_posts n) (sym asks.0) refl
same_side name rows (Withdraw range) asks =
    subst (λ (n : Text). true ≡ is_posts n) (sym asks.0) refl
same_side name rows (Draw service country) asks =
    subst (λ (n : Text). false ≡ is_posts n) (sym asks.0) refl
same_side name rows (DrawMany service country count) asks =
    subst (λ (n : Text). false ≡ is_posts n) (sym asks.0) refl
same_side name rows (Void id) asks =
    subst (λ (n : Text). false ≡ is_posts n) (sym asks.0) refl
same_side name rows (Query id) asks =
    subst (λ (n : Text). false ≡ is_posts n) (sym asks.0) refl

-- Without what gives a request its number, no call is asked for.
pub no_asker : (rows : List Row) (name : Text)
    → ((asker : Asker) → ¬ IsAsker (is_posts name) rows asker) → asks_server name ≡ true
    → (job : Job) → ¬ AsksFor name rows job
no_asker rows name none is (Ask question) asks = none question.asker
    (subst (λ (b : Bool). IsAsker b rows question.asker)
    (same_side name rows question.body asks.3) asks.2)
no_asker rows name none is (Create ledger settings) asks = other _ _ asks.0 is refl
no_asker rows name none is (Serve ledger bind options until) asks = other _ _ asks.0 is refl
no_asker rows name none is (Notes file customer first lst) asks = other _ _ asks.0 is refl
no_asker rows name none is (Again to notes tries) asks = other _ _ asks.0 is refl
no_asker rows name none is (Report ledger (Ranges filter format) day) asks = other _ _ asks.0.0 is
    refl
no_asker rows name none is (Report ledger (Issues asked) day) asks = other _ _ asks.0.0 is refl
no_asker rows name none is (Report ledger Info day) asks = other _ _ asks.0 is refl
no_asker rows name none is (Audit ledger) asks = other _ _ asks.0 is refl
no_asker rows name none is (Snapshot ledger (ReportOf (Ranges filter format) day)) asks =
    other _ _ asks.0.0 is refl
no_asker rows name none is (Snapshot ledger (ReportOf (Issues asked) day)) asks =
    other _ _ asks.0.0 is refl
no_asker rows name none is (Snapshot ledger (ReportOf Info day)) asks = other _ _ asks.0 is refl
no_asker rows name none is (Snapshot ledger AuditOf) asks = other _ _ asks.0 is refl
no_asker rows name none is (Copy ledger to) asks = other _ _ asks.0 is refl
no_asker rows name none is (Loop day) asks = other _ _ asks.0 is refl

-- Without a filter that the options give, no report is asked for.
pub no_kind : (rows : List Row) → ((filter : IssueFilter) → ¬ HasIssueFilter rows filter)
    → (kind : ReportKind) → ¬ IsKind (codes "report") rows kind
no_kind rows none (Ranges filter format) asks =
    none (record {
      customer = filter.customer;
      range = filter.range;
      id = filter.id;
      from_day = None;
      to_day = None;
    }) (asks.4.0, asks.4.1, asks.4.2, asks.2, asks.3)
no_kind rows none (Issues asked) asks = none asked.filter asks.2
no_kind rows none Info asks = absurd cc

-- The subcommand that was named is that of the words.
module _ (words : List Text) (faultless : fault_of grammar words ≡ []) where
  in_words : (o : Option (Text × List Row)) (job : Job) → o ≡ subcommand_of grammar words
      → IsNamedJob o job → AsksInWords words job
  in_words (Some p) job named asks = record {
    faultless = faultless;
    name = p.0;
    rows = p.1;
    named = sym named;
    asks = asks;
  }
  in_words None job named asks = absurd asks

-- A parse without a fault asks for the job that the words ask for.
pub asks_in_words : (words : List Text) (o : Option (Text × List Row)) (ended : LineEnd)
    → fault_of grammar words ≡ [] → o ≡ subcommand_of grammar words → AsksOrFails o ended
    → AsksByWords words ended
asks_in_words words o (Asks job) faultless named asks = in_words words faultless o job named asks
asks_in_words words o (Ended status) faultless named asks = tt

-- A line that was left to the program ends by its job, or since it asks for none.
pub left_line : (named : Option (Text × List Row)) (ended : LineEnd) → AsksOrFails named ended
    → EndsLine None named (status_in ended)
left_line named (Asks job) asks = inl refl
left_line named (Ended status) asks = inr (ap (λ (n : ℕ). Some n) asks.0, asks.1)

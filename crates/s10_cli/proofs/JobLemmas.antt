-- Lemmas about what words ask for, by what a parse found in them.
use Rattle.std.proofs.Common.{◌≡◌, ◌∙◌, sym, ap₂, subst, refl, ℕ, List}
use Rattle.std.proofs.Common.{Option, Some, None, Result}
use Rattle.std.specs.Prelude.{option_map, Box}
use Rattle.std.specs.Box.{box_value}
use Rattle.clap.specs.Words.{Row, Text, subcommand_name_of, subcommand_rows, subcommand_rows_of}
use Rattle.clap.specs.declared.parser.matches.ArgMatches.{ArgMatches}
use Rattle.clap.specs.declared.parser.matches.ArgMatches.TheViews.{out-ArgMatches, out-SubCommand}
use Rattle.clap.specs.declared.parser.matches.SubCommand.{SubCommand}
use Rattle.s10_lines.specs.declared.write_fault.WriteFault.{WriteFault}
use Rattle.s10_jobs.specs.declared.job_status.JobStatus.{JobStatus}
use Rattle.s10_cli.specs.CommandLine.{IsDone, IsSubcommandDone}

one_pair : (o : Option (Text × List Row)) (name : Text) (rows : List Row)
    → Some name ≡ option_map (λ p. p.0) o → Some rows ≡ option_map (λ p. p.1) o
    → o ≡ Some (name, rows)
one_pair None name rows n r = cc
one_pair (Some p) name rows n r = let a : p.0 ≡ name = cc in let b : p.1 ≡ rows = cc in
    ap₂ (λ (x : Text) (y : List Row). Some (x, y)) a b

names : (m : ArgMatches) → subcommand_name_of m ≡ option_map (λ p. p.0) (subcommand_rows_of m)
names m = go (out-ArgMatches m).subcommand
  where
    go : {Z : Type 0} (o : Option (Box SubCommand Z))
        → option_map (λ b. (out-SubCommand (box_value b)).name.now) o ≡ option_map (λ p. p.0)
        (subcommand_rows o)
    go None = refl
    go (Some b) = refl

-- The subcommand that a parse found.
pub named_by : (m : ArgMatches) (name : Text) (rows : List Row) → Some name ≡ subcommand_name_of m
    → Some rows ≡ option_map (λ p. p.1) (subcommand_rows_of m) → subcommand_rows_of m
    ≡ Some (name, rows)
named_by m name rows n r = one_pair (subcommand_rows_of m) name rows (n ∙ names m) r

-- What was done for the subcommand that a parse found.
pub done_named : (input rest old new : Option (List ℕ)) (m : ArgMatches) (name : Text)
    (rows : List Row) (answer : Option (Result JobStatus WriteFault))
    → Some name ≡ subcommand_name_of m → Some rows ≡ option_map (λ p. p.1) (subcommand_rows_of m)
    → IsDone input rest old new answer name rows → IsSubcommandDone input rest old new answer
    (subcommand_rows_of m)
done_named input rest old new m name rows answer n r done =
    subst (λ (o : Option (Text × List Row)). IsSubcommandDone input rest old new answer o)
    (sym (named_by m name rows n r)) done

-- Lemmas about a command to which arguments and subcommands are added.
use Rattle.std.proofs.Common.{◌≡◌, ◌∙◌, ap, subst, refl, inl, true, List, Result, Ok, Err, IfOk}
use Rattle.std.proofs.lemmas.Result.{IfOk-weaker}
use Rattle.std.specs.declared.alloc.AllocError.{AllocError}
use Rattle.clap.specs.Words.{AddsArg, AddsSubcommand, App, FailsBy, HasMatchesOf, Rule, Shape, Text}
use Rattle.clap.specs.Words.{app_of, fault_of, is_simple, is_simple_and_free}
use Rattle.clap.specs.Words.{kind_of, rule_of, shape_of, with_rule, with_subcommand}
use Rattle.clap.specs.declared.error.Error.{Error}
use Rattle.clap.specs.declared.error.kind.ErrorKind.TheVariants.{OutOfMemory}
use Rattle.clap.specs.declared.parser.matches.ArgMatches.{ArgMatches}
use Rattle.clap.specs.declared.builder.arg.Arg.{Arg}
use Rattle.clap.specs.declared.builder.command.Command.{Command}
use Rattle.s10_grammar.specs.Grammar.{AddsCommand, AddsRule, Follows, Parses, Reads, ReadsAs}
use Rattle.s10_grammar.specs.Grammar.{grammar}

-- One more argument.
pub adds : {old new : Command} {arg : Arg} {app : App} {rule : Rule} → AddsArg old arg new
    → Reads old app → Follows arg rule → Reads new (with_rule app rule)
adds {old} {new} {arg} {app} {rule} added reads follows = (
  added.shape follows.1 ∙ (ap (λ (a : App). with_rule a (rule_of arg)) reads.0
      ∙ ap (λ (r : Rule). with_rule app r) follows.0),
  added.globals ∙ rw (reads.1, follows.1) refl,
)

pub adds_rule : (old : Command) (arg : Arg) (new : Result Command AllocError)
    → IfOk new (AddsArg old arg) → AddsRule (Ok old) arg new
adds_rule old arg (Ok new) added app rule reads follows = adds added reads follows
adds_rule old arg (Err e) added app rule reads follows = tt

-- One more subcommand.
pub adds_command : {old sub new : Command} {app : App} {shape : Shape} → AddsSubcommand old sub new
    → Reads old app → ReadsAs sub shape → Reads new (with_subcommand app shape)
adds_command {old} {sub} {new} {app} {shape} added reads is = (
  added.shape is.1 ∙ (ap (λ (a : App). with_subcommand a (shape_of sub)) reads.0
      ∙ ap (λ (a : App). with_subcommand app a.top) is.0),
  added.globals ∙ rw (reads.1, is.1) refl,
)

pub adds_to_commands : (old sub : Command) (new : Result Command AllocError)
    → IfOk new (AddsSubcommand old sub) → AddsCommand (Ok old) (Ok sub) new
adds_to_commands old sub (Ok new) added app shape reads is = adds_command added reads is
adds_to_commands old sub (Err e) added app shape reads is = tt

grammar_is_simple : is_simple grammar ≡ true
unfolding grammar
grammar_is_simple = refl

grammar_is_free : is_simple_and_free grammar ≡ true
unfolding grammar
grammar_is_free = refl

-- A parse by a command that reads by the grammar.
pub parses : (command : Command) (words : List Text) (parsed : Result ArgMatches Error)
    → Reads command grammar
    → IfOk parsed (HasMatchesOf (app_of command) words)
    → (is_simple_and_free (app_of command) ≡ true → FailsBy (fault_of (app_of command) words)
    parsed) → Parses words parsed
parses command words parsed reads matches kinds =
    let has : IfOk parsed (HasMatchesOf grammar words) =
    subst (λ (a : App). IfOk parsed (HasMatchesOf a words)) reads.0 matches in
    let fails : is_simple_and_free grammar ≡ true → FailsBy (fault_of grammar words) parsed =
    subst (λ (a : App). is_simple_and_free a ≡ true → FailsBy (fault_of a words) parsed) reads.0
    kinds in
    record {
      own = IfOk-weaker parsed _ _ (λ m h. (h grammar_is_simple).0) has;
      named = IfOk-weaker parsed _ _ (λ m h. (h grammar_is_simple).1) has;
      fault = fails grammar_is_free;
    }

-- A parse for which memory was lacking.
pub parses_nothing : (words : List Text) (error : Error) → kind_of error ≡ OutOfMemory
    → Parses words (Err error)
parses_nothing words error is = record { own = tt; named = tt; fault = inl is }

-- The grammar of the command line: its subcommands, and the words and options of each.
use Rattle.std.specs.Prelude.{◌≡◌, ℕ, pos, true, false, List, [], ◌∷◌, ◌++◌, Some, codes}
use Rattle.std.specs.Prelude.{Result, IfOk}
use Rattle.std.specs.declared.alloc.AllocError.{AllocError}
use Rattle.clap.specs.Words.{App, FailsBy, Rule, Shape, Text, app_of, fault_of, found_of}
use Rattle.clap.specs.Words.{matches_of, new_rule, rows_of, rule_of}
use Rattle.clap.specs.Words.{subcommand_of, subcommand_rows_of, with_rule, with_subcommand}
use Rattle.clap.specs.Simple.{new_shape}
use Rattle.clap.specs.declared.builder.action.ArgAction.TheVariants.{SetTrue}
use Rattle.clap.specs.declared.builder.arg.Arg.{Arg}
use Rattle.clap.specs.declared.builder.command.Command.{Command}
use Rattle.clap.specs.declared.builder.command.Command.TheViews.{out-Command as fields_of}
use Rattle.clap.specs.declared.builder.value_parser.ValueParser.TheVariants.{Signed}
use Rattle.clap.specs.declared.error.Error.{Error}
use Rattle.clap.specs.declared.parser.matches.ArgMatches.{ArgMatches}

-- Words that are given by their position: exactly that many, or none.
abbrev pub words_or_none : ℕ → Text → Rule
words_or_none count name = record (new_rule name) { value_names = count }

-- An option without a value.
abbrev pub a_flag : Text → Rule
a_flag name = record (new_rule name) { long = Some name; action = Some SetTrue }

-- An option with a value.
abbrev pub an_option : Text → Rule
an_option name = record (new_rule name) { long = Some name; value_names = 1 }

-- The value is a number from `least` to `most`.
abbrev pub between : ℕ → ℕ → Rule → Rule
between least most rule = record rule { parser = Some (Signed (pos least) (pos most)) }

-- The option may be left out. It then has this value.
abbrev pub or_else : Text → Rule → Rule
or_else value rule = record rule { defaults = value ∷ [] }

-- The option is required.
abbrev pub needed : Rule → Rule
needed rule = record rule { required = true }

-- A required option with a text.
abbrev pub a_text : Text → Rule
a_text name = needed (an_option name)

-- The value is a number of 32 bits.
abbrev pub whole : Rule → Rule
whole rule = between 0 4294967295 rule

-- A required option with a number of 32 bits.
abbrev pub a_number : Text → Rule
a_number name = whole (a_text name)

-- The option `--interval`, in days.
abbrev pub interval : Rule
interval = between 1 3650 (an_option (codes "interval"))

-- The option `--limit`: a maximum number of calls.
abbrev pub limit : Rule
limit = between 1 1000000000 (an_option (codes "limit"))

-- The option `--day`, which may be left out.
abbrev pub day : Rule
day = whole (an_option (codes "day"))

-- The option `--count` of `serve`, which is the greatest number of 32 bits if it is left out.
abbrev pub turn_count : Rule
turn_count = or_else (codes "4294967295") (whole (an_option (codes "count")))

-- An option with a number of 32 bits, which may be left out.
abbrev pub a_count : Text → Rule
a_count name = whole (an_option name)

-- The option `--tries`, which is 5 if it is left out.
abbrev pub tries : Rule
tries = or_else (codes "5") (between 1 100 (an_option (codes "tries")))

-- A subcommand with these words and options.
abbrev pub says : Text → List Rule → Shape
says name rules = record (new_shape name) { rules = rules }

-- The subcommand `check`.
abbrev pub check_shape : Shape
check_shape = says (codes "check") (a_flag (codes "label") ∷ words_or_none 1 (codes "text") ∷ [])

-- The subcommand `make`.
abbrev pub make_shape : Shape
make_shape = says (codes "make") (words_or_none 3 (codes "parts") ∷ [])

-- The subcommand `show`.
abbrev pub show_shape : Shape
show_shape = says (codes "show") (words_or_none 1 (codes "hex") ∷ [])

-- The subcommand `replay`.
abbrev pub replay_shape : Shape
replay_shape = says (codes "replay") (or_else (codes "30") interval ∷ or_else (codes "1000000")
    limit ∷ [])

-- The subcommand `create`.
abbrev pub create_shape : Shape
create_shape = says (codes "create") (a_text (codes "ledger") ∷ needed interval ∷ needed limit ∷ [])

-- The subcommand `serve`.
abbrev pub serve_shape : Shape
serve_shape = says (codes "serve") (a_text (codes "ledger") ∷ a_text (codes "bind")
    ∷ turn_count ∷ an_option (codes "until") ∷ day ∷ a_count (codes "most-days-ahead")
    ∷ a_flag (codes "senders") ∷ [])

-- The subcommand `grant`.
abbrev pub grant_shape : Shape
grant_shape = says (codes "grant") (a_text (codes "to") ∷ a_count (codes "number")
    ∷ an_option (codes "notes") ∷ a_number (codes "holder")
    ∷ a_text (codes "service") ∷ a_text (codes "country")
    ∷ between 0 99999999 (a_text (codes "first")) ∷ between 0 99999999 (a_text (codes "last"))
    ∷ tries ∷ [])

-- The subcommand `draw`.
abbrev pub draw_shape : Shape
draw_shape = says (codes "draw") (a_text (codes "to") ∷ a_count (codes "customer")
    ∷ a_count (codes "number") ∷ an_option (codes "notes")
    ∷ a_text (codes "service") ∷ a_text (codes "country") ∷ between 1 16 (an_option (codes "count"))
    ∷ tries ∷ [])

-- The subcommand `void`.
abbrev pub void_shape : Shape
void_shape = says (codes "void") (a_text (codes "to") ∷ a_count (codes "customer")
    ∷ a_count (codes "number") ∷ an_option (codes "notes") ∷ a_text (codes "id") ∷ tries ∷ [])

-- The subcommand `query`.
abbrev pub query_shape : Shape
query_shape = says (codes "query") (a_text (codes "to") ∷ a_count (codes "customer")
    ∷ a_count (codes "number") ∷ an_option (codes "notes") ∷ a_text (codes "id") ∷ tries ∷ [])

-- The subcommand `withdraw`.
abbrev pub withdraw_shape : Shape
withdraw_shape = says (codes "withdraw") (a_text (codes "to") ∷ a_count (codes "number")
    ∷ an_option (codes "notes") ∷ a_number (codes "range") ∷ tries ∷ [])

-- The subcommand `notes`.
abbrev pub notes_shape : Shape
notes_shape = says (codes "notes") (a_text (codes "file") ∷ a_number (codes "customer")
    ∷ a_number (codes "first") ∷ a_number (codes "last") ∷ [])

-- The subcommand `again`.
abbrev pub again_shape : Shape
again_shape = says (codes "again") (a_text (codes "to") ∷ a_text (codes "notes") ∷ tries ∷ [])

-- The options that select what a report has.
abbrev pub filters : List Rule
filters = a_count (codes "customer") ∷ a_count (codes "range") ∷ an_option (codes "id")
    ∷ a_count (codes "from-day") ∷ a_count (codes "to-day") ∷ []

-- The subcommand `report`.
abbrev pub report_shape : Shape
report_shape = says (codes "report") (a_text (codes "ledger") ∷ a_flag (codes "snapshot")
    ∷ a_flag (codes "issues") ∷ a_flag (codes "csv") ∷ filters ++ day ∷ [])

-- The subcommand `info`.
abbrev pub info_shape : Shape
info_shape = says (codes "info") (a_text (codes "ledger") ∷ a_flag (codes "snapshot") ∷ day ∷ [])

-- The subcommand `audit`.
abbrev pub audit_shape : Shape
audit_shape = says (codes "audit") (a_text (codes "ledger") ∷ a_flag (codes "snapshot") ∷ [])

-- The subcommand `copy`.
abbrev pub copy_shape : Shape
copy_shape = says (codes "copy") (a_text (codes "ledger") ∷ a_text (codes "to") ∷ [])

-- The subcommand `loop`.
abbrev pub loop_shape : Shape
loop_shape = says (codes "loop") (day ∷ [])

-- The program without its subcommands: it requires one, and prints its help without words.
abbrev pub top_shape : Shape
top_shape = record (new_shape (codes "s10")) {
  has_version = true;
  arg_required_else_help = true;
  subcommand_required = true;
}

-- The whole command line.
unfoldable pub grammar : App
grammar = record {
  top = record top_shape { is_leaf = false };
  subs = check_shape ∷ make_shape ∷ show_shape ∷ replay_shape ∷ create_shape ∷ serve_shape
      ∷ grant_shape ∷ draw_shape
      ∷ void_shape ∷ query_shape ∷ withdraw_shape ∷ notes_shape ∷ again_shape ∷ report_shape
      ∷ info_shape ∷ audit_shape ∷ copy_shape ∷ loop_shape ∷ [];
}

-- The argument follows this rule, and only in its own command.
abbrev pub Follows : Arg → Rule → Type 0
Follows arg rule = (rule_of arg ≡ rule) × (arg.global ≡ false)

-- The command reads words by this grammar.
abbrev pub Reads : Command → App → Type 0
Reads command app = (app_of command ≡ app) × ((fields_of command).has_globals ≡ false)

-- The subcommand reads words by this shape.
abbrev pub ReadsAs : Command → Shape → Type 0
ReadsAs command shape = Reads command (record { top = shape; subs = [] })

-- The grammar with these rules added.
abbrev pub with_rules : App → List Rule → App
with_rules app [] = app
with_rules app (rule ∷ rules) = with_rules (with_rule app rule) rules

-- If memory was not lacking, the command reads words by this grammar.
abbrev pub IfReads : Result Command AllocError → App → Type 0
IfReads command app = IfOk command (λ built. Reads built app)

-- The new command reads as the old one, with the rule of the argument added.
abbrev pub AddsRule : Result Command AllocError → Arg → Result Command AllocError → Type 0
AddsRule old arg new = (app : App) (rule : Rule) → IfReads old app → Follows arg rule
    → IfReads new (with_rule app rule)

-- The new command reads as the old one, with these rules added.
abbrev pub AddsRules : Result Command AllocError → List Rule → Result Command AllocError → Type 0
AddsRules old rules new = (app : App) → IfReads old app → IfReads new (with_rules app rules)

-- The new command reads as the old one, with the subcommand added.
abbrev pub AddsCommand : Result Command AllocError → Result Command AllocError
    → Result Command AllocError → Type 0
AddsCommand old subcommand new = (app : App) (shape : Shape) → IfReads old app
    → IfOk subcommand (λ built. ReadsAs built shape)
    → IfReads new (with_subcommand app shape)

-- A parse of the words returns the matches of the grammar, a fault that it gives for them, or lack
-- of memory.
pub record Parses (words : List Text) (parsed : Result ArgMatches Error) : Type 0 where
  pub own : IfOk parsed (λ matches. rows_of (found_of matches) ≡ matches_of grammar words)
  pub named : IfOk parsed (λ matches. subcommand_rows_of matches ≡ subcommand_of grammar words)
  pub fault : FailsBy (fault_of grammar words) parsed

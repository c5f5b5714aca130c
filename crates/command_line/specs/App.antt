-- The command line as `clap` sees it: `aprof` with a required subcommand, and no help or version of any kind.
use Rattle.std.specs.Prelude.{true, Some, codes}
use Rattle.clap.specs.Lexer.{usize_max}
use Rattle.clap.specs.Words.{App, Rule, Text, new_app, new_rule, with_rule, with_subcommand}
use Rattle.clap.specs.declared.builder.ArgAction.TheVariants.{Append, Set, SetTrue}

-- an option with one value, `--name VALUE`
abbrev pub value_rule : Text → Rule
value_rule name = record (new_rule name) { long = Some name; action = Some Set }

-- the same, which has to be there
abbrev pub required_option : Text → Rule
required_option name = record (value_rule name) { required = true }

-- an option without a value, `--name`
abbrev pub flag_rule : Text → Rule
flag_rule name = record (new_rule name) { long = Some name; action = Some SetTrue }

-- `-o PATH`, which has to be there; its letter is 111
abbrev pub output_rule : Rule
output_rule = record (new_rule (codes "output")) { short = Some 111; action = Some Set; required = true }

-- a word of its own that has to be there
abbrev pub required_rule : Text → Rule
required_rule name = record (new_rule name) { action = Some Set; required = true }

-- any number of further words
abbrev pub word_rule : Rule
word_rule = record (new_rule (codes "word")) {
  action = Some Append;
  range = Some (record { start_inclusive = 0; end_inclusive = usize_max });
}

-- A command of this name that runs a guest: how the guest is run, where the result is stored, the image and the further words.
unfoldable pub guest_app : Text → App
guest_app name = with_rule (with_rule (with_rule (with_rule (with_rule (with_rule (with_rule
    (new_app name) (value_rule (codes "stdin"))) (value_rule (codes "quantum"))) (value_rule (codes "schedule")))
    (value_rule (codes "budget"))) output_rule) (required_rule (codes "image"))) word_rule

-- `run`, with what it has beside
abbrev pub run_app : App
run_app = with_rule (with_rule (with_rule (guest_app (codes "run")) (value_rule (codes "record"))) (value_rule (codes "stamps"))) (flag_rule (codes "stats"))

-- `trace`, which has nothing beside
abbrev pub trace_app : App
trace_app = guest_app (codes "trace")

-- `cache`, with its shape
abbrev pub cache_app : App
cache_app = with_rule (with_rule (with_rule (guest_app (codes "cache")) (required_option (codes "sets"))) (required_option (codes "ways"))) (required_option (codes "line"))

-- `contexts`, with the width of stamps
abbrev pub contexts_app : App
contexts_app = with_rule (guest_app (codes "contexts")) (value_rule (codes "stamps"))

-- `replay` with its options and the trace
unfoldable pub replay_app : App
replay_app = with_rule (with_rule (with_rule (with_rule (new_app (codes "replay")) (value_rule (codes "stamps"))) (flag_rule (codes "stats")))
    output_rule) (required_rule (codes "trace"))

-- `demo` with its number
unfoldable pub demo_app : App
demo_app = with_rule (new_app (codes "demo")) (required_rule (codes "number"))

-- `aprof` without its subcommands
unfoldable pub top_app : App
top_app = let app = new_app (codes "aprof") in record app {
  top = record app.top {
    subcommand_required = true;
    disable_help_flag = true;
    disable_help_subcommand = true;
    disable_version_flag = true;
  };
}

-- the whole command
unfoldable pub the_app : App
the_app = with_subcommand (with_subcommand (with_subcommand (with_subcommand (with_subcommand (with_subcommand top_app run_app.top) demo_app.top)
    trace_app.top) cache_app.top) replay_app.top) contexts_app.top

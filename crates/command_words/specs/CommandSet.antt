-- The commands and options of the program, as `clap` sees them.
use Rattle.std.specs.Prelude.{true, codes, Some}
use Rattle.clap.specs.declared.builder.action.ArgAction.TheVariants.{SetTrue}
use Rattle.clap.specs.Words.{App, Shape, Rule, Text, new_app, new_rule, with_rule, with_subcommand}
use Rattle.clap.specs.Simple.{on_top}
use Rattle.clap.specs.Lexer.{usize_max}

-- an argument that each use of its command needs
abbrev pub needed : Text → Rule
needed name = record (new_rule name) { required = true }

-- the file of a command
abbrev pub file : Rule
file = needed (codes "FILE")

-- the files of a command, one or more
abbrev pub files : Rule
files = record file { range = Some (record { start_inclusive = 1; end_inclusive = usize_max }) }

-- an option with a value, at most once
abbrev pub option : Text → Rule
option name = record (new_rule name) { long = Some name }

-- an option without a value, at most once
abbrev pub flag : Text → Rule
flag name = record (new_rule name) { long = Some name; action = Some SetTrue }

-- a command with its file or files and what may be said of a run: `[--heap N] [--stack N] [--steps N] [--leaks] [--explain] [--json]`
abbrev pub running : Text → Rule → App
running name word =
    with_rule (with_rule (with_rule (with_rule (with_rule (with_rule (with_rule (new_app name) word) (option (codes "heap"))) (option (codes "stack"))) (option (codes "steps"))) (flag (codes "leaks"))) (flag (codes "explain"))) (flag (codes "json"))

-- `mean FILE.. [--heap N] [--steps N] [--explain] [--json]`
abbrev pub mean : App
mean =
    with_rule (with_rule (with_rule (with_rule (with_rule (new_app (codes "mean")) files) (option (codes "heap"))) (option (codes "steps"))) (flag (codes "explain"))) (flag (codes "json"))

-- a command with its words alone
abbrev pub plain : Text → Rule → App
plain name word = with_rule (new_app name) word

-- a command with files alone
abbrev pub on_files : Text → App
on_files name = plain name files

-- `self N`
abbrev pub generated : App
generated = plain (codes "self") (needed (codes "N"))

-- all words are arguments; there is one command, and no help and no version
abbrev pub bare : Shape → Shape
bare shape = record shape {
  no_binary_name = true;
  disable_help_flag = true;
  disable_version_flag = true;
  disable_help_subcommand = true;
  subcommand_required = true;
}

-- the program before its commands
abbrev pub program : App
program = on_top bare (new_app (codes "heapsafe"))

-- `run` and `mean`, those with files alone, `self` and `exec`; how many files a command takes at most is no rule of `clap`
unfoldable pub command_set : App
command_set =
    with_subcommand (with_subcommand (with_subcommand (with_subcommand (with_subcommand (with_subcommand (with_subcommand (with_subcommand (with_subcommand program (running (codes "run") files).top) mean.top) (on_files (codes "print")).top) (on_files (codes "layout")).top) (on_files (codes "list")).top) (on_files (codes "live")).top) generated.top) (on_files (codes "compile")).top) (running (codes "exec") file).top

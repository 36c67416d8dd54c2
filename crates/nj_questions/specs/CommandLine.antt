-- The command line of `ninja-graph`, in terms of `clap`'s own specification. Texts of help are not part of it.
use Rattle.std.specs.Prelude.{ℕ, true, false, List, [], ◌∷◌, ◌++◌, Some, codes}
use Rattle.clap.specs.Words.{App, Rule, Shape, new_rule}
use Rattle.clap.specs.Simple.{new_shape}
use Rattle.clap.specs.declared.builder.ArgAction.TheVariants.{Append, SetTrue}
use Rattle.clap.specs.declared.builder.value_parser.ValueParser.TheVariants.{Unsigned}

-- ---- options, whose values are kept under their names

-- `-L VALUE`
abbrev pub short_option : (name : List ℕ) (letter : ℕ) → Rule
short_option name letter = record (new_rule name) { short = Some letter; value_names = 1 }

-- `-L`
abbrev pub short_flag : (name : List ℕ) (letter : ℕ) → Rule
short_flag name letter = record (new_rule name) { short = Some letter; action = Some SetTrue }

-- `--NAME`
abbrev pub flag : (name : List ℕ) → Rule
flag name = record (new_rule name) { long = Some name; action = Some SetTrue }

-- `--NAME VALUE`
abbrev pub long_option : (name : List ℕ) → Rule
long_option name = record (new_rule name) { long = Some name; value_names = 1 }

-- `--NAME VALUE`, which may be repeated
abbrev pub repeated : (name : List ℕ) → Rule
repeated name = record (long_option name) { action = Some Append }

-- `--NAME VALUE`, whose value is a number of 64 bits
abbrev pub number : (name : List ℕ) → Rule
number name = record (long_option name) { parser = Some (Unsigned 0 18446744073709551615) }

-- ---- words that are not options

-- a required word
abbrev pub word : (name : List ℕ) → Rule
word name = record (new_rule name) { required = true }

-- any number of words, after the options
abbrev pub words : (name : List ℕ) → Rule
words name = record (new_rule name) { value_names = 1; action = Some Append }

-- ---- subcommands

-- the options that name a graph, which each subcommand has after its own
abbrev pub graph_options : List Rule
graph_options = short_option (codes "folder") 67 ∷ short_option (codes "file") 102
    ∷ flag (codes "dyndep") ∷ flag (codes "deps") ∷ long_option (codes "deps-log-file") ∷ []

-- a subcommand with its own options
abbrev pub subcommand : (name : List ℕ) (options : List Rule) → Shape
subcommand name options = record (new_shape name) { rules = options ++ graph_options }

-- the options of `affected`; a subcommand's words that are not options are among its options
abbrev pub affected_options : List Rule
affected_options = repeated (codes "source-dir") ∷ short_flag (codes "zero-ended") 122 ∷ repeated (codes "ignore")
    ∷ repeated (codes "rule") ∷ long_option (codes "prefix") ∷ flag (codes "no-phony") ∷ flag (codes "ignore-unknown") ∷ flag (codes "allow-empty")
    ∷ long_option (codes "since") ∷ repeated (codes "base") ∷ []

-- the options of `audit`
abbrev pub audit_options : List Rule
audit_options =
    flag (codes "all") ∷ repeated (codes "only") ∷ repeated (codes "except") ∷ flag (codes "json") ∷ flag (codes "list") ∷ []

-- the options of `draw`
abbrev pub draw_options : List Rule
draw_options = flag (codes "affected") ∷ flag (codes "fold") ∷ number (codes "limit") ∷ number (codes "inputs")
    ∷ words (codes "targets") ∷ []

-- the options of `keys`
abbrev pub keys_options : List Rule
keys_options =
    repeated (codes "base") ∷ repeated (codes "with") ∷ repeated (codes "with-file") ∷ number (codes "take")
    ∷ long_option (codes "resume") ∷ flag (codes "all") ∷ flag (codes "json") ∷ words (codes "targets") ∷ []

-- the options of `stale`
abbrev pub stale_options : List Rule
stale_options = flag (codes "why") ∷ flag (codes "json") ∷ flag (codes "no-manifest") ∷ words (codes "targets") ∷ []

-- the options of `tests`
abbrev pub tests_options : List Rule
tests_options = long_option (codes "ctest") ∷ long_option (codes "meson") ∷ repeated (codes "source-dir") ∷ short_flag (codes "zero-ended") 122
    ∷ repeated (codes "ignore") ∷ flag (codes "ignore-unknown") ∷ flag (codes "allow-empty") ∷ long_option (codes "format")
    ∷ flag (codes "why") ∷ flag (codes "json") ∷ long_option (codes "unnamed") ∷ long_option (codes "since") ∷ repeated (codes "base") ∷ []

-- the options of `times`
abbrev pub times_options : List Rule
times_options = number (codes "top") ∷ flag (codes "by-rule") ∷ flag (codes "dead")
    ∷ flag (codes "json") ∷ words (codes "targets") ∷ []

-- the options of `why`
abbrev pub why_options : List Rule
why_options = flag (codes "validations") ∷ flag (codes "no-order-only") ∷ word (codes "A") ∷ word (codes "B") ∷ []

-- all subcommands
abbrev pub subcommands : List Shape
subcommands = subcommand (codes "affected") affected_options ∷ subcommand (codes "audit") audit_options
    ∷ subcommand (codes "draw") draw_options ∷ subcommand (codes "json") []
    ∷ subcommand (codes "keys") keys_options ∷ subcommand (codes "stale") stale_options
    ∷ subcommand (codes "tests") tests_options ∷ subcommand (codes "times") times_options
    ∷ subcommand (codes "why") why_options ∷ []

-- ---- the program

-- the program has a version, and help only as a flag
abbrev pub program : Shape
program = record (new_shape (codes "ninja-graph")) {
  no_binary_name = true;
  has_version = true;
  subcommand_required = true;
  disable_help_subcommand = true;
}

-- the program with its subcommands, one of which is required
unfoldable pub command : App
command = record { top = record program { is_leaf = false }; subs = subcommands }

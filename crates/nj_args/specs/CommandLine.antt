-- The command line, in terms of `clap`'s own specification.
use Rattle.std.specs.Prelude.{ℕ, true, List, [], ◌∷◌, drop, slice_get, Some, codes}
use Rattle.clap.specs.Words.{App, Rule, new_rule}
use Rattle.clap.specs.Simple.{new_shape}
use Rattle.clap.specs.declared.builder.ArgAction.TheVariants.{Append, SetTrue}

-- an option with a value, as it is written: `-L VALUE`; its values are stored under the given text
abbrev pub short_option : (text : List ℕ) → Rule
short_option text = record (new_rule text) { short = slice_get text 1 }

-- `--NAME VALUE`
abbrev pub long_option : (text : List ℕ) → Rule
long_option text = record (new_rule text) { long = Some (drop 2 text) }

-- the option without a value
abbrev pub flag : Rule → Rule
flag option = record option { action = Some SetTrue }

-- the command without options and arguments; it has neither a help nor a version option
abbrev pub nothing_yet : App
nothing_yet = record { top = record (new_shape (codes "ninja-explain")) { no_binary_name = true; disable_help_flag = true }; subs = [] }

-- last, the arguments that are not options
abbrev pub arguments : List Rule
arguments = short_option (codes "-t") ∷ short_option (codes "-f")
    ∷ long_option (codes "--take") ∷ long_option (codes "--resume")
    ∷ flag (short_option (codes "-s")) ∷ flag (long_option (codes "--stdin"))
    ∷ flag (short_option (codes "-d")) ∷ flag (short_option (codes "-x")) ∷ long_option (codes "--directory")
    ∷ flag (long_option (codes "--dyndep")) ∷ flag (long_option (codes "--validations"))
    ∷ flag (long_option (codes "--dependency-order")) ∷ flag (long_option (codes "--no-shell-escape"))
    ∷ flag (long_option (codes "--print0")) ∷ record (new_rule (codes "words")) { action = Some Append } ∷ []

-- the command line, as it is described to the parser
unfoldable pub command : App
command = record nothing_yet { top = record nothing_yet.top { rules = arguments } }

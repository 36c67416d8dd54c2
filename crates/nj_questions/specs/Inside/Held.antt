-- How the code represents the command line and its rows. Nothing here has to be believed.
use Rattle.std.specs.Prelude.{ℕ, Bool, false, List, [], map, fold, Option, option_map, unwrap_or, is_some}
use Rattle.std.specs.Borrow.{Bor}
use Rattle.std.specs.Option.{option_map_or}
use Rattle.clap.specs.Words.{App, Row, Rule, Shape, found_of, new_app, rows_of, with_rule}
use Rattle.clap.specs.declared.parser.matches.ArgMatches.{ArgMatches}
use Rattle.nj_questions.specs.CommandLine.{program, graph_options, short_option, short_flag, long_option, flag, repeated, number, word, words}
use Rattle.nj_questions.specs.QuestionOf.{subject_in}
use Rattle.nj_questions.specs.declared.forms.Form.{Form}
use Rattle.nj_questions.specs.declared.forms.Form.TheVariants as form

-- ---- the command line

-- an option or a word in a form, and an entry of a table
abbrev pub rule_in : (name : List ℕ) → Form → Rule
rule_in name (form.Short letter value) = short_option name letter
rule_in name (form.Letter letter) = short_flag name letter
rule_in name form.Flag = flag name
rule_in name (form.Long value) = long_option name
rule_in name (form.Repeated value) = repeated name
rule_in name (form.Number value) = number name
rule_in name form.Word = word name
rule_in name (form.Words value) = words name

abbrev pub rule_at : Bor (List ℕ) × Form × Bor (List ℕ) → Rule
rule_at entry = rule_in entry.0.now entry.1

-- the program before its subcommands are added
abbrev pub without_subcommands : App
without_subcommands = record { top = program; subs = [] }

-- a subcommand with its own options and those of its graph
abbrev pub subcommand_in : (name : List ℕ) (options : List Rule) → Shape
subcommand_in name options = (fold with_rule (fold with_rule (new_app name) options) graph_options).top

-- ---- the rows

abbrev pub rows_in : ArgMatches → List Row
rows_in matches = rows_of (found_of matches)

abbrev pub word_strings : Option (Bor (List (Bor (List ℕ)))) → List (List ℕ)
word_strings words = unwrap_or (option_map (λ strings. map (λ text. text.now) strings.now) words) []

-- the rows of a subcommand are a question
abbrev pub is_question : Option (List ℕ × List Row) → Bool
is_question subcommand = option_map_or (λ named. is_some (subject_in named.0 named.1)) subcommand false

-- How the code represents the rows of the arguments. Nothing here has to be believed.
use Rattle.std.specs.Prelude.{ℕ, ◌==◌, Bool, true, false, not, if◌then◌else◌, List, [], ◌∷◌, find, map, codes}
use Rattle.std.specs.Prelude.{Option, Some, None, option_map, unwrap_or, ok_or, Result, Ok, Err}
use Rattle.std.specs.Borrow.{Bor}
use Rattle.std.specs.List.{list_any}
use Rattle.std.specs.Str.{bytes_eq}
use Rattle.clap.specs.Words.{Row, Rule, fault_of, first_of, found_of, new_rule, rows_of}
use Rattle.clap.specs.Walk as clap
use Rattle.clap.specs.declared.builder.ArgAction.TheVariants.{Append}
use Rattle.clap.specs.declared.parser.matches.ArgMatches.{ArgMatches}
use Rattle.clap.specs.declared.error.kind.ErrorKind.{ErrorKind}
use Rattle.clap.specs.declared.error.kind.ErrorKind.TheVariants as kind
use Rattle.nj_text.specs.Calls.{is_empty}
use Rattle.nj_manifest.specs.LineSteps.{◌>>=◌}
use Rattle.nj_args.specs.CommandLine.{command, flag}
use Rattle.nj_args.specs.FaultLines.{option_text}
use Rattle.nj_args.specs.Fields.{given_rows, is_on, words_in}
use Rattle.nj_args.specs.Numbers.{given_depth}
use Rattle.nj_requests.specs.Actions.{ActionModel, commands, inputs, targets, query, rules, compdb, RequestModel}
use Rattle.nj_requests.specs.declared.view.TargetsView.{TargetsView}
use Rattle.nj_requests.specs.declared.view.TargetsView.TheVariants.{Depth}
use Rattle.nj_args.specs.Requests.{request_in, style_of, view_of}
use Rattle.nj_args.specs.Tools.{all_options, is_foreign, options_of}
use Rattle.nj_args.specs.declared.command.Form.{Form}
use Rattle.nj_args.specs.declared.command.Form.TheVariants.{Short, Long, ShortFlag, LongFlag}
use Rattle.nj_args.specs.declared.usage_fault.ToolOption.{ToolOption}
use Rattle.nj_args.specs.declared.tools.Tool.{Tool}
use Rattle.nj_args.specs.declared.usage_fault.UsageFault.{UsageFault}
use Rattle.nj_args.specs.declared.usage_fault.UsageFault.TheVariants.{Unparsed, BadNumber, BadWords, OutOfMemory}

abbrev pub word_strings : Option (Bor (List (Bor (List ℕ)))) → List (List ℕ)
word_strings words = unwrap_or (option_map (λ strings. map (λ text. text.now) strings.now) words) []

-- the given values, under the texts of options
abbrev pub rows_in : ArgMatches → List Row
rows_in matches = rows_of (found_of matches)

-- an option that is stored under the given text: `-L VALUE`, and `--NAME VALUE`
abbrev pub with_letter : (text : List ℕ) (letter : ℕ) → Rule
with_letter text letter = record (new_rule text) { short = Some letter }

abbrev pub with_name : (text name : List ℕ) → Rule
with_name text name = record (new_rule text) { long = Some name }

-- an option in the given form, and an option of a table
abbrev pub option_in : (text : List ℕ) → Form → Rule
option_in text (Short letter) = with_letter text letter
option_in text (Long name) = with_name text name.now
option_in text (ShortFlag letter) = flag (with_letter text letter)
option_in text (LongFlag name) = flag (with_name text name.now)

abbrev pub option_at : Bor (List ℕ) × Form → Rule
option_at option = option_in option.0.now option.1

-- the arguments that are not options
abbrev pub all_words : Rule
all_words = record (new_rule (codes "words")) { action = Some Append }

-- `clap` refuses the arguments, for a cause other than memory
abbrev pub is_refused : (words : List (List ℕ)) → Bool
is_refused words = not (clap.is_empty (fault_of command words))

-- a sign that the standard library accepts when it reads numbers
abbrev pub begins_with_plus : List ℕ → Bool
begins_with_plus [] = false
begins_with_plus (first ∷ text) = first == 43

abbrev pub is_memory : ErrorKind → Bool
is_memory kind.OutOfMemory = true
is_memory _ = false

-- the fault that reports an error of `clap`
abbrev pub refusal : ErrorKind → UsageFault
refusal kind = if is_memory kind then OutOfMemory else Unparsed

-- an option goes with a tool
abbrev pub goes_with : Tool → (is_single : Bool) → ToolOption → Bool
goes_with tool is_single option = list_any (λ one. bytes_eq (option_text one) (option_text option)) (options_of tool is_single)

-- the first option that was given and does not go with the tool
abbrev pub first_foreign : Tool → List Row → Option ToolOption
first_foreign tool rows = find (is_foreign tool rows) all_options

-- the list of `targets` with the given number of levels
abbrev pub depth_of : (text : List ℕ) → Result TargetsView UsageFault
depth_of text = ok_or (option_map Depth (given_depth text)) (BadNumber text)

-- the actions of the other tools
abbrev pub inputs_of : List Row → Result ActionModel UsageFault
inputs_of rows = Ok (inputs (words_in rows) (is_on (codes "--validations") rows) (style_of rows))

abbrev pub targets_of : (name : List ℕ) → List Row → Result ActionModel UsageFault
targets_of name rows = view_of name (words_in rows) >>= (λ view. Ok (targets view))

abbrev pub query_of : (name : List ℕ) (words : List (List ℕ)) → Result ActionModel UsageFault
query_of name words = if is_empty words then Err (BadWords name) else Ok (query words)

abbrev pub rules_of : (name : List ℕ) (descriptions : Bool) (words : List (List ℕ)) → Result ActionModel UsageFault
rules_of name descriptions words = if is_empty words then Ok (rules descriptions) else Err (BadWords name)

abbrev pub compdb_of : List Row → Result ActionModel UsageFault
compdb_of rows = Ok (compdb (words_in rows) (unwrap_or (first_of (codes "--directory") rows) (codes ".")) (is_on (codes "-x") rows))

-- the request of arguments, and the request without arguments
abbrev pub given_request : (words : List (List ℕ)) → Result RequestModel UsageFault
given_request words = ok_or (given_rows words) Unparsed >>= request_in

abbrev pub wordless : RequestModel
wordless = record { file = codes "build.ninja"; from_stdin = true; dyndep = false; action = commands [] false None [] }

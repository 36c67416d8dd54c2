-- The request of a command line's arguments.
use Rattle.std.specs.Prelude.{ℕ, Bool, true, false, not, if◌then◌else◌, List, [], ◌∷◌, find, codes}
use Rattle.std.specs.Prelude.{Option, Some, None, option_map, unwrap_or, ok_or, Result, Ok, Err}
use Rattle.std.specs.Option.{option_map_or}
use Rattle.std.specs.Str.{bytes_eq}
use Rattle.nj_text.specs.Calls.{is_empty}
use Rattle.nj_manifest.specs.LineSteps.{◌>>=◌}
use Rattle.nj_requests.specs.Actions.{ActionModel, commands, single_commands, inputs, targets, query, rules, compdb, RequestModel}
use Rattle.nj_requests.specs.declared.style.InputsStyle.{InputsStyle}
use Rattle.nj_requests.specs.declared.view.TargetsView.{TargetsView}
use Rattle.nj_requests.specs.declared.view.TargetsView.TheVariants.{OfRule, Sources, Depth, All}
use Rattle.clap.specs.Words.{Row, first_of}
use Rattle.nj_args.specs.Fields.{given_rows, is_on, words_in}
use Rattle.nj_args.specs.Numbers.{given_number, given_depth}
use Rattle.nj_args.specs.RunMarks.{given_run_mark}
use Rattle.nj_args.specs.Tools.{tool_named, is_foreign, all_options}
use Rattle.nj_args.specs.declared.usage_fault.UsageFault.{UsageFault}
use Rattle.nj_args.specs.declared.usage_fault.UsageFault.TheVariants.{Unparsed, UnknownTool, ForeignOption, BadNumber, BadMark, BadWords}
use Rattle.nj_args.specs.declared.tools.Tool.{Tool}
use Rattle.nj_args.specs.declared.tools.Tool.TheVariants as tool

-- ---- `commands`

-- the number of `--take`, if it is given
abbrev pub take_of : Option (List ℕ) → Result (Option ℕ) UsageFault
take_of None = Ok None
take_of (Some text) = ok_or (option_map Some (given_number text)) (BadNumber text)

-- the mark of `--resume`; without that option, the start
abbrev pub start_of : (validations : Bool) → Option (List ℕ) → Result (List ℕ) UsageFault
start_of validations None = Ok []
start_of validations (Some text) = ok_or (given_run_mark validations text) (BadMark text)

-- the commands of the edges that the targets need, from a mark on, up to a limit; or with `-s`, the commands of the edges that make the
-- targets
abbrev pub commands_of : List Row → Result ActionModel UsageFault
commands_of rows = if is_on (codes "-s") rows then Ok (single_commands (words_in rows)) else do
  take ← take_of (first_of (codes "--take") rows)
  start ← start_of (is_on (codes "--validations") rows) (first_of (codes "--resume") rows)
  Ok (commands (words_in rows) (is_on (codes "--validations") rows) take start)

-- ---- `targets`

-- `depth`, `depth N`, `all`, `rule` or `rule NAME`; without arguments, the same as `depth 1`
abbrev pub view_of : (name : List ℕ) (words : List (List ℕ)) → Result TargetsView UsageFault
view_of name [] = Ok (Depth 1)
view_of name (word ∷ []) =
    if bytes_eq word (codes "depth") then Ok (Depth 1)
    else if bytes_eq word (codes "all") then Ok All
    else if bytes_eq word (codes "rule") then Ok Sources
    else Err (BadWords name)
view_of name (word ∷ value ∷ []) =
    if bytes_eq word (codes "depth") then ok_or (option_map Depth (given_depth value)) (BadNumber value)
    else if bytes_eq word (codes "rule") then Ok (OfRule value)
    else Err (BadWords name)
view_of name (word ∷ value ∷ more ∷ words) = Err (BadWords name)

-- ---- `inputs`

-- the list is sorted and quoted for a shell, one path a line, unless an option changes that
abbrev pub style_of : List Row → InputsStyle
style_of rows = record {
  dependency_order = is_on (codes "--dependency-order") rows;
  shell_escape = not (is_on (codes "--no-shell-escape") rows);
  zero = is_on (codes "--print0") rows;
}

-- ---- the request

-- The action of the tool with the given name, by options that go with it. `inputs` accepts any number of targets, `query` one or more
-- files, `rules` no arguments, and `compdb` any number of rules; its directory is the working directory unless another is given.
abbrev pub asked_of : Tool → (name : List ℕ) → List Row → Result ActionModel UsageFault
asked_of tool.Commands name rows = commands_of rows
asked_of tool.Inputs name rows = Ok (inputs (words_in rows) (is_on (codes "--validations") rows) (style_of rows))
asked_of tool.Targets name rows = view_of name (words_in rows) >>= (λ view. Ok (targets view))
asked_of tool.Query name rows = if is_empty (words_in rows) then Err (BadWords name) else Ok (query (words_in rows))
asked_of tool.Rules name rows = if is_empty (words_in rows) then Ok (rules (is_on (codes "-d") rows)) else Err (BadWords name)
asked_of tool.Compdb name rows =
    Ok (compdb (words_in rows) (unwrap_or (first_of (codes "--directory") rows) (codes ".")) (is_on (codes "-x") rows))

-- the first option that was given and does not go with the tool is a fault
abbrev pub action_of : (name : List ℕ) → List Row → Result ActionModel UsageFault
action_of name rows = do
  tool ← ok_or (tool_named name) (UnknownTool name)
  option_map_or (λ option. Err (ForeignOption option name)) (find (is_foreign tool rows) all_options) (asked_of tool name rows)

-- a tool is required
abbrev pub request_in : List Row → Result RequestModel UsageFault
request_in rows = do
  name ← ok_or (first_of (codes "-t") rows) Unparsed
  action ← action_of name rows
  Ok (record {
    file = unwrap_or (first_of (codes "-f") rows) (codes "build.ninja");
    from_stdin = is_on (codes "--stdin") rows;
    dyndep = is_on (codes "--dyndep") rows;
    action = action;
  })

-- Without any arguments: all commands of a file from standard input. Otherwise the request of the rows that `clap` reads in the
-- arguments.
unfoldable pub request_of : (words : List (List ℕ)) → Result RequestModel UsageFault
request_of [] = Ok (record { file = codes "build.ninja"; from_stdin = true; dyndep = false; action = commands [] false None [] })
request_of (word ∷ words) = ok_or (given_rows (word ∷ words)) Unparsed >>= request_in

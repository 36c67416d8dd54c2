-- The tools, and which options go with which.
use Rattle.std.specs.Prelude.{ℕ, ◌&&◌, Bool, true, false, not, if◌then◌else◌, List, [], ◌∷◌, codes, Option, Some, None, is_some}
use Rattle.std.specs.List.{list_any}
use Rattle.std.specs.Str.{bytes_eq}
use Rattle.clap.specs.Words.{Row, first_of}
use Rattle.nj_args.specs.FaultLines.{option_text}
use Rattle.nj_args.specs.Fields.{is_on}
use Rattle.nj_args.specs.declared.usage_fault.ToolOption.{ToolOption}
use Rattle.nj_args.specs.declared.usage_fault.ToolOption.TheVariants.{Single, Descriptions, Expand, Directory, Take, Resume, Validations, DependencyOrder, NoShellEscape, Print0}
use Rattle.nj_args.specs.declared.tools.Tool.{Tool}
use Rattle.nj_args.specs.declared.tools.Tool.TheVariants.{Commands, Inputs, Targets, Query, Rules, Compdb}

-- the tool with the given name
abbrev pub tool_named : (name : List ℕ) → Option Tool
tool_named name =
    if bytes_eq name (codes "commands") then Some Commands
    else if bytes_eq name (codes "inputs") then Some Inputs
    else if bytes_eq name (codes "targets") then Some Targets
    else if bytes_eq name (codes "query") then Some Query
    else if bytes_eq name (codes "rules") then Some Rules
    else if bytes_eq name (codes "compdb") then Some Compdb
    else None

-- the options that go with a tool, besides the options that go with every tool; with `-s`, `commands` accepts
-- no other option
abbrev pub options_of : Tool → (is_single : Bool) → List ToolOption
options_of Commands true = Single ∷ []
options_of Commands false = Single ∷ Take ∷ Resume ∷ Validations ∷ []
options_of Inputs is_single = Validations ∷ DependencyOrder ∷ NoShellEscape ∷ Print0 ∷ []
options_of Rules is_single = Descriptions ∷ []
options_of Compdb is_single = Expand ∷ Directory ∷ []
options_of tool is_single = []

-- an option that requires a value is given if it has a value
abbrev pub is_given : List Row → ToolOption → Bool
is_given rows Directory = is_some (first_of (codes "--directory") rows)
is_given rows Take = is_some (first_of (codes "--take") rows)
is_given rows Resume = is_some (first_of (codes "--resume") rows)
is_given rows option = is_on (option_text option) rows

-- whether an option is given and does not go with the tool
abbrev pub is_foreign : Tool → List Row → ToolOption → Bool
is_foreign tool rows option =
    let own = options_of tool (is_on (codes "-s") rows) in
    is_given rows option && not (list_any (λ one. bytes_eq (option_text one) (option_text option)) own)

-- in the order in which they are reported
abbrev pub all_options : List ToolOption
all_options = Single ∷ Descriptions ∷ Expand ∷ Directory ∷ Take ∷ Resume ∷ Validations ∷ DependencyOrder ∷ NoShellEscape ∷ Print0 ∷ []

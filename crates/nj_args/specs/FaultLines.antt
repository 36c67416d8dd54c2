-- The line that reports why arguments are not a valid request.
use Rattle.std.specs.Prelude.{ℕ, List, ◌++◌, codes}
use Rattle.nj_text.specs.Faults.{out_of_memory_text}
use Rattle.nj_args.specs.declared.usage_fault.ToolOption.{ToolOption}
use Rattle.nj_args.specs.declared.usage_fault.ToolOption.TheVariants as option
use Rattle.nj_args.specs.declared.usage_fault.UsageFault.{UsageFault}
use Rattle.nj_args.specs.declared.usage_fault.UsageFault.TheVariants as fault

-- an option, as it is written
abbrev pub option_text : ToolOption → List ℕ
option_text option.Single = codes "-s"
option_text option.Descriptions = codes "-d"
option_text option.Expand = codes "-x"
option_text option.Directory = codes "--directory"
option_text option.Take = codes "--take"
option_text option.Resume = codes "--resume"
option_text option.Validations = codes "--validations"
option_text option.DependencyOrder = codes "--dependency-order"
option_text option.NoShellEscape = codes "--no-shell-escape"
option_text option.Print0 = codes "--print0"

-- a text before a quoted argument
abbrev pub quoting : (before word : List ℕ) → List ℕ
quoting before word = before ++ (codes "'" ++ word ++ codes "'")

-- the text of a usage fault
abbrev pub fault_text : UsageFault → List ℕ
fault_text fault.Unparsed = codes "cannot read the arguments"
fault_text (fault.UnknownTool tool) = quoting (codes "unknown tool ") tool
fault_text (fault.ForeignOption option tool) = quoting (codes "option " ++ option_text option ++ codes " does not go with tool ") tool
fault_text (fault.BadNumber text) = quoting (codes "not a number: ") text
fault_text (fault.BadMark text) = quoting (codes "bad mark ") text
fault_text (fault.BadWords tool) = quoting (codes "wrong words for tool ") tool
fault_text fault.OutOfMemory = out_of_memory_text

-- `ninja-explain: TEXT`
abbrev pub fault_line : UsageFault → List ℕ
fault_line fault = codes "ninja-explain: " ++ fault_text fault

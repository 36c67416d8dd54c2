-- Worked rows of command lines, computed on the definitions.
use Rattle.std.proofs.Common.{◌≡◌, [], ◌∷◌, true, false, Some, None, Result, Ok, Err, refl}
use Rattle.std.specs.Prelude.{codes}
use Rattle.clap.proofs.OnLiterals.{clap_on_literals}
use Rattle.nj_needs.specs.MarkTexts.{given_mark}
use Rattle.nj_requests.specs.declared.style.InputsStyle.{InputsStyle}
use Rattle.nj_args.specs.CommandLine.{command}
use Rattle.nj_args.specs.FaultLines.{fault_line}
use Rattle.nj_requests.specs.Actions.{ActionModel, RequestModel, commands, compdb, inputs, query, rules}
use Rattle.nj_requests.specs.Actions.{single_commands, targets}
use Rattle.nj_args.specs.Requests.{request_of}
use Rattle.nj_args.specs.declared.usage_fault.UsageFault.{UsageFault}
use Rattle.nj_args.specs.declared.usage_fault.UsageFault.TheVariants.{Unparsed, UnknownTool, ForeignOption}
use Rattle.nj_args.specs.declared.usage_fault.UsageFault.TheVariants.{BadNumber, BadMark, BadWords}
use Rattle.nj_args.specs.declared.usage_fault.ToolOption.TheVariants.{Single, Descriptions, Expand, Directory}
use Rattle.nj_args.specs.declared.usage_fault.ToolOption.TheVariants.{Take, Resume, Validations}
use Rattle.nj_args.specs.declared.usage_fault.ToolOption.TheVariants.{DependencyOrder, NoShellEscape, Print0}
use Rattle.nj_requests.specs.declared.view.TargetsView.TheVariants.{OfRule, Sources, Depth, All}

abbrev asks : ActionModel → Result RequestModel UsageFault
asks action = Ok (record { file = codes "build.ninja"; from_stdin = false; dyndep = false; action = action })

-- the style of `inputs` without options
abbrev plain : InputsStyle
plain = record { dependency_order = false; shell_escape = true; zero = false }

-- ---- the file

wordless_row : request_of []
    ≡ Ok (record {
      file = codes "build.ninja";
      from_stdin = true;
      dyndep = false;
      action =
          commands [] false None [];
    })
unfolding request_of
wordless_row = refl

file_row : request_of (codes "-f" ∷ codes "a.ninja" ∷ codes "-t" ∷ codes "commands" ∷ [])
    ≡ Ok (record {
      file = codes "a.ninja";
      from_stdin = false;
      dyndep = false;
      action =
          commands [] false None [];
    })
unfolding request_of command clap_on_literals
file_row = refl

input_row : request_of (codes "--stdin" ∷ codes "-f=" ∷ codes "-t" ∷ codes "commands" ∷ [])
    ≡ Ok (record { file = []; from_stdin = true; dyndep = false; action = commands [] false None [] })
unfolding request_of command clap_on_literals
input_row = refl

dyndep_row : request_of (codes "-t" ∷ codes "commands" ∷ codes "--dyndep" ∷ [])
    ≡ Ok (record {
      file = codes "build.ninja";
      from_stdin = false;
      dyndep = true;
      action =
          commands [] false None [];
    })
unfolding request_of command clap_on_literals
dyndep_row = refl

dyndep_rules_row : request_of (codes "--dyndep" ∷ codes "-t" ∷ codes "rules" ∷ [])
    ≡ Ok (record { file = codes "build.ninja"; from_stdin = false; dyndep = true; action = rules false })
unfolding request_of command clap_on_literals
dyndep_rules_row = refl

-- ---- requests

take_row : request_of (codes "-t" ∷ codes "commands" ∷ codes "--take" ∷ codes "2" ∷ codes "d" ∷ [])
    ≡ asks (commands (codes "d" ∷ []) false (Some 2) [])
unfolding request_of command clap_on_literals
take_row = refl

resume_row : request_of (codes "-t" ∷ codes "commands" ∷ codes "--resume" ∷ codes "0.1" ∷ codes "d" ∷ [])
    ≡ asks (commands (codes "d" ∷ []) false None (0 ∷ 1 ∷ []))
unfolding request_of command clap_on_literals given_mark
resume_row = refl

start_row : request_of (codes "-t" ∷ codes "commands" ∷ codes "--resume=start" ∷ [])
    ≡ asks (commands ([]) false None [])
unfolding request_of command clap_on_literals given_mark
start_row = refl

validated_row : request_of (codes "-t" ∷ codes "commands" ∷ codes "--validations" ∷ codes "--resume" ∷ codes
    "v0.1" ∷ codes "d" ∷ [])
    ≡ asks (commands (codes "d" ∷ []) true None (0 ∷ 1 ∷ []))
unfolding request_of command clap_on_literals given_mark
validated_row = refl

validated_start_row : request_of (codes "-t" ∷ codes "commands" ∷ codes "--validations" ∷ codes
    "--resume=vstart" ∷ []) ≡ asks (commands ([]) true None [])
unfolding request_of command clap_on_literals given_mark
validated_start_row = refl

single_row : request_of (codes "-t" ∷ codes "commands" ∷ codes "-s" ∷ codes "d" ∷ codes "e" ∷ [])
    ≡ asks (single_commands (codes "d" ∷ codes "e" ∷ []))
unfolding request_of command clap_on_literals
single_row = refl

zeros_row : request_of (codes "-t" ∷ codes "commands" ∷ codes "--take=007" ∷ [])
    ≡ asks (commands ([]) false (Some 7) [])
unfolding request_of command clap_on_literals
zeros_row = refl

greatest_row : request_of (codes "-t" ∷ codes "commands" ∷ codes "--take" ∷ codes "18446744073709551615" ∷ [])
    ≡ asks (commands ([]) false (Some 18446744073709551615) [])
unfolding request_of command clap_on_literals
greatest_row = refl

empty_target_row : request_of (codes "-t" ∷ codes "commands" ∷ [] ∷ [])
    ≡ asks (commands ([] ∷ []) false None [])
unfolding request_of command clap_on_literals
empty_target_row = refl

mixed_row : request_of (codes "d" ∷ codes "-t" ∷ codes "commands" ∷ codes "e" ∷ [])
    ≡ asks (commands (codes "d" ∷ codes "e" ∷ []) false None [])
unfolding request_of command clap_on_literals
mixed_row = refl

ended_row : request_of (codes "-t" ∷ codes "commands" ∷ codes "--" ∷ codes "-s" ∷ codes "--" ∷ [])
    ≡ asks (commands (codes "-s" ∷ codes "--" ∷ []) false None [])
unfolding request_of command clap_on_literals
ended_row = refl

dash_row : request_of (codes "-t" ∷ codes "commands" ∷ codes "-" ∷ [])
    ≡ asks (commands (codes "-" ∷ []) false None [])
unfolding request_of command clap_on_literals
dash_row = refl

attached_row : request_of (codes "-tcommands" ∷ []) ≡ asks (commands ([]) false None [])
unfolding request_of command clap_on_literals
attached_row = refl

attached_sign_row : request_of (codes "-t=commands" ∷ []) ≡ asks (commands ([]) false None [])
unfolding request_of command clap_on_literals
attached_sign_row = refl

bundle_row : request_of (codes "-st" ∷ codes "commands" ∷ []) ≡ asks (single_commands [])
unfolding request_of command clap_on_literals
bundle_row = refl

-- ---- the other tools

inputs_row : request_of (codes "-t" ∷ codes "inputs" ∷ codes "a" ∷ codes "b" ∷ [])
    ≡ asks (inputs (codes "a" ∷ codes "b" ∷ []) false plain)
unfolding request_of command clap_on_literals
inputs_row = refl

no_inputs_row : request_of (codes "-t" ∷ codes "inputs" ∷ []) ≡ asks (inputs [] false plain)
unfolding request_of command clap_on_literals
no_inputs_row = refl

styles_row : request_of (codes "-t" ∷ codes "inputs" ∷ codes "--dependency-order" ∷ codes "--no-shell-escape"
    ∷ codes "--print0" ∷ codes "a" ∷ [])
    ≡ asks (inputs (codes "a" ∷ []) false (record
    { dependency_order = true; shell_escape = false; zero = true }))
unfolding request_of command clap_on_literals
styles_row = refl

validated_inputs_row : request_of (codes "-t" ∷ codes "inputs" ∷ codes "--validations" ∷ [])
    ≡ asks (inputs [] true plain)
unfolding request_of command clap_on_literals
validated_inputs_row = refl

query_row : request_of (codes "-t" ∷ codes "query" ∷ codes "a^" ∷ []) ≡ asks (query (codes "a^" ∷ []))
unfolding request_of command clap_on_literals
query_row = refl

rules_row : request_of (codes "-t" ∷ codes "rules" ∷ []) ≡ asks (rules false)
unfolding request_of command clap_on_literals
rules_row = refl

descriptions_row : request_of (codes "-t" ∷ codes "rules" ∷ codes "-d" ∷ []) ≡ asks (rules true)
unfolding request_of command clap_on_literals
descriptions_row = refl

compdb_row : request_of (codes "-t" ∷ codes "compdb" ∷ []) ≡ asks (compdb [] (codes ".") false)
unfolding request_of command clap_on_literals
compdb_row = refl

compdb_rules_row : request_of (codes "-t" ∷ codes "compdb" ∷ codes "-x" ∷ codes "--directory" ∷ codes "/w" ∷
    codes "cc" ∷ []) ≡ asks (compdb (codes "cc" ∷ []) (codes "/w") true)
unfolding request_of command clap_on_literals
compdb_rules_row = refl

empty_directory_row : request_of (codes "-t" ∷ codes "compdb" ∷ codes "--directory=" ∷ [])
    ≡ asks (compdb [] [] false)
unfolding request_of command clap_on_literals
empty_directory_row = refl

-- ---- the views of `targets`

roots_row : request_of (codes "-t" ∷ codes "targets" ∷ []) ≡ asks (targets (Depth 1))
unfolding request_of command clap_on_literals
roots_row = refl

depth_row : request_of (codes "-t" ∷ codes "targets" ∷ codes "depth" ∷ []) ≡ asks (targets (Depth 1))
unfolding request_of command clap_on_literals
depth_row = refl

all_levels_row : request_of (codes "-t" ∷ codes "targets" ∷ codes "depth" ∷ codes "0" ∷ [])
    ≡ asks (targets (Depth 0))
unfolding request_of command clap_on_literals
all_levels_row = refl

depth_zeros_row : request_of (codes "-t" ∷ codes "targets" ∷ codes "depth" ∷ codes "007" ∷ [])
    ≡ asks (targets (Depth 7))
unfolding request_of command clap_on_literals
depth_zeros_row = refl

greatest_depth_row : request_of (codes "-t" ∷ codes "targets" ∷ codes "depth" ∷ codes "2147483647" ∷ [])
    ≡ asks (targets (Depth 2147483647))
unfolding request_of command clap_on_literals
greatest_depth_row = refl

all_row : request_of (codes "-t" ∷ codes "targets" ∷ codes "all" ∷ []) ≡ asks (targets All)
unfolding request_of command clap_on_literals
all_row = refl

sources_row : request_of (codes "-t" ∷ codes "targets" ∷ codes "rule" ∷ []) ≡ asks (targets Sources)
unfolding request_of command clap_on_literals
sources_row = refl

rule_row : request_of (codes "-t" ∷ codes "targets" ∷ codes "rule" ∷ codes "cc" ∷ [])
    ≡ asks (targets (OfRule (codes "cc")))
unfolding request_of command clap_on_literals
rule_row = refl

empty_rule_row : request_of (codes "-t" ∷ codes "targets" ∷ codes "rule" ∷ [] ∷ [])
    ≡ asks (targets (OfRule []))
unfolding request_of command clap_on_literals
empty_rule_row = refl

-- ---- faults

number_row : request_of (codes "-t" ∷ codes "commands" ∷ codes "--take" ∷ codes "x" ∷ [])
    ≡ Err (BadNumber (codes "x"))
unfolding request_of command clap_on_literals
number_row = refl

too_great_row : request_of (codes "-t" ∷ codes "commands" ∷ codes "--take" ∷ codes "18446744073709551616" ∷
    [])
    ≡ Err (BadNumber (codes "18446744073709551616"))
unfolding request_of command clap_on_literals
too_great_row = refl

signed_row : request_of (codes "-t" ∷ codes "commands" ∷ codes "--take" ∷ codes "+1" ∷ [])
    ≡ Err (BadNumber (codes "+1"))
unfolding request_of command clap_on_literals
signed_row = refl

attached_negative_row : request_of (codes "-t" ∷ codes "commands" ∷ codes "--take=-5" ∷ [])
    ≡ Err (BadNumber (codes "-5"))
unfolding request_of command clap_on_literals
attached_negative_row = refl

empty_number_row : request_of (codes "-t" ∷ codes "commands" ∷ codes "--take=" ∷ []) ≡ Err (BadNumber [])
unfolding request_of command clap_on_literals
empty_number_row = refl

mark_row : request_of (codes "-t" ∷ codes "commands" ∷ codes "--resume" ∷ codes "00" ∷ codes "d" ∷ [])
    ≡ Err (BadMark (codes "00"))
unfolding request_of command clap_on_literals given_mark
mark_row = refl

empty_mark_row : request_of (codes "-t" ∷ codes "commands" ∷ codes "--resume=" ∷ []) ≡ Err (BadMark [])
unfolding request_of command clap_on_literals given_mark
empty_mark_row = refl

validated_mark_row : request_of (codes "-t" ∷ codes "commands" ∷ codes "--resume" ∷ codes "v0" ∷ [])
    ≡ Err (BadMark (codes "v0"))
unfolding request_of command clap_on_literals given_mark
validated_mark_row = refl

mark_without_letter_row : request_of (codes "-t" ∷ codes "commands" ∷ codes "--validations" ∷ codes "--resume"
    ∷ codes "0" ∷ []) ≡ Err (BadMark (codes "0"))
unfolding request_of command clap_on_literals given_mark
mark_without_letter_row = refl

letter_alone_row : request_of (codes "-t" ∷ codes "commands" ∷ codes "--validations" ∷ codes "--resume=v" ∷
    []) ≡ Err (BadMark (codes "v"))
unfolding request_of command clap_on_literals given_mark
letter_alone_row = refl

two_letters_row : request_of (codes "-t" ∷ codes "commands" ∷ codes "--validations" ∷ codes "--resume=vv0" ∷
    []) ≡ Err (BadMark (codes "vv0"))
unfolding request_of command clap_on_literals given_mark
two_letters_row = refl

letter_and_zero_row : request_of (codes "-t" ∷ codes "commands" ∷ codes "--validations" ∷ codes "--resume=v01"
    ∷ []) ≡ Err (BadMark (codes "v01"))
unfolding request_of command clap_on_literals given_mark
letter_and_zero_row = refl

number_before_mark_row : request_of (codes "-t" ∷ codes "commands" ∷ codes "--resume=x" ∷ codes "--take=y" ∷
    [])
    ≡ Err (BadNumber (codes "y"))
unfolding request_of command clap_on_literals given_mark
number_before_mark_row = refl

tool_row : request_of (codes "-t" ∷ codes "graph" ∷ []) ≡ Err (UnknownTool (codes "graph"))
unfolding request_of command clap_on_literals
tool_row = refl

empty_tool_row : request_of (codes "-t=" ∷ []) ≡ Err (UnknownTool [])
unfolding request_of command clap_on_literals
empty_tool_row = refl

dash_tool_row : request_of (codes "-t" ∷ codes "-" ∷ []) ≡ Err (UnknownTool (codes "-"))
unfolding request_of command clap_on_literals
dash_tool_row = refl

tool_before_number_row : request_of (codes "-t" ∷ codes "graph" ∷ codes "--take" ∷ codes "x" ∷ [])
    ≡ Err (UnknownTool (codes "graph"))
unfolding request_of command clap_on_literals
tool_before_number_row = refl

foreign_row : request_of (codes "-t" ∷ codes "commands" ∷ codes "-s" ∷ codes "--take" ∷ codes "1" ∷ [])
    ≡ Err (ForeignOption Take (codes "commands"))
unfolding request_of command clap_on_literals
foreign_row = refl

foreign_mark_row : request_of (codes "-t" ∷ codes "commands" ∷ codes "-s" ∷ codes "--resume" ∷ codes "x" ∷ [])
    ≡ Err (ForeignOption Resume (codes "commands"))
unfolding request_of command clap_on_literals given_mark
foreign_mark_row = refl

take_named_first_row : request_of (codes "-t" ∷ codes "commands" ∷ codes "--resume" ∷ codes "x" ∷ codes
    "--take" ∷ codes "x" ∷ codes "-s" ∷ [])
    ≡ Err (ForeignOption Take (codes "commands"))
unfolding request_of command clap_on_literals given_mark
take_named_first_row = refl

foreign_validations_row : request_of (codes "-t" ∷ codes "commands" ∷ codes "-s" ∷ codes "--validations" ∷
    codes "t" ∷ [])
    ≡ Err (ForeignOption Validations (codes "commands"))
unfolding request_of command clap_on_literals
foreign_validations_row = refl

take_before_validations_row : request_of
    (codes "-t" ∷ codes "commands" ∷ codes "-s" ∷ codes "--validations" ∷ codes "--take" ∷ codes "1" ∷ [])
    ≡ Err (ForeignOption Take (codes "commands"))
unfolding request_of command clap_on_literals
take_before_validations_row = refl

foreign_order_row : request_of (codes "-t" ∷ codes "commands" ∷ codes "--dependency-order" ∷ [])
    ≡ Err (ForeignOption DependencyOrder (codes "commands"))
unfolding request_of command clap_on_literals
foreign_order_row = refl

print0_query_row : request_of (codes "-t" ∷ codes "query" ∷ codes "--print0" ∷ codes "t" ∷ [])
    ≡ Err (ForeignOption Print0 (codes "query"))
unfolding request_of command clap_on_literals
print0_query_row = refl

escape_named_first_row : request_of (codes "-t" ∷ codes "query" ∷ codes "--print0" ∷ codes "--no-shell-escape"
    ∷ codes "t" ∷ [])
    ≡ Err (ForeignOption NoShellEscape (codes "query"))
unfolding request_of command clap_on_literals
escape_named_first_row = refl

single_rules_row : request_of (codes "-t" ∷ codes "rules" ∷ codes "-s" ∷ [])
    ≡ Err (ForeignOption Single (codes "rules"))
unfolding request_of command clap_on_literals
single_rules_row = refl

descriptions_compdb_row : request_of (codes "-t" ∷ codes "compdb" ∷ codes "-d" ∷ [])
    ≡ Err (ForeignOption Descriptions (codes "compdb"))
unfolding request_of command clap_on_literals
descriptions_compdb_row = refl

directory_commands_row : request_of (codes "-t" ∷ codes "commands" ∷ codes "--directory=" ∷ [])
    ≡ Err (ForeignOption Directory (codes "commands"))
unfolding request_of command clap_on_literals
directory_commands_row = refl

expand_named_first_row : request_of (codes "-t" ∷ codes "rules" ∷ codes "--take" ∷ codes "1" ∷ codes "-x" ∷
    []) ≡ Err (ForeignOption Expand (codes "rules"))
unfolding request_of command clap_on_literals
expand_named_first_row = refl

foreign_before_words_row : request_of (codes "-t" ∷ codes "query" ∷ codes "-d" ∷ [])
    ≡ Err (ForeignOption Descriptions (codes "query"))
unfolding request_of command clap_on_literals
foreign_before_words_row = refl

foreign_before_number_row : request_of (codes "-t" ∷ codes "inputs" ∷ codes "--take" ∷ codes "x" ∷ [])
    ≡ Err (ForeignOption Take (codes "inputs"))
unfolding request_of command clap_on_literals
foreign_before_number_row = refl

foreign_with_target_row : request_of (codes "-t" ∷ codes "commands" ∷ codes "-s" ∷ codes "--take" ∷ codes "1"
    ∷ codes "d" ∷ []) ≡ Err (ForeignOption Take (codes "commands"))
unfolding request_of command clap_on_literals
foreign_with_target_row = refl

-- ---- invalid arguments

no_file_row : request_of (codes "-t" ∷ codes "query" ∷ []) ≡ Err (BadWords (codes "query"))
unfolding request_of command clap_on_literals
no_file_row = refl

rules_word_row : request_of (codes "-t" ∷ codes "rules" ∷ codes "x" ∷ []) ≡ Err (BadWords (codes "rules"))
unfolding request_of command clap_on_literals
rules_word_row = refl

view_row : request_of (codes "-t" ∷ codes "targets" ∷ codes "x" ∷ []) ≡ Err (BadWords (codes "targets"))
unfolding request_of command clap_on_literals
view_row = refl

empty_view_row : request_of (codes "-t" ∷ codes "targets" ∷ [] ∷ []) ≡ Err (BadWords (codes "targets"))
unfolding request_of command clap_on_literals
empty_view_row = refl

all_word_row : request_of (codes "-t" ∷ codes "targets" ∷ codes "all" ∷ codes "x" ∷ [])
    ≡ Err (BadWords (codes "targets"))
unfolding request_of command clap_on_literals
all_word_row = refl

depth_words_row : request_of (codes "-t" ∷ codes "targets" ∷ codes "depth" ∷ codes "1" ∷ codes "2" ∷ [])
    ≡ Err (BadWords (codes "targets"))
unfolding request_of command clap_on_literals
depth_words_row = refl

depth_number_row : request_of (codes "-t" ∷ codes "targets" ∷ codes "depth" ∷ codes "x" ∷ [])
    ≡ Err (BadNumber (codes "x"))
unfolding request_of command clap_on_literals
depth_number_row = refl

depth_too_great_row : request_of (codes "-t" ∷ codes "targets" ∷ codes "depth" ∷ codes "2147483648" ∷ [])
    ≡ Err (BadNumber (codes "2147483648"))
unfolding request_of command clap_on_literals
depth_too_great_row = refl

-- ---- arguments that are refused

no_value_row : request_of (codes "-f" ∷ []) ≡ Err Unparsed
unfolding request_of command clap_on_literals
no_value_row = refl

no_tool_row : request_of (codes "d" ∷ []) ≡ Err Unparsed
unfolding request_of command clap_on_literals
no_tool_row = refl

no_tool_named_row : request_of (codes "-f" ∷ codes "build.ninja" ∷ []) ≡ Err Unparsed
unfolding request_of command clap_on_literals
no_tool_named_row = refl

no_tool_after_file_row : request_of (codes "-ft" ∷ codes "commands" ∷ []) ≡ Err Unparsed
unfolding request_of command clap_on_literals
no_tool_after_file_row = refl

flag_for_value_row : request_of (codes "-t" ∷ codes "-s" ∷ []) ≡ Err Unparsed
unfolding request_of command clap_on_literals
flag_for_value_row = refl

negative_row : request_of (codes "-t" ∷ codes "commands" ∷ codes "--take" ∷ codes "-5" ∷ []) ≡ Err Unparsed
unfolding request_of command clap_on_literals
negative_row = refl

tool_twice_row : request_of (codes "-t" ∷ codes "commands" ∷ codes "-t" ∷ codes "commands" ∷ [])
    ≡ Err Unparsed
unfolding request_of command clap_on_literals
tool_twice_row = refl

flag_twice_row : request_of (codes "-t" ∷ codes "commands" ∷ codes "-ss" ∷ []) ≡ Err Unparsed
unfolding request_of command clap_on_literals
flag_twice_row = refl

dyndep_twice_row : request_of (codes "-t" ∷ codes "commands" ∷ codes "--dyndep" ∷ codes "--dyndep" ∷ [])
    ≡ Err Unparsed
unfolding request_of command clap_on_literals
dyndep_twice_row = refl

take_twice_row : request_of (codes "-t" ∷ codes "commands" ∷ codes "--take=1" ∷ codes "--take=1" ∷ [])
    ≡ Err Unparsed
unfolding request_of command clap_on_literals
take_twice_row = refl

shortened_row : request_of (codes "-t" ∷ codes "commands" ∷ codes "--tak" ∷ codes "1" ∷ []) ≡ Err Unparsed
unfolding request_of command clap_on_literals
shortened_row = refl

flag_value_row : request_of (codes "-t" ∷ codes "commands" ∷ codes "--stdin=x" ∷ []) ≡ Err Unparsed
unfolding request_of command clap_on_literals
flag_value_row = refl

help_row : request_of (codes "-t" ∷ codes "commands" ∷ codes "-h" ∷ []) ≡ Err Unparsed
unfolding request_of command clap_on_literals
help_row = refl

long_help_row : request_of (codes "-t" ∷ codes "commands" ∷ codes "--help" ∷ []) ≡ Err Unparsed
unfolding request_of command clap_on_literals
long_help_row = refl

version_row : request_of (codes "-t" ∷ codes "commands" ∷ codes "--version" ∷ []) ≡ Err Unparsed
unfolding request_of command clap_on_literals
version_row = refl

short_version_row : request_of (codes "-t" ∷ codes "commands" ∷ codes "-V" ∷ []) ≡ Err Unparsed
unfolding request_of command clap_on_literals
short_version_row = refl

-- ---- lines

unparsed_line : fault_line Unparsed ≡ codes "ninja-explain: cannot read the arguments"
unparsed_line = refl

tool_line : fault_line (UnknownTool (codes "graph")) ≡ codes "ninja-explain: unknown tool 'graph'"
tool_line = refl

foreign_line : fault_line (ForeignOption Take (codes "commands"))
    ≡ codes "ninja-explain: option --take does not go with tool 'commands'"
foreign_line = refl

foreign_mark_line : fault_line (ForeignOption Resume (codes "commands"))
    ≡ codes "ninja-explain: option --resume does not go with tool 'commands'"
foreign_mark_line = refl

number_line : fault_line (BadNumber (codes "x")) ≡ codes "ninja-explain: not a number: 'x'"
number_line = refl

mark_line : fault_line (BadMark (codes "00")) ≡ codes "ninja-explain: bad mark '00'"
mark_line = refl

single_line : fault_line (ForeignOption Single (codes "rules"))
    ≡ codes "ninja-explain: option -s does not go with tool 'rules'"
single_line = refl

expand_line : fault_line (ForeignOption Expand (codes "rules"))
    ≡ codes "ninja-explain: option -x does not go with tool 'rules'"
expand_line = refl

words_line : fault_line (BadWords (codes "query")) ≡ codes "ninja-explain: wrong words for tool 'query'"
words_line = refl

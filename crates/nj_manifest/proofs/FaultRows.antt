-- Worked rows, computed on the definitions: files that do not begin with a statement.
use Rattle.std.proofs.Common.{◌≡◌, ℕ, Err, List, refl}
use Rattle.std.specs.Prelude.{codes}
use Rattle.nj_manifest.specs.declared.cause.SyntaxCause.TheVariants as cause
use Rattle.nj_manifest.specs.declared.cause.Wanted.TheVariants as wanted
use Rattle.nj_manifest.specs.Faults.{Fault, Placed}
use Rattle.nj_manifest.proofs.StatementRows.{on_strings, first_of, at}

abbrev refuses : List ℕ → Fault → Type 0
refuses text fault = first_of text ≡ Err fault

-- ---- bad units

bad_escape : refuses (codes "x = $!") (Placed (at 1 5) cause.BadEscape)
unfolding on_strings
bad_escape = refl

last_dollar : refuses (codes "x = $") (Placed (at 1 5) cause.BadEscape)
unfolding on_strings
last_dollar = refl

tab_in_block : refuses (codes "rule r\n\tcommand = x") (Placed (at 2 1) cause.Tab)
unfolding on_strings
tab_in_block = refl

-- before the wanted element there
bad_word : refuses (codes "build a$! b") (Placed (at 1 8) cause.BadEscape)
unfolding on_strings
bad_word = refl

-- ---- names

no_name : refuses (codes "= x") (Placed (at 1 1) (cause.Expected wanted.Statement))
unfolding on_strings
no_name = refl

rule_alone : refuses (codes "rule") (Placed (at 1 5) (cause.Expected wanted.RuleName))
unfolding on_strings
rule_alone = refl

pool_alone : refuses (codes "pool") (Placed (at 1 5) (cause.Expected wanted.PoolName))
unfolding on_strings
pool_alone = refl

no_command_name : refuses (codes "build d: ") (Placed (at 1 10) (cause.Expected wanted.CommandName))
unfolding on_strings
no_command_name = refl

no_variable_name : refuses (codes "rule r\n  = x") (Placed (at 2 3) (cause.Expected wanted.VariableName))
unfolding on_strings
no_variable_name = refl

-- ---- words

build_alone : refuses (codes "build") (Placed (at 1 6) (cause.Expected wanted.Path))
unfolding on_strings
build_alone = refl

no_output : refuses (codes "build : r") (Placed (at 1 7) (cause.Expected wanted.Path))
unfolding on_strings
no_output = refl

-- outputs have no validations
validation_alone : refuses (codes "build |@b: c") (Placed (at 1 7) (cause.Expected wanted.Path))
unfolding on_strings
validation_alone = refl

include_alone : refuses (codes "include") (Placed (at 1 8) (cause.Expected wanted.Path))
unfolding on_strings
include_alone = refl

default_alone : refuses (codes "default") (Placed (at 1 8) (cause.Expected wanted.TargetName))
unfolding on_strings
default_alone = refl

-- ---- signs

no_colon : refuses (codes "build a") (Placed (at 1 8) (cause.Expected wanted.Colon))
unfolding on_strings
no_colon = refl

output_validation : refuses (codes "build a |@b: c") (Placed (at 1 9) (cause.Expected wanted.Colon))
unfolding on_strings
output_validation = refl

no_equals : refuses (codes "x") (Placed (at 1 2) (cause.Expected wanted.Equals))
unfolding on_strings
no_equals = refl

no_equals_in_block : refuses (codes "rule r\n  command") (Placed (at 2 10) (cause.Expected wanted.Equals))
unfolding on_strings
no_equals_in_block = refl

-- the sections come in their order
turned_sections : refuses (codes "build a: r || b | c") (Placed (at 1 17) (cause.Expected wanted.Newline))
unfolding on_strings
turned_sections = refl

colon_in_default : refuses (codes "default a : b") (Placed (at 1 11) (cause.Expected wanted.Newline))
unfolding on_strings
colon_in_default = refl

-- ---- blocks

no_block : refuses (codes "  x = 1") (Placed (at 1 1) cause.UnexpectedIndent)
unfolding on_strings
no_block = refl

unknown_key : refuses (codes "rule r\n  foo = 1") (Placed (at 2 3) (cause.UnknownKey (codes "foo")))
unfolding on_strings
unknown_key = refl

joined_key : refuses (codes "rule r\n  $\n  foo = 1") (Placed (at 3 3) (cause.UnknownKey (codes "foo")))
unfolding on_strings
joined_key = refl

-- the key is looked at before the rest of its line
unknown_key_alone : refuses (codes "rule r\n  foo") (Placed (at 2 3) (cause.UnknownKey (codes "foo")))
unfolding on_strings
unknown_key_alone = refl

no_command : refuses (codes "rule r") (Placed (at 1 1) cause.MissingCommand)
unfolding on_strings
no_command = refl

-- a blank line ends a block
command_after_block : refuses (codes "rule r\n\n  command = x") (Placed (at 1 1) cause.MissingCommand)
unfolding on_strings
command_after_block = refl

-- the last line of a key wins
emptied_command : refuses (codes "rule r\n  command = x\n  command =") (Placed (at 1 1) cause.MissingCommand)
unfolding on_strings
emptied_command = refl

half_rsp_pair : refuses (codes "rule r\n  command = x\n  rspfile = y") (Placed (at 1 1) cause.RspPair)
unfolding on_strings
half_rsp_pair = refl

no_depth : refuses (codes "pool p") (Placed (at 1 1) cause.MissingDepth)
unfolding on_strings
no_depth = refl

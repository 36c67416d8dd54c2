-- Worked rows of mistakes. Each mistake is found, whatever else is wrong.
use Rattle.std.proofs.Common.{◌≡◌, List, [], ◌∷◌, Some, refl}
use Rattle.std.specs.Prelude.{codes}
use Rattle.clap.proofs.OnLiterals.{clap_on_literals}
use Rattle.nj_args.specs.CommandLine.{command}
use Rattle.clap.specs.Words.{Row, matches_of}
use Rattle.nj_args.specs.Fields.{given_rows, words_in}
use Rattle.nj_args.specs.FirstFaults.{HasMistake, unknown_tool, bad_take, bad_depth, unknown, no_number}
use Rattle.nj_args.specs.FirstFaults.{no_depth, TakesWords, levels}
use Rattle.nj_args.specs.declared.usage_fault.UsageFault.TheVariants.{UnknownTool, BadNumber}
use Rattle.nj_args.specs.declared.tools.Tool.TheVariants.{Targets}

-- ---- `-t graph --take x`

abbrev of_graph : List Row
of_graph = matches_of command (codes "-t" ∷ codes "graph" ∷ codes "--take" ∷ codes "x" ∷ [])

graph_row : given_rows (codes "-t" ∷ codes "graph" ∷ codes "--take" ∷ codes "x" ∷ []) ≡ Some of_graph
unfolding command clap_on_literals
graph_row = refl

graph_tool_row : HasMistake of_graph unknown_tool (UnknownTool (codes "graph"))
unfolding command clap_on_literals
graph_tool_row = unknown (codes "graph") refl refl

graph_take_row : HasMistake of_graph bad_take (BadNumber (codes "x"))
unfolding command clap_on_literals
graph_take_row = no_number (codes "x") refl refl

-- ---- `-t targets depth x`

abbrev of_depth : List Row
of_depth = matches_of command (codes "-t" ∷ codes "targets" ∷ codes "depth" ∷ codes "x" ∷ [])

depth_words_row : TakesWords Targets (words_in of_depth)
unfolding command clap_on_literals
depth_words_row = levels (codes "x") refl

depth_row : HasMistake of_depth bad_depth (BadNumber (codes "x"))
unfolding command clap_on_literals
depth_row = no_depth (codes "targets") (codes "x") (record { asked = refl; known = refl }) refl refl

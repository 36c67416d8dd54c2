-- The output of `commands`: for each edge its command, as a line.
use Rattle.std.specs.Prelude.{ℕ, not, List, [], ◌∷◌, map, filter, codes}
use Rattle.std.specs.Prelude.{nat_eq}
use Rattle.std.specs.List.{flat_map}
use Rattle.nj_scope.specs.ReadingList.{ReadStatement}
use Rattle.nj_names.specs.declared.files.FileNo.{FileNo}
use Rattle.nj_edges.specs.EdgeGraphs.{EdgeGraph}
use Rattle.nj_edges.specs.Edges.{EdgePaths}
use Rattle.nj_names.specs.Files.{path_at}
use Rattle.nj_needs.specs.Graphs.{row_of_paths, is_phony_in}
use Rattle.nj_needs.specs.Order.{made_by}
use Rattle.nj_edges.specs.Repeats.{each_once}
use Rattle.nj_graph.specs.Graph.{late_text_of}
use Rattle.nj_tools.specs.Lines.{line}

-- the commands of edges, by number, in their order; edges whose commands are the same have a line each
abbrev pub command_lines : List ReadStatement → (numbers : List ℕ) → List ℕ
command_lines entries numbers = flat_map (λ number. line (late_text_of entries number (codes "command"))) numbers

-- ---- the targets' own makers

-- the makers of the targets, without duplicates, each at its first occurrence, except phony edges, which have no command
abbrev pub own_commands_in : List EdgePaths → (targets : List (List ℕ)) → List ℕ
own_commands_in edges targets =
    filter (λ e. not (is_phony_in edges e)) (each_once nat_eq (flat_map (made_by (λ e. e ∷ [])) (row_of_paths edges targets)))

-- the commands of the edges that make the targets themselves
abbrev pub own_commands : EdgeGraph → (targets : List FileNo) → List ℕ
own_commands g targets = own_commands_in g.edges (map (path_at g.files) targets)

-- The lines of commands, edge by edge.
use Rattle.std.proofs.Common.{◌≡◌, ℕ, List, [], ◌∷◌, ◌++◌, ap, subst, ◌∙◌}
use Rattle.std.proofs.lemmas.List.{append-nil}
use Rattle.std.proofs.lemmas.List.Concat.{flat_map-append}
use Rattle.nj_scope.specs.Readings.{IsPrefix}
use Rattle.nj_scope.specs.ReadingList.{ReadStatement}
use Rattle.nj_graph.specs.Graph.{IsGraphOf}
use Rattle.nj_graph.specs.Handles.{GraphEdge}
use Rattle.nj_tools.specs.CommandStrings.{command_lines}
use Rattle.nj_tools.specs.Inside.Commands.{command_line}

pub lines-append : (entries : List ReadStatement) (edges more : List ℕ)
    → command_lines entries (edges ++ more) ≡ command_lines entries edges ++ command_lines entries more
lines-append entries edges more = flat_map-append (command_line entries) edges more

pub lines-last : (entries : List ReadStatement) (edges : List ℕ) (e : ℕ)
    → command_lines entries (edges ++ e ∷ []) ≡ command_lines entries edges ++ command_line entries e
lines-last entries edges e =
    lines-append entries edges (e ∷ []) ∙ ap (λ t. command_lines entries edges ++ t)
    (append-nil (command_line entries e))

pub lines-front : (entries : List ReadStatement) (edges more all : List ℕ) → all ≡ edges ++ more
    → IsPrefix (command_lines entries edges) (command_lines entries all)
lines-front entries edges more all is =
    (command_lines entries more, ap (command_lines entries) is ∙ lines-append entries edges more)

-- the command of an edge by its number
pub of_edge : {entries : List ReadStatement} {new : List ℕ} (old : List ℕ) {edge is : GraphEdge} → edge ≡ is
    → (IsGraphOf edge.graph entries → new ≡ old ++ command_line entries edge.number)
    → IsGraphOf is.graph entries → new ≡ old ++ command_line entries is.number
of_edge {entries} {new} old same appended =
    subst (λ (e : GraphEdge). IsGraphOf e.graph entries → new ≡ old ++ command_line entries e.number) same
    appended

-- Inputs that builds discovered, as a deps log names them, joined to the graph of a run ("Deps" in the manual).
use Rattle.std.specs.Prelude.{◌≡◌, ◌⊎◌, ℕ, Bool, not, if◌then◌else◌, Option, Some, None, option_and_then, Result, Ok, Err, List, [], map, position, codes, bytes_eq}
use Rattle.nj_text.specs.Calls.{is_empty}
use Rattle.nj_text.specs.Paths.{clean_path_of}
use Rattle.nj_names.specs.NameTables.{name_at}
use Rattle.nj_scope.specs.ReadingList.{ReadStatement}
use Rattle.nj_edges.specs.Edges.{edge_at, first_output}
use Rattle.nj_edges.specs.MoreInputs.{new_inputs}
use Rattle.nj_deps.specs.Logs.{LogModel, OutputModel, output_of}
use Rattle.nj_faults.specs.declared.fault.GraphFault.{GraphFault}
use Rattle.nj_faults.specs.Faults.{no_memory}
use Rattle.nj_statements.specs.Built.{IsCycleFault}
use Rattle.nj_statements.specs.EdgeList.{edges_read, paths_of_edges}
use Rattle.nj_statements.specs.Logged.{with_inputs_named}
use Rattle.nj_graph.specs.Graph.{GraphModel, IsGraphOf, late_text_of}

-- an edge whose value of `deps` is not empty, where its rule is used after all statements
abbrev pub has_deps : List ReadStatement → (edge : ℕ) → Bool
has_deps entries edge = not (is_empty (late_text_of entries edge (codes "deps")))

-- a log's number of the first output of an edge with `deps`
abbrev pub number_logged : LogModel → List ReadStatement → (edge : ℕ) → Option ℕ
number_logged log entries edge =
    if has_deps entries edge
    then option_and_then (λ path. position (bytes_eq path) log.paths) (first_output (edge_at (paths_of_edges (edges_read entries)) edge))
    else None

-- the paths on which an output depends, in the order of the log
abbrev pub paths_logged : LogModel → Option OutputModel → List (List ℕ)
paths_logged log None = []
paths_logged log (Some o) = map (name_at log.paths) o.inputs

-- the same, by the number of the output, as clean paths
abbrev pub inputs_logged : LogModel → Option ℕ → List (List ℕ)
inputs_logged log number = map clean_path_of (paths_logged log (option_and_then (output_of log.outputs) number))

-- ---- joined

-- Each path that is named for an edge becomes an implicit input of it, unless it is an explicit or implicit input already.
abbrev pub with_named : (named : (edge : ℕ) → List (List ℕ)) → List ReadStatement → List ReadStatement
with_named named entries =
    with_inputs_named (λ edge. new_inputs (edge_at (paths_of_edges (edges_read entries)) edge) (named edge)) entries

-- The graph of the statements with the named inputs; if that graph has a dependency cycle, its fault; or memory ran out.
abbrev pub JoinsNamed : (named : (edge : ℕ) → List (List ℕ)) → (stated : List ReadStatement) → Result GraphModel GraphFault → Type 0
JoinsNamed named stated (Ok graph) = IsGraphOf graph (with_named named stated)
JoinsNamed named stated (Err fault) = (fault ≡ no_memory) ⊎ IsCycleFault (edges_read (with_named named stated)) fault

-- the files that the log names for the edges with `deps`
abbrev pub with_log : LogModel → List ReadStatement → List ReadStatement
with_log log entries = with_named (λ edge. inputs_logged log (number_logged log entries edge)) entries

-- the result of joining a deps log to the edges of the given statements
abbrev pub JoinsLog : LogModel → (stated : List ReadStatement) → Result GraphModel GraphFault → Type 0
JoinsLog log stated result = JoinsNamed (λ edge. inputs_logged log (number_logged log stated edge)) stated result

-- ---- laws

-- The same log again changes nothing.
abbrev pub SameLogChangesNothing : Type 0
SameLogChangesNothing = (log : LogModel) (stated : List ReadStatement) → with_log log (with_log log stated) ≡ with_log log stated

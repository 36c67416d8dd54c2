-- Where a build stops: at a missing source that the manifest itself names.
use Rattle.std.specs.Prelude.{ℕ, Bool, is_some, Option, List, ◌++◌, codes, filter, length, map, slice_get, take, unwrap_or}
use Rattle.std.specs.List.{range_with_len}
use Rattle.nj_names.specs.Files.{path_at}
use Rattle.nj_names.specs.NameTables.{name_at}
use Rattle.nj_edges.specs.EdgeGraphs.{EdgeGraph}
use Rattle.nj_edges.specs.Edges.{EdgePaths, edge_at, is_named, maker_of, outputs_of}
use Rattle.nj_build_log.specs.Logs.{BuildLogModel}
use Rattle.nj_discovered.specs.Times.{DeclaredTimes}
use Rattle.nj_graph.specs.ReadingList.{ReadStatement}
use Rattle.nj_graph.specs.Graph.{edges_of, files_of}
use Rattle.nj_needs.specs.Growing.{grown_targets}
use Rattle.nj_stale.specs.Missing.{IsFirstMissing}
use Rattle.nj_stale.specs.States.{Evidence, State, IsStateOf}
use Rattle.nj_stale.specs.declared.missing.MissingSource.{MissingSource}
use Rattle.nj_stale.specs.declared.missing.MissingSource.TheVariants.{Input, Target}
use Rattle.nj_state.specs.Stale.{IsEvidence}
use Rattle.nj_ask.specs.declared.discovered.DiscoveredGraph.{DiscoveredGraph}
use Rattle.nj_ask.specs.Endings.{program_line}

-- ---- what the manifest itself names

-- An edge with as many implicit inputs as the manifest itself has for it: those that a dyndep file names and that builds discovered come
-- after them.
abbrev pub stated_edge : List EdgePaths → (stated : List ℕ) → (edge : ℕ) → EdgePaths
stated_edge edges stated edge =
    let e = edge_at edges edge in
    record e { implicit_inputs = take (unwrap_or (slice_get stated edge) (length e.implicit_inputs)) e.implicit_inputs }

-- the edges with the inputs that the manifest itself has for them
abbrev pub stated_edges : List EdgePaths → (stated : List ℕ) → List EdgePaths
stated_edges edges stated = map (stated_edge edges stated) (range_with_len 0 (length edges))

-- the manifest itself names the source: an edge of it does
abbrev pub is_stated : DiscoveredGraph → (path : List ℕ) → Bool
is_stated known path = is_named (stated_edges (edges_of known.graph) known.stated_inputs.items) path

-- ---- where a build stops

-- the files that a build of the targets requires: the targets, and those validations of the needed edges that an edge makes. Nothing is
-- done for a validation that is a source, so it may be missing.
abbrev pub required_files : List EdgePaths → (targets : List (List ℕ)) → List (List ℕ)
required_files edges targets = targets ++ filter (λ path. is_some (maker_of edges path)) (grown_targets edges targets)

-- the missing source at which a build of the targets stops, if any: a needed edge that has something to do has it as an input of any kind
pub record IsStop (known : DiscoveredGraph) (entries : List ReadStatement) (log : BuildLogModel) (times : DeclaredTimes)
    (targets : List (List ℕ)) (source : Option MissingSource) : Type 0 where
  pub evidence : Evidence
  pub is : IsEvidence known.graph.built.graph entries (map (λ edge. edge.0) known.unknown.items) log times evidence
  pub first : (s : State) → IsStateOf evidence s
      → IsFirstMissing (files_of known.graph) evidence (is_stated known) s (required_files (edges_of known.graph) targets) source

-- the line about it, in Ninja's words: the source, and the edge that needs it, by its first output
abbrev pub missing_line : EdgeGraph → MissingSource → List ℕ
missing_line g (Target file) = program_line (codes "'" ++ path_at g.files file ++ codes "' missing and no known rule to make it")
missing_line g (Input edge file) =
    program_line (codes "'" ++ path_at g.files file ++ codes "', needed by '" ++ name_at (outputs_of (edge_at g.edges edge.0)) 0
    ++ codes "', missing and no known rule to make it")

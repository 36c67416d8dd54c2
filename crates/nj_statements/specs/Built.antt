-- The result of a run's statements after the last statement: its edges and defaults, or a dependency cycle.
use Rattle.std.specs.Prelude.{◌≡◌, ◌⊎◌, ℕ, Bool, Some, Result, Ok, Err, List, [], ◌∷◌, map, length, slice_get, slice_index_or}
use Rattle.nj_text.specs.declared.spot.Spot.{Spot}
use Rattle.nj_scope.specs.ReadingList.{ReadStatement}
use Rattle.nj_edge_env.specs.Blocks.{BlocksModel, bound_in, names_in}
use Rattle.nj_cycles.specs.Cycles.{IsAcyclic, IsLeastOnCycle}
use Rattle.nj_edges.specs.EdgeGraphs.{EdgeGraph}
use Rattle.nj_edges.specs.Edges.{EdgePaths, first_output, roots_of}
use Rattle.nj_edges.specs.Needs.{makers_of_inputs}
use Rattle.nj_faults.specs.declared.fault.GraphFault.{GraphFault}
use Rattle.nj_faults.specs.declared.fault.Cause.TheVariants.{Cycle}
use Rattle.nj_faults.specs.Faults.{fault_at, no_memory}
use Rattle.nj_statements.specs.EdgeList.{EdgeModel, Pending, AssignedModel, edges_read, paths_of_edges, defaults_read, pending_read, block_at, block_names_at, assigned_read, restats_read}

-- An edge without its paths and its block: the file of its build statement, by the name under which it was opened, the place
-- of its first byte there, the number of its scope, and the number of its rule.
pub record EdgeDetail : Type 0 where
  pub file : List ℕ
  pub spot : Spot
  pub scope : ℕ
  pub rule : ℕ

-- the edges of a whole run, and its defaults
pub record BuiltModel : Type 0 where
  -- the files and the edges, by their paths
  pub graph : EdgeGraph
  pub details : List EdgeDetail
  pub blocks : BlocksModel
  -- the paths of all `default` lines
  pub defaults : List (List ℕ)
  -- the edges to which dyndep files are still to be joined
  pub pending : List Pending
  -- the assignment of each edge
  pub assigned : List AssignedModel
  -- for each edge, whether its dyndep file binds `restat`
  pub restats : List Bool

-- the detail of the edge with the given number; none past the last edge
abbrev pub detail_at : List EdgeDetail → (number : ℕ) → EdgeDetail
detail_at details number =
    slice_index_or details number (record { file = []; spot = record { line = 0; column = 0 }; scope = 0; rule = 0 })

-- The defaults in force: the files of the `default` lines, each naming at least one; the roots if there is no `default`
-- line.
abbrev pub defaults_in_force : (defaults : List (List ℕ)) → List EdgePaths → List (List ℕ)
defaults_in_force [] edges = roots_of edges
defaults_in_force (path ∷ paths) edges = path ∷ paths

-- ---- by the statements

-- the detail of an edge
abbrev pub detail_of : EdgeModel → EdgeDetail
detail_of e = record { file = e.file; spot = e.spot; scope = e.scope; rule = e.rule }

-- It has the edges and the defaults of the given statements, the last read first.
pub record IsBuiltOf (built : BuiltModel) (entries : List ReadStatement) : Type 0 where
  pub paths : built.graph.edges ≡ paths_of_edges (edges_read entries)
  pub details : built.details ≡ map detail_of (edges_read entries)
  pub blocks : (number : ℕ) (name : List ℕ) → bound_in built.blocks number name ≡ block_at (edges_read entries) number name
  pub block_names : (number : ℕ) → names_in built.blocks number ≡ block_names_at (edges_read entries) number
  pub defaults : built.defaults ≡ defaults_read entries
  pub pending : built.pending ≡ pending_read entries
  pub assigned : built.assigned ≡ assigned_read entries
  pub restats : built.restats ≡ restats_read entries

-- The fault of a dependency cycle: at the statement of the lowest-numbered edge that lies on a cycle itself, with the
-- first output of that edge. An edge that only leads into a cycle does not lie on it.
pub record IsCycleFault (edges : List EdgeModel) (fault : GraphFault) : Type 0 where
  pub number : ℕ
  pub edge : EdgeModel
  pub output : List ℕ
  pub edge_is : slice_get edges number ≡ Some edge
  pub least : IsLeastOnCycle (makers_of_inputs (paths_of_edges edges)) number
  pub output_is : first_output edge.paths ≡ Some output
  pub fault_is : fault ≡ fault_at edge.file edge.spot (Cycle output)

-- Where no edge lies on a cycle, the statements yield their edges and defaults.
abbrev pub ComesTo : List ReadStatement → Result BuiltModel GraphFault → Type 0
ComesTo entries (Ok built) =
    IsBuiltOf built entries × IsAcyclic (makers_of_inputs (paths_of_edges (edges_read entries))) (length (edges_read entries))
ComesTo entries (Err fault) = (fault ≡ no_memory) ⊎ IsCycleFault (edges_read entries) fault

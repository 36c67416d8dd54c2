-- When two graphs are the same.
use Rattle.std.specs.Prelude.{◌≡◌, ◌<◌, ◌↔◌, ℕ, List, length, Contains, nat_eq}
use Rattle.std.specs.List.{IsDistinct}
use Rattle.nj_scope.specs.Declarations.{DeclarationsModel}
use Rattle.nj_scope.specs.Scopes.{bound_at, rule_at}
use Rattle.nj_edge_env.specs.Blocks.{bound_in, names_in}
use Rattle.nj_edges.specs.Distances.{AreNearestFirst}
use Rattle.nj_edges.specs.Edges.{EdgePaths}
use Rattle.nj_discovered.specs.Discoveries.{DiscoveriesModel, discovery_at}
use Rattle.nj_statements.specs.Built.{BuiltModel}
use Rattle.nj_graph.specs.Graph.{GraphModel, edges_of}
use Rattle.nj_graph.specs.Handles.{GraphEdge, edges_in}
use Rattle.nj_graph.specs.Loads.{LoadedModel}

-- as many scopes with the same bindings and rules in each, and the same rules and pools
pub record SameDeclarations (one other : DeclarationsModel) : Type 0 where
  pub bound : (number : ℕ) (name : List ℕ) → bound_at one.scopes number name ≡ bound_at other.scopes number name
  pub declared : (number : ℕ) (name : List ℕ) → rule_at one.scopes number name ≡ rule_at other.scopes number name
  pub scopes : length one.scopes ≡ length other.scopes
  pub rules : one.rules ≡ other.rules
  pub pools : one.pools ≡ other.pools

-- the same edges, with the same bindings in the block of each, and the same defaults; their files may be numbered
-- differently
pub record SameBuilt (one other : BuiltModel) : Type 0 where
  pub edges : one.graph.edges ≡ other.graph.edges
  pub details : one.details ≡ other.details
  pub blocks : (number : ℕ) (name : List ℕ) → bound_in one.blocks number name ≡ bound_in other.blocks number name
  pub block_names : (number : ℕ) → names_in one.blocks number ≡ names_in other.blocks number
  pub defaults : one.defaults ≡ other.defaults
  pub pending : one.pending ≡ other.pending
  pub assigned : one.assigned ≡ other.assigned
  pub restats : one.restats ≡ other.restats

-- the same declarations and edges
pub record SameStated (one other : GraphModel) : Type 0 where
  pub declarations : SameDeclarations one.declarations other.declarations
  pub built : SameBuilt one.built other.built

-- the same graph, except for the numbers of files and the scopes around each scope
pub record SameGraph (one other : GraphModel) : Type 0 where
  pub stated : SameStated one other
  pub origins : one.origins ≡ other.origins

-- the same files, with the same bytes, were read in the same order; and their graph is the same
pub record SameLoaded (one other : LoadedModel) : Type 0 where
  pub files : one.files ≡ other.files
  pub graph : SameGraph one.graph other.graph

-- the same discoveries for each edge; the paths may be numbered differently
pub record SameDiscoveries (one other : DiscoveriesModel) : Type 0 where
  pub count : length one.edges ≡ length other.edges
  pub each : (edge : ℕ) → edge < length one.edges → discovery_at one edge ≡ discovery_at other edge

-- The same edges, by number, without duplicates and nearest to the files first: so only edges at the same distance may
-- be in a different order.
pub record SameNearestFirst (edges : List EdgePaths) (files : List (List ℕ)) (one other : List ℕ) : Type 0 where
  pub same : (edge : ℕ) → Contains one edge ↔ Contains other edge
  pub once : IsDistinct nat_eq one × IsDistinct nat_eq other
  pub nearest_first : AreNearestFirst edges files one × AreNearestFirst edges files other

-- so are edges of a graph
pub record SameButTies (graph : GraphModel) (files : List (List ℕ)) (one other : List GraphEdge) : Type 0 where
  pub numbers : List ℕ
  pub others : List ℕ
  pub one_is : one ≡ edges_in graph numbers
  pub other_is : other ≡ edges_in graph others
  pub same : SameNearestFirst (edges_of graph) files numbers others

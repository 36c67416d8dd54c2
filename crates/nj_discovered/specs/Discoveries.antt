-- What was discovered for the edges of a graph, by edge.
use Rattle.std.specs.Prelude.{◌≡◌, ℕ, ◌+◌, ◌<◌, List, [], map, length, slice_index_or}
use Rattle.nj_names.specs.NameTables.{name_at}
use Rattle.nj_scope.specs.Sources.{SourceState}
use Rattle.nj_edges.specs.Edges.{EdgePaths}
use Rattle.nj_deps.specs.Logs.{LogModel}
use Rattle.nj_discovered.specs.Times.{DeclaredTimes}
use Rattle.nj_discovered.specs.Discovered.{Discovery, IsDiscovered}
use Rattle.nj_discovered.specs.declared.verdict.Verdict.{Verdict}
use Rattle.nj_discovered.specs.declared.verdict.Verdict.TheVariants.{Known}

-- of an edge: whether its discovered inputs are known, and the numbers of their paths
pub record FoundModel : Type 0 where
  pub verdict : Verdict
  pub inputs : List ℕ

-- clean paths without duplicates, and the edges in the order of their numbers
pub record DiscoveriesModel : Type 0 where
  pub names : List (List ℕ)
  pub edges : List FoundModel

-- the edge with the given number; past the last one, an edge that discovers nothing
abbrev pub found_at : DiscoveriesModel → (edge : ℕ) → FoundModel
found_at d edge = slice_index_or d.edges edge (record { verdict = Known; inputs = [] })

-- the same by paths
abbrev pub discovery_at : DiscoveriesModel → (edge : ℕ) → Discovery
discovery_at d edge = record { verdict = (found_at d edge).verdict; inputs = map (name_at d.names) (found_at d edge).inputs }

-- a search: the edges of the graph, the deps log, and what was found for the first edges
pub record FinderModel : Type 0 where
  pub edges : List EdgePaths
  pub log : LogModel
  pub found : DiscoveriesModel

-- One more edge: the next one, with what it discovers. Nothing else changes.
pub record AddsEdge (before after : SourceState) (times : DeclaredTimes) (log : LogModel) (edge : EdgePaths) (deps depfile : List ℕ)
    (old new : DiscoveriesModel)
    : Type 0 where
  pub count : length new.edges ≡ length old.edges + 1
  pub kept : (e : ℕ) → e < length old.edges → discovery_at new e ≡ discovery_at old e
  pub added : IsDiscovered before after times log edge deps depfile (discovery_at new (length old.edges))

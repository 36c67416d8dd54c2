-- Laws of joining dyndep files to the edges of a run.
use Rattle.std.specs.Prelude.{◌≡◌, ℕ, ◌<◌, ◌==◌, Bool, true, false, ◌||◌, not, Some, None, List, [], ◌∷◌, map, find, length, filter, bytes_eq}
use Rattle.std.specs.List.{AllByRecursion, IsDistinct, list_any, flat_map}
use Rattle.nj_manifest.specs.Statements.{StatementModel, BuildModel}
use Rattle.nj_manifest.specs.Dyndeps.{EntryModel}
use Rattle.nj_scope.specs.ReadingList.{Discovered, ReadStatement, value_after, rules_read, rule_in_force, pools}
use Rattle.nj_edges.specs.Edges.{EdgePaths, outputs_of, maker_of, is_among}
use Rattle.nj_edges.specs.Joining.{changed_at}
use Rattle.nj_statements.specs.EdgeList.{EdgeModel, Pending, with_discovered, edges_read, paths_of_edges, defaults_read}
use Rattle.nj_statements.specs.EdgeList.{names_of_edge, pending_read, restats_read}
use Rattle.nj_statements.specs.BuildFaults.{build_fault}
use Rattle.nj_statements.specs.Joining.{discover, discovered_by, edge_meant, with_entry, pending_on, entry_fault, dyndep_files}

-- an edge is pending on a dyndep file
abbrev pub is_pending : List ReadStatement → (edge : ℕ) → Bool
is_pending entries edge = list_any (λ p. p.edge == edge) (pending_read entries)

-- The same edge with discovered files: the discovered outputs come after the implicit outputs, and the discovered
-- inputs after the implicit inputs and before the order-only inputs.
abbrev pub with_found : Discovered → EdgeModel → EdgeModel
with_found found e = record e { paths = with_discovered (Some found) e.paths }

-- The discoveries for a pending edge are added to that edge, and every other edge stays the same.
abbrev pub AddsToOneEdge : Type 0
AddsToOneEdge = (entries : List ReadStatement) (edge : ℕ) (found : Discovered) → is_pending entries edge ≡ true
    → edges_read (discover edge found entries) ≡ changed_at (with_found found) edge (edges_read entries)

-- From then on that edge is not pending, and the others are pending as before.
abbrev pub OthersArePendingAsBefore : Type 0
OthersArePendingAsBefore = (entries : List ReadStatement) (edge : ℕ) (found : Discovered)
    → pending_read (discover edge found entries) ≡ filter (λ p. not (p.edge == edge)) (pending_read entries)

-- The discoveries of an entry of a dyndep file are added to the given edge, which waited for the file. From then on it
-- has `restat` if the entry binds it, or an earlier entry did.
pub record AddsToItsEdge (file : List ℕ) (stated joined : List ReadStatement) (entry : EntryModel) (edge : ℕ) : Type 0 where
  pub meant : edge_meant stated entry ≡ Some edge
  pub waited : pending_on file (pending_read joined) (Some edge) ≡ true
  pub edges : edges_read (with_entry stated joined entry) ≡ changed_at (with_found (discovered_by entry)) edge (edges_read joined)
  pub pending : pending_read (with_entry stated joined entry) ≡ filter (λ p. not (p.edge == edge)) (pending_read joined)
  pub restats : restats_read (with_entry stated joined entry) ≡ changed_at (λ had. had || entry.restat) edge (restats_read joined)

-- An entry without a fault denotes one pending edge, and adds to that edge.
abbrev pub EntriesAddToTheirEdges : Type 0
EntriesAddToTheirEdges = (file : List ℕ) (stated joined : List ReadStatement) (entry : EntryModel)
    → entry_fault file stated joined entry ≡ None → (edge : ℕ) × AddsToItsEdge file stated joined entry edge

-- An edge that has the entry of its dyndep file makes the outputs that the entry discovers, which no edge made before;
-- every other file keeps its maker.
pub record MakesWhatItDiscovers (stated joined : List ReadStatement) (entry : EntryModel) (edge : ℕ) (path : List ℕ) : Type 0 where
  pub new : is_among (discovered_by entry).outputs path ≡ true → maker_of (paths_of_edges (edges_read joined)) path ≡ None
  pub makes : is_among (discovered_by entry).outputs path ≡ true
      → maker_of (paths_of_edges (edges_read (with_entry stated joined entry))) path ≡ Some edge
  pub others : is_among (discovered_by entry).outputs path ≡ false
      → maker_of (paths_of_edges (edges_read (with_entry stated joined entry))) path ≡ maker_of (paths_of_edges (edges_read joined)) path

-- an entry without a fault makes its edge the maker of the outputs that it discovers
abbrev pub EdgesMakeWhatIsDiscovered : Type 0
EdgesMakeWhatIsDiscovered = (file : List ℕ) (stated joined : List ReadStatement) (entry : EntryModel) (edge : ℕ) (path : List ℕ)
    → entry_fault file stated joined entry ≡ None → edge_meant stated entry ≡ Some edge
    → MakesWhatItDiscovers stated joined entry edge path

-- A build statement as it is read: it has no fault by the statements before it, and nothing is discovered for it yet.
abbrev pub IsFaultless : ReadStatement → (before : List ReadStatement) → StatementModel → Type 0
IsFaultless e before (BuildModel outputs rule inputs lines) =
    (build_fault e before outputs rule inputs lines ≡ None) × (e.discovered ≡ None)
IsFaultless e before item = Unit {0}

-- so is each of the given statements, the last read first
abbrev pub AreFaultless : List ReadStatement → Type 0
AreFaultless [] = Unit {0}
AreFaultless (e ∷ before) = IsFaultless e before e.item × AreFaultless before

-- The statements with the additions of dyndep files' entries, one after the other, each without a fault by then.
pub data IsWithEntries (stated : List ReadStatement) : List ReadStatement → Type 0 where
  as_stated : IsWithEntries stated stated
  with_one_more : {joined : List ReadStatement} → (file : List ℕ) → (entry : EntryModel) → IsWithEntries stated joined
      → entry_fault file stated joined entry ≡ None → IsWithEntries stated (with_entry stated joined entry)

-- the outputs of all edges, by edge and then by output
abbrev pub all_outputs : List EdgePaths → List (List ℕ)
all_outputs edges = flat_map outputs_of edges

-- In statements without a fault, no two edges make the same file, and no edge repeats an output; this also holds with
-- the additions of dyndep files.
abbrev pub NoFileGetsTwoMakers : Type 0
NoFileGetsTwoMakers = (stated joined : List ReadStatement) → AreFaultless stated → IsWithEntries stated joined
    → IsDistinct bytes_eq (all_outputs (paths_of_edges (edges_read joined)))

-- The values of names and the rules stay the same, for statements and for edges, and so do the pools and the defaults.
pub record GivesTheSame (entries others : List ReadStatement) : Type 0 where
  pub values : value_after others ≡ value_after entries
  pub rules : rules_read others ≡ rules_read entries
  pub in_force : rule_in_force others ≡ rule_in_force entries
  pub pools_are : pools others ≡ pools entries
  pub defaults : defaults_read others ≡ defaults_read entries
  pub names : (e : EdgeModel) → names_of_edge others e ≡ names_of_edge entries e

-- discoveries change no name
abbrev pub NamesStay : Type 0
NamesStay = (entries : List ReadStatement) (edge : ℕ) (found : Discovered) → GivesTheSame entries (discover edge found entries)

-- each edge has a smaller number than the edges after it
abbrev pub AreRising : List Pending → Type 0
AreRising [] = Unit {0}
AreRising (p ∷ others) = AllByRecursion (λ q. p.edge < q.edge) others × AreRising others

-- The pending edges are edges of the statements, in ascending order of number, without duplicates.
pub record AreByNumber (entries : List ReadStatement) : Type 0 where
  pub within : AllByRecursion (λ p. p.edge < length (edges_read entries)) (pending_read entries)
  pub rising : AreRising (pending_read entries)

-- pending edges come by number
abbrev pub PendingEdgesRise : Type 0
PendingEdgesRise = (entries : List ReadStatement) → AreByNumber entries

-- The dyndep files on which edges are pending: without duplicates, each with the lowest-numbered edge that is pending
-- on it, and in the order of those edges.
pub record ComeOnce (edges : List Pending) : Type 0 where
  pub distinct : IsDistinct bytes_eq (map (λ p. p.file) (dyndep_files edges))
  pub first : (file : List ℕ) → find (λ p. bytes_eq p.file file) (dyndep_files edges) ≡ find (λ p. bytes_eq p.file file) edges
  pub rising : AreRising (dyndep_files edges)

-- each dyndep file comes once, with its first edge
abbrev pub DyndepFilesComeOnce : Type 0
DyndepFilesComeOnce = (entries : List ReadStatement) → ComeOnce (pending_read entries)

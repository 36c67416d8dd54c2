-- The additions of dyndep files' entries to build statements ("Dynamic Dependencies" in the manual).
use Rattle.std.specs.Prelude.{ℕ, ◌==◌, Bool, true, false, ◌&&◌, ◌||◌, not, if◌then◌else◌, Option, Some, None, option_map, option_and_then, unwrap_or, is_some, List, [], ◌∷◌, ◌++◌}
use Rattle.nj_scope.specs.Scopes.{first_given}
use Rattle.std.specs.Bool.{then_some}
use Rattle.std.specs.Option.{option_or, option_map_or}
use Rattle.std.specs.Prelude.{find, length, slice_get, bytes_eq}
use Rattle.std.specs.List.{list_any}
pub use Rattle.nj_manifest.specs.Expansion.{no_values}
use Rattle.nj_manifest.specs.Dyndeps.{EntryModel}
use Rattle.nj_scope.specs.ReadingList.{Discovered, ReadStatement}
use Rattle.nj_edges.specs.Edges.{first_output, maker_of}
use Rattle.nj_edges.specs.Repeats.{each_once}
use Rattle.nj_faults.specs.declared.fault.GraphFault.{GraphFault}
use Rattle.nj_faults.specs.declared.fault.Cause.TheVariants.{DyndepExtra, DyndepTwice, DyndepNoStatement}
use Rattle.nj_faults.specs.Faults.{fault_at}
use Rattle.nj_statements.specs.EdgeList.{EdgeModel, Pending, path_given, paths_given, edge_given, edges_read, paths_of_edges, pending_read}
use Rattle.nj_statements.specs.BuildFaults.{empty_path, outputs_fault}

-- ---- the statements that are joined

-- discoveries, followed by the given discoveries
abbrev pub and_found : Option Discovered → Discovered → Discovered
and_found None found = found
and_found (Some earlier) found = record {
  outputs = earlier.outputs ++ found.outputs;
  inputs = earlier.inputs ++ found.inputs;
  restat = earlier.restat || found.restat;
}

-- a statement with more discoveries
abbrev pub also_discovered : Discovered → ReadStatement → ReadStatement
also_discovered found e = record e { discovered = Some (and_found e.discovered found) }

-- the statements with the discoveries of a dyndep file for the build statement of an edge
unfoldable pub discover : (edge : ℕ) → Discovered → List ReadStatement → List ReadStatement
discover edge found [] = []
discover edge found (e ∷ before) =
    if is_some (edge_given e before e.item) && length (edges_read before) == edge
    then record (also_discovered found e) { was_joined = true } ∷ before
    else e ∷ discover edge found before

-- the additions of an entry to the outputs and the inputs of its build statement, and whether it binds `restat`
abbrev pub discovered_by : EntryModel → Discovered
discovered_by entry = record {
  outputs = paths_given no_values entry.outs;
  inputs = paths_given no_values entry.ins;
  restat = entry.restat;
}

-- An entry denotes the build statement that has its output; an output that another entry discovered does not.
abbrev pub edge_meant : (stated : List ReadStatement) → EntryModel → Option ℕ
edge_meant stated entry = maker_of (paths_of_edges (edges_read stated)) (path_given no_values entry.out)

-- The statements with the additions of an entry, by the statements as they were read, and those with earlier additions.
abbrev pub with_entry : (stated joined : List ReadStatement) → EntryModel → List ReadStatement
with_entry stated joined entry =
    unwrap_or (option_map (λ edge. discover edge (discovered_by entry) joined) (edge_meant stated entry)) joined

-- ---- the fault of an entry

-- an edge is pending on the given dyndep file
abbrev pub pending_on : (file : List ℕ) → List Pending → Option ℕ → Bool
pending_on file edges edge = option_map_or (λ number. list_any (λ p. p.edge == number && bytes_eq p.file file) edges) edge false

-- The denoted build statement must be bound to the given file, and no other entry may denote it.
abbrev pub meaning_fault : (file : List ℕ) → (stated joined : List ReadStatement) → EntryModel → Option GraphFault
meaning_fault file stated joined entry =
    let path = path_given no_values entry.out in
    let edge = edge_meant stated entry in
    option_or (then_some (not (pending_on file (pending_read stated) edge)) (fault_at file entry.out.spot (DyndepExtra path)))
    (then_some (not (pending_on file (pending_read joined) edge)) (fault_at file entry.out.spot (DyndepTwice path)))

-- its output, and which statement it denotes; the outputs that it discovers, from left to right, which no other edge
-- may make; and the inputs
abbrev pub entry_fault : (file : List ℕ) → (stated joined : List ReadStatement) → EntryModel → Option GraphFault
entry_fault file stated joined entry =
    option_or (empty_path file no_values entry.out)
    (option_or (meaning_fault file stated joined entry)
    (option_or (outputs_fault file no_values (paths_of_edges (edges_read joined)) [] entry.outs)
    (first_given (empty_path file no_values) entry.ins)))

-- ---- the fault of a file

-- the fault of an edge that its dyndep file does not mention
abbrev pub no_statement : (file : List ℕ) → EdgeModel → GraphFault
no_statement file e = fault_at e.file e.spot (DyndepNoStatement (unwrap_or (first_output e.paths) []) file)

-- After the last entry of a dyndep file no edge may be pending on it; the fault is that of the lowest-numbered pending
-- edge.
abbrev pub lacking_fault : (file : List ℕ) → (joined : List ReadStatement) → Option GraphFault
lacking_fault file joined =
    option_and_then (λ p. option_map (no_statement file) (slice_get (edges_read joined) p.edge))
    (find (λ p. bytes_eq p.file file) (pending_read joined))

-- ---- the dyndep files

-- the dyndep files in the order of their first edges, each with that edge
abbrev pub dyndep_files : List Pending → List Pending
dyndep_files edges = each_once (λ q p. bytes_eq q.file p.file) edges

-- The edges of a graph as objects of JSON, a line each.
use Rattle.std.specs.Prelude.{ℕ, not, Option, Some, None, List, [], ◌∷◌, ◌++◌, codes, drop, find, flat_map, length, slice_get, take, take_while}
use Rattle.std.specs.Fmt.{decimal}
use Rattle.std.specs.List.{range_with_len}
use Rattle.json.specs.Json.{Json, boolean, number, string, array, object}
use Rattle.nj_text.specs.declared.spot.Spot.{Spot}
use Rattle.nj_scope.specs.ReadingList.{ReadStatement}
use Rattle.nj_edges.specs.Edges.{EdgePaths, edge_at}
use Rattle.nj_statements.specs.EdgeList.{edges_read, paths_of_edges}
use Rattle.nj_graph.specs.declared.Unknown.TheVariants.{NoRecord, NewerOutput, NoTime, NoDepfile, EmptyDepfile, OtherTarget}
use Rattle.nj_graph.specs.Graph.{detail_stated, late_text_of, rule_name_at}
use Rattle.nj_tools.specs.declared.edge_objects.DiscoveryState.{DiscoveryState}
use Rattle.nj_tools.specs.declared.edge_objects.DiscoveryState.TheVariants.{Known, Unknown, Faulty}
use Rattle.nj_tools.specs.declared.edge_objects.EdgeDiscovery.{EdgeDiscovery}
use Rattle.nj_tools.specs.JsonObjects.{json_line, members_of, strings, strings_are_utf8}

-- a place as an object
abbrev pub place_object : (file : List ℕ) → Spot → Json
place_object file spot =
    object (members_of (
    (codes "file", string file) ∷ (codes "line", number (decimal spot.line)) ∷ (codes "column", number (decimal spot.column)) ∷ []
    ))

-- the number of an edge, the place of its build statement, and its rule
abbrev pub head_members : List ReadStatement → (edge : ℕ) → List (List ℕ × Json)
head_members entries edge =
    let detail = detail_stated entries edge in
    (codes "edge", number (decimal edge))
    ∷ (codes "place", place_object detail.file detail.spot)
    ∷ (codes "rule", string (rule_name_at entries edge))
    ∷ (codes "phony", boolean (edge_at (paths_of_edges (edges_read entries)) edge).is_phony)
    ∷ []

-- how many of the given number of implicit inputs are stated: all of them, unless discovered inputs were joined
abbrev pub stated_count : Option EdgeDiscovery → (count : ℕ) → ℕ
stated_count None count = count
stated_count (Some discovery) count = discovery.stated_inputs

-- the word for whether the inputs that builds discovered are known, or why not
abbrev pub state_word : DiscoveryState → List ℕ
state_word Known = codes "known"
state_word (Unknown NoRecord) = codes "no-record"
state_word (Unknown NewerOutput) = codes "newer-output"
state_word (Unknown NoTime) = codes "no-time"
state_word (Unknown NoDepfile) = codes "no-depfile"
state_word (Unknown EmptyDepfile) = codes "empty-depfile"
state_word (Unknown OtherTarget) = codes "other-target"
state_word Faulty = codes "depfile-fault"

-- the same, where the inputs may not have been joined
abbrev pub discovery_word : Option EdgeDiscovery → List ℕ
discovery_word None = codes "not-requested"
discovery_word (Some discovery) = state_word discovery.state

-- its files by kind, and whether the inputs that builds discovered are known
abbrev pub file_members : Option EdgeDiscovery → EdgePaths → List (List ℕ × Json)
file_members discovery e =
    let stated = stated_count discovery (length e.implicit_inputs) in
    (codes "outputs", array (strings e.explicit_outputs))
    ∷ (codes "implicit_outputs", array (strings e.implicit_outputs))
    ∷ (codes "inputs", array (strings e.explicit_inputs))
    ∷ (codes "implicit_inputs", array (strings (take stated e.implicit_inputs)))
    ∷ (codes "discovered_inputs", array (strings (drop stated e.implicit_inputs)))
    ∷ (codes "order_only_inputs", array (strings e.order_only_inputs))
    ∷ (codes "validations", array (strings e.validations))
    ∷ (codes "discovered", string (discovery_word discovery))
    ∷ []

-- the value of a variable for it, after all statements
abbrev pub value_member : List ReadStatement → (edge : ℕ) → (name : List ℕ) → List ℕ × Json
value_member entries edge name = (name, string (late_text_of entries edge name))

-- the members with the values of variables
abbrev pub value_members : List ReadStatement → (edge : ℕ) → List (List ℕ × Json)
value_members entries edge =
    value_member entries edge (codes "command")
    ∷ value_member entries edge (codes "description")
    ∷ value_member entries edge (codes "depfile")
    ∷ value_member entries edge (codes "deps")
    ∷ value_member entries edge (codes "rspfile")
    ∷ value_member entries edge (codes "rspfile_content")
    ∷ value_member entries edge (codes "pool")
    ∷ value_member entries edge (codes "dyndep")
    ∷ value_member entries edge (codes "generator")
    ∷ value_member entries edge (codes "restat")
    ∷ []

-- the object of an edge: always with the keys below, in this order
abbrev pub edge_object : List ReadStatement → Option EdgeDiscovery → (edge : ℕ) → Json
edge_object entries discovery edge =
    object (members_of (
    head_members entries edge ++ file_members discovery (edge_at (paths_of_edges (edges_read entries)) edge)
    ++ value_members entries edge
    ))

-- ---- the lines

-- the numbers of all edges
abbrev pub edge_numbers : List ReadStatement → List ℕ
edge_numbers entries = range_with_len 0 (length (edges_read entries))

-- the object of an edge, for the given discoveries of builds by the numbers of edges
abbrev pub object_at : List ReadStatement → List EdgeDiscovery → (edge : ℕ) → Json
object_at entries discoveries edge = edge_object entries (slice_get discoveries edge) edge

-- the edges before the first edge whose object JSON cannot contain, a line each
abbrev pub edge_lines : List ReadStatement → List EdgeDiscovery → List ℕ
edge_lines entries discoveries =
    flat_map (λ edge. json_line (object_at entries discoveries edge))
    (take_while (λ edge. strings_are_utf8 (object_at entries discoveries edge)) (edge_numbers entries))

-- that edge
abbrev pub unwritable_edge : List ReadStatement → List EdgeDiscovery → Option ℕ
unwritable_edge entries discoveries =
    find (λ edge. not (strings_are_utf8 (object_at entries discoveries edge))) (edge_numbers entries)

-- The lines of edges by the grammar of JSON.
use Rattle.std.specs.Prelude.{◌≡◌, ℕ, ◌<◌, ◌^◌, Some, None, List, map}
use Rattle.std.specs.List.{AllByRecursion}
use Rattle.std.specs.Str.Lines.{lines as lines_of}
use Rattle.json.specs.Json.{document}
use Rattle.nj_scope.specs.ReadingList.{ReadStatement}
use Rattle.nj_graph.specs.Graph.{detail_stated}
use Rattle.nj_tools.specs.declared.edge_objects.EdgeDiscovery.{EdgeDiscovery}
use Rattle.nj_tools.specs.EdgeObjects.{object_at, edge_lines, unwritable_edge, edge_numbers}

-- The numbers in the object of an edge have at most 64 bits, as the code counts: its own, and the line and the column of its place.
abbrev pub NumbersFit : List ReadStatement → (edge : ℕ) → Type 0
NumbersFit entries edge =
    let spot = (detail_stated entries edge).spot in
    (edge < 2 ^ 64) × (spot.line < 2 ^ 64) × (spot.column < 2 ^ 64)

-- Where JSON can contain the strings of all edges, each line of the output reads as the object of its edge: one line
-- for each edge, by number. Lines are those of `str::lines`, so no object contains a line end.
abbrev pub EdgeLinesAreJson : Type 0
EdgeLinesAreJson =
    (entries : List ReadStatement) (discoveries : List EdgeDiscovery)
    → AllByRecursion (NumbersFit entries) (edge_numbers entries) → unwritable_edge entries discoveries ≡ None
    → map document (lines_of (edge_lines entries discoveries))
    ≡ map (λ edge. Some (object_at entries discoveries edge)) (edge_numbers entries)

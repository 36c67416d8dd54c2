-- Which edges an edge needs.
use Rattle.std.specs.Prelude.{ℕ, Option, List, map}
use Rattle.nj_edges.specs.Edges.{EdgePaths, edge_at, inputs_of, maker_of}

-- the maker of each input of an edge, in order; `None` for a source
abbrev pub makers_of_inputs : List EdgePaths → (edge : ℕ) → List (Option ℕ)
makers_of_inputs edges edge = map (maker_of edges) (inputs_of (edge_at edges edge))

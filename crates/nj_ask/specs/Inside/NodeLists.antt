-- Flags of the nodes in a list. Nothing here has to be believed.
use Rattle.std.specs.Prelude.{◌≡◌, ℕ, ◌==◌, Bool, true, false, ◌&&◌, ◌||◌, not, Option, Some, None, List, length, nat_lt, slice_index_or}
use Rattle.std.specs.List.{list_any}
use Rattle.nj_graph.specs.Handles.{edge_of, file_of}
use Rattle.nj_ask.specs.declared.nodes.Node.{Node as CodeNode}
use Rattle.nj_ask.specs.declared.nodes.Node.TheVariants as code
use Rattle.nj_ask.specs.DrawnNodes.{Node, of_edge, of_file, is_edge, is_file}

-- a node of the code
abbrev pub node_model : CodeNode → Node
node_model (code.Edge edge) = of_edge (edge_of edge)
node_model (code.File file) = of_file (file_of file)

-- there are as many nodes as the limit allows
abbrev pub is_full : (limit : Option ℕ) → List Node → Bool
is_full (Some limit) nodes = not (nat_lt (length nodes) limit)
is_full None nodes = false

-- for each edge and each file, by number, whether its node is in the list
pub record AreNodeFlags (nodes : List Node) (edges files : List Bool) : Type 0 where
  pub of_edges : (n : ℕ) → slice_index_or edges n false ≡ list_any (is_edge n) nodes
  pub of_files : (n : ℕ) → slice_index_or files n false ≡ list_any (is_file n) nodes

-- flagged nodes are in the list
pub record AreFlagsWithin (nodes : List Node) (edges files : List Bool) : Type 0 where
  pub of_edges : (n : ℕ) → slice_index_or edges n false ≡ true → list_any (is_edge n) nodes ≡ true
  pub of_files : (n : ℕ) → slice_index_or files n false ≡ true → list_any (is_file n) nodes ≡ true

-- the same numbers are flagged
abbrev pub SameFlags : (old new : List Bool) → Type 0
SameFlags old new = (n : ℕ) → slice_index_or new n false ≡ slice_index_or old n false

-- one more number is flagged
abbrev pub SetsFlag : (index : ℕ) → (old new : List Bool) → Type 0
SetsFlag index old new = (n : ℕ) → slice_index_or new n false ≡ (slice_index_or old n false || n == index)

-- one number is no longer flagged
abbrev pub UnsetsFlag : (index : ℕ) → (old new : List Bool) → Type 0
UnsetsFlag index old new = (n : ℕ) → slice_index_or new n false ≡ (slice_index_or old n false && not (n == index))

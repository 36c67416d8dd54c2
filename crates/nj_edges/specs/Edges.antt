-- Build statements as edges: the files that they name, by their paths.
use Rattle.std.specs.Prelude.{ℕ, ◌+◌, Bool, false, ◌||◌, not, if◌then◌else◌, Option, Some, None, option_map, List, [], ◌∷◌, ◌++◌, length}
use Rattle.std.specs.Prelude.{slice_get, slice_index_or, nat_lt}
use Rattle.std.specs.List.{list_any, filter, flat_map}
pub use Rattle.nj_names.specs.NameTables.{is_among}
use Rattle.nj_edges.specs.declared.edges.Kind.{Kind}
use Rattle.nj_edges.specs.declared.edges.Kind.TheVariants.{Explicit, Implicit, OrderOnly}

-- The paths of an edge by kind, and whether its rule is `phony`, so that it has no command. Validations are not
-- inputs.
pub record EdgePaths : Type 0 where
  pub explicit_outputs : List (List ℕ)
  pub implicit_outputs : List (List ℕ)
  pub explicit_inputs : List (List ℕ)
  pub implicit_inputs : List (List ℕ)
  pub order_only_inputs : List (List ℕ)
  pub validations : List (List ℕ)
  pub is_phony : Bool

-- the edge with the given number; past the last edge, an edge without files
abbrev pub edge_at : List EdgePaths → (number : ℕ) → EdgePaths
edge_at edges number = slice_index_or edges number (record {
  explicit_outputs = [];
  implicit_outputs = [];
  explicit_inputs = [];
  implicit_inputs = [];
  order_only_inputs = [];
  validations = [];
  is_phony = false;
})

-- the outputs of an edge, explicit outputs first
abbrev pub outputs_of : EdgePaths → List (List ℕ)
outputs_of e = e.explicit_outputs ++ e.implicit_outputs

-- the first explicit output, if any; otherwise the first output
abbrev pub first_output : EdgePaths → Option (List ℕ)
first_output e = slice_get (outputs_of e) 0

-- the inputs of an edge: explicit, implicit and order-only
abbrev pub inputs_of : EdgePaths → List (List ℕ)
inputs_of e = e.explicit_inputs ++ e.implicit_inputs ++ e.order_only_inputs

-- the explicit and the implicit inputs; a change of an order-only input alone does not build an edge again
abbrev pub counted_inputs_of : EdgePaths → List (List ℕ)
counted_inputs_of e = e.explicit_inputs ++ e.implicit_inputs

-- the number of the first edge that passes a test
abbrev pub first_edge : {E : Type 0} → (E → Bool) → List E → Option ℕ
first_edge test [] = None
first_edge test (e ∷ edges) = if test e then Some 0 else option_map (λ n. n + 1) (first_edge test edges)

-- the numbers of all edges that pass the test, where the first edge has the given number
abbrev pub edges_from : {E : Type 0} → (number : ℕ) → (E → Bool) → List E → List ℕ
edges_from number test [] = []
edges_from number test (e ∷ edges) = if test e then number ∷ edges_from (number + 1) test edges else edges_from (number + 1) test edges

-- the first edge that makes a file; `None` for a source
abbrev pub maker_of : List EdgePaths → (path : List ℕ) → Option ℕ
maker_of edges path = first_edge (λ e. is_among (outputs_of e) path) edges

-- the edges that have a file as an input, without duplicates
abbrev pub users_of : List EdgePaths → (path : List ℕ) → List ℕ
users_of edges path = edges_from 0 (λ e. is_among (inputs_of e) path) edges

-- the edges that name a file as a validation, without duplicates
abbrev pub validation_users_of : List EdgePaths → (path : List ℕ) → List ℕ
validation_users_of edges path = edges_from 0 (λ e. is_among e.validations path) edges

-- whether an edge has the file as an input
abbrev pub is_used : List EdgePaths → (path : List ℕ) → Bool
is_used edges path = list_any (λ e. is_among (inputs_of e) path) edges

-- the outputs that are inputs of no edge, by edge and then by output
abbrev pub roots_of : List EdgePaths → List (List ℕ)
roots_of edges = filter (λ path. not (is_used edges path)) (flat_map outputs_of edges)

-- whether an edge names the file, as an output, an input or a validation
abbrev pub names : EdgePaths → (path : List ℕ) → Bool
names e path = is_among (outputs_of e) path || is_among (inputs_of e) path || is_among e.validations path

-- whether one of the edges names the path
abbrev pub is_named : List EdgePaths → (path : List ℕ) → Bool
is_named edges path = list_any (λ e. names e path) edges

-- the kind of the input at an index
abbrev pub kind_at : EdgePaths → (index : ℕ) → Kind
kind_at e index =
    if nat_lt index (length e.explicit_inputs) then Explicit
    else (if nat_lt index (length e.explicit_inputs + length e.implicit_inputs) then Implicit else OrderOnly)

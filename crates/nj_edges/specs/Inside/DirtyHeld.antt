-- How the edges that are to be built again are found. Nothing here has to be believed.
use Rattle.std.specs.Prelude.{◌≡◌, ℕ, ◌<◌, ◌≤◌, true, List, length, slice_index, Contains}
use Rattle.std.specs.List.{list_any}
use Rattle.nj_names.specs.Files.{path_at}
use Rattle.nj_names.specs.NumberSets.{NumberSetModel}
use Rattle.nj_edges.specs.declared.users.RowPart.{RowPart}
use Rattle.nj_edges.specs.declared.users.RowPart.TheVariants.{CountedInputs, Inputs, Outputs, Validations}
use Rattle.nj_edges.specs.declared.users.Users.{Users}
use Rattle.nj_edges.specs.Dirty.{IsDirty}
use Rattle.nj_edges.specs.EdgeGraphs.{EdgeGraph}
use Rattle.nj_edges.specs.Edges.{EdgePaths, counted_inputs_of, edge_at, edges_from, inputs_of, is_among, outputs_of}
use Rattle.nj_edges.specs.Inside.UsersHeld.{HaveUsers, numbers_of}

-- the files in the given part of an edge
abbrev pub paths_in : RowPart → EdgePaths → List (List ℕ)
paths_in Inputs e = inputs_of e
paths_in CountedInputs e = counted_inputs_of e
paths_in Outputs e = outputs_of e
paths_in Validations e = e.validations

-- the edges that have the file with the given number in the part
abbrev pub users_in : RowPart → EdgeGraph → (file : ℕ) → List ℕ
users_in part g file = edges_from 0 (λ e. is_among (paths_in part e) (path_at g.files (record { 0 = file }))) g.edges

-- the users of each file of a graph, by the given part of the edges
abbrev pub HaveUsersIn : RowPart → EdgeGraph → Users → Type 0
HaveUsersIn part g users = HaveUsers (length g.files) users.starts.items (numbers_of users.edges.items) (users_in part g)

-- an edge has one of the files in the part
abbrev pub HasOneIn : RowPart → List EdgePaths → (files : List (List ℕ)) → (edge : ℕ) → Type 0
HasOneIn part edges files e = list_any (is_among (paths_in part (edge_at edges e))) files ≡ true

-- between two turns: the edges found are dirty; and they include the edges that are dirty by themselves or by the files, and the
-- edges that are dirty by an edge before a place in the list
pub record FindsDirty (edges : List EdgePaths) (files : List (List ℕ)) (dirty : List ℕ) (found : NumberSetModel) (place : ℕ) : Type 0 where
  pub limit : found.limit ≡ length edges
  pub within : place ≤ length found.numbers
  pub sound : (e : ℕ) → Contains found.numbers e → IsDirty edges files dirty e
  pub listed : (e : ℕ) → Contains dirty e → Contains found.numbers e
  pub makers : (e : ℕ) → HasOneIn Outputs edges files e → Contains found.numbers e
  pub users : (e : ℕ) → HasOneIn CountedInputs edges files e → Contains found.numbers e
  pub closed : (i e : ℕ) → i < place → HasOneIn CountedInputs edges (outputs_of (edge_at edges (slice_index found.numbers i))) e
      → Contains found.numbers e

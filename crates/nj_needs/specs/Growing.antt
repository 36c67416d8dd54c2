-- Targets together with the validations of the edges that they need ("Validations" in the Ninja manual), by the paths of the files.
use Rattle.std.specs.Prelude.{◌≡◌, ℕ, zero, suc, ◌+◌, ◌≤◌, ◌↔◌, Some, List, ◌++◌, length, Contains}
use Rattle.std.specs.List.{flat_map}
use Rattle.nj_cycles.specs.Cycles.{IsAcyclic}
use Rattle.nj_edges.specs.Edges.{EdgePaths, edge_at, inputs_of}
use Rattle.nj_edges.specs.Needs.{makers_of_inputs}
use Rattle.nj_needs.specs.Graphs.{row_of_paths}
use Rattle.nj_needs.specs.Needs.{Reached}
use Rattle.nj_needs.specs.Order.{order}

-- the validations of edges, phony or not: edge by edge, as the statements list them
abbrev pub validations_of : List EdgePaths → (numbers : List ℕ) → List (List ℕ)
validations_of edges numbers = flat_map (λ e. (edge_at edges e).validations) numbers

-- the targets after the given number of rounds. A round looks at the whole list so far: the targets are followed by the
-- validations of all edges that the list reaches, in the order in which the edges are first completed. So each edge adds
-- its validations once.
abbrev pub targets_after : List EdgePaths → (targets : List (List ℕ)) → (rounds : ℕ) → List (List ℕ)
targets_after edges targets zero = targets
targets_after edges targets (suc rounds) =
    targets ++ validations_of edges
    (order (makers_of_inputs edges) (length edges) (row_of_paths edges (targets_after edges targets rounds)))

-- the targets after all rounds that add something
abbrev pub grown_targets : List EdgePaths → (targets : List (List ℕ)) → List (List ℕ)
grown_targets edges targets = targets_after edges targets (length edges + 1)

-- each list is the beginning of the next
abbrev pub RoundsAppend : Type 0
RoundsAppend = (edges : List EdgePaths) (targets : List (List ℕ)) (rounds : ℕ)
    → (more : List (List ℕ)) × (targets_after edges targets (suc rounds) ≡ targets_after edges targets rounds ++ more)

-- from as many rounds on as there are edges, a round adds nothing
abbrev pub GrownTargetsStay : Type 0
GrownTargetsStay = (edges : List EdgePaths) (targets : List (List ℕ)) (rounds : ℕ)
    → length edges ≤ rounds → targets_after edges targets rounds ≡ grown_targets edges targets

-- edge e makes one of the given files
abbrev pub Makes : List EdgePaths → (paths : List (List ℕ)) → (e : ℕ) → Type 0
Makes edges paths e = Contains (row_of_paths edges paths) (Some e)

-- the least set of edges that has the makers of the targets and, with each edge, the makers of its inputs and of its validations
pub data Followed (edges : List EdgePaths) (targets : List (List ℕ)) : ℕ → Type 0 where
  target : {e : ℕ} → Makes edges targets e → Followed edges targets e
  input : {e f : ℕ} → Followed edges targets e → Makes edges (inputs_of (edge_at edges e)) f → Followed edges targets f
  validation : {e f : ℕ} → Followed edges targets e → Makes edges (edge_at edges e).validations f → Followed edges targets f

-- without the edges of that set the grown targets cannot be made, and no other edges are needed
abbrev pub GrownTargetsReachTheFollowed : Type 0
GrownTargetsReachTheFollowed = (edges : List EdgePaths) (targets : List (List ℕ))
    → IsAcyclic (makers_of_inputs edges) (length edges)
    → (e : ℕ) → Reached (makers_of_inputs edges) (row_of_paths edges (grown_targets edges targets)) e ↔ Followed edges targets e

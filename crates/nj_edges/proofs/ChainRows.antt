-- Chains of inputs, worked out on a small graph.
use Rattle.std.proofs.Common.{◌≡◌, ℕ, false, true, List, [], ◌∷◌, Option, Some, None, slice_get, refl, subst}
use Rattle.std.proofs.Common.{ap, length, inl, inr}
use Rattle.std.proofs.Common.{arith}
use Rattle.std.proofs.lemmas.Option.{slice_get_within}
use Rattle.nj_edges.specs.declared.chains.ChainKinds.{ChainKinds}
use Rattle.nj_edges.specs.declared.chains.Step.{Step}
use Rattle.nj_edges.specs.declared.edges.Kind.{Kind}
use Rattle.nj_edges.specs.declared.edges.Kind.TheVariants.{Explicit, OrderOnly}
use Rattle.nj_edges.specs.Chains.{inputs_with, IsChain, IsNotAfter, PathIs}
use Rattle.nj_edges.specs.Edges.{edge_at, maker_of}
use Rattle.nj_edges.specs.EdgeGraphs.{EdgeGraph}
use Rattle.nj_names.specs.Files.{path_at}
use Rattle.nj_edges.proofs.ChangeRows.{a, b, build, four, p, s, v}

-- the inputs that count
abbrev inputs : ChainKinds
inputs = record { order_only = true; validations = false }

abbrev and_validations : ChainKinds
and_validations = record { order_only = true; validations = true }

abbrev no_order_only : ChainKinds
no_order_only = record { order_only = false; validations = false }

abbrev only_validations : ChainKinds
only_validations = record { order_only = false; validations = true }

abbrev step_by : (edge index file : ℕ) → Option Kind → Step
step_by edge index file kind = record {
  edge = record { 0 = edge };
  index = index;
  file = record { 0 = file };
  kind = kind;
}

abbrev step : (edge file : ℕ) → Option Kind → Step
step edge file kind = step_by edge 0 file kind

-- ---- `build a: cc s`; `build p: phony a`; `build b: cc || p`; `build v: cc |@ a`

abbrev graph : EdgeGraph
graph = record { files = a ∷ s ∷ p ∷ b ∷ v ∷ []; edges = four }

by-phony : IsChain graph inputs b (step 2 2 (Some OrderOnly) ∷ step 1 0 (Some Explicit) ∷ []) a
by-phony = (
  refl,
  record { file = omega arith; input = refl; kind = refl },
  (refl, record { file = omega arith; input = refl; kind = refl }, refl),
)

-- an edge without inputs that count does not begin a chain
begins-none : (kinds : ChainKinds) (edge : ℕ) (from to : List ℕ) → maker_of four from ≡ Some edge
    → inputs_with kinds (edge_at four edge) ≡ [] → (steps : List Step) → IsChain graph kinds from steps to → ⊥
begins-none kinds edge from to maker empty [] none = none
begins-none kinds edge from to maker empty (next ∷ steps) (made, is_step, rest) =
    let here : next.edge.0 ≡ edge = cc in
    let input = subst (λ e. slice_get (inputs_with kinds (edge_at four e)) next.index
    ≡ Some (path_at graph.files next.file)) here is_step.input in
    absurd (omega (
      arith,
      slice_get_within (inputs_with kinds (edge_at four edge)) next.index
          (path_at graph.files next.file) input,
      ap length empty,
    ))

only-by-order-only : (steps : List Step) → IsChain graph only_validations b steps a → ⊥
only-by-order-only = begins-none only_validations 2 b a refl refl

by-validation : IsChain graph and_validations v (step 3 0 None ∷ []) a
by-validation = (refl, record { file = omega arith; input = refl; kind = refl }, refl)

only-by-validation : (steps : List Step) → IsChain graph inputs v steps a → ⊥
only-by-validation = begins-none inputs 3 v a refl refl

no-source : (steps : List Step) → IsChain graph and_validations s steps a → ⊥
no-source [] none = none
no-source (next ∷ steps) (made, is_step, rest) = cc

-- ---- `build a: cc s || p |@ v`: a validation comes right after the inputs that count

abbrev validated : EdgeGraph
validated = record {
  files = a ∷ s ∷ p ∷ v ∷ [];
  edges = build a (s ∷ []) (p ∷ []) (v ∷ []) false ∷ [];
}

past-order-only : IsChain validated only_validations a (step_by 0 1 3 None ∷ []) v
past-order-only = (refl, record { file = omega arith; input = refl; kind = refl }, refl)

after-order-only : IsChain validated and_validations a (step_by 0 2 3 None ∷ []) v
after-order-only = (refl, record { file = omega arith; input = refl; kind = refl }, refl)

-- ---- `build a: cc p v`; `build p: cc s`; `build v: cc s`: of two chains, the chain by the first input is
-- returned

abbrev diamond : EdgeGraph
diamond = record {
  files = a ∷ p ∷ v ∷ s ∷ [];
  edges = build a (p ∷ v ∷ []) [] [] false ∷ build p (s ∷ []) [] [] false ∷ build v (s ∷ []) [] [] false ∷ [];
}

abbrev by_first : List Step
by_first = step_by 0 0 1 (Some Explicit) ∷ step_by 1 0 3 (Some Explicit) ∷ []

abbrev by_second : List Step
by_second = step_by 0 1 2 (Some Explicit) ∷ step_by 2 0 3 (Some Explicit) ∷ []

first-leads : IsChain diamond inputs a by_first s
first-leads = (
  refl,
  record { file = omega arith; input = refl; kind = refl },
  (refl, record { file = omega arith; input = refl; kind = refl }, refl),
)

second-leads : IsChain diamond inputs a by_second s
second-leads = (
  refl,
  record { file = omega arith; input = refl; kind = refl },
  (refl, record { file = omega arith; input = refl; kind = refl }, refl),
)

not-by-second : PathIs diamond inputs (record { 0 = 0 }) (record { 0 = 3 }) (Some by_second) → ⊥
not-by-second (apart, shortest) = is-after (shortest.leftmost by_first first-leads refl)
  where
    is-after : IsNotAfter by_second by_first → ⊥
    is-after (inl less) = absurd (omega (arith, less))
    is-after (inr (same, rest)) = absurd (omega (arith, same))

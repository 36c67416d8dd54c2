-- The targets with their validations, computed on small graphs.
use Rattle.std.proofs.Common.{◌≡◌, ℕ, Bool, true, false, List, [], ◌∷◌, refl}
use Rattle.nj_edges.specs.Edges.{EdgePaths}
use Rattle.nj_needs.specs.Growing.{targets_after, grown_targets}

abbrev Paths : Type 0
Paths = List (List ℕ)

-- a build statement with the given outputs, inputs and validations
abbrev build : (outputs inputs validations : Paths) → (is_phony : Bool) → EdgePaths
build outputs inputs validations is_phony = record {
  explicit_outputs = outputs;
  implicit_outputs = [];
  explicit_inputs = inputs;
  implicit_inputs = [];
  order_only_inputs = [];
  validations = validations;
  is_phony = is_phony;
}

abbrev p : List ℕ
p = 112 ∷ []

abbrev s : List ℕ
s = 115 ∷ []

abbrev t : List ℕ
t = 116 ∷ []

abbrev v : List ℕ
v = 118 ∷ []

-- `build t: mk |@ v`; `build v: mk t`
abbrev check : List EdgePaths
check = build (t ∷ []) [] (v ∷ []) false ∷ build (v ∷ []) (t ∷ []) [] false ∷ []

check-t : grown_targets check (t ∷ []) ≡ t ∷ v ∷ []
check-t = refl

check-v : grown_targets check (v ∷ []) ≡ v ∷ v ∷ []
check-v = refl

check-v-t : grown_targets check (v ∷ t ∷ []) ≡ v ∷ t ∷ v ∷ []
check-v-t = refl

-- `build t: mk |@ v`; `build v: mk |@ t`
abbrev mutual_checks : List EdgePaths
mutual_checks = build (t ∷ []) [] (v ∷ []) false ∷ build (v ∷ []) [] (t ∷ []) false ∷ []

mutual-t : grown_targets mutual_checks (t ∷ []) ≡ t ∷ v ∷ t ∷ []
mutual-t = refl

mutual-one_round : targets_after mutual_checks (t ∷ []) 1 ≡ t ∷ v ∷ []
mutual-one_round = refl

mutual-two_rounds : targets_after mutual_checks (t ∷ []) 2 ≡ t ∷ v ∷ t ∷ []
mutual-two_rounds = refl

-- `build t: mk p`; `build p: phony |@ s v`; `build v: mk`
abbrev by_phony : List EdgePaths
by_phony = build (t ∷ []) (p ∷ []) [] false ∷ build (p ∷ []) [] (s ∷ v ∷ []) true ∷ build (v ∷ []) [] [] false
    ∷ []

by_phony-t : grown_targets by_phony (t ∷ []) ≡ t ∷ s ∷ v ∷ []
by_phony-t = refl

by_phony-s : grown_targets by_phony (s ∷ []) ≡ s ∷ []
by_phony-s = refl

-- two targets that share a validation, and a repeated target
abbrev shared : List EdgePaths
shared = build (t ∷ []) [] (v ∷ []) false ∷ build (p ∷ []) [] (v ∷ []) false ∷ build (v ∷ []) [] [] false ∷ []

shared-both : grown_targets shared (t ∷ p ∷ []) ≡ t ∷ p ∷ v ∷ v ∷ []
shared-both = refl

shared-twice : grown_targets shared (t ∷ t ∷ []) ≡ t ∷ t ∷ v ∷ []
shared-twice = refl

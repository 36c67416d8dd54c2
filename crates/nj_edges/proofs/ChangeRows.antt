-- The edges that a change affects, worked out on a small graph.
use Rattle.std.proofs.Common.{◌≡◌, ℕ, zero, suc, Bool, true, false, List, [], ◌∷◌, refl, true≢false, sym, ◌∙◌}
use Rattle.std.specs.List.{list_any}
use Rattle.nj_edges.specs.Edges.{EdgePaths, edge_at, is_among, outputs_of}
use Rattle.nj_edges.specs.Changes.{IsAffected, has_input_of}
use Rattle.nj_edges.specs.Changes.IsAffected.{by_file, by_edge}

-- a build statement with the given inputs, order-only inputs and validations
abbrev pub build : (output : List ℕ) → (inputs order_only validations : List (List ℕ)) → (is_phony : Bool)
    → EdgePaths
build output inputs order_only validations is_phony = record {
  explicit_outputs = output ∷ [];
  implicit_outputs = [];
  explicit_inputs = inputs;
  implicit_inputs = [];
  order_only_inputs = order_only;
  validations = validations;
  is_phony = is_phony;
}

abbrev pub a : List ℕ
a = 97 ∷ []

abbrev pub b : List ℕ
b = 98 ∷ []

abbrev pub p : List ℕ
p = 112 ∷ []

abbrev pub s : List ℕ
s = 115 ∷ []

abbrev pub v : List ℕ
v = 118 ∷ []

-- `build a: cc s`; `build p: phony a`; `build b: cc || p`; `build v: cc |@ a`
abbrev pub four : List EdgePaths
four = build a (s ∷ []) [] [] false ∷ build p (a ∷ []) [] [] true ∷ build b [] (p ∷ []) [] false ∷ build v []
    [] (a ∷ []) false ∷ []

by-input : IsAffected four (s ∷ []) 0
by-input = by_file refl

by-phony : IsAffected four (s ∷ []) 2
by-phony = by_edge {f = 1} refl (by_edge {f = 0} refl by-input)

pub none-of : (paths : List (List ℕ)) → list_any (is_among []) paths ≡ false
none-of [] = refl
none-of (path ∷ paths) = none-of paths

not-by-validation : IsAffected four (s ∷ []) 3 → ⊥
not-by-validation (by_file has) = true≢false (sym has)
not-by-validation (by_edge {f = f} has affected) =
    true≢false (sym has ∙ none-of (outputs_of (edge_at four f)))

makes-no-input : (f : ℕ) → has_input_of (outputs_of (edge_at four f)) (edge_at four 0) ≡ false
makes-no-input zero = refl
makes-no-input (suc zero) = refl
makes-no-input (suc (suc zero)) = refl
makes-no-input (suc (suc (suc zero))) = refl
makes-no-input (suc (suc (suc (suc f)))) = refl

-- the maker of a changed file is not affected
not-the-maker : IsAffected four (a ∷ []) 0 → ⊥
not-the-maker (by_file has) = true≢false (sym has)
not-the-maker (by_edge {f = f} has affected) = true≢false (sym has ∙ makes-no-input f)

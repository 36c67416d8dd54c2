-- Worked rows of the result of statements: the defaults in force, and the fault of a cycle.
use Rattle.std.proofs.Common.{false, ◌≡◌, ◌<◌, ℕ, Option, None, Some, unwrap_or, ap, zero, suc, List, [], ◌∷◌}
use Rattle.std.proofs.Common.{refl, lit<, arith, sym, subst}
use Rattle.std.specs.Prelude.{codes, Contains}
use Rattle.nj_text.specs.Words.{Text, WordModel}
use Rattle.nj_text.specs.Paths.{clean_path_of, without_leftmost_pair}
use Rattle.nj_manifest.specs.Statements.{StatementModel, BuildModel, DefaultModel}
use Rattle.nj_scope.specs.ReadingList.{ReadStatement, bounds}
use Rattle.nj_cycles.specs.Cycles.{Chain, Needs}
use Rattle.nj_cycles.specs.Cycles.Chain.{one, more}
use Rattle.nj_edges.specs.Needs.{makers_of_inputs}
use Rattle.nj_faults.specs.declared.fault.Cause.TheVariants.{Cycle}
use Rattle.nj_faults.specs.Faults.{fault_at}
use Rattle.nj_statements.specs.EdgeList.{EdgeModel, edge_of_build, edges_read, paths_of_edges, defaults_read}
use Rattle.nj_statements.specs.Built.{IsCycleFault, defaults_in_force}

abbrev word : (text : List ℕ) → WordModel
word text = record { spot = record { line = 1; column = 7 }; parts = Text text ∷ [] }

-- a statement on a line of its own
abbrev on : (line : ℕ) → StatementModel → ReadStatement
on line item = record {
  file = codes "build.ninja";
  spot = record { line = line; column = 1 };
  depth = 0;
  scope = 0;
  around = [];
  item = item;
  was_joined = false;
  discovered = None;
}

abbrev build : (output : List ℕ) → (inputs : List WordModel) → StatementModel
build output inputs =
    BuildModel (record { explicit = word output ∷ []; implicit = [] })
    (record { spot = record { line = 1; column = 9 }; name = codes "phony" })
    (record { explicit = inputs; implicit = []; order_only = []; validations = [] }) []

abbrev in_force : List ReadStatement → List (List ℕ)
in_force entries = defaults_in_force (defaults_read entries) (paths_of_edges (edges_read entries))

-- `build a: phony`, and then `build b: phony a`
abbrev two : List ReadStatement
two = on 2 (build (codes "b") (word (codes "a") ∷ [])) ∷ on 1 (build (codes "a") []) ∷ []

pub row-roots : in_force two ≡ codes "b" ∷ []
unfolding clean_path_of without_leftmost_pair edges_read defaults_read bounds
row-roots = refl

-- and then `default a`
pub row-default : in_force (on 3 (DefaultModel (word (codes "a") ∷ [])) ∷ two) ≡ codes "a" ∷ []
unfolding clean_path_of without_leftmost_pair edges_read defaults_read bounds
row-default = refl

-- ---- a cycle

-- `build c: phony a`, `build a: phony b` and `build b: phony a`: the first edge only leads into the cycle
abbrev cycle : List ReadStatement
cycle = on 3 (build (codes "b") (word (codes "a") ∷ [])) ∷ on 2 (build (codes "a") (word (codes "b") ∷ [])) ∷
    on 1 (build (codes "c") (word (codes "a") ∷ [])) ∷ []

abbrev makers : ℕ → List (Option ℕ)
makers = makers_of_inputs (paths_of_edges (edges_read cycle))

makers-first : makers 0 ≡ Some 1 ∷ []
unfolding clean_path_of without_leftmost_pair edges_read defaults_read bounds
makers-first = refl

makers-second : makers 1 ≡ Some 2 ∷ []
unfolding clean_path_of without_leftmost_pair edges_read defaults_read bounds
makers-second = refl

makers-third : makers 2 ≡ Some 1 ∷ []
unfolding clean_path_of without_leftmost_pair edges_read defaults_read bounds
makers-third = refl

makers-past : (n : ℕ) → makers (suc (suc (suc n))) ≡ []
unfolding clean_path_of without_leftmost_pair edges_read defaults_read bounds
makers-past n = refl

only : (n m : ℕ) → Contains (Some n ∷ []) (Some m) → n ≡ m
only n m (zero, below, here) = ap (λ o. unwrap_or o 0) here
only n m (suc k, below, here) = absurd (omega arith)

other : (n : ℕ) → 0 < n → n ≡ 0 → ⊥
other n some none = absurd (omega arith)

-- no edge needs the first edge
not-needed : (e : ℕ) → Needs makers e 0 → ⊥
not-needed zero needs = other 1 (lit< tt) (only 1 0 (subst (λ row. Contains row (Some 0)) makers-first needs))
not-needed (suc zero) needs = other 2 (lit< tt)
    (only 2 0 (subst (λ row. Contains row (Some 0)) makers-second needs))
not-needed (suc (suc zero)) needs = other 1 (lit< tt)
    (only 1 0 (subst (λ row. Contains row (Some 0)) makers-third needs))
not-needed (suc (suc (suc n))) needs = let none : Contains [] (Some 0) =
    subst (λ row. Contains row (Some 0)) (makers-past n) needs in absurd (omega (arith, none.1))

no-chain : (e : ℕ) → Chain (Needs makers) e 0 → ⊥
no-chain e (one needs) = not-needed e needs
no-chain e (more {g = g} needs chain) = no-chain g chain

needs-third : Needs makers 1 2
needs-third = subst (λ row. Contains row (Some 2)) (sym makers-second) (0, lit< tt, refl)

needs-second : Needs makers 2 1
needs-second = subst (λ row. Contains row (Some 1)) (sym makers-third) (0, lit< tt, refl)

pub row-cycle : IsCycleFault (edges_read cycle)
    (fault_at (codes "build.ninja") (record { line = 2; column = 1 }) (Cycle (codes "a")))
unfolding clean_path_of without_leftmost_pair edges_read defaults_read bounds
row-cycle = record {
  number = 1;
  edge = second;
  output = codes "a";
  edge_is = refl;
  least = (
    more needs-third (one needs-second),
    λ f below on. no-chain 0 (subst (λ e. Chain (Needs makers) e e) (first f below) on),
  );
  output_is = refl;
  fault_is = refl;
}
  where
    second : EdgeModel
    second = edge_of_build (on 2 (build (codes "a") (word (codes "b") ∷ [])))
        (on 1 (build (codes "c") (word (codes "a") ∷ [])) ∷ [])
        (record { explicit = word (codes "a") ∷ []; implicit = [] })
        (record { spot = record { line = 1; column = 9 }; name = codes "phony" })
        (record { explicit = word (codes "b") ∷ []; implicit = []; order_only = []; validations = [] }) []

    first : (f : ℕ) → f < 1 → f ≡ 0
    first f below = omega arith

-- Worked rows, computed on the definitions: the meaning of targets' arguments.
use Rattle.std.proofs.Common.{◌≡◌, ℕ, false, Ok, Err, List, [], ◌∷◌, refl}
use Rattle.std.specs.Prelude.{codes, Result}
use Rattle.nj_text.specs.Paths.{clean_path_of, without_leftmost_pair}
use Rattle.nj_edges.specs.Edges.{EdgePaths}
use Rattle.nj_faults.specs.declared.fault.GraphFault.{GraphFault}
use Rattle.nj_faults.specs.declared.fault.Cause.TheVariants.{EmptyPath, UnknownTarget, NoOutEdge}
use Rattle.nj_faults.specs.Faults.{unplaced}
use Rattle.nj_graph.specs.Targets.{picked}

abbrev edge : (implicit_outputs inputs validations : List (List ℕ)) → EdgePaths
edge implicit_outputs inputs validations = record {
  explicit_outputs = [];
  implicit_outputs = implicit_outputs;
  explicit_inputs = inputs;
  implicit_inputs = [];
  order_only_inputs = [];
  validations = validations;
  is_phony = false;
}

-- `build | a.o: cc a.c` and `build | b.o: cc a.c |@ v`
abbrev edges : List EdgePaths
edges = edge (codes "a.o" ∷ []) (codes "a.c" ∷ []) [] ∷ edge (codes "b.o" ∷ []) (codes "a.c" ∷ [])
    (codes "v" ∷ []) ∷ []

abbrev means : (word : List ℕ) → Result (List ℕ) GraphFault → Type 0
means word target = picked edges word ≡ target

an_output : means (codes "./a.o") (Ok (codes "a.o"))
unfolding clean_path_of without_leftmost_pair
an_output = refl

a_source : means (codes "a.c") (Ok (codes "a.c"))
unfolding clean_path_of without_leftmost_pair
a_source = refl

-- the first edge that has it as an input
made_of_a_source : means (codes "x/../a.c^") (Ok (codes "a.o"))
unfolding clean_path_of without_leftmost_pair
made_of_a_source = refl

made_of_an_output : means (codes "a.o^") (Err (unplaced (NoOutEdge (codes "a.o"))))
unfolding clean_path_of without_leftmost_pair
made_of_an_output = refl

made_of_a_validation : means (codes "v^") (Err (unplaced (NoOutEdge (codes "v"))))
unfolding clean_path_of without_leftmost_pair
made_of_a_validation = refl

not_named : means (codes "q") (Err (unplaced (UnknownTarget (codes "q"))))
unfolding clean_path_of without_leftmost_pair
not_named = refl

made_of_nothing : means (codes "^") (Err (unplaced (UnknownTarget [])))
unfolding clean_path_of without_leftmost_pair
made_of_nothing = refl

-- the path before the `^` is not cleaned again
made_of_a_folder : means (codes "a.c/^") (Err (unplaced (UnknownTarget (codes "a.c/"))))
unfolding clean_path_of without_leftmost_pair
made_of_a_folder = refl

no_word : means [] (Err (unplaced EmptyPath))
no_word = refl

-- Targets, word by word.
use Rattle.std.proofs.Common.{arith}
use Rattle.std.proofs.lemmas.Grind.{common_steps}
use Rattle.std.proofs.Common.{◌≡◌, ◌⊎◌, inl, inr, ℕ, ◌+◌, ◌<◌, Result, Ok, Err, Some, List, [], ◌∷◌, ◌++◌}
use Rattle.std.proofs.Common.{length, take, drop, get_or, map, refl, sym, ap, subst, ◌∙◌, take-append-drop}
use Rattle.std.specs.Prelude.{slice_get, All, IfOk}
use Rattle.std.specs.Result.{IsErrAnd}
use Rattle.std.specs.Global.{Vec}
use Rattle.std.proofs.lemmas.List.{drop_more, map-append}
use Rattle.nj_manifest.specs.LineSteps.{◌>>=◌}
use Rattle.nj_names.specs.declared.files.FileNo.{FileNo}
use Rattle.nj_edges.specs.Edges.{EdgePaths}
use Rattle.nj_names.specs.Files.{AreFiles}
use Rattle.nj_edges.proofs.GraphLemmas.{files-known}
use Rattle.nj_faults.specs.declared.fault.GraphFault.{GraphFault}
use Rattle.nj_faults.specs.Faults.{no_memory}
use Rattle.nj_graph.specs.Targets.{picked, targets_named, PicksTargets}

-- the path of a target before the paths of the others, or the first fault
abbrev pub and_target : Result (List ℕ) GraphFault → Result (List (List ℕ)) GraphFault
    → Result (List (List ℕ)) GraphFault
and_target one others = one >>= (λ path. others >>= (λ paths. Ok (path ∷ paths)))

-- both results are paths
pub and_target-ok : (one : Result (List ℕ) GraphFault) (others : Result (List (List ℕ)) GraphFault)
    (paths : List (List ℕ)) → and_target one others ≡ Ok paths
    → (p : List ℕ) × (ps : List (List ℕ)) × (one ≡ Ok p) × (others ≡ Ok ps) × (paths ≡ p ∷ ps)
and_target-ok (Ok p) (Ok ps) paths is = (p, ps, refl, refl, cc)
and_target-ok (Ok p) (Err f) paths is = absurd cc
and_target-ok (Err f) others paths is = absurd cc

module _ (edges : List EdgePaths) where
  -- one more argument names a target
  named-push : (words : List (List ℕ)) (paths : List (List ℕ)) (word path : List ℕ)
      → targets_named edges words ≡ Ok paths → picked edges word ≡ Ok path
      → targets_named edges (words ++ word ∷ []) ≡ Ok (paths ++ path ∷ [])
  named-push [] paths word path named is =
      let none : [] ≡ paths = cc in
      ap (λ (o : Result (List ℕ) GraphFault). and_target o (Ok [])) is
      ∙ ap (λ (ps : List (List ℕ)). Ok (ps ++ path ∷ [])) none
  named-push (w ∷ words) paths word path named is =
      let (p, ps, one, others, parts) = and_target-ok (picked edges w) (targets_named edges words) paths named
      in
      ap (λ (o : Result (List ℕ) GraphFault). and_target o (targets_named edges (words ++ word ∷ []))) one
      ∙ ap (λ (os : Result (List (List ℕ)) GraphFault). and_target (Ok p) os)
      (named-push words ps word path others is)
      ∙ ap (λ (qs : List (List ℕ)). Ok (qs ++ path ∷ [])) (sym parts)

  -- or it is the first that does not name a target
  named-stop : (words more : List (List ℕ)) (paths : List (List ℕ)) (word : List ℕ) (fault : GraphFault)
      → targets_named edges words ≡ Ok paths
      → picked edges word ≡ Err fault → targets_named edges (words ++ word ∷ more) ≡ Err fault
  named-stop [] more paths word fault named is =
      ap (λ (o : Result (List ℕ) GraphFault). and_target o (targets_named edges more)) is
  named-stop (w ∷ words) more paths word fault named is =
      let (p, ps, one, others, parts) = and_target-ok (picked edges w) (targets_named edges words) paths named
      in
      ap (λ (o : Result (List ℕ) GraphFault). and_target o (targets_named edges (words ++ word ∷ more))) one
      ∙ ap (λ (os : Result (List (List ℕ)) GraphFault). and_target (Ok p) os)
      (named-stop words more ps word fault others is)

  module _ {X : Type 0} (text : X → List ℕ) (words : List X) (i : ℕ) (word : X) (paths : List (List ℕ))
      (lt : i < length words) (at : word ≡ get_or words i word)
      (named : targets_named edges (map text (take i words)) ≡ Ok paths) where
    front-is : map text (take (i + 1) words) ≡ map text (take i words) ++ text word ∷ []
    front-is = grind (arith, common_steps)

    pub targets-next : (path : List ℕ) → picked edges (text word) ≡ Ok path
        → targets_named edges (map text (take (i + 1) words)) ≡ Ok (paths ++ path ∷ [])
    targets-next path is = ap (targets_named edges) front-is
        ∙ named-push (map text (take i words)) paths (text word) path named is

    whole-is : map text words ≡ map text (take i words) ++ text word ∷ map text (drop (i + 1) words)
    whole-is =
        ap (map text) (sym (take-append-drop i words)
        ∙ ap (λ (ws : List X). take i words ++ ws)
        (drop_more words i word lt ∙ ap (λ (w : X). w ∷ drop (i + 1) words) (sym at)))
        ∙ map-append text (take i words) (word ∷ drop (i + 1) words)

    pub targets-stop : (fault : GraphFault) → (fault ≡ no_memory) ⊎ (picked edges (text word) ≡ Err fault)
        → (fault ≡ no_memory) ⊎ (targets_named edges (map text words) ≡ Err fault)
    targets-stop fault (inl none) = inl none
    targets-stop fault (inr is) =
        inr (ap (targets_named edges) whole-is
        ∙ named-stop (map text (take i words)) (map text (drop (i + 1) words)) paths (text word) fault
        named is)

-- the file of one more target
pub files-push : (files : List (List ℕ)) (numbers : List FileNo) (paths : List (List ℕ)) (file : FileNo)
    (path : List ℕ) → AreFiles files numbers paths
    → slice_get files file.0 ≡ Some path → AreFiles files (numbers ++ file ∷ []) (paths ++ path ∷ [])
files-push files numbers paths file path are is = grind (arith, common_steps)

-- the outcome is a fault
pub PicksTargets-err : (files : List (List ℕ)) (expected : Result (List (List ℕ)) GraphFault)
    (result : Result (Vec FileNo) GraphFault) (fault : GraphFault)
    → IsErrAnd result (λ e. e ≡ fault) → (fault ≡ no_memory) ⊎ (expected ≡ Err fault)
    → PicksTargets files expected result
PicksTargets-err files expected (Ok numbers) fault is why = absurd is
PicksTargets-err files expected (Err e) fault is why =
    subst (λ (f : GraphFault). (f ≡ no_memory) ⊎ (expected ≡ Err f)) (sym is) why

-- a picked file is known
pub picks-known : (files : List (List ℕ)) (expected : Result (List (List ℕ)) GraphFault)
    (result : Result (Vec FileNo) GraphFault) → PicksTargets files expected result
    → IfOk result (λ numbers. All (λ file. file.0 < length files) numbers.items)
picks-known files expected (Ok numbers) picks = files-known files numbers.items picks.0 picks.2
picks-known files expected (Err fault) picks = tt

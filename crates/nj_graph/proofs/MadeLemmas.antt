-- Lemmas on the files that edges make at the paths of a deps log.
use Rattle.std.proofs.lemmas.Grind.{common_steps}
use Rattle.std.proofs.Common.{◌≡◌, ◌+◌, ◌||◌, ℕ, Bool, true, false, if◌then◌else◌, Option, Some}
use Rattle.std.proofs.Common.{None, option_map, unwrap_or, List, [], ◌∷◌, ◌++◌, length, bytes_eq, refl}
use Rattle.std.proofs.Common.{ap, ◌∙◌, true≢false, arith}
use Rattle.std.specs.Prelude.{position}
use Rattle.nj_text.specs.Paths.{clean_path_of}
use Rattle.nj_names.specs.declared.files.FileNo.{FileNo}
use Rattle.nj_names.specs.Files.{path_at}
use Rattle.nj_names.specs.NameTables.{name_at}
use Rattle.nj_names.proofs.NameLemmas.{found-at}
use Rattle.nj_edges.specs.EdgeGraphs.{EdgeGraph}
use Rattle.nj_edges.specs.Edges.{EdgePaths, inputs_of, is_among, is_named, maker_of, names, outputs_of}
use Rattle.nj_graph.specs.Inside.UndeclaredFound.{AreMade, MadeIs}
use Rattle.nj_graph.specs.declared.made_files.MadeFile.{MadeFile}

or-first : (a b : Bool) → (a || b) ≡ false → a ≡ false
or-first false b is = refl
or-first true b is = is

or-second : (a b : Bool) → (a || b) ≡ false → b ≡ false
or-second false b is = is
or-second true b is = absurd (true≢false is)

-- no edge makes a file that no edge names
pub not-named : (edges : List EdgePaths) (path : List ℕ) → is_named edges path ≡ false
    → maker_of edges path ≡ None
not-named [] path is = refl
not-named (e ∷ edges) path is =
    ap (λ b. if b then Some 0 else option_map (λ n. n + 1) (maker_of edges path))
    (or-first (is_among (outputs_of e) path) (is_among (inputs_of e) path)
    (or-first (is_among (outputs_of e) path || is_among (inputs_of e) path) (is_among e.validations path)
    (or-first (names e path) (is_named edges path) is)))
    ∙ ap (option_map (λ n. n + 1)) (not-named edges path (or-second (names e path) (is_named edges path) is))

-- the path of a file that was found there
pub path-found : (files : List (List ℕ)) (path : List ℕ) (file : FileNo)
    → position (bytes_eq path) files ≡ Some file.0 → path_at files file ≡ path
path-found files path file is = ap (λ o. unwrap_or o []) (found-at path files file.0 is)

-- the path after the paths that were taken
pub named-next : (taken rest : List (List ℕ)) (path : List ℕ)
    → name_at (taken ++ path ∷ rest) (length taken) ≡ path
named-next [] rest path = refl
named-next (t ∷ taken) rest path = named-next taken rest path

module _ (g : EdgeGraph) (paths : List (List ℕ)) (made : List (Option MadeFile)) (next : Option MadeFile)
    (n : ℕ) where
  pub made-push : AreMade g paths made → length made ≡ n → MadeIs g (clean_path_of (name_at paths n)) next
      → AreMade g paths (made ++ next ∷ [])
  made-push are count is k below = grind (arith, common_steps)

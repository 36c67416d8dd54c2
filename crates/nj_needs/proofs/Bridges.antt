-- Between the graph and the rows of makers.
use Rattle.std.proofs.Common.{◌≡◌, ℕ, zero, suc, ◌<◌, Option, Some, unwrap_or, List, [], ◌∷◌, map, length}
use Rattle.std.proofs.Common.{slice_get, get_or, refl, sym, ap, arith}
use Rattle.nj_names.specs.declared.files.FileNo.{FileNo}
use Rattle.nj_edges.specs.EdgeGraphs.{EdgeGraph}
use Rattle.nj_edges.specs.Edges.{EdgePaths, maker_of}
use Rattle.nj_names.specs.Files.{path_at, AreFiles}
use Rattle.nj_edges.proofs.GraphLemmas.{first-below, made-of}
use Rattle.nj_needs.specs.Needs.{AreWithin}
use Rattle.nj_needs.specs.Graphs.{row_of_paths, row_of, count_of}

-- ---- a maker is an edge

pub AreWithin-paths : (edges : List EdgePaths) (paths : List (List ℕ))
    → AreWithin (row_of_paths edges paths) (length edges)
AreWithin-paths edges paths e c = let made = made-of (maker_of edges) paths e c in
    first-below _ edges e made.1

pub AreWithin-from : (g : EdgeGraph) (targets : List FileNo) → AreWithin (row_of g targets) (count_of g)
AreWithin-from g targets = AreWithin-paths g.edges (map (path_at g.files) targets)

-- ---- the inputs of an edge

first-file : (files : List (List ℕ)) (n : FileNo) (ns : List FileNo) (p : List ℕ) (ps : List (List ℕ))
    → AreFiles files (n ∷ ns) (p ∷ ps) → slice_get files n.0 ≡ Some p
first-file files n ns p ps are = cc

later-files : (files : List (List ℕ)) (n : FileNo) (ns : List FileNo) (p : List ℕ) (ps : List (List ℕ))
    → AreFiles files (n ∷ ns) (p ∷ ps) → AreFiles files ns ps
later-files files n ns p ps are = cc

-- files have the given paths
pub paths-at : (files : List (List ℕ)) (ns : List FileNo) (paths : List (List ℕ)) → AreFiles files ns paths
    → map (path_at files) ns ≡ paths
paths-at files [] [] are = refl
paths-at files [] (p ∷ ps) are = absurd cc
paths-at files (n ∷ ns) [] are = absurd cc
paths-at files (n ∷ ns) (p ∷ ps) are =
    let first : path_at files n ≡ p = ap (λ (o : Option (List ℕ)). unwrap_or o [])
    (first-file files n ns p ps are) in
    let later = paths-at files ns ps (later-files files n ns p ps are) in
    cc

-- the row of files by their numbers is the row by their paths
pub row-paths : (g : EdgeGraph) (ns : List FileNo) (paths : List (List ℕ)) → AreFiles g.files ns paths
    → row_of g ns ≡ row_of_paths g.edges paths
row-paths g ns paths are = ap (row_of_paths g.edges) (paths-at g.files ns paths are)

-- the maker at the place of a file
pub row-at : (g : EdgeGraph) (ns : List FileNo) (p : ℕ) (n : FileNo) → p < length ns → n ≡ get_or ns p n
    → slice_get (row_of g ns) p ≡ Some (maker_of g.edges (path_at g.files n))
row-at g [] p n lt is = absurd (omega (arith, lt))
row-at g (m ∷ ns) zero n lt is = ap (λ (k : FileNo). Some (maker_of g.edges (path_at g.files k))) (sym is)
row-at g (m ∷ ns) (suc p) n lt is = row-at g ns p n (omega (arith, lt)) is

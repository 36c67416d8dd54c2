-- Which files the edges of a manifest name, by their numbers.
use Rattle.std.proofs.Common.{◌≡◌, ◌≢◌, ◌<◌, ◌+◌, ◌++◌, ◌∷◌, ◌==◌, ◌||◌, inl, inr, ℕ, zero, suc, Bool}
use Rattle.std.proofs.Common.{true, false}
use Rattle.std.proofs.Common.{List, [], length, map, slice_get, bytes_eq, take}
use Rattle.std.proofs.Common.{append_assoc}
use Rattle.std.proofs.Common.{refl, sym, ap, ap₂, ◌∙◌, arith}
use Rattle.std.specs.Prelude.{All}
use Rattle.std.specs.List.{AllByRecursion, IsDistinct, flat_map, list_any, range_with_len}
use Rattle.std.proofs.lemmas.Bool.{cases_lt}
use Rattle.std.proofs.lemmas.Bool.Decides.{eqb_tells}
use Rattle.std.proofs.lemmas.List.{flat_map_more, length-map, map-append}
use Rattle.std.proofs.lemmas.List.Elements.{recursion_from_All}
use Rattle.std.proofs.lemmas.List.Folds.{list_any-append}
use Rattle.std.proofs.lemmas.Map.Keys.{apart_from_distinct}
use Rattle.std.proofs.lemmas.Option.{unwrap_or-slice_get}
use Rattle.std.proofs.lemmas.Slice.Eq.{bytes_eq-Decides}
use Rattle.nj_names.specs.Files.{AreFiles, path_at}
use Rattle.nj_names.specs.NameTables.{is_among, name_at}
use Rattle.nj_graph.specs.declared.FileNo.{FileNo}
use Rattle.nj_edges.specs.Edges.{EdgePaths, inputs_of, is_named, names, outputs_of}
use Rattle.nj_stale.specs.Missing.{AreStated}
use Rattle.nj_ask.specs.Manifest.{is_one_of}
use Rattle.nj_ask.specs.Inside.Flags.{AreFlags}
use Rattle.nj_ask.specs.Inside.StaleParts.{named_paths}
use Rattle.nj_ask.proofs.LineLemmas.{files-paths, numbers-more}

-- ---- paths

-- an edge names the paths that it has
names-are : (e : EdgePaths) (path : List ℕ) → list_any (bytes_eq path) (named_paths e) ≡ names e path
names-are e path =
    list_any-append (bytes_eq path) (outputs_of e ++ inputs_of e) e.validations
    ∙ ap (λ b. b || is_among e.validations path)
    (list_any-append (bytes_eq path) (outputs_of e) (inputs_of e))

-- so do edges
named-are : (edges : List EdgePaths) (path : List ℕ)
    → is_among (flat_map named_paths edges) path ≡ is_named edges path
named-are [] path = refl
named-are (e ∷ edges) path =
    list_any-append (bytes_eq path) (named_paths e) (flat_map named_paths edges)
    ∙ ap₂ (λ a b. a || b) (names-are e path) (named-are edges path)

-- ---- numbers

-- two files are the same if their paths are
pub same-path : (paths : List (List ℕ)) → IsDistinct bytes_eq paths → (n m : ℕ) → n < length paths
    → m < length paths
    → (n == m) ≡ bytes_eq (name_at paths n) (name_at paths m)
same-path paths apart n m below below2 = elim (eqb_tells n m) [
  | inl same ↦ same.0
      ∙ sym (ap (λ k. bytes_eq (name_at paths n) (name_at paths k)) (sym same.1)
      ∙ (bytes_eq-Decides (name_at paths n) (name_at paths n)).1 refl)
  | inr other ↦ other.0 ∙ sym (differ other.1)
]
  where
    by-get : (k l : ℕ) → k < l → l < length paths → bytes_eq (name_at paths k) (name_at paths l) ≡ false
    by-get k l less within =
        ap₂ bytes_eq (unwrap_or-slice_get paths k []) (unwrap_or-slice_get paths l [])
        ∙ apart_from_distinct bytes_eq paths k l [] apart less within

    turned : (x y : List ℕ) → bytes_eq x y ≡ false → bytes_eq y x ≡ false
    turned x y apart2 = by (bytes_eq y x) refl
      where
        by : (b : Bool) → bytes_eq y x ≡ b → b ≡ false
        by true is =
            let same : y ≡ x = (bytes_eq-Decides y x).0 is in
            sym ((bytes_eq-Decides x y).1 (sym same)) ∙ apart2
        by false is = refl

    differ : n ≢ m → bytes_eq (name_at paths n) (name_at paths m) ≡ false
    differ other = elim (cases_lt n m) [
      | inl less ↦ by-get n m less below2
      | inr more ↦ turned (name_at paths m) (name_at paths n) (by-get m n (omega (arith, more, other)) below)
    ]

-- a number is among those of some files if its path is among theirs
one-of-files : (paths : List (List ℕ)) → IsDistinct bytes_eq paths → (n : ℕ) → n < length paths
    → (files : List FileNo) → AllByRecursion (λ (f : FileNo). f.0 < length paths) files
    → is_one_of (map (λ (f : FileNo). f.0) files) n ≡ is_among (map (path_at paths) files) (name_at paths n)
one-of-files paths apart n below [] all = refl
one-of-files paths apart n below (f ∷ files) all =
    ap₂ (λ a b. a || b) (same-path paths apart n f.0 below all.0)
    (one-of-files paths apart n below files all.1)

-- the flags of the files that edges name
pub stated-flags : (paths : List (List ℕ)) (edges : List EdgePaths) (files : List FileNo) (flags : List Bool)
    → IsDistinct bytes_eq paths → All (λ (f : FileNo). f.0 < length paths) files
    → map (path_at paths) files ≡ flat_map named_paths edges
    → AreFlags (length paths) (map (λ (f : FileNo). f.0) files) flags
    → AreStated paths (is_named edges) flags
stated-flags paths edges files flags apart all are held = λ file within.
    held.are file.0 within
    ∙ one-of-files paths apart file.0 within files
    (recursion_from_All (λ (f : FileNo). f.0 < length paths) files all)
    ∙ ap (λ ps. is_among ps (name_at paths file.0)) are
    ∙ named-are edges (name_at paths file.0)

-- ---- one more edge

-- the paths of one more edge, by its number
pub edges-more : (edge : ℕ → EdgePaths) (n : ℕ)
    → flat_map named_paths (map edge (range_with_len 0 n)) ++ named_paths (edge n)
    ≡ flat_map named_paths (map edge (range_with_len 0 (n + 1)))
edges-more edge n =
    flat_map_more named_paths [] (map edge (range_with_len 0 n)) (edge n)
    ∙ ap (flat_map named_paths)
    (sym (ap (map edge) (numbers-more n) ∙ map-append edge (range_with_len 0 n) (n ∷ [])))

-- the paths of files that are appended, part by part
pub parts-more : (old a b c d e : List (List ℕ))
    → ((((old ++ a) ++ b) ++ c) ++ d) ++ e ≡ old ++ ((a ++ ((b ++ c) ++ d)) ++ e)
parts-more old a b c d e = simp append_assoc

-- the parts of what is said of a missing input
pub words-are : (a path b output c : List ℕ)
    → (a ++ path) ++ ((b ++ output) ++ c) ≡ (((a ++ path) ++ b) ++ output) ++ c
words-are a path b output c = simp append_assoc

-- the first paths are those of the first files
pub take-mapped : {X Y : Type 0} (f : X → Y) (n : ℕ) (xs : List X) → map f (take n xs) ≡ take n (map f xs)
take-mapped f zero xs = refl
take-mapped f (suc n) [] = refl
take-mapped f (suc n) (x ∷ xs) = ap (λ ys. f x ∷ ys) (take-mapped f n xs)

-- the paths of files
pub paths-are : (paths : List (List ℕ)) (numbers : List FileNo) (names : List (List ℕ))
    → AreFiles paths numbers names → map (path_at paths) numbers ≡ names
paths-are paths numbers names are = files-paths (λ (f : FileNo). slice_get paths f.0) numbers names are

pub count-is : (paths : List (List ℕ)) (numbers : List FileNo) (names : List (List ℕ))
    → AreFiles paths numbers names → length numbers ≡ length names
count-is paths numbers names are =
    sym (length-map numbers (path_at paths)) ∙ ap length (paths-are paths numbers names are)

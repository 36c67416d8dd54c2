-- The edges of a graph, one after another, and the statements of them.
use Rattle.std.proofs.Common.{◌≡◌, ℕ, suc, ◌+◌, Bool, true, false, cond, if◌then◌else◌, not, true≢false}
use Rattle.std.proofs.Common.{is_some, Option, None, Some, option_map}
use Rattle.std.proofs.Common.{unwrap_or, List, [], ◌∷◌, ◌++◌, map, length, bytes_eq, is_none, refl, sym, ap}
use Rattle.std.proofs.Common.{◌∙◌}
use Rattle.std.proofs.Common.{All, arith, drop, slice_get, take}
use Rattle.std.specs.Prelude.{filter}
use Rattle.std.specs.List.{AllByRecursion, flat_map, range_with_len}
use Rattle.std.proofs.lemmas.List.{drop-map, length-map, take-map}
use Rattle.std.proofs.lemmas.List.Elements.{All-nil, All-cons, filter-append}
use Rattle.std.proofs.lemmas.List.Folds.{flat_map-map}
use Rattle.std.proofs.lemmas.Option.{slice_get-map, get_or_from_slice_get}
use Rattle.nj_scope.specs.ReadingList.{ReadStatement}
use Rattle.nj_edges.specs.Edges.{EdgePaths, edge_at, edges_from, inputs_of, maker_of, outputs_of}
use Rattle.nj_statements.specs.EdgeList.{EdgeModel, edges_read}
use Rattle.nj_graph.specs.Graph.{GraphModel, IsGraphOf, edges_of, rule_name_at, rule_name_of}
use Rattle.nj_graph.specs.Handles.{GraphEdge, GraphFile, edge_in, edges_in, file_in, files_in, paths_of}
use Rattle.nj_graph.proofs.Stated.{graph-edges}
use Rattle.nj_tools.specs.Listings.{made_line, outputs_of_rule, outputs_text, sources_in}
use Rattle.nj_tools.specs.Inside.Collections.{sources_among}
use Rattle.nj_tools.specs.Inside.Pieces.{made_lines}

-- ---- edges of one graph

pub edges-in : (g : GraphModel) (numbers : List ℕ)
    → AllByRecursion (λ edge. edge.graph ≡ g) (edges_in g numbers)
edges-in g [] = tt
edges-in g (number ∷ numbers) = (refl, edges-in g numbers)

-- files of one graph
pub all-in : (g : GraphModel) (paths : List (List ℕ))
    → AllByRecursion (λ file. file.graph ≡ g) (files_in g paths)
all-in g [] = tt
all-in g (path ∷ paths) = (refl, all-in g paths)

pub files-in : (g h : GraphModel) (paths : List (List ℕ)) → g ≡ h
    → All (λ file. file.graph ≡ h) (files_in g paths)
files-in g h [] same = All-nil (λ (file : GraphFile). file.graph ≡ h)
files-in g h (path ∷ paths) same =
    All-cons (λ (file : GraphFile). file.graph ≡ h) (file_in g path) (files_in g paths) same
    (files-in g h paths same)

-- ---- statements of one graph

pub graphs-of_files : (entries : List ReadStatement) (g : GraphModel) (paths : List (List ℕ))
    → IsGraphOf g entries
    → AllByRecursion (λ file. IsGraphOf file.graph entries) (files_in g paths)
graphs-of_files entries g [] is = tt
graphs-of_files entries g (path ∷ paths) is = (is, graphs-of_files entries g paths is)

pub graphs-of_edges : (entries : List ReadStatement) (g : GraphModel) (numbers : List ℕ) → IsGraphOf g entries
    → AllByRecursion (λ edge. IsGraphOf edge.graph entries) (edges_in g numbers)
graphs-of_edges entries g [] is = tt
graphs-of_edges entries g (number ∷ numbers) is = (is, graphs-of_edges entries g numbers is)

-- the edge that makes a file
pub maker-some : (g : GraphModel) (maker : Option ℕ) (edge : GraphEdge)
    → Some edge ≡ option_map (edge_in g) maker
    → (maker ≡ Some edge.number) × (edge.graph ≡ g)
maker-some g None edge is = absurd cc
maker-some g (Some n) edge is =
    let same : edge ≡ edge_in g n = cc in
    (ap (λ (e : GraphEdge). Some e.number) (sym same), ap (λ (e : GraphEdge). e.graph) same)

pub maker-none : (g : GraphModel) (maker : Option ℕ) → None ≡ option_map (edge_in g) maker → maker ≡ None
maker-none g None is = refl
maker-none g (Some n) is = absurd cc

-- the paths of files
pub paths-in : (g : GraphModel) (paths : List (List ℕ)) → map (λ file. file.path) (files_in g paths) ≡ paths
paths-in g [] = refl
paths-in g (path ∷ paths) = ap (λ ps. path ∷ ps) (paths-in g paths)

pub are-paths : (files : List GraphFile) (g : GraphModel) (paths : List (List ℕ)) → files ≡ files_in g paths
    → map (λ file. file.path) files ≡ paths
are-paths files g paths is = ap (map (λ (file : GraphFile). file.path)) is ∙ paths-in g paths

-- the number of files
pub counts-in : (files : List GraphFile) (g : GraphModel) (paths : List (List ℕ)) → files ≡ files_in g paths
    → length files ≡ length paths
counts-in files g paths is = ap length is ∙ length-map paths (file_in g)

-- the first of them, and the others
pub takes-paths : (files first : List GraphFile) (g : GraphModel) (paths : List (List ℕ)) (n : ℕ)
    → files ≡ files_in g paths → first ≡ take n files → map (λ file. file.path) first ≡ take n paths
takes-paths files first g paths n is first_is =
    ap (map (λ (file : GraphFile). file.path)) first_is
    ∙ sym (take-map (λ (file : GraphFile). file.path) n files) ∙ ap (take n) (are-paths files g paths is)

pub drops-paths : (files others : List GraphFile) (g : GraphModel) (paths : List (List ℕ)) (n : ℕ)
    → files ≡ files_in g paths → others ≡ drop n files → map (λ file. file.path) others ≡ drop n paths
drops-paths files others g paths n is others_is =
    ap (map (λ (file : GraphFile). file.path)) others_is
    ∙ sym (drop-map (λ (file : GraphFile). file.path) n files) ∙ ap (drop n) (are-paths files g paths is)

-- the outputs of an edge, if its rule has this name
abbrev pub of_rule : List ReadStatement → (rule : List ℕ) → GraphEdge → List (List ℕ)
of_rule entries rule edge =
    if bytes_eq (rule_name_at entries edge.number) rule then outputs_of (paths_of edge) else []

-- a file that no edge makes, and another
pub next-source : (file : GraphFile) (files : List GraphFile) (b : Bool)
    → b ≡ is_none (maker_of (edges_of file.graph) file.path)
    → cond b (file.path ∷ sources_among files) (sources_among files) ≡ sources_among (file ∷ files)
next-source file files b is = by b ∙ ap
    (λ c. map (λ (f : GraphFile). f.path) (cond c (file ∷ sources) sources)) is
  where
    sources : List GraphFile
    sources = filter (λ (f : GraphFile). is_none (maker_of (edges_of f.graph) f.path)) files

    by : (c : Bool) → cond c (file.path ∷ sources_among files) (sources_among files)
        ≡ map (λ (f : GraphFile). f.path) (cond c (file ∷ sources) sources)
    by true = refl
    by false = refl

none-is : {X : Type 0} (o : Option X) (none : Bool) → is_some o ≡ not none → is_none o ≡ none
none-is None true h = refl
none-is None false h = absurd (true≢false (sym h))
none-is (Some x) true h = absurd (true≢false h)
none-is (Some x) false h = refl

is_none-map : {X Y : Type 0} (h : X → Y) (o : Option X) → is_none (option_map h o) ≡ is_none o
is_none-map h None = refl
is_none-map h (Some x) = refl

-- no edge makes a file
pub no_maker : {X Y Z : Type 0} (h : X → Z) (k : Y → Z) (o : Option X) (maker : Option Y) (none : Bool)
    → option_map h o ≡ option_map k maker → is_some o ≡ not none → none ≡ is_none maker
no_maker h k o maker none is tells =
    sym (none-is o none tells) ∙ sym (is_none-map h o) ∙ ap is_none is ∙ is_none-map k maker

-- ---- each edge by its number

-- what is made of each number, and of each item
each-number : {X E : Type 0} (f : ℕ → List X) (h : E → List X) (start : ℕ) (es : List E)
    → ((i : ℕ) (e : E) → slice_get es i ≡ Some e → f (start + i) ≡ h e)
    → flat_map f (range_with_len start (length es)) ≡ flat_map h es
each-number f h start [] same = refl
each-number f h start (e ∷ es) same =
    let here : start + 0 ≡ start = omega arith in
    let rest = each-number f h (start + 1) es (λ i x at.
    let on : (start + 1) + i ≡ start + suc i = omega arith in ap f on ∙ same (suc i) x at) in
    (λ k. (ap f (sym here) ∙ same 0 e refl) k ++ rest k)

-- what is made of each edge
pub each-edge : {X E : Type 0} (f : GraphEdge → List X) (h : E → List X) (g : GraphModel) (es : List E)
    → ((i : ℕ) (e : E) → slice_get es i ≡ Some e → f (edge_in g i) ≡ h e)
    → flat_map f (edges_in g (range_with_len 0 (length es))) ≡ flat_map h es
each-edge f h g es same =
    flat_map-map f (edge_in g) (range_with_len 0 (length es))
    ∙ each-number (λ n. f (edge_in g n)) h 0 es (λ i e at.
    let on : 0 + i ≡ i = omega arith in ap (λ n. f (edge_in g n)) on ∙ same i e at)

-- the edges that pass a test
pub edges-pass : {E : Type 0} (test : E → Bool) (passes : ℕ → Bool) (start : ℕ) (es : List E)
    → ((i : ℕ) (e : E) → slice_get es i ≡ Some e → passes (start + i) ≡ test e)
    → edges_from start test es ≡ filter passes (range_with_len start (length es))
edges-pass test passes start [] same = refl
edges-pass {E} test passes start (e ∷ es) same =
    let here : start + 0 ≡ start = omega arith in
    let rest = edges-pass test passes (start + 1) es (λ i x at.
    let on : (start + 1) + i ≡ start + suc i = omega arith in ap passes on ∙ same (suc i) x at) in
    (λ k. cond (sym (ap passes (sym here) ∙ same 0 e refl) k) (start ∷ rest k) (rest k))

module _ (g : GraphModel) (entries : List ReadStatement) (is : IsGraphOf g entries) where
  pub edge-count : length (edges_of g) ≡ length (edges_read entries)
  edge-count = ap length (graph-edges is) ∙ length-map (edges_read entries) (λ e. e.paths)

  module _ (n : ℕ) (e : EdgeModel) (at : slice_get (edges_read entries) n ≡ Some e) where
    pub paths-at : edge_at (edges_of g) n ≡ e.paths
    paths-at =
        ap (λ es. edge_at es n) (graph-edges is)
        ∙ get_or_from_slice_get (map (λ e. e.paths) (edges_read entries)) n e.paths _
        (slice_get-map (λ e. e.paths) (edges_read entries) n ∙ ap (option_map (λ e. e.paths)) at)

    pub rule-at : rule_name_at entries n ≡ rule_name_of entries e
    rule-at = ap (λ o. unwrap_or (option_map (rule_name_of entries) o) []) at

  -- the outputs of all edges, with their rules
  pub made-all : flat_map (made_lines entries) (edges_in g (range_with_len 0 (length (edges_of g))))
      ≡ outputs_text entries
  unfolding outputs_text
  made-all =
      ap (λ n. flat_map (made_lines entries) (edges_in g (range_with_len 0 n))) edge-count
      ∙ each-edge (made_lines entries)
      (λ (e : EdgeModel). flat_map (λ path. made_line path (rule_name_of entries e)) (outputs_of e.paths))
      g (edges_read entries) (λ i e at k.
      flat_map (λ path. made_line path (rule-at i e at k)) (outputs_of (paths-at i e at k)))

  pub rule-all : (rule : List ℕ)
      → flat_map (of_rule entries rule) (edges_in g (range_with_len 0 (length (edges_of g))))
      ≡ outputs_of_rule entries rule
  rule-all rule =
      ap (λ n. flat_map (of_rule entries rule) (edges_in g (range_with_len 0 n))) edge-count
      ∙ each-edge (of_rule entries rule)
      (λ (e : EdgeModel). if bytes_eq (rule_name_of entries e) rule then outputs_of e.paths else [])
      g (edges_read entries) (λ i e at k.
      if bytes_eq (rule-at i e at k) rule then outputs_of (paths-at i e at k) else [])
      ∙ only (λ (e : EdgeModel). bytes_eq (rule_name_of entries e) rule)
      (λ (e : EdgeModel). outputs_of e.paths)
      (edges_read entries)
    where
      only : {X Y : Type 0} (p : X → Bool) (f : X → List Y) (xs : List X)
          → flat_map (λ x. if p x then f x else []) xs ≡ flat_map f (filter p xs)
      only p f [] = refl
      only {X} {Y} p f (x ∷ xs) = by (p x) (only p f xs)
        where
          by : (b : Bool) → flat_map (λ y. if p y then f y else []) xs ≡ flat_map f (filter p xs)
              → (if b then f x else []) ++ flat_map (λ y. if p y then f y else []) xs
              ≡ flat_map f (cond b (x ∷ filter p xs) (filter p xs))
          by true rest = ap (λ ys. f x ++ ys) rest
          by false rest = rest

-- the inputs of an edge that no edge makes
abbrev pub sources_of : GraphEdge → List (List ℕ)
sources_of edge = sources_among (files_in edge.graph (inputs_of (paths_of edge)))

pub sources-all : (g : GraphModel)
    → flat_map sources_of (edges_in g (range_with_len 0 (length (edges_of g)))) ≡ sources_in (edges_of g)
sources-all g =
    each-edge sources_of (λ (e : EdgePaths). filter source (inputs_of e)) g (edges_of g)
    (λ i e at. ap (λ (x : EdgePaths). sources_among (files_in g (inputs_of x)))
    (get_or_from_slice_get (edges_of g) i e _ at) ∙ among (inputs_of e))
    ∙ all (edges_of g)
  where
    source : List ℕ → Bool
    source path = is_none (maker_of (edges_of g) path)

    among : (paths : List (List ℕ)) → sources_among (files_in g paths) ≡ filter source paths
    among [] = refl
    among (path ∷ paths) = by (source path) (among paths)
      where
        by : (b : Bool) → sources_among (files_in g paths) ≡ filter source paths
            → map (λ (file : GraphFile). file.path) (cond b (file_in g path ∷ filter
            (λ (file : GraphFile). is_none (maker_of (edges_of file.graph) file.path)) (files_in g paths))
            (filter (λ (file : GraphFile). is_none (maker_of (edges_of file.graph) file.path))
            (files_in g paths)))
            ≡ cond b (path ∷ filter source paths) (filter source paths)
        by true rest = ap (λ ps. path ∷ ps) rest
        by false rest = rest

    all : (es : List EdgePaths) → flat_map (λ e. filter source (inputs_of e)) es
        ≡ filter source (flat_map inputs_of es)
    all [] = refl
    all (e ∷ es) = ap (λ ps. filter source (inputs_of e) ++ ps) (all es)
        ∙ sym (filter-append source (inputs_of e) (flat_map inputs_of es))

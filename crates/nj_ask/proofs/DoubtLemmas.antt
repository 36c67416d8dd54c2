-- What is said of discoveries, edge by edge.
use Rattle.std.proofs.Common.{◌≡◌, ◌≢◌, ◌<◌, ◌+◌, ℕ, Bool, true, false, cond, Option, Some, List, [], ◌∷◌}
use Rattle.std.proofs.Common.{◌++◌, length, map, take}
use Rattle.std.proofs.Common.{refl, sym, ap, ◌∙◌, arith, append_assoc, codes}
use Rattle.std.specs.Prelude.{option_map, slice_get}
use Rattle.std.specs.List.{flat_map, range_with_len}
use Rattle.std.proofs.lemmas.List.{append-nil, map-append}
use Rattle.std.proofs.lemmas.List.Concat.{flat_map-append}
use Rattle.std.proofs.lemmas.List.FromFn.{map-range_with_len_more}
use Rattle.std.proofs.lemmas.List.Folds.{flat_map-map}
use Rattle.nj_graph.specs.declared.Verdict.{Verdict}
use Rattle.nj_graph.specs.declared.Verdict.TheVariants.{Known, Unknown}
use Rattle.nj_discovered.specs.declared.verdict.Unknown as unknown
use Rattle.nj_discovered.specs.declared.verdict.Unknown.TheVariants as why
use Rattle.nj_discovered.specs.Discoveries.{DiscoveriesModel, FoundModel, found_at}
use Rattle.nj_edges.proofs.Passing.{from-more}
use Rattle.nj_graph.specs.Edges.{edges_from}
use Rattle.nj_graph.specs.Graph.{GraphModel, edges_of}
use Rattle.nj_graph.specs.Handles.{GraphEdge, GraphFile, edge_in, edges_in, files_in, paths_of}
use Rattle.nj_graph.specs.ReadingList.{ReadStatement}
use Rattle.nj_ask.specs.Affected.{line}
use Rattle.nj_tools.specs.declared.EdgeDiscovery.{EdgeDiscovery}
use Rattle.nj_ask.specs.DiscoveredGraphs.{doubt_line, edge_discoveries, edge_discovery, fault_text, is_faulty}
use Rattle.nj_ask.specs.DiscoveredGraphs.{no_time_line}
use Rattle.nj_ask.specs.Inside.Findings.{text_if_faulty}
use Rattle.nj_ask.proofs.LineLemmas.{map-map}

-- the texts of one more number
pub texts-of-more : (f : ℕ → List ℕ) (n : ℕ)
    → flat_map f (range_with_len 0 (n + 1)) ≡ flat_map f (range_with_len 0 n) ++ f n
texts-of-more f n =
    let one : ℕ → ℕ = λ m. m in
    sym (flat_map-map f one (range_with_len 0 (n + 1)))
    ∙ ap (flat_map f) (map-range_with_len_more one 0 n n (omega arith))
    ∙ flat_map-append f (map one (range_with_len 0 n)) (n ∷ [])
    ∙ ap (λ texts. texts ++ flat_map f (n ∷ [])) (flat_map-map f one (range_with_len 0 n))
    ∙ ap (λ text. flat_map f (range_with_len 0 n) ++ text) (append-nil (f n))

-- where an output has a time, or no output is there, nothing is said
pub nothing-said : (entries : List ReadStatement) (edge : ℕ) (reason : unknown.Unknown) → reason ≢ why.NoTime
    → doubt_line entries edge (Unknown reason) ≡ []
nothing-said entries edge why.NoTime other = absurd (other refl)
nothing-said entries edge why.NoRecord other = refl
nothing-said entries edge why.NewerOutput other = refl
nothing-said entries edge why.NoDepfile other = refl
nothing-said entries edge why.EmptyDepfile other = refl
nothing-said entries edge why.OtherTarget other = refl

-- the path of the first of some files
pub first-path : (g : GraphModel) (paths : List (List ℕ)) (first : Option GraphFile) (files : List GraphFile)
    → files ≡ files_in g paths → first ≡ slice_get files 0
    → option_map (λ file. file.path) first ≡ slice_get paths 0
first-path g [] first files are is = ap (option_map (λ file. file.path)) (is ∙ ap (λ fs. slice_get fs 0) are)
first-path g (path ∷ paths) first files are is =
    ap (option_map (λ file. file.path)) (is ∙ ap (λ fs. slice_get fs 0) are)

-- the line about an output after other lines
pub no-time-more : (old new path : List ℕ) (output : Option (List ℕ)) → output ≡ Some path
    → new ≡ (old ++ path) ++ line (codes ": its time cannot be read") → new ≡ old ++ no_time_line output
no-time-more old new path output is more =
    let said = codes ": its time cannot be read" in
    more ∙ append_assoc old path (said ++ 10 ∷ [])
    ∙ ap (λ text. old ++ text) (sym (append_assoc path said (10 ∷ [])))
    ∙ ap (λ first. old ++ no_time_line first) (sym is)

map-cond : {A B : Type 0} (f : A → B) (b : Bool) (x : A) → map f (cond b (x ∷ []) []) ≡ cond b (f x ∷ []) []
map-cond f true x = refl
map-cond f false x = refl

module _ (entries : List ReadStatement) (found : DiscoveriesModel) where
  abbrev line_at : ℕ → List ℕ
  line_at edge = doubt_line entries edge (found_at found edge).verdict

  -- the lines of one more edge
  pub lines-more : (n : ℕ) (old new : List ℕ) (verdict : Verdict) → verdict ≡ (found_at found n).verdict
      → new ≡ old ++ doubt_line entries n verdict → old ≡ flat_map line_at (range_with_len 0 n)
      → new ≡ flat_map line_at (range_with_len 0 (n + 1))
  lines-more n old new verdict is more held =
      more ∙ ap (λ lines. lines ++ doubt_line entries n verdict) held
      ∙ ap (λ v. flat_map line_at (range_with_len 0 n) ++ doubt_line entries n v) is
      ∙ sym (texts-of-more line_at n)

  abbrev text_at : ℕ → List ℕ
  text_at edge = fault_text entries edge (found_at found edge).verdict

  abbrev faulty-first : ℕ → List ℕ
  faulty-first n = edges_from 0 (λ edge. is_faulty edge.verdict) (take n found.edges)

  -- the texts of the faults of one more edge
  pub fault-texts-more : (n : ℕ) (old new : List (List ℕ)) (verdict : Verdict)
      → verdict ≡ (found_at found n).verdict
      → new ≡ old ++ text_if_faulty entries verdict n → n < length found.edges
      → old ≡ map text_at (faulty-first n) → new ≡ map text_at (faulty-first (n + 1))
  fault-texts-more n old new verdict is more below held =
      let faulty = is_faulty verdict in
      more ∙ ap (λ texts. texts ++ text_if_faulty entries verdict n) held
      ∙ ap (λ v. map text_at (faulty-first n) ++ cond faulty (fault_text entries n v ∷ []) []) is
      ∙ sym (ap (map text_at) (from-more (λ (edge : FoundModel). is_faulty edge.verdict) found.edges n
      (record { verdict = Known; inputs = [] }) faulty below (ap is_faulty (sym is)))
      ∙ map-append text_at (faulty-first n) (cond faulty (n ∷ []) [])
      ∙ ap (λ texts. map text_at (faulty-first n) ++ texts) (map-cond text_at faulty n))

-- ---- edge by edge

module _ (g : GraphModel) (found : DiscoveriesModel) where
  abbrev pub discovery_in : GraphEdge → EdgeDiscovery
  discovery_in edge = edge_discovery (paths_of edge) (found_at found edge.number)

  -- the discoveries of all edges
  pub all-discoveries : (edges : List GraphEdge) → edges ≡ edges_in g (range_with_len 0 (length (edges_of g)))
      → map discovery_in edges ≡ edge_discoveries (edges_of g) found
  all-discoveries edges is = ap (map discovery_in) is
      ∙ map-map discovery_in (edge_in g) (range_with_len 0 (length (edges_of g)))

-- The lines of chains, by their edges and files.
use Rattle.std.proofs.Common.{◌≡◌, ◌<◌, ◌+◌, ℕ, Option, Some, List, [], ◌∷◌, ◌++◌, append_assoc}
use Rattle.std.proofs.Common.{add-one, drop, drop-cons, get_or, length, slice_get, unwrap_or, sym, ap}
use Rattle.std.proofs.Common.{subst, ◌∙◌}
use Rattle.nj_graph.specs.declared.ChainKinds.{ChainKinds}
use Rattle.nj_graph.specs.declared.FileNo.{FileNo}
use Rattle.nj_graph.specs.declared.Step.{Step}
use Rattle.nj_graph.specs.Chains.{IsShortest, PathIs}
use Rattle.nj_graph.specs.Files.{path_at}
use Rattle.nj_graph.specs.Graph.{GraphModel, files_of}
use Rattle.nj_graph.specs.Handles.{GraphEdge, GraphFile, edge_in, file_in, number_of, paths_of}
use Rattle.nj_tools.specs.declared.EdgeDiscovery.{EdgeDiscovery}
use Rattle.nj_ask.specs.Chains.{chain_lines, is_discovered, HasChain}
use Rattle.nj_ask.specs.Inside.ChainTexts.{step_line}

-- with one more step
pub step-more : (g : GraphModel) (ds : List EdgeDiscovery) (steps : List Step) (i : ℕ) (d : Step)
    (text new all user : List ℕ)
    (edge : GraphEdge) (input : GraphFile) → i < length steps
    → edge ≡ edge_in g (get_or steps i d).edge.0
    → input ≡ file_in g (path_at (files_of g) (get_or steps i d).file)
    → (discovery : Option EdgeDiscovery) → discovery ≡ slice_get ds (get_or steps i d).edge.0
    → new ≡ text ++ step_line edge user input.path (get_or steps i d).kind
    (is_discovered discovery (paths_of edge) (get_or steps i d))
    → text ++ chain_lines g ds user (drop i steps) ≡ all
    → new ++ chain_lines g ds input.path (drop (i + 1) steps) ≡ all
step-more g ds steps i d text new all user edge input below edge-is input-is discovery found is so_far =
    let step = get_or steps i d in
    let rest = drop (i + 1) steps in
    let dropped : drop i steps ≡ step ∷ rest = rw (add-one, drop-cons steps i d) in
    let line = λ (o : Option EdgeDiscovery) (e : GraphEdge) (f : GraphFile).
    step_line e user f.path step.kind (is_discovered o (paths_of e) step) ++ chain_lines g ds f.path rest in
    ap (λ t. t ++ chain_lines g ds input.path rest) is
    ∙ append_assoc text (step_line edge user input.path step.kind
    (is_discovered discovery (paths_of edge) step)) (chain_lines g ds input.path rest)
    ∙ ap (λ o. text ++ line o edge input) found
    ∙ ap (λ e. text ++ line (slice_get ds step.edge.0) e input) edge-is
    ∙ ap (λ f. text ++ line (slice_get ds step.edge.0) (edge_in g step.edge.0) f) input-is
    ∙ ap (λ more. text ++ chain_lines g ds user more) (sym dropped) ∙ so_far

-- two files of a graph, by their numbers
module _ (g : GraphModel) (ds : List EdgeDiscovery) (kinds : ChainKinds) (start end : List ℕ)
    (one other : FileNo)
    (one-at : slice_get (files_of g) one.0 ≡ Some start)
    (other-at : slice_get (files_of g) other.0 ≡ Some end)
    (one-is : one.0 ≡ number_of (file_in g start)) (other-is : other.0 ≡ number_of (file_in g end)) where
  path-one : path_at (files_of g) one ≡ start
  path-one = ap (λ o. unwrap_or o []) one-at

  path-other : path_at (files_of g) other ≡ end
  path-other = ap (λ o. unwrap_or o []) other-at

  -- no other file has its path
  one-file : start ≡ end → one ≡ other
  one-file same =
      ap (λ n. record { 0 = n }) (one-is ∙ ap (λ path. number_of (file_in g path)) same ∙ sym other-is)

  pub has-chain : (steps : List Step) (text : List ℕ)
      → PathIs g.built.graph kinds one other (Some steps) → text ≡ chain_lines g ds start steps
      → HasChain g ds kinds start end text
  has-chain steps text path lines = record {
    steps = steps;
    others = λ same. path.0 (one-file same);
    shortest = subst (λ p. IsShortest g.built.graph kinds start steps p) path-other
        (subst (λ p. IsShortest g.built.graph kinds p steps (path_at (files_of g) other)) path-one
        path.1);
    lines = lines;
  }

-- a text that is written in seven parts
pub seven-parts : (old place rule colon output needs input end one two three four five six seven : List ℕ)
    → one ≡ old ++ place → two ≡ one ++ rule → three ≡ two ++ colon → four ≡ three ++ output
    → five ≡ four ++ needs → six ≡ five ++ input → seven ≡ six ++ end
    → seven ≡ old ++ (place ++ rule ++ colon ++ output ++ needs ++ input ++ end)
seven-parts old place rule colon output needs input end one two three four five six seven p1 p2 p3 p4 p5 p6
    p7 =
    rw (p7, p6, p5, p4, p3, p2, p1) (simp append_assoc)

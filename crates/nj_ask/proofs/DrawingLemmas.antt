-- Drawings of files, by the edges that are found for them.
use Rattle.std.proofs.Common.{◌≡◌, ◌∙◌, ℕ, true, false, List}
use Rattle.std.proofs.Common.{sym, ap, subst}
use Rattle.std.specs.Prelude.{◌↔◌, Contains}
use Rattle.std.specs.List.Sorted.{IsStrictlyIncreasing}
use Rattle.nj_graph.specs.Graph.{GraphModel}
use Rattle.nj_graph.specs.Handles.{GraphEdge, GraphFiles, ListsNeeded, edges_in, files_in}
use Rattle.nj_questions.specs.Questions.{DrawModel}
use Rattle.nj_ask.specs.declared.discovered.DiscoveredGraph.{DiscoveredGraph}
use Rattle.nj_ask.specs.DiscoveredGraphs.{IsTouched}
use Rattle.nj_ask.specs.DrawnNodes.{drawn_nodes}
use Rattle.nj_ask.specs.Drawings.{IsDrawing, ListsEdges, drawing_text}
use Rattle.nj_ask.specs.Drawings.ListsEdges.{needed, touched}

module _ (known : DiscoveredGraph) (options : DrawModel) (files : GraphFiles)
    (same : files.graph ≡ known.graph)
  where
    abbrev pub text_with : (graph : GraphModel) → (edges : List GraphEdge) → List ℕ
    text_with graph edges =
        drawing_text known.discoveries.items options.fold
        (drawn_nodes options (files_in graph files.paths) edges) edges

    -- with the edges that they need
    pub needed-drawing : (found : List GraphEdge) → ListsNeeded files.graph files.paths found
        → options.affected ≡ false
        → (edges : List GraphEdge) → found ≡ edges → (text : List ℕ) → text ≡ text_with files.graph edges
        → IsDrawing known options files.paths text
    needed-drawing found lists is edges are text written = record {
      edges = edges;
      lists = subst (λ b. ListsEdges known files.paths b edges) (sym is)
          (needed (subst (ListsNeeded known.graph files.paths) are
          (subst (λ g. ListsNeeded g files.paths found) same lists)));
      text_is = written ∙ ap (λ g. text_with g edges) same;
    }

    -- with the edges that a change of them touches
    pub touched-drawing : (numbers : List ℕ)
        → ((edge : ℕ) → Contains numbers edge ↔ IsTouched known files.paths edge)
        → IsStrictlyIncreasing numbers → options.affected ≡ true → (text : List ℕ)
        → text ≡ text_with files.graph (edges_in known.graph numbers)
        → IsDrawing known options files.paths text
    touched-drawing numbers are rises is text written = record {
      edges = edges_in known.graph numbers;
      lists = subst (λ b. ListsEdges known files.paths b (edges_in known.graph numbers)) (sym is)
          (touched numbers are rises);
      text_is = written ∙ ap (λ g. text_with g (edges_in known.graph numbers)) same;
    }

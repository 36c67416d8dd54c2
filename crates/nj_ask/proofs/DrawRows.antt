-- Rows of drawings.
use Rattle.std.proofs.Common.{◌≡◌, ℕ, false, Some, None, List, [], ◌∷◌, refl}
use Rattle.std.specs.Prelude.{codes}
use Rattle.std.specs.Fmt.{digits}
use Rattle.std.specs.List.{fold}
use Rattle.nj_graph.specs.Edges.{EdgePaths}
use Rattle.nj_graph.specs.Graph.{GraphModel}
use Rattle.nj_graph.specs.Handles.{edge_in, file_in}
use Rattle.nj_questions.specs.Questions.{DrawModel}
use Rattle.nj_ask.specs.DrawnNodes.{Node, of_edge, of_file, drawn_nodes, mention}
use Rattle.nj_ask.specs.Drawings.{End, arrow_line, count_line, drawn_ends, ends_before}
use Rattle.nj_ask.specs.Drawings.{left_out}

module _ (g : GraphModel) where
  e : ℕ → Node
  e n = of_edge (edge_in g n)

  end_of : ℕ → List ℕ → End
  end_of n style = record { node = e n; style = style }

  -- a node stands where it is mentioned first
  twice : fold mention [] (e 2 ∷ e 5 ∷ e 2 ∷ e 1 ∷ e 5 ∷ []) ≡ e 2 ∷ e 5 ∷ e 1 ∷ []
  unfolding e
  twice = refl

  -- the first end at a drawn node
  once : drawn_ends (e 2 ∷ e 5 ∷ []) [] (end_of 2 [] ∷ end_of 3 [] ∷ end_of 2 (codes "a") ∷ end_of 5
      (codes "b") ∷ [])
      ≡ end_of 2 [] ∷ end_of 5 (codes "b") ∷ []
  unfolding e end_of
  once = refl

  -- `build x: r a a | b || a c`
  x : EdgePaths
  x = record {
    explicit_outputs = codes "x" ∷ [];
    implicit_outputs = [];
    explicit_inputs = codes "a" ∷ codes "a" ∷ [];
    implicit_inputs = codes "b" ∷ [];
    order_only_inputs = codes "a" ∷ codes "c" ∷ [];
    validations = [];
    is_phony = false;
  }

  small : GraphModel
  small = record g {
    built = record g.built {
      graph = record { files = codes "x" ∷ codes "a" ∷ codes "b" ∷ codes "c" ∷ []; edges = x ∷ [] };
      details = [];
    };
  }

  f : List ℕ → Node
  f path = of_file (file_in small path)

  -- the first two inputs
  options : DrawModel
  options = record { targets = []; affected = false; fold = false; limit = None; inputs = Some 2 }

  nodes : List Node
  nodes = drawn_nodes options (file_in small (codes "x") ∷ []) (edge_in small 0 ∷ [])

  two-inputs : nodes ≡ f (codes "x") ∷ of_edge (edge_in small 0) ∷ f (codes "a") ∷ []
  unfolding nodes options f small x
  two-inputs = refl

  three-left : left_out false nodes (edge_in small 0) ≡ 2
  unfolding nodes options small x
  three-left = refl

  one-arrow : drawn_ends nodes [] (ends_before [] false (edge_in small 0))
      ≡ record { node = f (codes "a"); style = [] } ∷ []
  unfolding nodes options f small x
  one-arrow = refl

  dotted : arrow_line (e 12) (f (codes "c")) (codes " [style=dotted]") ≡ codes "  e12 -> f3 [style=dotted];\n"
  unfolding e f small x digits
  dotted = refl

  three-of-twelve : count_line 3 12 ≡ codes "  label=\"3 of 12 edges\";\n"
  unfolding digits
  three-of-twelve = refl

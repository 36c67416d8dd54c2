-- What was found for a graph, before it is joined.
use Rattle.std.specs.Prelude.{◌≡◌, ℕ, if◌then◌else◌, List, [], ◌∷◌, length, map}
use Rattle.nj_graph.specs.declared.Verdict.{Verdict}
use Rattle.nj_graph.specs.Graph.{GraphModel, OfStatements, edges_of}
use Rattle.nj_graph.specs.ReadingList.{ReadStatement}
use Rattle.nj_ask.specs.declared.discovered.DiscoveredGraph.{DiscoveredGraph}
use Rattle.nj_ask.specs.declared.discovered.Findings.{Findings}
use Rattle.nj_ask.specs.DiscoveredGraphs.{doubt_lines, doubtful_edges, edge_discoveries, fault_text, fault_texts, faulty_edges, is_doubtful, is_faulty}
use Rattle.nj_ask.specs.Joined.{AreEdgesOf}

-- as many edges as the graph has, and those of them whose discovered inputs are not known, with what is said of them
pub record AreFindingsOf (g : GraphModel) (findings : Findings) : Type 0 where
  pub count : length findings.found.edges ≡ length (edges_of g)
  pub unknown : map (λ edge. edge.0) findings.doubts.edges.items ≡ doubtful_edges findings.found
  pub known : AreEdgesOf g findings.doubts.edges.items
  pub faulty : map (λ fault. fault.edge.0) findings.doubts.faults.items ≡ faulty_edges findings.found
  pub texts : OfStatements g (λ entries. map (λ fault. fault.text.items) findings.doubts.faults.items ≡ fault_texts entries findings.found)
  pub lines : OfStatements g (λ entries. findings.doubts.lines.items ≡ doubt_lines entries findings.found)
  pub discoveries : findings.doubts.discoveries.items ≡ edge_discoveries (edges_of g) findings.found

-- the number of an edge, where its discovered inputs are not known
abbrev pub if_doubtful : Verdict → (edge : ℕ) → List ℕ
if_doubtful verdict edge = if is_doubtful verdict then edge ∷ [] else []

-- the number of an edge, where its depfile has a fault
abbrev pub if_faulty : Verdict → (edge : ℕ) → List ℕ
if_faulty verdict edge = if is_faulty verdict then edge ∷ [] else []

-- the text of the fault of its depfile, if any
abbrev pub text_if_faulty : List ReadStatement → Verdict → (edge : ℕ) → List (List ℕ)
text_if_faulty entries verdict edge = if is_faulty verdict then fault_text entries edge verdict ∷ [] else []

-- the edges with unknown inputs are edges of the graph
abbrev pub HasEdges : DiscoveredGraph → Type 0
HasEdges known = AreEdgesOf known.graph known.unknown.items

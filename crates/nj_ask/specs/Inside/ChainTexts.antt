-- The lines of a chain, by its edges and files.
use Rattle.std.specs.Prelude.{ℕ, Bool, Option, Some, None, List, ◌++◌, codes}
use Rattle.std.specs.Global.{Vec}
use Rattle.nj_graph.specs.declared.ChainKinds.{ChainKinds}
use Rattle.nj_graph.specs.declared.Kind.{Kind}
use Rattle.nj_graph.specs.Graph.{rule_name}
use Rattle.nj_graph.specs.Handles.{GraphEdge, GraphFile, detail_of_edge}
use Rattle.nj_tools.specs.declared.EdgeDiscovery.{EdgeDiscovery}
use Rattle.nj_ask.specs.Chains.{HasChain, LacksChain, kind_end, place_text}

-- the line of a step from an output of an edge to an input, with its kind or as a discovered one
abbrev pub step_line : GraphEdge → (output : List ℕ) → (input : List ℕ) → Option Kind → (is_discovered : Bool) → List ℕ
step_line edge output input kind is_discovered =
    let detail = detail_of_edge edge in
    place_text detail.file detail.spot.line detail.spot.column ++ rule_name edge.graph.declarations.rules detail.rule ++ codes ": "
    ++ output ++ codes " needs " ++ input ++ kind_end kind is_discovered

-- the text of a chain from a file to another, if any
abbrev pub IsChainText : (from to : GraphFile) → ChainKinds → List EdgeDiscovery → (text : Option (Vec ℕ)) → Type 0
IsChainText from to kinds discoveries (Some text) = HasChain from.graph discoveries kinds from.path to.path text.items
IsChainText from to kinds discoveries None = LacksChain from.graph kinds from.path to.path

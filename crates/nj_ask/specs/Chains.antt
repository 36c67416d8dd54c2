-- The lines of a chain of inputs by which a file needs another.
use Rattle.std.specs.Prelude.{◌≡◌, ◌≢◌, ◌⊎◌, ℕ, ◌-◌, Bool, true, false, ◌&&◌, not, Option, Some, None, List, [], ◌∷◌, ◌++◌, codes, length}
use Rattle.std.specs.Prelude.{nat_lt, slice_get}
use Rattle.std.specs.Fmt.{decimal}
use Rattle.nj_graph.specs.declared.ChainKinds.{ChainKinds}
use Rattle.nj_graph.specs.declared.Kind.{Kind}
use Rattle.nj_graph.specs.declared.Kind.TheVariants.{Explicit, Implicit, OrderOnly}
use Rattle.nj_graph.specs.declared.Step.{Step}
use Rattle.nj_graph.specs.Built.{detail_at}
use Rattle.nj_graph.specs.Chains.{IsChain, IsShortest}
use Rattle.nj_graph.specs.Edges.{EdgePaths, edge_at}
use Rattle.nj_graph.specs.Files.{path_at}
use Rattle.nj_graph.specs.Graph.{GraphModel, edges_of, files_of, rule_name}
use Rattle.nj_tools.specs.declared.EdgeDiscovery.{EdgeDiscovery}

-- `FILE:LINE:COLUMN: `
abbrev pub place_text : (file : List ℕ) → (line column : ℕ) → List ℕ
place_text file line column = file ++ codes ":" ++ decimal line ++ codes ":" ++ decimal column ++ codes ": "

-- the word for an input that builds discovered, or for the kind of another input
abbrev pub kind_word : Option Kind → (is_discovered : Bool) → List ℕ
kind_word kind true = codes "discovered"
kind_word (Some Explicit) false = codes "explicit"
kind_word (Some Implicit) false = codes "implicit"
kind_word (Some OrderOnly) false = codes "order-only"
kind_word None false = codes "validation"

-- the word in brackets, and the line end
abbrev pub kind_end : Option Kind → (is_discovered : Bool) → List ℕ
kind_end kind is_discovered = codes " (" ++ kind_word kind is_discovered ++ codes ")\n"

-- an input is implicit
abbrev pub is_implicit : Option Kind → Bool
is_implicit (Some Implicit) = true
is_implicit (Some Explicit) = false
is_implicit (Some OrderOnly) = false
is_implicit None = false

-- a step from an edge leads to a discovered input: an implicit one after those that the edge had before
abbrev pub is_discovered : Option EdgeDiscovery → EdgePaths → Step → Bool
is_discovered None e step = false
is_discovered (Some discovery) e step =
    is_implicit step.kind && not (nat_lt (step.index - length e.explicit_inputs) discovery.stated_inputs)

-- a step from the file at a path as a line: `FILE:LINE:COLUMN: RULE: OUTPUT needs INPUT (KIND)`
abbrev pub chain_line : GraphModel → List EdgeDiscovery → (from : List ℕ) → Step → List ℕ
chain_line g discoveries from step =
    let detail = detail_at g.built.details step.edge.0 in
    place_text detail.file detail.spot.line detail.spot.column ++ rule_name g.declarations.rules detail.rule ++ codes ": "
    ++ from ++ codes " needs " ++ path_at (files_of g) step.file
    ++ kind_end step.kind (is_discovered (slice_get discoveries step.edge.0) (edge_at (edges_of g) step.edge.0) step)

-- the lines of steps; each begins where the one before it led
abbrev pub chain_lines : GraphModel → List EdgeDiscovery → (from : List ℕ) → List Step → List ℕ
chain_lines g discoveries from [] = []
chain_lines g discoveries from (step ∷ steps) =
    chain_line g discoveries from step ++ chain_lines g discoveries (path_at (files_of g) step.file) steps

-- The text has the lines of a shortest chain by inputs of the given kinds from a file to another.
pub record HasChain (g : GraphModel) (discoveries : List EdgeDiscovery) (kinds : ChainKinds) (from to : List ℕ) (text : List ℕ)
    : Type 0 where
  pub steps : List Step
  pub others : from ≢ to
  pub shortest : IsShortest g.built.graph kinds from steps to
  pub lines : text ≡ chain_lines g discoveries from steps

-- there is no chain, as always from a file to itself
abbrev pub LacksChain : GraphModel → ChainKinds → (from to : List ℕ) → Type 0
LacksChain g kinds from to = (from ≡ to) ⊎ ((steps : List Step) → ¬ IsChain g.built.graph kinds from steps to)

-- Parts of the answer to `audit`.
use Rattle.std.specs.Prelude.{◌≡◌, ℕ, Bool, Option, Some, List, ◌++◌, option_map}
use Rattle.nj_graph.specs.ReadingList.{ReadStatement}
use Rattle.nj_graph.specs.Graph.{GraphModel, edges_of}
use Rattle.nj_audit.specs.Findings.{FindingModel}
use Rattle.nj_audit.specs.Serving.{AreServing}
use Rattle.nj_ask.specs.declared.discovered.DiscoveredGraph.{DiscoveredGraph}
use Rattle.nj_ask.specs.Audits.{WouldBeMissing, lookup_lines, unknown_kind_line}
use Rattle.nj_ask.specs.Shape.{caveat_text}

-- the line about the first word that does not name a kind
abbrev pub SaysUnknown : Option (List ℕ) → (line : List ℕ) → Type 0
SaysUnknown first line = option_map unknown_kind_line first ≡ Some line

-- it is determined which edges serve commands
abbrev pub HasServing : GraphModel → Type 0
HasServing g = (flags : List Bool) × AreServing (edges_of g) flags

-- a line for each source that cannot be looked up, and the caveats about builds
abbrev pub AreWarnings : DiscoveredGraph → List ReadStatement → (unknown : List Bool) → (lines : List ℕ) → Type 0
AreWarnings known entries unknown lines =
    (lookups : List FindingModel) × WouldBeMissing known.graph unknown lookups
    × (lines ≡ lookup_lines lookups ++ caveat_text known entries)

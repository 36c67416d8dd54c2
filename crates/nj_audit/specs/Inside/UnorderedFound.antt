-- How the files that are unordered with an edge are found. Nothing here has to be believed.
use Rattle.std.specs.Prelude.{◌≡◌, ℕ, if◌then◌else◌, List, [], ◌∷◌, ◌++◌, map}
use Rattle.nj_names.specs.NameTables.{with_name}
use Rattle.nj_graph.specs.Edges.{is_among}
use Rattle.nj_graph.specs.Handles.{GraphEdge}
use Rattle.nj_audit.specs.Findings.{FindingModel}
use Rattle.nj_audit.specs.Inside.FileSets.{FileSetModel}
use Rattle.nj_audit.specs.Inside.Handles.{finding_at}
use Rattle.nj_audit.specs.UnorderedFiles.{AreUnordered}
use Rattle.nj_audit.specs.declared.kinds.Kind.TheVariants.{UndeclaredInput}

-- the findings about the given files that are unordered with an edge come after the other findings
pub record AddsUnordered (edge : GraphEdge) (files : List ℕ) (old new : List FindingModel) : Type 0 where
  pub paths : List (List ℕ)
  pub unordered : AreUnordered edge.graph edge.number files paths
  pub found : new ≡ old ++ map (finding_at edge UndeclaredInput) paths

-- a path is found, unless it was seen, and is seen from now on
pub record AddsOnce (edge : GraphEdge) (path : List ℕ) (seen new_seen : FileSetModel) (old new : List FindingModel) : Type 0 where
  pub found : new ≡ old ++ (if is_among seen.paths path then [] else finding_at edge UndeclaredInput path ∷ [])
  pub seen_now : new_seen ≡ record seen { paths = with_name seen.paths path }

-- between two files: the paths of the files before that are unordered with the edge were found and seen
pub record KnowsUnordered (edge : GraphEdge) (files : List ℕ) (seen : List (List ℕ)) (old found : List FindingModel) : Type 0 where
  pub are_unordered : AreUnordered edge.graph edge.number files seen
  pub are_found : found ≡ old ++ map (finding_at edge UndeclaredInput) seen

-- How the tables of a change are filled.
use Rattle.std.specs.Prelude.{◌≡◌, ◌↔◌, ℕ, List, [], ◌++◌, Contains}
use Rattle.std.specs.Global.{Vec}
use Rattle.std.specs.List.{filter, flat_map}
use Rattle.nj_changes.specs.Tables.{HasMore}
use Rattle.nj_chosen.specs.Reasons.{without}
use Rattle.nj_chosen.specs.declared.tables.ChangedPaths.{ChangedPaths}
use Rattle.nj_graph.specs.Changes.{IsAffected}
use Rattle.nj_graph.specs.Edges.{outputs_of}
use Rattle.nj_graph.specs.Graph.{GraphModel, edges_of}
use Rattle.nj_graph.specs.ReadingList.{ReadStatement}
use Rattle.nj_reached.specs.GraphChanges.{full_paths, is_compiled, noticed_outputs, outputs_at, outputs_made}

-- paths of outputs are not known yet
pub record IsUnfilled (roots : Vec (Vec ℕ)) (changed : List (List ℕ)) (paths : ChangedPaths) : Type 0 where
  pub roots_are : paths.roots ≡ roots
  pub changed_are : paths.changed ≡ changed
  pub outputs : paths.outputs ≡ []
  pub made : paths.made ≡ []
  pub affected : paths.affected ≡ []
  pub needing : paths.needing ≡ []
  pub noticed : paths.noticed ≡ []

-- the paths of a change are added
pub record Fills (g : GraphModel) (entries : List ReadStatement) (folder : List ℕ) (files : List (List ℕ)) (touched : List ℕ)
    (old new : ChangedPaths) : Type 0 where
  pub roots : new.roots ≡ old.roots
  pub changed : new.changed ≡ old.changed
  pub outputs : HasMore old.outputs (full_paths folder (flat_map outputs_of (edges_of g))) new.outputs
  pub made : HasMore old.made (full_paths folder (flat_map outputs_made (edges_of g))) new.made
  pub affected : HasMore old.affected (full_paths folder (outputs_at (edges_of g) touched)) new.affected
  pub needers : List ℕ
  pub need : (edge : ℕ) → Contains needers edge ↔ IsAffected (edges_of g) (files ++ outputs_at (edges_of g) touched) edge
  pub needing : HasMore old.needing (full_paths folder (outputs_at (edges_of g) needers)) new.needing
  pub noticed : HasMore old.noticed (full_paths folder (flat_map (noticed_outputs entries (edges_of g)) touched)
      ++ without (full_paths folder (filter (is_compiled entries (edges_of g)) files)) old.changed) new.noticed

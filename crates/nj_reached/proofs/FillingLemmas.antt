-- A change whose tables are filled.
use Rattle.std.proofs.Common.{◌≡◌, ℕ, List, [], ◌++◌, map, refl, ap, subst, ◌∙◌}
use Rattle.std.specs.Global.{Vec}
use Rattle.std.specs.List.{filter, flat_map}
use Rattle.nj_changes.specs.Tables.{HasMore, SameNames}
use Rattle.nj_chosen.specs.ChangedPaths.{change_by}
use Rattle.nj_chosen.specs.declared.tables.ChangedPaths.{ChangedPaths}
use Rattle.nj_graph.specs.Edges.{outputs_of}
use Rattle.nj_graph.specs.Graph.{GraphModel, edges_of}
use Rattle.nj_graph.specs.ReadingList.{ReadStatement}
use Rattle.nj_reached.specs.GraphChanges.{IsChangeOf, full_paths, is_compiled, noticed_outputs, outputs_at}
use Rattle.nj_reached.specs.GraphChanges.{outputs_made}
use Rattle.nj_chosen.specs.Reasons.{without}
use Rattle.nj_reached.specs.Inside.Filling.{Fills, IsUnfilled}

from-none : (old more new : List (List ℕ)) → old ≡ [] → HasMore old more new → SameNames new more
from-none old more new none has = subst (λ names. HasMore names more new) none has

pub filled : (g : GraphModel) (entries : List ReadStatement) (folder : List ℕ) (roots : Vec (Vec ℕ))
    (changed files : List (List ℕ)) (touched : List ℕ) (old new : ChangedPaths) → IsUnfilled roots changed old
    → Fills g entries folder files touched old new
    → IsChangeOf g entries (record {
      folder = folder;
      roots = map (λ (root : Vec ℕ). root.items) roots.items;
      changed = changed;
      files = files;
      touched = touched;
    }) (change_by folder new)
filled g entries folder roots changed files touched old new none fills =
    let counts : List (List ℕ) → List (List ℕ) = λ others.
    full_paths folder (flat_map (noticed_outputs entries (edges_of g)) touched)
    ++ without (full_paths folder (filter (is_compiled entries (edges_of g)) files)) others in
    record {
      build = refl;
      roots = ap (λ (v : Vec (Vec ℕ)). map (λ (root : Vec ℕ). root.items) v.items)
          (fills.roots ∙ none.roots_are);
      outputs = from-none old.outputs (full_paths folder (flat_map outputs_of (edges_of g))) new.outputs
          none.outputs fills.outputs;
      made = from-none old.made (full_paths folder (flat_map outputs_made (edges_of g))) new.made none.made
          fills.made;
      affected = from-none old.affected (full_paths folder (outputs_at (edges_of g) touched)) new.affected
          none.affected fills.affected;
      needers = fills.needers;
      need = fills.need;
      needing = from-none old.needing (full_paths folder (outputs_at (edges_of g) fills.needers)) new.needing
          none.needing fills.needing;
      changed = fills.changed ∙ none.changed_are;
      noticed = from-none old.noticed (counts changed) new.noticed none.noticed
          (subst (λ others. HasMore old.noticed (counts others) new.noticed) none.changed_are fills.noticed);
    }

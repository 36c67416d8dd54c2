use Rattle.std.proofs.Common.{◌++◌, ◌∙◌, ap, map}
use Rattle.nj_tools.proofs.EdgeLists.{edges-in}
use Rattle.nj_ask.proofs.DoubtLemmas.{all-discoveries, discovery_in}
use Rattle.nj_ask.proofs.doubts.discoveries_of.Goals as goal

pub edges-init : goal.edges-init
edges-init c =
    let g = c.args.graph.now in
    let found = c.args.found.now in
    let edges = c.into_iter-edge-iterator.result in
    let is = c.into_iter-edge-iterator.ensures.into_iter_gives ∙ c.edges-edge-items.ensures in
    record {
      of = rw is (edges-in g _);
      so_far = ap (λ done. done ++ map (discovery_in g found) edges) c.in_ok-discoveries.ensures.items
          ∙ all-discoveries g found edges is;
    }

use Rattle.std.proofs.Common.{bytes_eq, subst, sym}
use Rattle.std.specs.List.{IsDistinct}
use Rattle.nj_edges.specs.Inside.EdgesHeld.{EdgesAreHeld}
use Rattle.nj_edges.proofs.EdgeLemmas.{sources-held}
use Rattle.nj_edges.proofs.joined_edges.JoinedEdges.with_capacity.Goals as goal

pub invariant_of-result : goal.invariant_of-result
invariant_of-result c =
    let once = subst (IsDistinct bytes_eq) (sym c.files-files.ensures.files)
    c.files-files.ensures.each_path_once
    in
    subst (EdgesAreHeld c.files-files.result.now) (sym c.in_ok-lists.ensures)
    (sources-held c.files-files.result.now c.count.result once c.count.ensures.count)

use Rattle.std.proofs.Common.{refl, sym}
use Rattle.std.proofs.Common.{subst}
use Rattle.nj_edges.specs.Edges.{edge_at, inputs_of}
use Rattle.nj_edges.proofs.ChangeLemmas.{files-paths}
use Rattle.nj_edges.specs.Inside.NeedsSearched.{IsSearched}
use Rattle.nj_edges.proofs.NeedsLemmas.{started, starts-are}
use Rattle.nj_edges.proofs.search_state.SearchState.start_at.Goals as goal

pub returns-then-is_at : goal.returns-then-is_at
returns-then-is_at c = record {
  starts_are = c.requires.search.at_edge c.args.edge (c.is_at.ensures c.if-is_at.true);
  search = c.requires.search;
}

pub returns : goal.returns
returns c =
    let g = c.args.graph.now in
    let s = c.start_with_next.new.self in
    let starts = c.in_ok-start_with_next.ensures g.edges c.requires.search.searched in
    let inputs = files-paths g.files c.inputs.result.now (inputs_of (edge_at g.edges c.args.edge.0))
    c.inputs.ensures.files in
    started g.edges _ c.args.edge refl
    (starts-are g c.args.edge.0 c.inputs.result.now c.put_makers.new.edges.items s.starts.items inputs
    c.in_ok-put_makers.ensures starts.starts_are)
    (subst (λ ss. IsSearched g.edges ss s.found s.place) (sym starts.starts_are) starts.searched)

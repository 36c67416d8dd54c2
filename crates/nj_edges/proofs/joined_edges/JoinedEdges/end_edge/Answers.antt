use Rattle.std.proofs.Common.{◌∙◌, ap, subst, sym}
use Rattle.nj_edges.specs.Inside.EdgesHeld.{EdgesAreHeld, lists_of, table_of}
use Rattle.nj_edges.proofs.EdgeLemmas.{end-value, ended-within, held-ended, table-ended}
use Rattle.nj_edges.proofs.joined_edges.JoinedEdges.end_edge.Goals as goal

pub invariant_of-self-2 : goal.invariant_of-self-2
invariant_of-self-2 c = subst (EdgesAreHeld c.self.inside.files.now) (sym c.in_ok-end_edge.ensures.ended)
    (held-ended _ (lists_of c.self.inside.lists) c.self.invariant c.args.kinds c.args.is_phony
    (ended-within c.self.inside.files.now (lists_of c.self.inside.lists) c.args.kinds _ c.self.view_is
    c.requires))

pub returns : goal.returns
returns c = ap (table_of c.self.inside.files.now) c.in_ok-end_edge.ensures.ended
    ∙ table-ended _ _ c.self.invariant c.args.kinds c.args.is_phony
    ∙ ap (end-value c.args.kinds c.args.is_phony) c.self.view_is

use Rattle.std.proofs.Common.{◌∙◌, ap, subst, sym}
use Rattle.nj_edges.specs.Inside.EdgesHeld.{TableIsHeld, lists_of, table_of}
use Rattle.nj_edges.proofs.AddLemmas.{ended-held}
use Rattle.nj_edges.proofs.EdgeLemmas.{table-ended, end-value, ended-within}
use Rattle.nj_edges.proofs.edges.Edges.end_edge.Goals as goal

pub invariant_of-self-2 : goal.invariant_of-self-2
invariant_of-self-2 c = subst (TableIsHeld c.self.inside.files) (sym c.in_ok-end_edge.ensures.ended)
    (ended-held _ (lists_of c.self.inside.lists) c.self.invariant c.args.kinds c.args.is_phony
    (ended-within c.self.inside.files (lists_of c.self.inside.lists) c.args.kinds _ c.self.view_is
    c.requires))

pub returns-clause-ended : goal.returns-clause-ended
returns-clause-ended c = ap (table_of c.self.inside.files) c.in_ok-end_edge.ensures.ended
    ∙ table-ended _ _ c.self.invariant.edges_are c.args.kinds c.args.is_phony
    ∙ ap (end-value c.args.kinds c.args.is_phony) c.self.view_is

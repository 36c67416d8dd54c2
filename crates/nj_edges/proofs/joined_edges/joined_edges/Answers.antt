use Rattle.std.proofs.Common.{◌∙◌, ap, arith}
use Rattle.nj_edges.specs.EdgeTables.{EdgeTable}
use Rattle.nj_edges.proofs.JoinedLemmas.{all-held, all-table, inputs-inside, joined-all, joined-next}
use Rattle.nj_edges.proofs.JoinedLemmas.{outputs-inside}
use Rattle.nj_edges.proofs.NamedLemmas.{table-files}
use Rattle.nj_edges.proofs.joined_edges.joined_edges.Goals as goal

pub push_edge-requires-clause-outputs : goal.push_edge-requires-clause-outputs
push_edge-requires-clause-outputs c = rw c.spans_of.ensures
    (outputs-inside c.args.edges c.args.added.now c.requires c.rows.edge _ (omega arith))

pub push_edge-requires-clause-inputs : goal.push_edge-requires-clause-inputs
push_edge-requires-clause-inputs c = rw c.spans_of.ensures
    (inputs-inside c.args.edges c.args.added.now c.requires c.rows.edge _ (omega arith))

pub rows-preserved : goal.rows-preserved
rows-preserved c =
    let is = rw c.spans_of.ensures at c.in_ok-push_edge.ensures in
    joined-next c.args.edges c.args.added.now c.requires c.rows.edge _
    (omega arith) c.rows.joined c.push_edge.new.self c.rows.invariant is

pub invariant_of-result : goal.invariant_of-result
invariant_of-result c =
    all-held c.args.edges c.args.added.now c.requires c.edges.inside.files _ _ c.joined-2.invariant
    (c.joined-2.view_is ∙ c.rows.invariant ∙ joined-all c.args.edges c.args.added.now c.requires
    c.rows.edge (omega arith))
    (ap (λ (t : EdgeTable). t.files) c.edges.view_is) (table-files _ _ c.edges.invariant
    c.args.edges c.edges.view_is)

pub returns : goal.returns
returns c =
    all-table c.args.edges c.args.added.now c.requires c.edges.inside.files _ _ c.joined-2.invariant
    (c.joined-2.view_is ∙ c.rows.invariant ∙ joined-all c.args.edges c.args.added.now c.requires
    c.rows.edge (omega arith))
    (ap (λ (t : EdgeTable). t.files) c.edges.view_is) (table-files _ _ c.edges.invariant
    c.args.edges c.edges.view_is)

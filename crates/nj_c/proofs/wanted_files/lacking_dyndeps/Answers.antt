use Rattle.std.proofs.Common.{◌≡◌, ◌<◌, ◌≤◌, length, sym, ap, subst, ◌∙◌, arith}
use Rattle.std.specs.Prelude.{option_copied}
use Rattle.std.proofs.lemmas.List.{take_all}
use Rattle.nj_statements.specs.EdgeList.{assigned_at, assigned_read}
use Rattle.nj_graph.specs.Handles.{GraphEdge, OfEdge}
use Rattle.nj_c.proofs.DyndepLemmas.{lacking, named-more, named-same, none-is, one-for-each}
use Rattle.nj_c.proofs.wanted_files.lacking_dyndeps.Goals as goal
use Rattle.nj_c.proofs.wanted_files.lacking_dyndeps.Goals.{in-Some+in_ok-name_if_lacking, in_default}

pub edges-preserved : goal.edges-preserved
edges-preserved c entries graph =
    let h = c.args.files.now in let n = c.edges.number in let assigned = c.args.graph.now.built.assigned in
    let counted = rw c.deref.ensures at c.edge_count-number-end.ensures.count in let one =
    one-for-each c.args.graph.now entries graph in
    let below : n < length assigned = omega (arith, counted, one, c.edges-test.true) in
    let given = subst (λ (e : GraphEdge). OfEdge e (λ read number. option_copied c.dyndep.result
    ≡ (assigned_at (assigned_read read) number).dyndep)) c.edge_at.ensures c.dyndep.ensures in
    let bound = ap (λ all. (assigned_at all n).dyndep) graph.built.assigned ∙ sym (given entries graph) in
    let held = c.edges.invariant entries graph in
    elim c.match-dyndep.branch [
      | in-Some+in_ok-name_if_lacking w ↦
          named-more h assigned n below c.edges.lacking c.match-dyndep.lacking w.in-Some.path.now
          (bound ∙ ap option_copied w.in-Some.is) held
          (w.lacking-is ∙ w.in_ok-name_if_lacking.ensures)
      | in_default w ↦
          w.lacking-is ∙ named-same h assigned n below c.edges.lacking
          (bound ∙ ap option_copied (none-is c.dyndep.result w.in_default.not-Some)) held
    ]

pub returns : goal.returns
returns c entries graph =
    let assigned = c.args.graph.now.built.assigned in
    let counted = rw c.deref.ensures at c.edge_count-number-end.ensures.count in let one =
    one-for-each c.args.graph.now entries graph in
    let all : length assigned ≤ c.edges.number = omega (arith, counted, one, c.edges-test.false) in
    c.edges.invariant entries graph ∙ ap (lacking c.args.files.now) (take_all c.edges.number assigned all)

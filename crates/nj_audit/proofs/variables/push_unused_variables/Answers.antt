use Rattle.std.proofs.Common.{◌+◌, ◌++◌, drop, sym, ap, ◌∙◌}
use Rattle.std.specs.Prelude.{option_copied}
use Rattle.nj_statements.specs.EdgeList.{block_names_at, edges_read}
use Rattle.nj_graph.specs.Handles.{edge_of}
use Rattle.nj_audit.specs.Audit.{is_unused_variable, unused_names}
use Rattle.nj_audit.specs.Inside.Handles.{finding_at}
use Rattle.nj_audit.specs.declared.kinds.Kind.TheVariants.{UnusedVariable}
use Rattle.nj_audit.proofs.ListLemmas.{drop-next, drop-past, filter-map-append, left-step, none-is}
use Rattle.nj_audit.proofs.variables.push_unused_variables.Goals as goal
use Rattle.nj_audit.proofs.variables.push_unused_variables.Goals.{in-Some+in_ok-push_if_unused, in_default}

pub names-preserved : goal.names-preserved
names-preserved c entries graph =
    let edge = edge_of c.args.edge in
    let all = unused_names edge.graph edge.number in
    let names = block_names_at (edges_read entries) edge.number in
    let i = c.names.index in
    let held = c.names.invariant entries graph in
    elim c.match-block_name.branch [
      | in-Some+in_ok-push_if_unused w ↦
          let here = sym (c.block_name.ensures entries graph) ∙ ap option_copied w.in-Some.is in
          ap (λ t. t ++ all (drop (i + 1) names)) w.found-is
          ∙ left-step all (filter-map-append (finding_at edge UnusedVariable)
          (is_unused_variable edge.graph edge.number)) w.in-Some.name.now (drop (i + 1) names) c.names.found
          w.push_if_unused.new.found w.in_ok-push_if_unused.ensures
          ∙ ap (λ ns. c.names.found ++ all ns) (sym (drop-next names i w.in-Some.name.now here)) ∙ held
      | in_default w ↦
          let none = sym (c.block_name.ensures entries graph)
          ∙ ap option_copied (none-is c.block_name.result w.in_default.not-Some) in
          ap (λ t. t ++ all (drop (i + 1) names)) w.found-is
          ∙ ap (λ ns. c.names.found ++ all ns) (sym (drop-past names i none)) ∙ held
    ]

use Rattle.std.proofs.Common.{◌∷◌, ◌++◌, ◌∙◌, suc, length, ap}
use Rattle.nj_scope.specs.ReadingList.{value_after}
use Rattle.nj_edge_env.specs.LateStrings.{late_in}
use Rattle.nj_edge_env.specs.LateEdges.{late_names}
use Rattle.nj_edge_env.proofs.late_edge.LateEdge.append_late_text.Goals as goal

pub returns-in-Ok-clause-appended : goal.returns-in-Ok-clause-appended
returns-in-Ok-clause-appended c = λ entries around by scope.
    let n = late_names c.args.self.now (value_after entries (c.args.self.now.scope.0 ∷ around)) in
    let old = c.args.out.now.items in
    let asked = c.args.asked.now in
    c.in-Ok.ensures.appended.text entries around by scope
    ∙ ap (λ d. old ++ late_in (suc d) c.is_quoted.result n asked) c.line_count-depth.ensures
    ∙ ap (λ q. old ++ late_in (suc (length c.args.self.now.rule.now.lines)) q n asked) c.is_quoted.ensures

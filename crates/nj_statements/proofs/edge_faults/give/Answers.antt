use Rattle.std.proofs.Common.{◌++◌, sym, ap, ◌∙◌}
use Rattle.nj_scope.specs.ReadingList.{value_after}
use Rattle.nj_edge_env.specs.LateStrings.{asked_text}
use Rattle.nj_edge_env.specs.LateEdges.{late_names}
use Rattle.nj_statements.proofs.Holding.{on-ok}
use Rattle.nj_statements.proofs.edge_faults.give.Goals as goal
use Rattle.std.proofs.Common.{◌∷◌}

pub returns : goal.returns
returns c = λ entries n sees.
    let names = late_names c.args.edge (value_after entries (c.args.edge.scope.0 ∷ sees.around)) in
    on-ok c.append_late_text.result (c.append_late_text.ensures.appended entries sees.around sees.declared
    sees.within)
    (λ is. is ∙ ap (λ front. front ++ asked_text names c.args.name.now) c.clear.ensures.items
    ∙ ap (λ m. asked_text m c.args.name.now) (sym sees.are))

use Rattle.std.proofs.Common.{◌++◌, ◌∙◌, ap, codes}
use Rattle.nj_tools.specs.Inside.Pieces.{output_lines, path_lines}
use Rattle.nj_tools.proofs.QueryLemmas.{lines_in}
use Rattle.nj_tools.proofs.TextLemmas.{left_less}
use Rattle.nj_tools.proofs.queries.append_outputs.Goals as goal

pub edges-preserved : goal.edges-preserved
edges-preserved c =
    let old = c.edges.text.items in
    left_less old _ (output_lines c.next.new.self) c.edges.invariant (ap output_lines c.in-Some.ensures.steps)
    (c.in_ok-append_paths.ensures
    ∙ ap (λ t. old ++ t) (ap (path_lines (codes "    ")) c.outputs.ensures ∙ lines_in (codes "    ") _ _))

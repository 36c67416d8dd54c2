use Rattle.std.proofs.Common.{◌∷◌, unwrap_or, ap, sym, ◌∙◌}
use Rattle.nj_text.specs.Numbers.{leading_number_of}
use Rattle.nj_scope.specs.Limits.{is_depth}
use Rattle.nj_graph.proofs.Holding.{depth-next, depths-next}
use Rattle.nj_graph.proofs.reader.Reader.depth.Goals as goal

pub lines-preserved : goal.lines-preserved
lines-preserved c = λ entries around by inside.
    let scope = c.args.file.scope.0 ∷ around in
    let lines = c.args.lines.now in
    let i = c.lines.line-index in
    let line = c.line-item.result in
    let text = c.in_ok-text.ensures entries around by inside.within in (
      (c.lines.invariant entries around by inside).0
          ∙ depths-next c.args.file.name.now scope entries lines i line c.lines-test.true c.line-item.is
          (sym (c.is_depth.ensures ∙ ap is_depth (c.deref.ensures.value ∙ text)) ∙ c.if-not-is_depth.false),
      c.unwrap_or-depth.ensures ∙ ap (λ o. unwrap_or o 0)
          (c.leading_number.ensures ∙ ap leading_number_of (c.deref-in-lines.ensures.value ∙ text))
          ∙ sym (depth-next scope entries lines i line c.lines-test.true c.line-item.is),
    )

use Rattle.std.proofs.Common.{List, length, not, ◌==◌, sym, ap, ◌∙◌}
use Rattle.nj_text.specs.declared.word.Part.{Part}
use Rattle.nj_manifest.proofs.GivenKeys.{given-so, given-before}
use Rattle.nj_manifest.proofs.block_lines.gives.Goals as goal
use Rattle.nj_manifest.proofs.block_lines.gives.Goals.{then-eq, else-eq}

pub lines-preserved : goal.lines-preserved
lines-preserved c =
    elim c.if-eq.branch [
      | then-eq w ↦ given-so c.args.key.now c.args.lines.now c.lines.line-index c.line-item.result
          c.lines.given c.if-eq.given c.lines-test.true c.line-item.is c.lines.invariant
          (sym c.eq.ensures ∙ w.if-eq.true)
          (w.given-is ∙ ap not (w.is_empty-given.ensures
          ∙ ap (λ (ps : List Part). length ps == 0) w.as_slice.ensures))
      | else-eq w ↦ given-before c.args.key.now c.args.lines.now c.lines.line-index c.line-item.result
          c.lines.given c.if-eq.given c.lines-test.true c.line-item.is c.lines.invariant
          (sym c.eq.ensures ∙ w.if-eq.false) w.given-is
    ]

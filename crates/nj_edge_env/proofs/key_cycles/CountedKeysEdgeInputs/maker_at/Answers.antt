use Rattle.std.proofs.Common.{◌∙◌, Some, sym, ap, arith}
use Rattle.nj_edge_env.proofs.CycleLemmas.{maker-past, maker-at, maker-some, maker-uncounted}
use Rattle.nj_edge_env.proofs.CycleLemmas.{maker-unreferred}
use Rattle.nj_edge_env.proofs.key_cycles.CountedKeysEdgeInputs.maker_at.Goals as goal
use Rattle.nj_edge_env.proofs.key_cycles.CountedKeysEdgeInputs.maker_at.Goals.{else-is_marked-via-then-is_marked+else-refers}
use Rattle.nj_edge_env.proofs.key_cycles.CountedKeysEdgeInputs.maker_at.Goals.{else-is_marked-via-else-is_marked}

pub returns-then-other-key_count-clause-maker : goal.returns-then-other-key_count-clause-maker
returns-then-other-key_count-clause-maker c =
    sym (maker-past c.args.self.now.references.now c.args.self.now.counts.now c.args.key c.args.other
    (omega arith))

pub returns-then-refers-clause-maker : goal.returns-then-refers-clause-maker
returns-then-refers-clause-maker c =
    let keys = c.args.self.now.references.now in
    let counts = c.args.self.now.counts.now in
    sym (maker-at keys counts c.args.key c.args.other (omega arith)
    ∙ ap Some (maker-some keys counts c.args.key c.args.other
    (sym c.is_marked.ensures ∙ c.if-is_marked.true) (sym c.refers.ensures ∙ c.if-refers.true)))

pub returns-else-is_marked-clause-maker : goal.returns-else-is_marked-clause-maker
returns-else-is_marked-clause-maker c =
    let keys = c.args.self.now.references.now in
    let counts = c.args.self.now.counts.now in
    sym (maker-at keys counts c.args.key c.args.other (omega arith) ∙ ap Some (elim c.else-is_marked.branch [
      | else-is_marked-via-then-is_marked+else-refers w ↦
          maker-unreferred keys counts c.args.key c.args.other (sym w.refers.ensures ∙ w.if-refers.false)
      | else-is_marked-via-else-is_marked w ↦
          maker-uncounted keys counts c.args.key c.args.other (sym c.is_marked.ensures ∙ w.if-is_marked.false)
    ]))

use Rattle.std.proofs.lemmas.Result.{on_ok_weaker}
use Rattle.nj_tools.proofs.QueryLemmas.{maker_is}
use Rattle.nj_tools.proofs.TextLemmas.{added, added_is}
use Rattle.nj_tools.proofs.queries.append_edge.Goals as goal

pub returns : goal.returns
returns c entries graph = on_ok_weaker c.append_validations.result (λ is.
    let base = c.args.text.now.items in
    added_is base _ _ (added base _ _ c.in_ok-append_line.ensures c.in_ok-append_inputs.ensures) is
    (maker_is entries _ _ c.rule_name.result.now c.validations.result (c.rule_name.ensures entries graph)
    c.validations.ensures)) c.append_validations.ensures

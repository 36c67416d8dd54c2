use Rattle.std.proofs.Common.{arith, rules}
use Rattle.std.proofs.lemmas.List.{at_drop_all, at_drop_more}
use Rattle.nj_tools.proofs.OutputLemmas.{ended, leaves_next, leaves_none, stops-with, stops_next}
use Rattle.nj_tools.proofs.output.Output.texts.Goals as goal

pub returns-in_err-ended-clause-text : goal.returns-in_err-ended-clause-text
returns-in_err-ended-clause-text g c =
    stops-with c.from_residual.result c.from_residual.ensures.1
    (stops_next _ _ c.texts.invariant.left
    (at_drop_more (ended c.args.end) c.args.texts.now c.texts.text-index _ (omega arith))
    c.in_err-ended.ensures.text)

pub texts-preserved : goal.texts-preserved
texts-preserved g c = record {
  same = search rules;
  left = leaves_next _ _ c.texts.invariant.left
      (at_drop_more (ended c.args.end) c.args.texts.now c.texts.text-index _ (omega arith))
      c.in_ok-ended.ensures.text;
}

pub returns-clause-text : goal.returns-clause-text
returns-clause-text g c =
    leaves_none c.texts.invariant.left
    (at_drop_all (ended c.args.end) c.args.texts.now c.texts.text-index (omega arith))

use Rattle.std.proofs.Common.{ap, refl, rules}
use Rattle.nj_tools.specs.Inside.Pieces.{lines_of_rule}
use Rattle.nj_tools.proofs.OutputLemmas.{adds_block, leaves_all, leaves_next, leaves_none, stops-with}
use Rattle.nj_tools.proofs.OutputLemmas.{stops_block, stops_memory, stops_next}
use Rattle.nj_tools.proofs.target_lists.write_by_rule.Goals as goal

pub files-init : goal.files-init
files-init g c = record {
  same = search rules;
  left = leaves_all _ _ _ (ap (lines_of_rule c.args.rule.now)
      c.into_iter-file-iterator.ensures.into_iter_gives);
}

pub returns-in_err-append_made-clause-text : goal.returns-in_err-append_made-clause-text
returns-in_err-append_made-clause-text g c =
    stops-with c.from_residual.result c.from_residual.ensures.1 (stops_memory c.files.invariant.left _ refl)

pub files-preserved : goal.files-preserved
files-preserved g c = record {
  same = search rules;
  left = leaves_next _ _ c.files.invariant.left
      (ap (lines_of_rule c.args.rule.now) c.in-Some.ensures.steps)
      (adds_block _ refl c.in_ok-append_made.ensures c.in_ok-write_block.ensures.text);
}

pub returns-in_err-write_block-clause-text : goal.returns-in_err-write_block-clause-text
returns-in_err-write_block-clause-text g c =
    stops-with c.from_residual-in_err-write_block.result c.from_residual-in_err-write_block.ensures.1
    (stops_next _ _ c.files.invariant.left
    (ap (lines_of_rule c.args.rule.now) c.in-Some.ensures.steps)
    (stops_block _ refl c.in_ok-append_made.ensures c.in_err-write_block.ensures.text))

pub returns-clause-text : goal.returns-clause-text
returns-clause-text g c =
    leaves_none c.files.invariant.left (ap (lines_of_rule c.args.rule.now) c.in-None.ensures.steps.0)

use Rattle.nj_tools.specs.Inside.Outputs.{IsSame, Leaves}
use Rattle.nj_tools.specs.Inside.Pieces.{lines_of_rule}
use Rattle.nj_tools.proofs.target_lists.write_by_rule.Given as goal

abbrev pub invariant-files : goal.invariant-files
invariant-files g l = record {
  same : IsSame l.fn.out l.out;
  left : Leaves g.S.Sink.state l.fn.out l.out (lines_of_rule l.rule l.fn.files)
      (lines_of_rule l.rule l.file-iterator);
}

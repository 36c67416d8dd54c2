use Rattle.std.proofs.Common.{drop}
use Rattle.nj_tools.specs.Inside.Outputs.{IsSame, Leaves}
use Rattle.nj_tools.proofs.OutputLemmas.{ended}
use Rattle.nj_tools.proofs.output.Output.texts.Given as goal

abbrev pub invariant-texts : goal.invariant-texts
invariant-texts g l = record {
  same : IsSame l.fn.self l.self;
  left : Leaves g.S.Sink.state l.fn.self l.self (ended l.end l.texts)
      (ended l.end (drop l.text-index l.texts));
}

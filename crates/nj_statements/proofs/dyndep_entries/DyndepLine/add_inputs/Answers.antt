use Rattle.std.proofs.Common.{◌∙◌}
use Rattle.nj_statements.specs.BuildFaults.{empty_path}
use Rattle.nj_statements.specs.Joining.{no_values}
use Rattle.nj_statements.proofs.AddedLemmas.{keeps-trans, keeps-input, inputs-turn, no-fault-turn}
use Rattle.nj_statements.proofs.dyndep_entries.DyndepLine.add_inputs.Goals as goal

pub words-preserved : goal.words-preserved
words-preserved c =
    let words = c.args.words.now in
    let i = c.words.word-index in
    let word = c.word-item.result in
    let path = c.in_ok-path.path.now in
    let new = c.add_input.new.self in
    record {
      added = inputs-turn c.words.edges new path words i word c.words-test.true c.word-item.is
          c.in_ok-path.ensures.path c.in_ok-add_input.ensures.added ∙ c.words.invariant.added;
      fault = no-fault-turn (empty_path c.args.self.name.now no_values) words i word c.words-test.true
          c.word-item.is c.in_ok-path.ensures.fault ∙ c.words.invariant.fault;
      keeps = keeps-trans c.args.edges.now c.words.edges new c.words.invariant.keeps
          (keeps-input c.words.edges new path c.in_ok-add_input.ensures.added);
    }

use Rattle.std.proofs.Common.{◌≡◌, drop}
use Rattle.nj_scope.specs.Scopes.{first_given}
use Rattle.nj_manifest.specs.Contents.{words_model}
use Rattle.nj_statements.specs.EdgeList.{paths_given}
use Rattle.nj_statements.specs.BuildFaults.{empty_path}
use Rattle.nj_statements.specs.Joining.{no_values}
use Rattle.nj_statements.specs.JoiningHeld.{KeepsEdges}
use Rattle.nj_statements.specs.Inside.JoiningSteps.{with_added_inputs}
use Rattle.nj_statements.proofs.dyndep_entries.DyndepLine.add_inputs.Given as goal

abbrev pub invariant-words : goal.invariant-words
invariant-words l = record {
  added : with_added_inputs l.edges (paths_given no_values (words_model (drop l.word-index l.words)))
      ≡ with_added_inputs l.fn.edges (paths_given no_values (words_model l.words));
  fault : first_given (empty_path l.self.name.now no_values) (words_model (drop l.word-index l.words))
      ≡ first_given (empty_path l.self.name.now no_values) (words_model l.words);
  keeps : KeepsEdges l.fn.edges l.edges;
}

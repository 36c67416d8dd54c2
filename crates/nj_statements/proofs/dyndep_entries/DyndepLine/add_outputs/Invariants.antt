use Rattle.std.proofs.Common.{◌≡◌, drop}
use Rattle.nj_manifest.specs.Contents.{words_model}
use Rattle.nj_statements.specs.EdgeList.{paths_given}
use Rattle.nj_statements.specs.BuildFaults.{outputs_fault}
use Rattle.nj_statements.specs.Joining.{no_values}
use Rattle.nj_statements.specs.JoiningHeld.{KeepsEdges}
use Rattle.nj_statements.specs.Inside.JoiningSteps.{with_added_outputs}
use Rattle.nj_statements.proofs.dyndep_entries.DyndepLine.add_outputs.Given as goal

abbrev pub invariant-words : goal.invariant-words
invariant-words l = record {
  added : with_added_outputs l.edges (paths_given no_values (words_model (drop l.word-index l.words)))
      ≡ with_added_outputs l.fn.edges (paths_given no_values (words_model l.words));
  fault : outputs_fault l.self.name.now no_values l.edges.joined l.edges.«open».outputs
      (words_model (drop l.word-index l.words))
      ≡ outputs_fault l.self.name.now no_values l.fn.edges.joined l.fn.edges.«open».outputs
      (words_model l.words);
  keeps : KeepsEdges l.fn.edges l.edges;
}

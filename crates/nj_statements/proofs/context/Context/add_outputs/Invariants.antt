use Rattle.std.proofs.Common.{◌≡◌, drop, take, length}
use Rattle.nj_manifest.specs.Contents.{words_model}
use Rattle.nj_statements.specs.EdgeList.{Values, paths_given}
use Rattle.nj_statements.specs.BuildFaults.{outputs_fault}
use Rattle.nj_statements.specs.Inside.EdgeSteps.{KeepsClean, SeesNames, Grows, with_outputs}
use Rattle.nj_statements.proofs.context.Context.add_outputs.Given as goal

abbrev pub invariant-words : goal.invariant-words
invariant-words l = record {
  grows : Grows (length (take l.word-index l.words)) l.fn.edges l.edges;
  keeps : KeepsClean l.fn.edges l.edges;
  added : (values : Values) → SeesNames l.self values
      → with_outputs l.edges (paths_given values (words_model (drop l.word-index l.words)))
      ≡ with_outputs l.fn.edges (paths_given values (words_model l.words));
  fault : (values : Values) → SeesNames l.self values
      → outputs_fault l.self.place.file.now values l.edges.edges l.edges.«open».outputs
      (words_model (drop l.word-index l.words))
      ≡ outputs_fault l.self.place.file.now values l.fn.edges.edges l.fn.edges.«open».outputs
      (words_model l.words);
}

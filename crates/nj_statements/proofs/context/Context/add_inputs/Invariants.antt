use Rattle.std.proofs.Common.{◌≡◌, drop}
use Rattle.nj_scope.specs.Scopes.{first_given}
use Rattle.nj_manifest.specs.Contents.{words_model}
use Rattle.nj_statements.specs.EdgeList.{Values, paths_given}
use Rattle.nj_statements.specs.BuildFaults.{empty_path}
use Rattle.nj_statements.specs.Inside.EdgeSteps.{KeepsClean, SeesNames, Grows, with_inputs}
use Rattle.nj_statements.proofs.context.Context.add_inputs.Given as goal

abbrev pub invariant-words : goal.invariant-words
invariant-words l = record {
  grows : Grows 0 l.fn.edges l.edges;
  keeps : KeepsClean l.fn.edges l.edges;
  added : (values : Values) → SeesNames l.self values
      → with_inputs l.loses_own l.edges (paths_given values (words_model (drop l.word-index l.words)))
      ≡ with_inputs l.loses_own l.fn.edges (paths_given values (words_model l.words));
  fault : (values : Values) → SeesNames l.self values
      → first_given (empty_path l.self.place.file.now values) (words_model (drop l.word-index l.words))
      ≡ first_given (empty_path l.self.place.file.now values) (words_model l.words);
}

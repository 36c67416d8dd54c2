use Rattle.std.proofs.Common.{◌≡◌, drop, take}
use Rattle.nj_scope.specs.Scopes.{first_given}
use Rattle.nj_manifest.specs.Contents.{words_model}
use Rattle.nj_scope.specs.Readings.{IsPrefix}
use Rattle.nj_edges.specs.EdgeTables.{no_files}
use Rattle.nj_statements.specs.EdgeList.{Values, paths_given}
use Rattle.nj_statements.specs.BuildFaults.{target_fault}
use Rattle.nj_statements.specs.Inside.EdgeSteps.{SeesNames, AddsTargets}
use Rattle.nj_statements.proofs.building.add_targets.Given as goal

abbrev pub invariant-words : goal.invariant-words
invariant-words l = record {
  kept : IsPrefix l.fn.targets.items l.targets.items;
  added : (values : Values) → SeesNames l.context values
      → AddsTargets l.edges.files l.fn.targets.items l.targets.items
      (paths_given values (words_model (take l.word-index l.words)));
  fault : (values : Values) → SeesNames l.context values → l.edges.«open» ≡ no_files
      → first_given (target_fault l.context.place.file.now values l.edges.edges)
      (words_model (drop l.word-index l.words))
      ≡ first_given (target_fault l.context.place.file.now values l.edges.edges) (words_model l.words);
}

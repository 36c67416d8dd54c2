use Rattle.std.proofs.Common.{ℕ, List, take}
use Rattle.nj_graph.specs.ReadingList.{ReadStatement}
use Rattle.nj_graph.specs.Graph.{IsGraphOf}
use Rattle.nj_ask.specs.Inside.Reached.{numbers_of, AreFeeding, AreFilesOf, CanTellAll}
use Rattle.nj_ask.proofs.manifest.feeding_files.Given as goal

abbrev pub invariant-files : goal.invariant-files
invariant-files l = record {
  feeding : (opened : List ℕ) (entries : List ReadStatement) → IsGraphOf l.graph entries
      → CanTellAll l.graph opened entries (numbers_of l.files) l.manifest
      → AreFeeding l.graph opened entries (numbers_of (take l.file-index l.files))
      (numbers_of l.feeding.items);
  known : AreFilesOf l.graph l.feeding.items;
}

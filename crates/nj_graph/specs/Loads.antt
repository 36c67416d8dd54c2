-- The result of loading the files of a run, and of joining dyndep files to them.
use Rattle.std.specs.Prelude.{◌≡◌, ◌⊎◌, Result, Ok, Err, ℕ, List, []}
use Rattle.nj_scope.specs.Readings.{Reading, paths_of}
use Rattle.nj_scope.specs.Sources.{SourceState}
use Rattle.nj_scope.specs.ReadingList.{ReadStatement}
use Rattle.nj_faults.specs.declared.fault.GraphFault.{GraphFault}
use Rattle.nj_statements.specs.EdgeList.{edges_read}
use Rattle.nj_statements.specs.Built.{IsCycleFault}
use Rattle.nj_graph.specs.Graph.{GraphModel, IsGraphOf}
use Rattle.nj_graph.specs.Reading.{Whole, main_read, paths_come_to}
use Rattle.nj_graph.specs.Runs.{IsRead, ReachedModel, Stops}

-- the files that were read, each path once, and their graph
pub record LoadedModel : Type 0 where
  pub files : List Reading
  pub graph : GraphModel

-- By the given files the reading goes to its end: it yields the given statements, without a fault. The files are those
-- at the paths that it reaches. The source did not fail.
pub record IsWhole (before after : SourceState) (files : List Reading) (reading : List Reading → ReachedModel)
    (entries : List ReadStatement)
    : Type 0 where
  pub read : (reading files).read ≡ record { entries = entries; end = Whole }
  pub came_to : (reading files).paths ≡ paths_of files
  pub failures : after.failures ≡ before.failures

-- All was read, and the graph is that of the statements.
pub record IsLoaded (before after : SourceState) (files : List Reading) (reading : List Reading → ReachedModel) (loaded : LoadedModel)
    : Type 0 where
  pub files_are : loaded.files ≡ files
  pub entries : List ReadStatement
  pub whole : IsWhole before after files reading entries
  pub graph_is : IsGraphOf loaded.graph entries

-- All was read, and the edges of the statements have a dependency cycle.
pub record HasCycle (before after : SourceState) (files : List Reading) (reading : List Reading → ReachedModel) (fault : GraphFault)
    : Type 0 where
  pub entries : List ReadStatement
  pub whole : IsWhole before after files reading entries
  pub cycle : IsCycleFault (edges_read entries) fault

-- The result is the first fault: the fault of the reading, or else of a cycle.
abbrev pub LoadingFails : (before after : SourceState) → (files : List Reading) → (reading : List Reading → ReachedModel)
    → GraphFault → Type 0
LoadingFails before after files reading fault =
    Stops before after files reading fault ⊎ HasCycle before after files reading fault

-- All is loaded, or not.
abbrev pub LoadedOr : (before after : SourceState) → (files : List Reading) → (reading : List Reading → ReachedModel)
    → Result LoadedModel GraphFault → Type 0
LoadedOr before after files reading (Ok loaded) = IsLoaded before after files reading loaded
LoadedOr before after files reading (Err fault) = LoadingFails before after files reading fault

-- After the old files the given files were read from the source, each path once; by them all is loaded, or the first
-- fault is answered.
abbrev pub LoadsAfter : (old : List Reading) → (before after : SourceState) → (reading : List Reading → ReachedModel)
    → Result LoadedModel GraphFault → Type 0
LoadsAfter old before after reading result =
    (files : List Reading) × IsRead before after old files × LoadedOr before after files reading result

-- the reading of the main file, and of all that it includes
abbrev pub main_reached : (main : List ℕ) → (files : List Reading) → ReachedModel
main_reached main files = let r = main_read files main in record { read = r; paths = paths_come_to main r }

-- the result of loading a main file, and all that it includes
abbrev pub Loads : (main : List ℕ) → (before after : SourceState) → Result LoadedModel GraphFault → Type 0
Loads main before after result = LoadsAfter [] before after (main_reached main) result

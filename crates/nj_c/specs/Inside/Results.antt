-- The kept result of a load.
use Rattle.std.specs.Prelude.{◌≡◌, ◌≢◌, ◌⊎◌, ℕ, Bool, List, [], map, Some, Result, Ok, Err, ⊤}
use Rattle.std.specs.Global.{Vec}
use Rattle.nj_scope.specs.ReadingList.{ReadStatement}
use Rattle.nj_faults.specs.declared.fault.GraphFault.{GraphFault}
use Rattle.nj_faults.specs.Faults.{no_memory}
use Rattle.nj_graph.specs.Graph.{GraphModel, IsGraphOf}
use Rattle.nj_graph.specs.Loads.{LoadedModel}
use Rattle.nj_c.specs.SuppliedFiles.{Supplied, supplied_state, ReadsAsSupplied}
use Rattle.nj_c.specs.Loading.{paths_to_load, GivesGraph}
use Rattle.nj_c.specs.declared.session_state.Kept.{Kept}
use Rattle.nj_c.specs.declared.status.Status.{Status}
use Rattle.nj_c.specs.declared.status.Status.TheVariants.{Done, Fault, Wanted, OutOfMemory}

-- the statements of a load, if it succeeded
abbrev pub AreStatements : Result LoadedModel GraphFault → List ReadStatement → Type 0
AreStatements (Ok loaded) entries = IsGraphOf loaded.graph entries
AreStatements (Err fault) entries = ⊤

-- a fault is kept, unless an allocation failed
abbrev pub KeepsFault : (before after : Kept) → GraphFault → Status → Type 0
KeepsFault before after fault status =
    ((status ≡ Fault) × (fault ≢ no_memory) × (after ≡ record before { fault = Some fault }))
    ⊎ ((status ≡ OutOfMemory) × (after ≡ before))

-- the graph or the fault of a load is kept
abbrev pub KeepsResult : (before after : Kept) → Result GraphModel GraphFault → Status → Type 0
KeepsResult before after (Ok graph) status = (after ≡ record before { graph = Some graph }) × (status ≡ Done)
KeepsResult before after (Err fault) status = KeepsFault before after fault status

-- the wanted paths are kept, or without any, the result of the load
abbrev pub KeepsLoad : (before after : Kept) → (joins : Bool) → Result LoadedModel GraphFault → (wanted : Vec (Vec ℕ)) → Status → Type 0
KeepsLoad before after joins loaded wanted status =
    ((status ≡ Wanted) × (after ≡ record before { wanted = wanted }) × (wanted.items ≢ []))
    ⊎ ((files : Supplied) × (result : Result GraphModel GraphFault) × (wanted.items ≡ [])
    × GivesGraph (supplied_state before.files) (supplied_state files) joins loaded result
    × KeepsResult (record before { files = files }) after result status)

-- the kept result of a load by the paths that are wanted; or an allocation failed
abbrev pub FinishesLoad : (before after : Kept) → (joins : Bool) → Result LoadedModel GraphFault → Status → Type 0
FinishesLoad before after joins loaded status =
    ((wanted : Vec (Vec ℕ)) × (loaded ≢ Err no_memory)
    × ((entries : List ReadStatement) → AreStatements loaded entries
    → map (λ p. p.items) wanted.items ≡ paths_to_load before.files joins loaded)
    × ReadsAsSupplied before.files × KeepsLoad before after joins loaded wanted status)
    ⊎ ((status ≡ OutOfMemory) × (after ≡ before))

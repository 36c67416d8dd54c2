-- The target that a word denotes.
use Rattle.std.specs.Prelude.{◌≡◌, ℕ, List, Some, None, Ok, Err, slice_get}
use Rattle.nj_faults.specs.declared.fault.GraphFault.{GraphFault}
use Rattle.nj_graph.specs.Graph.{GraphModel, edges_of, files_of}
use Rattle.nj_graph.specs.Targets.{picked}
use Rattle.nj_c.specs.declared.session_state.Kept.{Kept}
use Rattle.nj_c.specs.declared.status.Status.{Status}
use Rattle.nj_c.specs.declared.status.Status.TheVariants.{Done, Fault, NotLoaded, OutOfMemory}

-- The number of the file with the given path was returned; or the fault is kept.
abbrev pub PicksFile : (before after : Kept) → (word : List ℕ) → (file_before file_after : ℕ) → Status → Type 0
PicksFile before after word file_before file_after Done =
    (g : GraphModel) × (before.graph ≡ Some g) × (after ≡ before)
    × ((path : List ℕ) × (picked (edges_of g) word ≡ Ok path) × (slice_get (files_of g) file_after ≡ Some path))
PicksFile before after word file_before file_after Fault =
    (g : GraphModel) × (before.graph ≡ Some g) × (file_after ≡ file_before)
    × ((fault : GraphFault) × (picked (edges_of g) word ≡ Err fault) × (after ≡ record before { fault = Some fault }))
PicksFile before after word file_before file_after NotLoaded =
    (before.graph ≡ None) × (after ≡ before) × (file_after ≡ file_before)
PicksFile before after word file_before file_after OutOfMemory = (after ≡ before) × (file_after ≡ file_before)
PicksFile before after word file_before file_after other = ⊥

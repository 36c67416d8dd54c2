-- The targets that words of the command line denote.
use Rattle.std.specs.Prelude.{◌≡◌, ◌⊎◌, ◌-◌, ℕ, if◌then◌else◌, Option, Some, option_and_then, ok_or, Result, Ok, Err, List, [], ◌∷◌, drop, take, length, slice_get, codes, bytes_eq}
use Rattle.std.specs.Global.{Vec}
use Rattle.nj_text.specs.Calls.{is_empty}
use Rattle.nj_text.specs.Paths.{clean_path_of}
use Rattle.nj_manifest.specs.LineSteps.{◌>>=◌}
use Rattle.nj_names.specs.declared.files.FileNo.{FileNo}
use Rattle.nj_edges.specs.Edges.{EdgePaths, edge_at, first_output, users_of, is_named}
use Rattle.nj_names.specs.Files.{AreFiles}
use Rattle.nj_faults.specs.declared.fault.GraphFault.{GraphFault}
use Rattle.nj_faults.specs.declared.fault.Cause.TheVariants.{EmptyPath, UnknownTarget, NoOutEdge}
use Rattle.nj_faults.specs.Faults.{no_memory, unplaced}
use Rattle.nj_graph.specs.Graph.{GraphModel}
use Rattle.nj_graph.specs.Handles.{GraphFiles, file_of}
use Rattle.nj_graph.specs.declared.handles.File.{File}

-- a file that an edge names
abbrev pub target : List EdgePaths → (path : List ℕ) → Result (List ℕ) GraphFault
target edges path = if is_named edges path then Ok path else Err (unplaced (UnknownTarget path))

-- the first output of the lowest-numbered edge that has the file as an input
abbrev pub first_made_of : List EdgePaths → (path : List ℕ) → Option (List ℕ)
first_made_of edges path = option_and_then (λ number. first_output (edge_at edges number)) (slice_get (users_of edges path) 0)

-- the target that `FILE^` denotes: the first output of the first edge that has FILE as an input
abbrev pub made_target : List EdgePaths → (path : List ℕ) → Result (List ℕ) GraphFault
made_target edges path =
    if is_named edges path then ok_or (first_made_of edges path) (unplaced (NoOutEdge path)) else Err (unplaced (UnknownTarget path))

-- A `^` at the end of a clean path denotes the first output that is made from the file; it is not part of the path.
abbrev pub clean_target : List EdgePaths → (path : List ℕ) → Result (List ℕ) GraphFault
clean_target edges path =
    if bytes_eq (drop (length path - 1) path) (codes "^") then made_target edges (take (length path - 1) path)
    else target edges path

-- the path of the target
abbrev pub picked : List EdgePaths → (word : List ℕ) → Result (List ℕ) GraphFault
picked edges word = if is_empty word then Err (unplaced EmptyPath) else clean_target edges (clean_path_of word)

-- The number of the file with the given path is answered, or the fault; or out of memory.
abbrev pub Picks : (files : List (List ℕ)) → (expected : Result (List ℕ) GraphFault) → Result FileNo GraphFault → Type 0
Picks files expected (Ok file) = (path : List ℕ) × (expected ≡ Ok path) × (slice_get files file.0 ≡ Some path)
Picks files expected (Err fault) = (fault ≡ no_memory) ⊎ (expected ≡ Err fault)

-- The file at the given path is answered, or the fault; or out of memory.
abbrev pub PicksFile : GraphModel → (expected : Result (List ℕ) GraphFault) → Result File GraphFault → Type 0
PicksFile graph expected (Ok file) = (expected ≡ Ok (file_of file).path) × ((file_of file).graph ≡ graph)
PicksFile graph expected (Err fault) = (fault ≡ no_memory) ⊎ (expected ≡ Err fault)

-- the paths of the targets that words name, or the fault of the first word that does not name a target
abbrev pub targets_named : List EdgePaths → (words : List (List ℕ)) → Result (List (List ℕ)) GraphFault
targets_named edges [] = Ok []
targets_named edges (word ∷ words) = picked edges word >>= (λ path. targets_named edges words >>= (λ paths. Ok (path ∷ paths)))

-- the same, but the defaults if there are no words
abbrev pub targets_or : (defaults : List (List ℕ)) → List EdgePaths → (words : List (List ℕ)) → Result (List (List ℕ)) GraphFault
targets_or defaults edges [] = Ok defaults
targets_or defaults edges (word ∷ words) = targets_named edges (word ∷ words)

-- The files with the given paths are answered, or the fault; or out of memory.
abbrev pub PicksTargets : (files : List (List ℕ)) → (expected : Result (List (List ℕ)) GraphFault) → Result (Vec FileNo) GraphFault → Type 0
PicksTargets files expected (Ok numbers) = (paths : List (List ℕ)) × (expected ≡ Ok paths) × AreFiles files numbers.items paths
PicksTargets files expected (Err fault) = (fault ≡ no_memory) ⊎ (expected ≡ Err fault)

-- The files at the given paths are answered, or the fault; or out of memory.
abbrev pub PicksFiles : GraphModel → (expected : Result (List (List ℕ)) GraphFault) → Result GraphFiles GraphFault → Type 0
PicksFiles graph expected (Ok files) = (expected ≡ Ok files.paths) × (files.graph ≡ graph)
PicksFiles graph expected (Err fault) = (fault ≡ no_memory) ⊎ (expected ≡ Err fault)

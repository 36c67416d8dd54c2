-- Opening a session, supplying files, and loading.
use Rattle.std.specs.Prelude.{◌≡◌, ◌≢◌, ◌⊎◌, ℕ, ℤ, Bool, true, false, ◌&&◌, not, if◌then◌else◌, List, [], ◌∷◌, map, bytes_eq, Option, Some, None, is_some, IfOk, MatchOption, Result, Ok, Err}
use Rattle.std.specs.List.{filter, filter_map}
use Rattle.std.specs.Str.{is_utf8}
use Rattle.nj_scope.specs.ReadingList.{ReadStatement}
use Rattle.nj_scope.specs.Sources.{SourceState}
use Rattle.nj_edges.specs.Repeats.{each_once}
use Rattle.nj_faults.specs.declared.fault.GraphFault.{GraphFault}
use Rattle.nj_faults.specs.Faults.{no_memory}
use Rattle.nj_graph.specs.Graph.{GraphModel, IsGraphOf}
use Rattle.nj_graph.specs.Origins.{main_of}
use Rattle.nj_graph.specs.Loads.{LoadedModel, Loads}
use Rattle.nj_graph.specs.Joining.{Joins}
use Rattle.nj_c.specs.declared.session_state.Kept.{Kept}
use Rattle.nj_c.specs.declared.status.Status.{Status}
use Rattle.nj_c.specs.declared.status.Status.TheVariants.{Done, Fault, Wanted, NotUtf8, NotOpen, OutOfMemory}
use Rattle.nj_c.specs.Statuses.{code_of}
use Rattle.nj_c.specs.SuppliedFiles.{Supplied, supplied_for, supplied_state, wanted_paths, ReadsAsSupplied, SameFiles, SetsFile}

-- a status with the given property was returned
abbrev pub Returns : ℤ → (Status → Type 0) → Type 0
Returns result is = (status : Status) × (result ≡ code_of status) × is status

-- an open session stays open, and `does` relates its contents, by the status; a closed session stays closed
abbrev pub Changes : (before after : Option Kept) → ℤ → ((before after : Kept) → Status → Type 0) → Type 0
Changes before after result does = MatchOption before ((after ≡ None) × (result ≡ code_of NotOpen))
    (λ kept. (new : Kept) × (after ≡ Some new) × Returns result (does kept new))

-- nothing is left of an earlier graph: no list of edges, no mark after it, nothing that was joined, and no list of stale edges
abbrev pub LeavesNothing : Kept → Type 0
LeavesNothing kept = (kept.found.items ≡ []) × (kept.mark.items ≡ []) × (kept.log ≡ None) × (kept.unknown.items ≡ [])
    × (kept.stale.items ≡ [])

-- the output of the last run is kept unchanged
pub record SameRun (before after : Kept) : Type 0 where
  pub output : after.output ≡ before.output
  pub errors : after.errors ≡ before.errors

-- an open session to which nothing was supplied, and which has neither a graph nor a fault
pub record IsEmpty (kept : Kept) : Type 0 where
  pub files : kept.files ≡ record { paths = []; files = []; read = [] }
  pub wanted : kept.wanted.items ≡ []
  pub graph : kept.graph ≡ None
  pub fault : kept.fault ≡ None
  pub lists : LeavesNothing kept
  pub output : kept.output.bytes ≡ []
  pub errors : kept.errors.bytes ≡ []

-- a session was opened again; or an allocation failed, and it is unchanged
abbrev pub Opens : (before after : Option Kept) → ℤ → Type 0
Opens before after result =
    ((kept : Kept) × (result ≡ code_of Done) × (after ≡ Some kept) × IsEmpty kept)
    ⊎ ((result ≡ code_of OutOfMemory) × (after ≡ before))

-- the file at a path was set; or an allocation failed, and the supplied files are unchanged
abbrev pub TakesFile : (before after : Supplied) → (path : List ℕ) → (file : Option (List ℕ)) → Status → Type 0
TakesFile before after path file Done = SetsFile before after path file
TakesFile before after path file OutOfMemory = after ≡ before
TakesFile before after path file other = ⊥

-- the same for an open session, which keeps all else
abbrev pub TakesPath : (before after : Kept) → (path : List ℕ) → (file : Option (List ℕ)) → Status → Type 0
TakesPath before after path file status =
    (files : Supplied) × (after ≡ record before { files = files }) × TakesFile before.files files path file status

-- ---- the files that a load reads and wants

-- the supplied files, before any reading
abbrev pub unread : Supplied → Supplied
unread h = record { paths = h.paths; files = h.files; read = [] }

-- the dyndep files to which edges are bound, in the order of the edges
abbrev pub dyndeps_of : GraphModel → List (List ℕ)
dyndeps_of g = filter_map (λ a. a.dyndep) g.built.assigned

-- nothing was supplied for a path; a path that is not UTF-8 is never read
abbrev pub is_lacking : Supplied → (path : List ℕ) → Bool
is_lacking h path = is_utf8 path && not (is_some (supplied_for h path))

-- the dyndep files that are to be joined and were not supplied, without duplicates
abbrev pub lacking_dyndeps : Supplied → (joins : Bool) → GraphModel → List (List ℕ)
lacking_dyndeps h joins g = if joins then each_once bytes_eq (filter (is_lacking h) (dyndeps_of g)) else []

-- the first paths, or without any, the others
abbrev pub paths_or : (paths others : List (List ℕ)) → List (List ℕ)
paths_or [] others = others
paths_or (path ∷ paths) others = path ∷ paths

-- The paths that are wanted once a main file and all that it includes are loaded: those that were read and not supplied; without any, all
-- dyndep files that are to be joined and were not supplied.
abbrev pub paths_to_load : Supplied → (joins : Bool) → Result LoadedModel GraphFault → List (List ℕ)
paths_to_load h joins (Ok loaded) = paths_or (wanted_paths h) (lacking_dyndeps h joins loaded.graph)
paths_to_load h joins (Err fault) = wanted_paths h

-- ---- loading

-- the graph of what was loaded
abbrev pub graph_loaded : Result LoadedModel GraphFault → Result GraphModel GraphFault
graph_loaded (Ok loaded) = Ok loaded.graph
graph_loaded (Err fault) = Err fault

-- the graph of a load, to which its dyndep files are joined if that is requested
abbrev pub JoinsGraph : (between after : SourceState) → (joins : Bool) → LoadedModel → Result GraphModel GraphFault → Type 0
JoinsGraph between after false loaded result = (after ≡ between) × (result ≡ Ok loaded.graph)
JoinsGraph between after true loaded result =
    (joined : Result LoadedModel GraphFault) × (result ≡ graph_loaded joined)
    × IfOk joined (λ j. j.graph.origins ≡ loaded.graph.origins)
    × ((stated : List ReadStatement) → IsGraphOf loaded.graph stated → Joins stated loaded.files between after joined)

-- the graph, with its dyndep files joined if that is requested
abbrev pub GivesGraph : (between after : SourceState) → (joins : Bool) → Result LoadedModel GraphFault
    → Result GraphModel GraphFault → Type 0
GivesGraph between after joins (Ok loaded) result = JoinsGraph between after joins loaded result
GivesGraph between after joins (Err fault) result = (after ≡ between) × (result ≡ Err fault)

-- A main file, whose path is UTF-8, was loaded from the supplied files, and nothing was wanted; so all files read then, dyndep files
-- among them, were supplied.
pub record LoadsFiles (before after : Supplied) (main : List ℕ) (joins : Bool) (result : Result GraphModel GraphFault) : Type 0 where
  pub text : is_utf8 main ≡ true
  pub between : Supplied
  pub loaded : Result LoadedModel GraphFault
  pub loads : Loads main (supplied_state (unread before)) (supplied_state between) loaded
  pub main_is : IfOk loaded (λ l. main_of l.graph.origins ≡ main)
  pub none_to_load : paths_to_load between joins loaded ≡ []
  pub gives : GivesGraph (supplied_state between) (supplied_state after) joins loaded result
  pub found : ReadsAsSupplied after
  pub none_wanted : wanted_paths after ≡ []

-- A main file, whose path is UTF-8, was loaded from the supplied files, and the wanted paths are listed.
pub record WantsFiles (before after : Kept) (main : List ℕ) (joins : Bool) : Type 0 where
  pub text : is_utf8 main ≡ true
  pub loaded : Result LoadedModel GraphFault
  pub loads : Loads main (supplied_state (unread before.files)) (supplied_state after.files) loaded
  pub found : ReadsAsSupplied after.files
  pub in_memory : loaded ≢ Err no_memory
  pub are : map (λ p. p.items) after.wanted.items ≡ paths_to_load after.files joins loaded
  pub some : paths_to_load after.files joins loaded ≢ []

-- the paths that were read and not supplied are listed
abbrev pub ListsWanted : Kept → Type 0
ListsWanted kept = map (λ p. p.items) kept.wanted.items ≡ wanted_paths kept.files

-- neither a graph nor a fault is kept, and no path is wanted
pub record KeepsNothing (kept : Kept) : Type 0 where
  pub graph : kept.graph ≡ None
  pub fault : kept.fault ≡ None
  pub wanted : kept.wanted.items ≡ []

-- the session after a load, by its status
abbrev pub LoadsAs : (before after : Kept) → (main : List ℕ) → (joins : Bool) → Status → Type 0
LoadsAs before after main joins Done =
    (graph : GraphModel) × (after.graph ≡ Some graph) × (after.fault ≡ None) × (after.wanted.items ≡ [])
    × LoadsFiles before.files after.files main joins (Ok graph)
LoadsAs before after main joins Fault =
    (fault : GraphFault) × (after.graph ≡ None) × (after.fault ≡ Some fault) × (after.wanted.items ≡ []) × (fault ≢ no_memory)
    × LoadsFiles before.files after.files main joins (Err fault)
LoadsAs before after main joins Wanted = (after.graph ≡ None) × (after.fault ≡ None) × WantsFiles before after main joins
LoadsAs before after main joins NotUtf8 = KeepsNothing after × (is_utf8 main ≡ false)
LoadsAs before after main joins OutOfMemory = KeepsNothing after
LoadsAs before after main joins other = ⊥

-- The supplied files stay the same in a load, and lists of an earlier graph are gone.
abbrev pub LoadsKept : (before after : Kept) → (main : List ℕ) → (joins : Bool) → Status → Type 0
LoadsKept before after main joins status =
    SameFiles before.files after.files × LeavesNothing after × SameRun before after × LoadsAs before after main joins status

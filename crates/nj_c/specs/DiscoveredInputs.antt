-- Inputs that builds discovered, joined to the graph of a session.
use Rattle.std.specs.Prelude.{◌≡◌, ◌≢◌, ◌==◌, ◌&&◌, ◌^◌, ◌-◌, ◌++◌, not, if◌then◌else◌, ℕ, Bool, true, false, List, [], ◌∷◌, length, map, position, slice_get, bytes_eq, codes, Option, Some, None, option_and_then, option_map, Result, Ok, Err}
use Rattle.std.specs.List.{filter, filter_map, range_with_len}
use Rattle.nj_text.specs.Calls.{is_empty}
use Rattle.nj_names.specs.Files.{path_at}
use Rattle.nj_deps.specs.Logs.{LogModel, IsLogOf, first_line}
use Rattle.nj_scope.specs.ReadingList.{ReadStatement}
use Rattle.nj_edges.specs.Edges.{maker_of}
use Rattle.nj_edges.specs.Repeats.{each_once}
use Rattle.nj_discovered.specs.Discoveries.{DiscoveriesModel, discovery_at}
use Rattle.nj_discovered.specs.Times.{DeclaredTimes}
use Rattle.nj_discovered.specs.declared.times.TimeFound.{TimeFound}
use Rattle.nj_discovered.specs.declared.times.TimeFound.TheVariants.{Time, NoAnswer}
use Rattle.nj_discovered.specs.declared.verdict.Verdict.{Verdict}
use Rattle.nj_discovered.specs.declared.verdict.Verdict.TheVariants.{Known, Unknown, Faulty}
use Rattle.nj_faults.specs.declared.fault.GraphFault.{GraphFault}
use Rattle.nj_faults.specs.Faults.{no_memory}
use Rattle.nj_graph.specs.Graph.{GraphModel, IsGraphOf, edges_of, files_of, late_text_of}
use Rattle.nj_graph.specs.DepsLogs.{JoinsNamed}
use Rattle.nj_graph.specs.Discovering.{AreDiscovered}
use Rattle.nj_c.specs.declared.session_state.Kept.{Kept}
use Rattle.nj_c.specs.declared.session_state.LogRead.{LogRead}
use Rattle.nj_c.specs.declared.status.Status.{Status}
use Rattle.nj_c.specs.declared.status.Status.TheVariants.{Done, Fault, Wanted, NotLoaded, BadNumber, BadLog, OutOfMemory}
use Rattle.nj_c.specs.SuppliedFiles.{Supplied, supplied_state, SameFiles}
use Rattle.nj_c.specs.JoinedLogs.{read_of, IsNoLog, KeepsNumbers}
use Rattle.nj_c.specs.Loading.{is_lacking, unread, SameRun}

-- ---- the log

-- the bytes of a log; no bytes stand for a log of version 4 without records
abbrev pub log_bytes : (given : List ℕ) → List ℕ
log_bytes [] = first_line ++ 4 ∷ 0 ∷ 0 ∷ 0 ∷ []
log_bytes (byte ∷ bytes) = byte ∷ bytes

-- how far it was read
abbrev pub given_read : (given : List ℕ) → LogModel → LogRead
given_read [] log = record { size = 0; is_whole = true }
given_read (byte ∷ bytes) log = read_of log

-- ---- the times

-- a given time: 0 for a missing file, and the greatest number for a time that is not known
abbrev pub time_of : (given : ℕ) → TimeFound
time_of given = if given == 0 then Time None else (if given == 2 ^ 64 - 1 then NoAnswer else Time (Some given))

-- the time at an index
abbrev pub time_found : Option ℕ → TimeFound
time_found None = NoAnswer
time_found (Some given) = time_of given

-- the edge that makes the file at a path
abbrev pub maker_at : GraphModel → (path : List ℕ) → Option ℕ
maker_at g path =
    option_and_then (λ file. maker_of (edges_of g) (path_at (files_of g) (record { 0 = file }))) (position (bytes_eq path) (files_of g))

-- the time of an output: the time that was given for the edge that makes it
abbrev pub times_of : GraphModel → (times : List ℕ) → DeclaredTimes
times_of g times path = option_map (λ edge. time_found (slice_get times edge)) (maker_at g path)

-- ---- the depfiles

-- the depfile of an edge by its values of `deps` and `depfile`: with `deps` Ninja reads the log instead
abbrev pub depfile_by : (deps depfile : List ℕ) → Option (List ℕ)
depfile_by deps depfile = if is_empty deps && not (is_empty depfile) then Some depfile else None

-- the depfile of an edge, if Ninja would read it
abbrev pub depfile_at : List ReadStatement → (edge : ℕ) → Option (List ℕ)
depfile_at stated edge = depfile_by (late_text_of stated edge (codes "deps")) (late_text_of stated edge (codes "depfile"))

-- the depfiles of the first edges that were not supplied, without duplicates
abbrev pub lacking_depfiles : Supplied → List ReadStatement → (count : ℕ) → List (List ℕ)
lacking_depfiles h stated count = each_once bytes_eq (filter (is_lacking h) (filter_map (depfile_at stated) (range_with_len 0 count)))

-- ---- joining

-- the discovered inputs of an edge are not known
abbrev pub is_unknown : Verdict → Bool
is_unknown Known = false
is_unknown (Unknown reason) = true
is_unknown (Faulty fault) = true

-- the same for each edge
abbrev pub unknown_of : DiscoveriesModel → List Bool
unknown_of found = map (λ edge. is_unknown edge.verdict) found.edges

-- What the edges of a graph discovered, by a log, the supplied depfiles and the given times, was joined: the result is the joined graph, or
-- the fault.
pub record FindsInputs (g : GraphModel) (before after : Supplied) (log : LogModel) (times : List ℕ) (stated : List ReadStatement)
    (found : DiscoveriesModel) (result : Result GraphModel GraphFault)
    : Type 0 where
  pub discovered : AreDiscovered (supplied_state (unread before)) (supplied_state after) (times_of g times) log stated found
  pub joins : JoinsNamed (λ edge. (discovery_at found edge).inputs) stated result

-- the supplied files, the lists and the last run stay the same, and no path is wanted
pub record KeepsOthers (before after : Kept) : Type 0 where
  pub files : SameFiles before.files after.files
  pub wanted : after.wanted.items ≡ []
  pub found : after.found ≡ before.found
  pub mark : after.mark ≡ before.mark
  pub stale : after.stale ≡ before.stale
  pub run : SameRun before after

-- no graph is left
abbrev pub ForgetsGraph : (before after : Kept) → Type 0
ForgetsGraph before after = KeepsOthers before after × (after.graph ≡ None) × (after.fault ≡ before.fault)

-- The session after joining what the edges of its graph discovered, by the status. All depfiles were supplied, or those that were not are
-- wanted, and nothing else changes.
abbrev pub JoinsFound : GraphModel → (before after : Kept) → LogModel → LogRead → (times : List ℕ) → Status → Type 0
JoinsFound g before after log read times Done =
    (joined : GraphModel) × (found : DiscoveriesModel) × KeepsOthers before after × (after.graph ≡ Some joined)
    × (after.fault ≡ before.fault) × (after.log ≡ Some read) × (after.unknown.items ≡ unknown_of found) × KeepsNumbers g joined
    × ((stated : List ReadStatement) → IsGraphOf g stated → (lacking_depfiles before.files stated (length (edges_of g)) ≡ [])
    × FindsInputs g before.files after.files log times stated found (Ok joined))
JoinsFound g before after log read times Fault =
    (fault : GraphFault) × (found : DiscoveriesModel) × KeepsOthers before after × (after.graph ≡ None)
    × (after.fault ≡ Some fault) × (fault ≢ no_memory)
    × ((stated : List ReadStatement) → IsGraphOf g stated → (lacking_depfiles before.files stated (length (edges_of g)) ≡ [])
    × FindsInputs g before.files after.files log times stated found (Err fault))
JoinsFound g before after log read times Wanted =
    (after ≡ record before { graph = Some g; wanted = after.wanted }) × (after.wanted.items ≢ [])
    × ((stated : List ReadStatement) → IsGraphOf g stated
    → map (λ p. p.items) after.wanted.items ≡ lacking_depfiles before.files stated (length (edges_of g)))
JoinsFound g before after log read times OutOfMemory = ForgetsGraph before after
JoinsFound g before after log read times other = ⊥

-- The same by the bytes of a log.
abbrev pub JoinsDiscovered : (before after : Kept) → (bytes times : List ℕ) → Status → Type 0
JoinsDiscovered before after bytes times NotLoaded = (before.graph ≡ None) × (after ≡ before)
JoinsDiscovered before after bytes times BadNumber =
    (g : GraphModel) × (before.graph ≡ Some g) × (after ≡ before) × (length times ≢ length (edges_of g))
JoinsDiscovered before after bytes times BadLog =
    (g : GraphModel) × (before.graph ≡ Some g) × (length times ≡ length (edges_of g)) × (after ≡ before) × IsNoLog (log_bytes bytes)
JoinsDiscovered before after bytes times OutOfMemory = (before.graph ≢ None) × ForgetsGraph before after
JoinsDiscovered before after bytes times status =
    (g : GraphModel) × (log : LogModel) × (before.graph ≡ Some g) × (length times ≡ length (edges_of g)) × IsLogOf (log_bytes bytes) log
    × JoinsFound g before after log (given_read bytes log) times status

-- The edges that Ninja would run, and why.
use Rattle.std.specs.Prelude.{◌≡◌, ◌≢◌, ◌⊎◌, ◌==◌, ◌<◌, if◌then◌else◌, ℕ, ℤ, pos, List, length, position, slice_get, bytes_eq, Option, Some, None, option_and_then, Ok, Err, ⊤}
use Rattle.std.specs.Str.{IsUtf8}
use Rattle.nj_names.specs.NameTables.{name_at}
use Rattle.nj_discovered.specs.Times.{DeclaredTimes}
use Rattle.nj_discovered.specs.declared.times.TimeFound.TheVariants.{Time}
use Rattle.nj_build_log.specs.Logs.{BuildLogModel, build_log_of}
use Rattle.nj_build_log.specs.declared.build_log_fault.BuildLogFault.{BuildLogFault}
use Rattle.nj_graph.specs.Graph.{GraphModel, OfStatements, files_of}
use Rattle.nj_stale.specs.declared.reason.Reason.{Reason}
use Rattle.nj_stale.specs.declared.reason.Reason.TheVariants.{UnknownInputs, StaleInput, MissingOutput, OlderOutput, OtherCommand, EarlierBuild, NotLogged}
use Rattle.nj_state.specs.Stale.{AreStaleEdges}
use Rattle.nj_state.specs.declared.commands.StaleEdge.{StaleEdge}
use Rattle.nj_c.specs.declared.session_state.Kept.{Kept}
use Rattle.nj_c.specs.declared.status.Status.{Status}
use Rattle.nj_c.specs.declared.status.Status.TheVariants.{Done, BadNumber, BadLog, NotUtf8, OutOfMemory}
use Rattle.nj_c.specs.DirtyEdges.{unknown_edges}
use Rattle.nj_c.specs.Pages.{numbered, AreKnown, AreRefused}

-- ---- the times

-- the time of a file on the disk: 0 stands for a file that does not exist
abbrev pub disk_time : (given : Option ℕ) → Option ℕ
disk_time None = None
disk_time (Some given) = if given == 0 then None else Some given

-- the times that were given for the files of a graph, by their numbers; no other file exists
abbrev pub given_times : GraphModel → (times : List ℕ) → DeclaredTimes
given_times g times path = Some (Time (disk_time (option_and_then (slice_get times) (position (bytes_eq path) (files_of g)))))

-- ---- the list

-- Of the edges whose commands the targets need, those that are stale, in the order of their commands: by the graph of a session, in
-- which the discovered inputs of some edges are not known, by a build log, and by the times of files.
abbrev pub AreStaleIn : Kept → GraphModel → BuildLogModel → (times targets : List ℕ) → List StaleEdge → Type 0
AreStaleIn kept g log times targets stale = OfStatements g (λ entries.
    AreStaleEdges g.built.graph entries (unknown_edges kept g) log (given_times g times) (numbered targets) stale)

-- the bytes are not a build log of a known version
abbrev pub IsNoBuildLog : (bytes : List ℕ) → Type 0
IsNoBuildLog bytes = (fault : BuildLogFault) × (build_log_of bytes ≡ Err fault)

-- the path of a file is not UTF-8
abbrev pub HasPathNotUtf8 : GraphModel → Type 0
HasPathNotUtf8 g = (file : ℕ) × (file < length (files_of g)) × (IsUtf8 (name_at (files_of g) file) → ⊥)

-- Why a graph has no list of stale edges for targets that it knows: there is not one time for each file, the bytes are not a build log, or
-- the path of a file is not UTF-8.
abbrev pub IsNotJudged : GraphModel → (bytes times : List ℕ) → Status → Type 0
IsNotJudged g bytes times BadNumber = length times ≢ length (files_of g)
IsNotJudged g bytes times BadLog = (length times ≡ length (files_of g)) × IsNoBuildLog bytes
IsNotJudged g bytes times NotUtf8 =
    (length times ≡ length (files_of g)) × ((log : BuildLogModel) × (build_log_of bytes ≡ Ok log)) × HasPathNotUtf8 g
IsNotJudged g bytes times OutOfMemory = ⊤
IsNotJudged g bytes times other = ⊥

-- the same of the graph of a session, if any; or the targets are refused
abbrev pub StaleRefused : Option GraphModel → (bytes times targets : List ℕ) → Status → Type 0
StaleRefused graph bytes times targets status = AreRefused graph targets status
    ⊎ ((g : GraphModel) × (graph ≡ Some g) × AreKnown g targets × IsNotJudged g bytes times status)

-- stale edges of the graph of a session, by the build log in the given bytes and a time for each file
abbrev pub AreStaleOf : Kept → (bytes times targets : List ℕ) → List StaleEdge → Type 0
AreStaleOf kept bytes times targets stale =
    (g : GraphModel) × (log : BuildLogModel) × (kept.graph ≡ Some g) × AreKnown g targets × (length times ≡ length (files_of g))
    × (build_log_of bytes ≡ Ok log) × AreStaleIn kept g log times targets stale

-- The stale edges are kept in place of those of the last list; or a status says why not, and nothing changes.
abbrev pub ListsStale : (before after : Kept) → (bytes times targets : List ℕ) → Status → Type 0
ListsStale before after bytes times targets status =
    ((status ≡ Done) × AreStaleOf before bytes times targets after.stale.items × (after ≡ record before { stale = after.stale }))
    ⊎ (StaleRefused before.graph bytes times targets status × (after ≡ before))

-- ---- an item

-- the numbers of reasons
abbrev pub reason_code : Reason → ℤ
reason_code UnknownInputs = pos 0
reason_code (StaleInput place) = pos 1
reason_code (MissingOutput place) = pos 2
reason_code (OlderOutput place) = pos 3
reason_code (OtherCommand place) = pos 4
reason_code (EarlierBuild place) = pos 5
reason_code (NotLogged place) = pos 6

-- the place of the input or the output that a reason is about; 0 where it is about neither
abbrev pub reason_place : Reason → ℕ
reason_place UnknownInputs = 0
reason_place (StaleInput place) = place
reason_place (MissingOutput place) = place
reason_place (OlderOutput place) = place
reason_place (OtherCommand place) = place
reason_place (EarlierBuild place) = place
reason_place (NotLogged place) = place

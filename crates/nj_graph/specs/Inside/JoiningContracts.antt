-- The results of the steps of joining dyndep files, by the statements joined so far. Nothing here has to be believed.
use Rattle.std.specs.Prelude.{◌≡◌, ◌⊎◌, ℕ, Bool, true, false, Option, Some, None, is_some, Result, Ok, Err, List, [], slice_get, String, string_bytes, ⊤}
use Rattle.nj_graph.specs.Inside.PathsReached.{with_news, come_joined}
use Rattle.std.specs.List.{filter_map}
use Rattle.std.specs.Str.{is_utf8}
use Rattle.nj_text.specs.Lines.{Line}
use Rattle.nj_manifest.specs.declared.entries.Entry as text
use Rattle.nj_manifest.specs.Faults.{Fault}
use Rattle.nj_manifest.specs.Openings.{Parse}
use Rattle.nj_manifest.specs.Dyndeps.{EntryModel, DyndepLeft, Refusing, entry_of}
use Rattle.nj_manifest.specs.DyndepParsers.{entry_model}
use Rattle.nj_manifest.specs.Inside.ParserContracts.{left_by}
use Rattle.nj_scope.specs.Readings.{Reading, paths_of, IsPrefix}
use Rattle.nj_scope.specs.Sources.{SourceState}
use Rattle.nj_scope.specs.ReadingList.{ReadStatement}
use Rattle.nj_faults.specs.declared.fault.Place.{Place}
use Rattle.nj_faults.specs.declared.fault.GraphFault.{GraphFault}
use Rattle.nj_faults.specs.declared.fault.Cause.TheVariants.{PathNotText}
use Rattle.nj_faults.specs.Faults.{fault_in, no_memory}
use Rattle.nj_discovered.specs.declared.times.TimeFound.{TimeFound}
use Rattle.nj_discovered.specs.declared.times.TimeFound.TheVariants.{Time, NoAnswer}
use Rattle.nj_discovered.specs.Times.{DeclaredTimes, IsTimeOf}
use Rattle.nj_statements.specs.EdgeList.{Pending, pending_read}
use Rattle.nj_statements.specs.Built.{BuiltModel, ComesTo}
use Rattle.nj_statements.specs.Joining.{lacking_fault, dyndep_files}
use Rattle.nj_statements.specs.JoiningHeld.{JoiningModel, HasJoined}
use Rattle.nj_graph.specs.Reading.{End, Whole, Refused, end_by}
use Rattle.nj_graph.specs.Runs.{IsRead, IsEnd, IsLacking, paths_with, Stops}
use Rattle.nj_graph.specs.Inside.ReaderContracts.{ReadsAll}
use Rattle.nj_graph.specs.Loads.{LoadedModel, LoadsAfter}
use Rattle.nj_graph.specs.Joining.{text_joined, path_asked, file_joined, files_joined, some_joined_after}

-- ---- the name of a file

-- the path as a text, or the fault that it is not UTF-8
abbrev pub NamesFile : {Z : Type 0} → Place → (path : List ℕ) → Result (String Z) GraphFault → Type 0
NamesFile place path (Ok name) = (is_utf8 path ≡ true) × (string_bytes name ≡ path)
NamesFile place path (Err fault) =
    (fault ≡ no_memory) ⊎ ((is_utf8 path ≡ false) × (fault ≡ record { place = Some place; cause = PathNotText }))

-- ---- the next entry

-- the result of a parser if the given item is read from the rest; its faults are reported in the file
abbrev pub NextEntryOf : (file : List ℕ) → Parse (Option EntryModel) → (after : DyndepLeft) → Result (Option text.Entry) GraphFault
    → Type 0
NextEntryOf file expected after (Ok (Some entry)) =
    (rest : List Line) × (expected ≡ Ok (Some (entry_model entry), rest)) × (after ≡ left_by true rest)
NextEntryOf file expected after (Ok None) = (rest : List Line) × (expected ≡ Ok (None, rest))
NextEntryOf file expected after (Err fault) =
    (fault ≡ no_memory) ⊎ ((found : Fault) × (expected ≡ Err found) × (fault ≡ fault_in file found))

abbrev pub NextEntryIs : (file : List ℕ) → (before after : DyndepLeft) → Result (Option text.Entry) GraphFault → Type 0
NextEntryIs file (Refusing found) after result = ⊤
NextEntryIs file before after result = NextEntryOf file (entry_of before) after result

-- ---- a text

-- All entries are joined. It remains to check whether an edge is still pending on the file.
pub record TextJoined (file : List ℕ) (stated : List ReadStatement) (text : List ℕ) (joined : List ReadStatement)
    (held : JoiningModel) : Type 0 where
  pub now : List ReadStatement
  pub has : HasJoined held stated now
  pub joins : text_joined file stated text joined ≡ record { entries = now; end = end_by (lacking_fault file now) }

-- an entry is refused, or the text is
pub record TextRefused (file : List ℕ) (stated : List ReadStatement) (text : List ℕ) (joined : List ReadStatement)
    (fault : GraphFault) : Type 0 where
  pub now : List ReadStatement
  pub joins : text_joined file stated text joined ≡ record { entries = now; end = Refused fault }

abbrev pub JoinsText : (file : List ℕ) → (stated : List ReadStatement) → (text : List ℕ) → (joined : List ReadStatement) → JoiningModel
    → Result (Unit {0}) GraphFault → Type 0
JoinsText file stated text joined held (Ok done) = TextJoined file stated text joined held
JoinsText file stated text joined held (Err fault) = (fault ≡ no_memory) ⊎ TextRefused file stated text joined fault

-- ---- a file

-- the whole file is joined
pub record FileJoined (stated joined : List ReadStatement) (p : Pending) (before after : SourceState) (old table : List Reading)
    (held : JoiningModel) : Type 0 where
  pub files : List Reading
  pub reads : ReadsAll before after old files table
  pub came_to : with_news (paths_of old) (path_asked p) ≡ paths_of files
  pub now : List ReadStatement
  pub has : HasJoined held stated now
  pub joins : (all : List Reading) → IsPrefix files all → file_joined all stated p joined ≡ record { entries = now; end = Whole }

pub record FileLacksMemory (p : Pending) (before after : SourceState) (old files : List Reading) (fault : GraphFault) : Type 0 where
  pub answered : fault ≡ no_memory
  pub failures : after.failures ≡ before.failures
  pub came_to : IsPrefix (paths_of files) (with_news (paths_of old) (path_asked p))

pub record FileEnds (stated joined : List ReadStatement) (p : Pending) (before after : SourceState) (old files : List Reading)
    (fault : GraphFault) : Type 0 where
  pub now : List ReadStatement
  pub end : End
  pub answered : IsEnd before after end fault
  pub joins : (all : List Reading) → IsPrefix files all → IsLacking end all
      → file_joined all stated p joined ≡ record { entries = now; end = end }
  pub came_to : with_news (paths_of old) (path_asked p) ≡ paths_with end files

-- the joining stops at the file
pub record FileStops (stated joined : List ReadStatement) (p : Pending) (before after : SourceState) (old : List Reading)
    (fault : GraphFault) : Type 0 where
  pub files : List Reading
  pub reads : IsRead before after old files
  pub stops : FileLacksMemory p before after old files fault ⊎ FileEnds stated joined p before after old files fault

abbrev pub JoinsFile : (stated joined : List ReadStatement) → Pending → (before after : SourceState) → (old table : List Reading)
    → JoiningModel → Result (Unit {0}) GraphFault → Type 0
JoinsFile stated joined p before after old table held (Ok done) = FileJoined stated joined p before after old table held
JoinsFile stated joined p before after old table held (Err fault) = FileStops stated joined p before after old fault

-- ---- some files

-- the files at the given indices
abbrev pub chosen_files : (files : List Pending) → (indices : List ℕ) → List Pending
chosen_files files indices = filter_map (slice_get files) indices

-- whether a file exists; if that is unknown, it does not
abbrev pub is_present : TimeFound → Bool
is_present (Time time) = is_some time
is_present NoAnswer = false

abbrev pub TellsPresence : DeclaredTimes → (path : List ℕ) → (is_there : Bool) → Type 0
TellsPresence times path is_there = (found : TimeFound) × IsTimeOf times path found × (is_there ≡ is_present found)

pub record FilesJoined (chosen : List Pending) (stated : List ReadStatement) (before after : SourceState) (old table : List Reading)
    (held : JoiningModel) : Type 0 where
  pub files : List Reading
  pub reads : ReadsAll before after old files table
  pub now : List ReadStatement
  pub has : HasJoined held stated now
  pub paths : List (List ℕ)
  pub came_to : with_news (paths_of old) paths ≡ paths_of files
  pub joins : (all : List Reading) → IsPrefix files all
      → files_joined all stated chosen stated ≡ record { read = record { entries = now; end = Whole }; paths = paths }

pub record FilesStop (chosen : List Pending) (stated : List ReadStatement) (before after : SourceState) (old : List Reading)
    (fault : GraphFault) : Type 0 where
  pub files : List Reading
  pub reads : IsRead before after old files
  pub stops : Stops before after files (come_joined old stated chosen) fault

abbrev pub JoinsFiles : (chosen : List Pending) → (stated : List ReadStatement) → (before after : SourceState) → (old table : List Reading)
    → JoiningModel → Result (Unit {0}) GraphFault → Type 0
JoinsFiles chosen stated before after old table held (Ok done) = FilesJoined chosen stated before after old table held
JoinsFiles chosen stated before after old table held (Err fault) = FilesStop chosen stated before after old fault

-- ---- the edges of a run

-- The chosen files are joined; or there are no files to choose from; or memory ran out before they were chosen.
pub data JoinsChosen (Chooses : (files chosen : List Pending) → Type 0) (stated : List ReadStatement) (old : List Reading)
    (before after : SourceState) (result : Result LoadedModel GraphFault) : Type 0 where
  joined : {chosen : List Pending} → Chooses (dyndep_files (pending_read stated)) chosen
      → LoadsAfter old before after (some_joined_after old stated chosen) result → JoinsChosen Chooses stated old before after result
  unpending : pending_read stated ≡ [] → LoadsAfter old before after (some_joined_after old stated []) result
      → JoinsChosen Chooses stated old before after result
  unchosen : ((chosen : List Pending) → LoadsAfter old before after (some_joined_after old stated chosen) result)
      → JoinsChosen Chooses stated old before after result

-- the edges with the additions of the given files, or the fault
abbrev pub JoinsBuilt : (Chooses : (files chosen : List Pending) → Type 0) → (stated : List ReadStatement) → (before after : SourceState)
    → (old table : List Reading) → Result BuiltModel GraphFault → Type 0
JoinsBuilt Chooses stated before after old table (Ok built) =
    (chosen : List Pending) × Chooses (dyndep_files (pending_read stated)) chosen
    × ((held : JoiningModel) × (f : FilesJoined chosen stated before after old table held) × ComesTo f.now (Ok built))
JoinsBuilt Chooses stated before after old table (Err fault) = JoinsChosen Chooses stated old before after (Err fault)

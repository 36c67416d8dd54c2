-- The joining of dyndep files to the statements of a run ("Dynamic Dependencies" in the manual), up to the first fault.
use Rattle.std.specs.Prelude.{◌≡◌, ℕ, suc, if◌then◌else◌, Option, Some, None, option_map, Result, Ok, Err, List, [], ◌∷◌, ◌++◌, map, length, slice_index_or}
use Rattle.std.specs.Option.{option_or}
use Rattle.std.specs.Str.{is_utf8}
use Rattle.nj_text.specs.Lines.{Line, text_lines}
use Rattle.nj_manifest.specs.Faults.{Fault}
use Rattle.nj_manifest.specs.Dyndeps.{EntryModel, version_next, next_entry}
use Rattle.nj_scope.specs.Readings.{Reading, reading_of, paths_of}
use Rattle.nj_scope.specs.Sources.{SourceState}
use Rattle.nj_scope.specs.ReadingList.{ReadStatement}
use Rattle.nj_faults.specs.declared.fault.Place.{Place}
use Rattle.nj_faults.specs.declared.fault.GraphFault.{GraphFault}
use Rattle.nj_faults.specs.declared.fault.Cause.TheVariants.{PathNotText}
use Rattle.nj_faults.specs.Faults.{fault_in}
use Rattle.nj_discovered.specs.declared.times.TimeFound.TheVariants.{Time, NoAnswer}
use Rattle.nj_discovered.specs.Times.{DeclaredTimes, IsTimeOf}
use Rattle.nj_statements.specs.EdgeList.{Pending, edges_read, pending_read}
use Rattle.nj_statements.specs.Joining.{entry_fault, with_entry, lacking_fault, dyndep_files}
use Rattle.nj_graph.specs.Parsed.{Parsed, parsed_in}
use Rattle.nj_graph.specs.Reading.{End, Whole, ReadingModel, and_then, end_by, stopped, outcome_read, with_all_new}
use Rattle.nj_graph.specs.Runs.{ReachedModel}
use Rattle.nj_graph.specs.Loads.{LoadedModel, LoadsAfter}

-- ---- the entries of a text

-- the entries after the version, or the fault of the version
abbrev pub after_version : (most : ℕ) → Result (List Line) Fault → Parsed EntryModel
after_version most (Ok lines) = parsed_in next_entry most lines
after_version most (Err fault) = record { items = []; fault = Some fault }

-- First the version. An entry has at least one byte.
unfoldable pub entries_of : (text : List ℕ) → Parsed EntryModel
entries_of text = after_version (suc (length text)) (version_next (text_lines text))

-- ---- one file

-- Its entries, one after the other: the statements as they were read, and with the additions so far.
unfoldable pub entries_joined : (file : List ℕ) → (stated : List ReadStatement) → List EntryModel → Option Fault
    → (joined : List ReadStatement)
    → ReadingModel
entries_joined file stated [] fault joined =
    record { entries = joined; end = end_by (option_or (option_map (fault_in file) fault) (lacking_fault file joined)) }
entries_joined file stated (entry ∷ others) fault joined =
    and_then (record { entries = joined; end = end_by (entry_fault file stated joined entry) })
    (λ _. entries_joined file stated others fault (with_entry stated joined entry))

-- the entries of a text, joined one after the other
abbrev pub text_joined : (file : List ℕ) → (stated : List ReadStatement) → (text : List ℕ) → (joined : List ReadStatement) → ReadingModel
text_joined file stated text joined = entries_joined file stated (entries_of text).items (entries_of text).fault joined

-- the place of the build statement of an edge; none past the last edge
abbrev pub statement_place : (stated : List ReadStatement) → (edge : ℕ) → Place
statement_place stated edge =
    let places : List Place = map (λ e. record { file = e.file; spot = e.spot }) (edges_read stated) in
    slice_index_or places edge (record { file = []; spot = record { line = 0; column = 0 } })

-- if the file is missing or cannot be read, the fault is at the first edge that is bound to it
unfoldable pub file_joined : (files : List Reading) → (stated : List ReadStatement) → Pending → (joined : List ReadStatement) → ReadingModel
file_joined files stated p joined =
    let place = statement_place stated p.edge in
    if is_utf8 p.file then outcome_read p.file place joined (λ text. text_joined p.file stated text joined) (reading_of files p.file)
    else stopped joined place PathNotText

-- ---- all files: the joined statements, and the paths of the dyndep files that they reach

-- a path that is not UTF-8 is not read
abbrev pub path_asked : Pending → List (List ℕ)
path_asked p = if is_utf8 p.file then p.file ∷ [] else []

-- the other files, after a file that was joined whole; else the joining ends there
abbrev pub continued : End → Pending → List ReadStatement → (List ReadStatement → ReachedModel) → ReachedModel
continued Whole p joined others = record { read = (others joined).read; paths = path_asked p ++ (others joined).paths }
continued end p joined others = record { read = record { entries = joined; end = end }; paths = path_asked p }

-- the given files, joined one after the other
unfoldable pub files_joined : (files : List Reading) → (stated : List ReadStatement) → List Pending
    → (joined : List ReadStatement) → ReachedModel
files_joined files stated [] joined = record { read = record { entries = joined; end = Whole }; paths = [] }
files_joined files stated (p ∷ others) joined =
    let file = file_joined files stated p joined in
    continued file.end p file.entries (files_joined files stated others)

-- The dyndep files on which edges are pending, without duplicates, in the order of their first edges: the whole file is
-- joined before the next file is opened.
unfoldable pub all_joined : (files : List Reading) → (stated : List ReadStatement) → ReachedModel
all_joined files stated = files_joined files stated (dyndep_files (pending_read stated)) stated

-- ---- the results of joining

-- the reading of dyndep files after the old files
abbrev pub joined_after : (old : List Reading) → (stated : List ReadStatement) → (files : List Reading) → ReachedModel
joined_after old stated files =
    let joined = all_joined files stated in
    record { read = joined.read; paths = with_all_new (paths_of old) joined.paths }

-- Dyndep files are joined to the statements of a run that has read the old files; files that were read before are not
-- read again.
abbrev pub Joins : (stated : List ReadStatement) → (old : List Reading) → (before after : SourceState)
    → Result LoadedModel GraphFault → Type 0
Joins stated old before after result = LoadsAfter old before after (joined_after old stated) result

-- ---- the files that exist

-- The dyndep files, among the given ones, that exist by the answer of a source of times for the path of each. A file
-- whose existence the source cannot determine is not among them.
pub data ArePresent (times : DeclaredTimes) : (files present : List Pending) → Type 0 where
  none : ArePresent times [] []
  there : (p : Pending) {files present : List Pending} {time : ℕ} → ArePresent times files present
      → IsTimeOf times p.file (Time (Some time)) → ArePresent times (files ++ p ∷ []) (present ++ p ∷ [])
  not_there : (p : Pending) {files present : List Pending} → ArePresent times files present
      → IsTimeOf times p.file (Time None) → ArePresent times (files ++ p ∷ []) present
  not_told : (p : Pending) {files present : List Pending} → ArePresent times files present
      → IsTimeOf times p.file NoAnswer → ArePresent times (files ++ p ∷ []) present

-- the reading of some dyndep files after the old files
abbrev pub some_joined_after : (old : List Reading) → (stated : List ReadStatement) → (dyndeps : List Pending) → (files : List Reading)
    → ReachedModel
some_joined_after old stated dyndeps files =
    let joined = files_joined files stated dyndeps stated in
    record { read = joined.read; paths = with_all_new (paths_of old) joined.paths }

-- The dyndep files that exist are joined to the statements of a run that has read the old files. Edges stay pending on
-- the others.
abbrev pub JoinsPresent : (times : DeclaredTimes) → (stated : List ReadStatement) → (old : List Reading) → (before after : SourceState)
    → Result LoadedModel GraphFault → Type 0
JoinsPresent times stated old before after result =
    (present : List Pending) × ArePresent times (dyndep_files (pending_read stated)) present
    × LoadsAfter old before after (some_joined_after old stated present) result

-- ---- laws

-- A joined file stays joined: joining again neither changes a statement nor reaches a file.
abbrev pub JoinedStaysJoined : Type 0
JoinedStaysJoined = (files others : List Reading) (stated : List ReadStatement) (joined : ReachedModel)
    → all_joined files stated ≡ joined → joined.read.end ≡ Whole
    → all_joined others joined.read.entries ≡ record { read = joined.read; paths = [] }

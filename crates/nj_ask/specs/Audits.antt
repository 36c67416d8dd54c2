-- The answer to `audit`: findings about the manifest, and the sources that cannot be looked up.
use Rattle.std.specs.Prelude.{◌≡◌, ℕ, Bool, true, false, not, if◌then◌else◌, Option, Some, None, option_map, List, [], ◌∷◌, ◌++◌, codes}
use Rattle.std.specs.List.{flat_map}
use Rattle.std.specs.Str.Lossy.{utf8_lossy}
use Rattle.serde_json.specs.Data.{Data, member, no_members, number, object, string, unsigned}
use Rattle.serde_json.specs.Written.{compact_text}
use Rattle.nj_text.specs.Calls.{is_empty}
use Rattle.nj_discovered.specs.Times.{DeclaredTimes, IsTimeOf}
use Rattle.nj_discovered.specs.declared.times.TimeFound.{TimeFound}
use Rattle.nj_discovered.specs.declared.times.TimeFound.TheVariants.{Time, NoAnswer}
use Rattle.nj_graph.specs.ReadingList.{ReadStatement}
use Rattle.nj_graph.specs.Edges.{maker_of}
use Rattle.nj_graph.specs.Graph.{GraphModel, edges_of, files_of}
use Rattle.nj_audit.specs.Audit.{missing_sources}
use Rattle.nj_audit.specs.Audits.{IsAudit}
use Rattle.nj_audit.specs.Findings.{FindingModel}
use Rattle.nj_audit.specs.Kinds.{AskFor, Selection, all_kinds, first_unknown, is_asked_for, is_on_by_default, meaning_of, name_of, phrase_of}
use Rattle.nj_audit.specs.Serving.{AreServing}
use Rattle.nj_audit.specs.declared.kinds.Kind.{Kind}
use Rattle.nj_audit.specs.declared.kinds.Kind.TheVariants.{MissingSource}
use Rattle.nj_audit.specs.declared.kinds.Kinds.{Kinds}
use Rattle.nj_questions.specs.Questions.{AuditModel}
use Rattle.nj_ask.specs.declared.discovered.DiscoveredGraph.{DiscoveredGraph}
use Rattle.nj_ask.specs.Affected.{line}
use Rattle.nj_ask.specs.Chains.{place_text}
use Rattle.nj_ask.specs.Endings.{Ending, answered, program_line}
use Rattle.nj_ask.specs.KnownGraphs.{undeclared_in}
use Rattle.nj_ask.specs.Shape.{caveat_text}

-- ---- lines

-- the line of a finding, by what is said of its name: `FILE:LINE:COLUMN: PHRASE 'NAME'`
abbrev pub line_about : (phrase : List ℕ) → FindingModel → List ℕ
line_about phrase found =
    line (place_text found.place.file found.place.spot.line found.place.spot.column ++ phrase ++ codes " '" ++ found.name ++ codes "'")

-- a finding as an object in JSON; U+FFFD replaces invalid UTF-8
abbrev pub finding_object : FindingModel → Data
finding_object found = object (
    member (codes "file") (string (utf8_lossy found.place.file)) (
    member (codes "line") (number (unsigned found.place.spot.line)) (
    member (codes "column") (number (unsigned found.place.spot.column)) (
    member (codes "kind") (string (name_of found.kind)) (
    member (codes "name") (string (utf8_lossy found.name)) no_members))))
    )

-- the line of a finding: with `--json` its object, else its place, kind and name
abbrev pub finding_line : (is_json : Bool) → FindingModel → List ℕ
finding_line true found = line (compact_text (finding_object found))
finding_line false found = line_about (phrase_of found.kind) found

-- findings, a line each
abbrev pub finding_lines : (is_json : Bool) → List FindingModel → List ℕ
finding_lines is_json found = flat_map (finding_line is_json) found

-- sources that cannot be looked up, a line each
abbrev pub lookup_lines : List FindingModel → List ℕ
lookup_lines found = flat_map (line_about (codes "cannot look up source")) found

-- ---- the options

-- the line of a kind: its name, whether it is on by default, and its meaning
abbrev pub kind_line : Kind → List ℕ
kind_line kind =
    line (name_of kind ++ codes ", " ++ (if is_on_by_default kind then codes "on" else codes "off") ++ codes " by default: "
    ++ meaning_of kind)

-- `--list`: the kinds, a line each
abbrev pub kind_lines : List ℕ
kind_lines = flat_map kind_line all_kinds

-- what is answered before anything is read
abbrev pub kinds_listed : AuditModel → Option (List ℕ)
kinds_listed options = if options.list then Some kind_lines else None

-- the line about a word of `--only` or `--except` that does not name a kind
abbrev pub unknown_kind_line : (word : List ℕ) → List ℕ
unknown_kind_line word = program_line (codes "unknown kind '" ++ word ++ codes "'; ninja-graph audit --list lists the kinds")

-- the options that select kinds
abbrev pub selection_in : AuditModel → Selection
selection_in options = record { all = options.all; only = options.only; except = options.except }

-- why the options are refused before anything is read
abbrev pub audit_misuse : AuditModel → Option (List ℕ)
audit_misuse options =
    if options.list then None else option_map unknown_kind_line (first_unknown (selection_in options))

-- the kind is requested
abbrev pub asks_for : AuditModel → Kind → Bool
asks_for options kind = is_asked_for (selection_in options) kind

-- ---- sources, by the times of files

-- there is no file
abbrev pub is_absent : TimeFound → Bool
is_absent (Time None) = true
is_absent (Time (Some time)) = false
is_absent NoAnswer = false

-- it is not known whether there is a file
abbrev pub is_unanswered : TimeFound → Bool
is_unanswered (Time time) = false
is_unanswered NoAnswer = true

-- Whether the file at a path is missing, and whether that is unknown: neither for a file that an edge makes.
pub data LooksUp (g : GraphModel) (times : DeclaredTimes) (path : List ℕ) : (is_missing is_unknown : Bool) → Type 0 where
  made : {maker : ℕ} → maker_of (edges_of g) path ≡ Some maker → LooksUp g times path false false
  source : {found : TimeFound} → maker_of (edges_of g) path ≡ None → IsTimeOf times path found
      → LooksUp g times path (is_absent found) (is_unanswered found)

-- the same for each file
pub data LookUp (g : GraphModel) (times : DeclaredTimes) : (paths : List (List ℕ)) → (missing unknown : List Bool) → Type 0 where
  none : LookUp g times [] [] []
  last : {paths : List (List ℕ)} {missing unknown : List Bool} {path : List ℕ} {is_missing is_unknown : Bool}
      → LookUp g times paths missing unknown → LooksUp g times path is_missing is_unknown
      → LookUp g times (paths ++ path ∷ []) (missing ++ is_missing ∷ []) (unknown ++ is_unknown ∷ [])

-- Nothing is looked up unless missing sources are requested.
abbrev pub LookUpIf : (asked : Bool) → GraphModel → DeclaredTimes → (missing unknown : List Bool) → Type 0
LookUpIf true g times missing unknown = LookUp g times (files_of g) missing unknown
LookUpIf false g times missing unknown = (missing ≡ []) × (unknown ≡ [])

-- the findings if the sources that cannot be looked up were missing
pub record WouldBeMissing (g : GraphModel) (unknown : List Bool) (found : List FindingModel) : Type 0 where
  pub serving : List Bool
  pub are_serving : AreServing (edges_of g) serving
  pub found_is : found ≡ missing_sources g unknown serving

-- ---- `audit`

-- `audit`, where absolute paths below the directory are the build's: the findings of the requested kinds, a line each. The warnings are a
-- line for each source that cannot be looked up, at the edge at which it would be missing, and the caveats about builds.
pub record AnswersAudit (known : DiscoveredGraph) (entries : List ReadStatement) (times : DeclaredTimes) (folder : List ℕ)
    (options : AuditModel) (output : List ℕ) (ending : Ending) : Type 0 where
  pub kinds : Kinds
  pub asked : AskFor kinds (selection_in options)
  pub missing : List Bool
  pub unknown : List Bool
  pub look_up : LookUpIf (asks_for options MissingSource) known.graph times missing unknown
  pub found : List FindingModel
  pub finds : IsAudit known.graph entries missing folder (undeclared_in known) kinds found
  pub lookups : List FindingModel
  pub would_be_missing : WouldBeMissing known.graph unknown lookups
  pub output_is : output ≡ finding_lines options.json found
  pub ending_is : ending ≡ answered (not (is_empty found)) (lookup_lines lookups ++ caveat_text known entries)

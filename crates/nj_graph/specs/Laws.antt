-- Laws of every reading of a run's files.
use Rattle.std.specs.Prelude.{◌≡◌, ◌≢◌, ◌⊎◌, ℕ, ◌+◌, ◌<◌, ◌≤◌, Option, Some, None, Result, Ok, Err, List, [], ◌∷◌, ◌++◌, map, length, slice_get, codes, ⊤}
use Rattle.std.specs.Cmp.Lexicographic.{slice_cmp}
use Rattle.std.specs.List.{AllByRecursion, Contains}
use Rattle.std.specs.List.Sorted.{IsStrictlySortedBy}
use Rattle.std.specs.Ordering.{nat_cmp}
use Rattle.nj_scope.specs.Readings.{Reading, IsPrefix}
use Rattle.nj_text.specs.Lines.{Line, text_lines}
use Rattle.nj_text.specs.Paths.{clean_path_of}
use Rattle.nj_text.specs.Words.{WordModel}
use Rattle.nj_manifest.specs.Dyndeps.{version_next, next_entry}
use Rattle.nj_manifest.specs.Faults.{Fault}
use Rattle.nj_manifest.specs.Openings.{Parse}
use Rattle.nj_manifest.specs.Statements.{BindingModel, next_statement}
use Rattle.nj_scope.specs.ReadingList.{ReadStatement, scope_of, rules_read, files_opened}
use Rattle.nj_edges.specs.Edges.{EdgePaths, first_output, outputs_of, inputs_of}
use Rattle.nj_faults.specs.declared.fault.GraphFault.{GraphFault}
use Rattle.nj_faults.specs.declared.fault.Cause.TheVariants.{EmptyPath, UnknownTarget, NoOutEdge}
use Rattle.nj_faults.specs.Faults.{unplaced}
use Rattle.nj_statements.specs.EdgeList.{EdgeModel, edges_read, names_of_edge}
use Rattle.nj_graph.specs.Graph.{main_rules_of}
use Rattle.nj_graph.specs.Joining.{entries_of}
use Rattle.nj_graph.specs.Parsed.{parsed}
use Rattle.nj_faults.specs.Limits.{most_within, most_opened}
use Rattle.nj_graph.specs.Reading.{expanded_in, own_fault, main_read}
use Rattle.nj_graph.specs.ResponseFiles.{first_position, sign_position}
use Rattle.nj_graph.specs.Runs.{IsLacking}
use Rattle.nj_graph.specs.Targets.{picked}

-- No statement has a fault of its own, by the statements before it. The last statement comes first.
abbrev pub Faultless : List ReadStatement → Type 0
Faultless [] = ⊤
Faultless (e ∷ before) = (own_fault e before ≡ None) × Faultless before

-- The statements that are read before the first fault have no fault.
abbrev pub ReadIsFaultless : Type 0
ReadIsFaultless = (files : List Reading) (main : List ℕ) → Faultless (main_read files main).entries

-- Around the file of a statement at most 31 others are open: so at any time at most 32 are.
abbrev pub OpenFilesAreBounded : Type 0
OpenFilesAreBounded = (files : List Reading) (main : List ℕ) → AllByRecursion (λ e. e.depth ≤ most_within) (main_read files main).entries

-- The number of opened files stays within the limit.
abbrev pub OpeningsAreBounded : Type 0
OpeningsAreBounded = (files : List Reading) (main : List ℕ) → files_opened (main_read files main).entries ≤ most_opened

-- The names of the rules that are listed are in strictly ascending byte order, without duplicates.
abbrev pub MainRulesRise : Type 0
MainRulesRise = (files : List Reading) (main : List ℕ)
    → IsStrictlySortedBy (slice_cmp nat_cmp) (map (λ r. r.name) (main_rules_of (rules_read (main_read files main).entries)))

-- Files that a reading does not reach make no difference: with more of them it is the same.
abbrev pub OthersAreNotRead : Type 0
OthersAreNotRead = (files all : List Reading) (main : List ℕ) → IsPrefix files all → IsLacking (main_read files main).end all
    → main_read all main ≡ main_read files main

-- ---- bindings after the statement of an edge

-- A binding after the statement of an edge, in the same scope, affects the values of the edge's variables.
abbrev pub LaterBindingsCount : Type 0
LaterBindingsCount = (e : ReadStatement) (before : List ReadStatement) (edge : EdgeModel) (name : List ℕ) (word : WordModel)
    → e.item ≡ BindingModel name word → e.scope ≡ edge.scope
    → (names_of_edge (e ∷ before) edge).file name ≡ expanded_in (scope_of e) before word

-- It does not change any edge: neither its paths, nor the bindings of its block, nor its rule.
abbrev pub LaterBindingsChangeNoEdge : Type 0
LaterBindingsChangeNoEdge = (e : ReadStatement) (before : List ReadStatement) (name : List ℕ) (word : WordModel)
    → e.item ≡ BindingModel name word → edges_read (e ∷ before) ≡ edges_read before

-- ---- the statements of a text

-- A parser finds the given items in the lines, one after the other, up to the end of the lines or up to the first fault.
pub data FindsInTurn {A : Type 0} (next : List Line → Parse (Option A)) : List Line → List A → Option Fault → Type 0 where
  at_end : {lines rest : List Line} → next lines ≡ Ok (None, rest) → FindsInTurn next lines [] None
  at_fault : {lines : List Line} {fault : Fault} → next lines ≡ Err fault → FindsInTurn next lines [] (Some fault)
  an_item : {lines rest : List Line} {item : A} {items : List A} {fault : Option Fault} → next lines ≡ Ok (Some item, rest)
      → FindsInTurn next rest items fault → FindsInTurn next lines (item ∷ items) fault

-- the statements of a text
abbrev pub StatementsAreFoundInTurn : Type 0
StatementsAreFoundInTurn = (text : List ℕ) → FindsInTurn next_statement (text_lines text) (parsed text).items (parsed text).fault

-- the entries of the text of a dyndep file, in the lines after its version
abbrev pub EntriesAreFoundInTurn : Type 0
EntriesAreFoundInTurn = (text : List ℕ) (lines : List Line) → version_next (text_lines text) ≡ Ok lines
    → FindsInTurn next_entry lines (entries_of text).items (entries_of text).fault

-- ---- where a command names its response file

-- a text has a part at a position
pub record HasPart (text part : List ℕ) (position : ℕ) : Type 0 where
  pub before : List ℕ
  pub after : List ℕ
  pub text_is : text ≡ before ++ part ++ after
  pub position_is : position ≡ length before

-- at the given position, and at no earlier position
pub record FirstHasPart (text part : List ℕ) (position : ℕ) : Type 0 where
  pub here : HasPart text part position
  pub not_earlier : (earlier : ℕ) → earlier < position → ¬ HasPart text part earlier

-- the result of a search: a position that has a property, or `None` if no position has it
abbrev pub Finds : (P : ℕ → Type 0) → Option ℕ → Type 0
Finds P (Some position) = P position
Finds P None = (position : ℕ) → ¬ P position

-- The first position of a part is the least position at which the text has it; `None` if the part does not occur.
abbrev pub FirstPositionIsFirst : Type 0
FirstPositionIsFirst = (part text : List ℕ) → Finds (FirstHasPart text part) (first_position part text)

-- a command has an `@`, and directly after it the first occurrence of the file's name
pub record HasSign (command file : List ℕ) (sign : ℕ) : Type 0 where
  pub here : HasPart command (codes "@" ++ file) sign
  pub first : FirstHasPart command file (sign + 1)

-- the sign is found before the first occurrence of the response file's name
abbrev pub SignIsBeforeTheFirst : Type 0
SignIsBeforeTheFirst = (command file : List ℕ) → Finds (HasSign command file) (sign_position command file)

-- ---- the meaning of targets' arguments

-- an edge names the file, as an output, an input or a validation
pub record IsNamedBy (edges : List EdgePaths) (path : List ℕ) : Type 0 where
  pub edge : EdgePaths
  pub there : Contains edges edge
  pub named : Contains (outputs_of edge) path ⊎ (Contains (inputs_of edge) path ⊎ Contains edge.validations path)

-- Of all edges that have the file as an input, the lowest-numbered edge has the given path as its first output.
pub record IsMadeOf (edges : List EdgePaths) (path made : List ℕ) : Type 0 where
  pub number : ℕ
  pub edge : EdgePaths
  pub edge_is : slice_get edges number ≡ Some edge
  pub uses : Contains (inputs_of edge) path
  pub smallest : (other : ℕ) (e : EdgePaths) → slice_get edges other ≡ Some e → Contains (inputs_of e) path → number ≤ other
  pub output_is : first_output edge ≡ Some made

-- a path without a `^` at its end
abbrev pub HasNoCaret : (path : List ℕ) → Type 0
HasNoCaret path = (file : List ℕ) → path ≢ file ++ codes "^"

-- The meaning of a clean path.
pub data Means (edges : List EdgePaths) (path : List ℕ) : Result (List ℕ) GraphFault → Type 0 where
  -- a file that an edge names
  a_file : HasNoCaret path → IsNamedBy edges path → Means edges path (Ok path)
  no_file : HasNoCaret path → ¬ IsNamedBy edges path → Means edges path (Err (unplaced (UnknownTarget path)))
  -- with a `^` after its path, the first output that is made from a file that an edge names
  made : {file output : List ℕ} → path ≡ file ++ codes "^" → IsMadeOf edges file output → Means edges path (Ok output)
  made_of_no_file : {file : List ℕ} → path ≡ file ++ codes "^" → ¬ IsNamedBy edges file
      → Means edges path (Err (unplaced (UnknownTarget file)))
  not_made : {file : List ℕ} → path ≡ file ++ codes "^" → IsNamedBy edges file → ((output : List ℕ) → ¬ IsMadeOf edges file output)
      → Means edges path (Err (unplaced (NoOutEdge file)))

-- The meaning of an argument is that of its clean path.
abbrev pub WordsMeanPaths : Type 0
WordsMeanPaths = (edges : List EdgePaths) (word : List ℕ) → word ≢ [] → Means edges (clean_path_of word) (picked edges word)

-- An empty word does not denote a target.
abbrev pub EmptyWordMeansNothing : Type 0
EmptyWordMeansNothing = (edges : List EdgePaths) → picked edges [] ≡ Err (unplaced EmptyPath)

-- A reader after some statements, and the readings of its calls.
use Rattle.std.specs.Prelude.{◌≡◌, ◌⊎◌, ℕ, suc, ◌<◌, ◌≤◌, Option, Some, None, Result, Ok, Err, List, [], ◌∷◌, length, String, string_bytes}
use Rattle.nj_graph.specs.Inside.PathsReached.{with_new, paths_read, reached_by}
use Rattle.std.specs.Prelude.{⊤}
use Rattle.std.specs.Global.{Global}
use Rattle.std.specs.List.{AllByRecursion}
use Rattle.std.specs.Rc.{rc_slice_items}
use Rattle.std.specs.declared.rc.RcSlice.{RcSlice}
use Rattle.nj_text.specs.declared.spot.Spot.{Spot}
use Rattle.nj_text.specs.Lines.{Line}
use Rattle.nj_text.specs.Words.{WordModel}
use Rattle.nj_manifest.specs.declared.statement.Placed.{Placed}
use Rattle.nj_manifest.specs.declared.statement.Statement.{Statement}
use Rattle.nj_manifest.specs.Faults.{Fault}
use Rattle.nj_manifest.specs.Contents.{placed_model}
use Rattle.nj_manifest.specs.Statements.{StatementModel, IncludeModel, SubninjaModel, next_statement, Left, Lines, Refused}
use Rattle.nj_scope.specs.Readings.{Reading, EachPathOnce, paths_of, IsPrefix}
use Rattle.nj_scope.specs.Sources.{SourceState}
use Rattle.nj_scope.specs.Opening as table
use Rattle.nj_scope.specs.Scopes.{ScopeModel, parent_at}
use Rattle.nj_scope.specs.Declarations.{DeclaredBy}
use Rattle.nj_scope.specs.ReadingList.{ReadStatement, scope_of, scopes_opened, path_named}
use Rattle.nj_faults.specs.declared.fault.Place.{Place}
use Rattle.nj_faults.specs.declared.fault.GraphFault.{GraphFault}
use Rattle.nj_faults.specs.declared.fault.Cause.TheVariants.{Missing, Io}
use Rattle.nj_graph.specs.declared.file_statements.Naming.{Naming}
use Rattle.nj_graph.specs.declared.file_statements.Naming.TheVariants as naming
use Rattle.nj_graph.specs.declared.reader.Reader.{Reader}
use Rattle.nj_graph.specs.declared.reader.OpenFile.{OpenFile}
use Rattle.nj_graph.specs.declared.reader.Opened.{Opened}
use Rattle.nj_faults.specs.Faults.{IsFault, fault_in, no_memory}
use Rattle.nj_statements.specs.Answers.{HasEdges}
pub use Rattle.nj_statements.specs.Answers.{Checks}
use Rattle.nj_statements.specs.Built.{ComesTo}
use Rattle.nj_graph.specs.Graph.{IsOpenScope, IsGraphOf}
use Rattle.nj_graph.specs.Loads.{LoadedModel}
use Rattle.nj_graph.specs.Origins.{origins_read, main_of}
use Rattle.nj_graph.specs.Reading.{Site, opened_site, own_fault, Whole, ReadingModel, Opens, opened_in, statement_read}
use Rattle.nj_graph.specs.Reading.{text_read}
use Rattle.nj_graph.specs.Runs.{IsRead, Stops}

abbrev pub site_scope : Site → List ℕ
site_scope site = site.scope ∷ site.around

-- ---- the fields

-- nothing was read of the main file
pub record IsNew (main : List ℕ) (held : Reader) : Type 0 where
  pub declares : DeclaredBy held.declarations []
  pub outermost : parent_at held.declarations.scopes 0 ≡ None
  pub edges : HasEdges held.building []
  pub files : held.files ≡ []
  pub origins : held.origins ≡ origins_read main []

-- It has the declarations and edges of the given statements, the last read first.
pub record Has (main : List ℕ) (held : Reader) (entries : List ReadStatement) : Type 0 where
  pub declares : DeclaredBy held.declarations entries
  pub edges : HasEdges held.building entries
  pub scopes : AllByRecursion (λ e. IsOpenScope held.declarations.scopes e.scope e.around) entries
  pub origins : held.origins ≡ origins_read main entries
  pub paths_are : paths_of held.files ≡ paths_read main entries
  pub once : EachPathOnce held.files

-- Scopes are opened, and earlier scopes keep their numbers and parents.
pub record Grows (before after : List ScopeModel) : Type 0 where
  pub count : length before ≤ length after
  pub parents : (n : ℕ) → n < length before → parent_at after n ≡ parent_at before n

abbrev pub ScopesGrow : (old held : Reader) → Type 0
ScopesGrow old held = Grows old.declarations.scopes held.declarations.scopes

abbrev pub site_of : OpenFile → (around : List ℕ) → (depth : ℕ) → Site
site_of file around depth = record { file = file.name.now; depth = depth; scope = file.scope.0; around = around }

-- the scope of an open file
abbrev pub IsOpenIn : Reader → OpenFile → (around : List ℕ) → Type 0
IsOpenIn held file around = IsOpenScope held.declarations.scopes file.scope.0 around

-- The property is true of the main file, of the site at which the file is open, and of the statements that were read, whichever they are.
abbrev pub InFile : Reader → OpenFile → ((main : List ℕ) → Site → List ReadStatement → Type 0) → Type 0
InFile held file P =
    (main : List ℕ) (entries : List ReadStatement) (around : List ℕ) (depth : ℕ) → Has main held entries → IsOpenIn held file around
    → P main (site_of file around depth) entries

-- The property is true of the scope of the file and of the statements that are declared, whichever they are.
abbrev pub InScope : Reader → OpenFile → ((scope : List ℕ) → List ReadStatement → Type 0) → Type 0
InScope held file P =
    (entries : List ReadStatement) (around : List ℕ) → DeclaredBy held.declarations entries → IsOpenIn held file around
    → P (file.scope.0 ∷ around) entries

-- ---- a statement that names no file

-- the statement has no fault and is held, or its fault is answered
abbrev pub Declares : (main : List ℕ) → (after : Reader) → ReadStatement → (before : List ReadStatement)
    → Result (Unit {0}) GraphFault → Type 0
Declares main after e before (Ok done) = (own_fault e before ≡ None) × Has main after (e ∷ before)
Declares main after e before (Err fault) = IsFault (own_fault e before) fault

-- ---- files

-- The readings of a source if it does not fail and the table can grow: the table then has them.
pub record ReadsAll (before after : SourceState) (old files held : List Reading) : Type 0 where
  pub reads : IsRead before after old files
  pub held_is : held ≡ files
  pub failures : after.failures ≡ before.failures

abbrev pub place_in : OpenFile → Spot → Place
place_in file spot = record { file = file.name.now; spot = spot }

-- The result for the file at a path that a word at the given place names, by the result of the table when it opened the
-- file: the text, or the fault. Out of memory may also come before the table is read.
abbrev pub ReturnsText : (before after : SourceState) → (old new : List Reading) → Place → (path : List ℕ)
    → Result (RcSlice ℕ Global) GraphFault → Type 0
ReturnsText before after old new place path (Ok text) = table.OpensFile before after old new path (Ok (Some text))
ReturnsText before after old new place path (Err fault) =
    ((fault ≡ no_memory) × table.LacksCapacity before after old new path)
    ⊎ (((fault ≡ record { place = Some place; cause = Io path }) × table.CannotBeRead before after old new path)
    ⊎ ((fault ≡ record { place = Some place; cause = Missing path }) × table.OpensFile before after old new path (Ok None)))

-- a run that stops
pub record StopsAt (main : List ℕ) (before after : SourceState) (old : List Reading) (reading : List Reading → ReadingModel)
    (fault : GraphFault) : Type 0 where
  pub files : List Reading
  pub reads : IsRead before after old files
  pub stops : Stops before after files (λ all. reached_by main (reading all)) fault

-- the path that a word expands to, or its fault
abbrev pub GivesPath : {Z : Type 0} → Option GraphFault → (gives : List ℕ) → Result (String Z) GraphFault → Type 0
GivesPath expected gives (Ok path) = (expected ≡ None) × (string_bytes path ≡ gives)
GivesPath expected gives (Err fault) = IsFault expected fault

-- A file is open: its text is read from here on.
pub record OpensText (main : List ℕ) (before after : SourceState) (old held : Reader) (left : ℕ) (place : Place) (path : List ℕ)
    (entries : List ReadStatement) (text : List ℕ) : Type 0 where
  pub files : List Reading
  pub reads : ReadsAll before after old.files files held.files
  pub came_to : paths_of files ≡ with_new (paths_of old.files) path
  pub within : ℕ
  pub left_is : left ≡ suc within
  pub read : (inner : Site) (e : ReadStatement) (all : List Reading) → inner.file ≡ path → IsPrefix files all
      → opened_in all left inner place e entries ≡ text_read (opened_in all within) inner text (e ∷ entries)

-- a path names a file that is opened, or is a path at which the run stops
abbrev pub OpensPath : (main : List ℕ) → (before after : SourceState) → (old held : Reader) → (left : ℕ) → Place
    → (path : List ℕ) → (entries : List ReadStatement) → Result (RcSlice ℕ Global) GraphFault → Type 0
OpensPath main before after old held left place path entries (Ok text) =
    OpensText main before after old held left place path entries (rc_slice_items text)
OpensPath main before after old held left place path entries (Err fault) =
    (inner : Site) (e : ReadStatement) → inner.file ≡ path → path_named e entries e.item ≡ Some path
    → StopsAt main before after old.files (λ all. opened_in all left inner place e entries) fault

-- ---- a statement

abbrev pub named_item : Naming → WordModel → StatementModel
named_item naming.Include word = IncludeModel word
named_item naming.Subninja word = SubninjaModel word

-- the site of the statements of the file that a statement names
abbrev pub named_site : Naming → ReadStatement → (before : List ReadStatement) → WordModel → Site
named_site naming.Include e before word = opened_site e before word e.scope e.around
named_site naming.Subninja e before word = opened_site e before word (scopes_opened before) (scope_of e)

-- The statement that names a file is held, and the scope of that file is open.
pub record EntersScope (held : Reader) (number : ℕ) (inner : Site) (e : ReadStatement) (entries : List ReadStatement) : Type 0 where
  pub number_is : inner.scope ≡ number
  pub scope : IsOpenScope held.declarations.scopes number inner.around
  pub declares : DeclaredBy held.declarations (e ∷ entries)

-- a statement that does not name a file was read
pub record ReadsOne (main : List ℕ) (before after : SourceState) (old held : Reader) (e : ReadStatement) (entries : List ReadStatement)
    : Type 0 where
  pub reads : ReadsAll before after old.files old.files held.files
  pub has : Has main held (e ∷ entries)
  pub read : (opens : Opens) → statement_read opens e entries ≡ record { entries = e ∷ entries; end = Whole }

-- The file that a statement names is open: its text is read from here on, and the statements read before it are held.
pub record OpensNamed (main : List ℕ) (before after : SourceState) (old held : Reader) (left : ℕ) (inner : Site) (text : List ℕ)
    (e : ReadStatement) (entries : List ReadStatement) : Type 0 where
  pub files : List Reading
  pub reads : ReadsAll before after old.files files held.files
  pub has : Has main held (e ∷ entries)
  pub within : ℕ
  pub left_is : left ≡ suc within
  pub read : (all : List Reading) → IsPrefix files all
      → statement_read (opened_in all left) e entries ≡ text_read (opened_in all within) inner text (e ∷ entries)

-- the file that a statement names, by the scope of its statements
pub record IsOpened (held : Reader) (opened : Opened) (inner : Site) : Type 0 where
  pub file : inner.file ≡ string_bytes opened.path
  pub number : inner.scope ≡ opened.scope.0
  pub scope : IsOpenScope held.declarations.scopes opened.scope.0 inner.around

-- the file that the statement names is opened, or the run stops there
abbrev pub OpensOrStops : (main : List ℕ) → (before after : SourceState) → (old held : Reader) → (left : ℕ)
    → ReadStatement → List ReadStatement
    → Result Opened GraphFault → Type 0
OpensOrStops main before after old held left e entries (Ok opened) =
    (inner : Site) × IsOpened held opened inner
    × OpensNamed main before after old held left inner (rc_slice_items opened.text) e entries
OpensOrStops main before after old held left e entries (Err fault) =
    StopsAt main before after old.files (λ all. statement_read (opened_in all left) e entries) fault

-- a statement is read, or the file that it names is opened, or the run stops there
abbrev pub ReadsItem : (main : List ℕ) → (before after : SourceState) → (old held : Reader) → (left : ℕ)
    → ReadStatement → List ReadStatement
    → Result (Option Opened) GraphFault → Type 0
ReadsItem main before after old held left e entries (Ok None) = ReadsOne main before after old held e entries
ReadsItem main before after old held left e entries (Ok (Some opened)) =
    OpensOrStops main before after old held left e entries (Ok opened)
ReadsItem main before after old held left e entries (Err fault) =
    OpensOrStops main before after old held left e entries (Err fault)

-- ---- byte strings

-- all was read, and is held
pub record ReadsText (main : List ℕ) (before after : SourceState) (old held : Reader) (reading : List Reading → ReadingModel)
    : Type 0 where
  pub files : List Reading
  pub reads : ReadsAll before after old.files files held.files
  pub entries : List ReadStatement
  pub has : Has main held entries
  pub read : (all : List Reading) → IsPrefix files all → reading all ≡ record { entries = entries; end = Whole }

abbrev pub ReadsOrStops : (main : List ℕ) → (before after : SourceState) → (old held : Reader) → (reading : List Reading → ReadingModel)
    → Result (Unit {0}) GraphFault → Type 0
ReadsOrStops main before after old held reading (Ok done) = ReadsText main before after old held reading
ReadsOrStops main before after old held reading (Err fault) = StopsAt main before after old.files reading fault

-- ---- after all reading

-- The files that were read, and the graph of the statements; or out of memory, or a cycle among their edges.
abbrev pub FinishesReading : (main : List ℕ) → Reader → List ReadStatement → Result LoadedModel GraphFault → Type 0
FinishesReading main held entries (Ok loaded) =
    (loaded.files ≡ held.files) × IsGraphOf loaded.graph entries × (main_of loaded.graph.origins ≡ main)
FinishesReading main held entries (Err fault) = ComesTo entries (Err fault)

-- ---- the next statement

-- the result of a parser; its faults are reported in a file
abbrev pub NextOf : (file : List ℕ) → List Line → (after : Left) → Result (Option (Placed Statement)) GraphFault → Type 0
NextOf file lines after (Ok (Some s)) =
    (rest : List Line) × (next_statement lines ≡ Ok (Some (placed_model s), rest)) × (after ≡ Lines rest)
NextOf file lines after (Ok None) = (rest : List Line) × (next_statement lines ≡ Ok (None, rest))
NextOf file lines after (Err fault) =
    (fault ≡ no_memory) ⊎ ((found : Fault) × (next_statement lines ≡ Err found) × (fault ≡ fault_in file found))

abbrev pub NextIs : (file : List ℕ) → (before after : Left) → Result (Option (Placed Statement)) GraphFault → Type 0
NextIs file (Lines lines) after result = NextOf file lines after result
NextIs file (Refused found) after result = ⊤

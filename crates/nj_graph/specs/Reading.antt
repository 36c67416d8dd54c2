-- The reading of a run's files: all statements in reading order, up to the first fault.
use Rattle.std.specs.Prelude.{ℕ, zero, suc, false, not, ◌&&◌, nat_lt, if◌then◌else◌, Option, Some, None, option_map, List, []}
use Rattle.std.specs.Bool.{then_some}
use Rattle.std.specs.Option.{option_or, option_map_or}
use Rattle.std.specs.Prelude.{◌∷◌, ◌++◌, find, filter, codes, bytes_eq}
use Rattle.std.specs.Str.{is_utf8}
use Rattle.nj_text.specs.declared.spot.Spot.{Spot}
use Rattle.nj_text.specs.Words.{WordModel}
use Rattle.nj_text.specs.Calls.{is_empty}
use Rattle.nj_manifest.specs.Faults.{Fault}
use Rattle.nj_manifest.specs.LineSteps.{NameModel}
use Rattle.nj_manifest.specs.Statements.{LineModel, StatementModel, BindingModel, RuleModel, PoolModel, BuildModel, DefaultModel, IncludeModel}
use Rattle.nj_manifest.specs.Statements.{SubninjaModel, PlacedModel}
use Rattle.nj_scope.specs.Readings as table
use Rattle.nj_scope.specs.Readings.{reading_of}
use Rattle.nj_scope.specs.Limits.{is_depth}
use Rattle.nj_scope.specs.Pools.{is_pool}
use Rattle.nj_scope.specs.ReadingList.{ReadStatement, scope_of, rules, is_declared, pools, scopes_opened, path_named, files_opened, gathered}
pub use Rattle.nj_scope.specs.ReadingList.{expanded_in}
use Rattle.nj_faults.specs.declared.fault.Place.{Place}
use Rattle.nj_faults.specs.declared.fault.Cause.{Cause}
use Rattle.nj_faults.specs.declared.fault.GraphFault.{GraphFault}
use Rattle.nj_faults.specs.declared.fault.Cause.TheVariants.{EmptyPath, BadDepth, DuplicateRule, DuplicatePool, VersionTooNew, Missing}
use Rattle.nj_faults.specs.declared.fault.Cause.TheVariants.{PathNotText, TooDeep, TooManyOpenings}
use Rattle.nj_faults.specs.Limits.{most_within, most_opened}
use Rattle.nj_faults.specs.Faults.{fault_at, fault_in}
use Rattle.nj_faults.specs.Versions.{is_newer}
use Rattle.nj_edges.specs.Edges.{is_among}
use Rattle.nj_edges.specs.Repeats.{each_once}
use Rattle.nj_statements.specs.BuildFaults.{build_fault, default_fault}
use Rattle.nj_graph.specs.Parsed.{parsed}

-- ---- where a statement is

-- Where the statements of an open file are: the file, by the name under which it was opened; how many files are open
-- around it; and the scope: its number, and the enclosing scopes, the nearest first.
pub record Site : Type 0 where
  pub file : List ℕ
  pub depth : ℕ
  pub scope : ℕ
  pub around : List ℕ

-- a statement that is read at a site
abbrev pub entry_at : Site → PlacedModel → ReadStatement
entry_at site s = record {
  file = site.file;
  spot = s.spot;
  depth = site.depth;
  scope = site.scope;
  around = site.around;
  item = s.item;
  was_joined = false;
  discovered = None;
}

-- ---- the fault of a statement by itself

-- a top-level binding demands a newer version of Ninja
abbrev pub binding_fault : (file : List ℕ) → Spot → (name value : List ℕ) → Option GraphFault
binding_fault file spot name value =
    then_some (bytes_eq name (codes "ninja_required_version") && is_newer value) (fault_at file spot (VersionTooNew value))

-- the scope has a rule with the given name already
abbrev pub rule_fault : (file : List ℕ) → (number : ℕ) → (before : List ReadStatement) → NameModel → Option GraphFault
rule_fault file number before name =
    then_some (is_declared (rules before number name.name) name.name) (fault_at file name.spot (DuplicateRule name.name))

-- each depth in a pool's block is checked, even if a later line overrides it
abbrev pub depth_fault : (file scope : List ℕ) → (before : List ReadStatement) → List LineModel → Option GraphFault
depth_fault file scope before lines =
    option_map (λ l. fault_at file l.spot BadDepth) (find (λ l. not (is_depth (expanded_in scope before l.value))) lines)

-- a pool with the given name already exists, or a depth is bad
abbrev pub pool_fault : (file scope : List ℕ) → (before : List ReadStatement) → NameModel → List LineModel → Option GraphFault
pool_fault file scope before name lines =
    option_or (then_some (is_pool (pools before) name.name) (fault_at file name.spot (DuplicatePool name.name)))
    (depth_fault file scope before lines)

-- the path is empty, or is not UTF-8
abbrev pub path_fault : (file : List ℕ) → Spot → (path : List ℕ) → Option GraphFault
path_fault file spot path =
    option_or (then_some (is_empty path) (fault_at file spot EmptyPath)) (then_some (not (is_utf8 path)) (fault_at file spot PathNotText))

-- the fault of a statement, by the statements before it
abbrev pub item_fault : ReadStatement → (before : List ReadStatement) → StatementModel → Option GraphFault
item_fault e before (BindingModel name value) = binding_fault e.file e.spot name (expanded_in (scope_of e) before value)
item_fault e before (RuleModel name lines) = rule_fault e.file e.scope before name
item_fault e before (PoolModel name lines) = pool_fault e.file (scope_of e) before name lines
item_fault e before (BuildModel outputs rule inputs lines) = build_fault e before outputs rule inputs lines
item_fault e before (DefaultModel words) = default_fault e before words
item_fault e before (IncludeModel word) = path_fault e.file word.spot (expanded_in (scope_of e) before word)
item_fault e before (SubninjaModel word) = path_fault e.file word.spot (expanded_in (scope_of e) before word)

-- the first fault of a statement, except the faults of its syntax and of the file that it names
abbrev pub own_fault : ReadStatement → (before : List ReadStatement) → Option GraphFault
own_fault e before = item_fault e before e.item

-- ---- a reading

-- how a reading ends
pub data End : Type 0 where
  -- all was read
  Whole : End
  -- at the first fault
  Refused : (fault : GraphFault) → End
  -- at a path that the table does not have, which the statement at the given place names
  Lacking : (path : List ℕ) (place : Place) → End

-- the statements that were read, the last statement first
pub record ReadingModel : Type 0 where
  pub entries : List ReadStatement
  pub end : End

-- nothing more is read after the end
abbrev pub continued : End → List ReadStatement → (List ReadStatement → ReadingModel) → ReadingModel
continued Whole entries others = others entries
continued end entries others = record { entries = entries; end = end }

-- a reading and then another, if the first went to its end
abbrev pub and_then : ReadingModel → (List ReadStatement → ReadingModel) → ReadingModel
and_then r others = continued r.end r.entries others

-- The reading of the file that a statement names: where its own statements are, the place of its name, the statement
-- itself, and the statements before it.
abbrev pub Opens : Type 0
Opens = Site → Place → ReadStatement → (before : List ReadStatement) → ReadingModel

-- a place in the file of a statement
abbrev pub place_at : ReadStatement → Spot → Place
place_at e spot = record { file = e.file; spot = spot }

-- The statements of a file that a statement names are in the scope with the given number, within the given scopes:
-- those of a file that is included are in the scope of the `include`, those of a file after `subninja` in a new scope
-- within the scope of the statement.
abbrev pub opened_site : ReadStatement → (before : List ReadStatement) → WordModel → (number : ℕ) → (around : List ℕ) → Site
opened_site e before word number around = record {
  file = expanded_in (scope_of e) before word;
  depth = suc e.depth;
  scope = number;
  around = around;
}

-- the result of reading a statement; a statement that names a file opens it
abbrev pub item_read : Opens → ReadStatement → (before : List ReadStatement) → StatementModel → ReadingModel
item_read opens e before (IncludeModel word) = opens (opened_site e before word e.scope e.around) (place_at e word.spot) e before
item_read opens e before (SubninjaModel word) =
    opens (opened_site e before word (scopes_opened before) (scope_of e)) (place_at e word.spot) e before
item_read opens e before item = record { entries = e ∷ before; end = Whole }

-- the end that a fault makes; without a fault, the reading does not end
abbrev pub end_by : Option GraphFault → End
end_by fault = option_map_or Refused fault Whole

-- what reading a statement comes to, unless it has a fault
abbrev pub statement_read : Opens → ReadStatement → (before : List ReadStatement) → ReadingModel
statement_read opens e before = continued (end_by (own_fault e before)) before (λ _. item_read opens e before e.item)

-- the statements of a file, one after the other
unfoldable pub statements_read : Opens → Site → (statements : List PlacedModel) → Option Fault
    → (before : List ReadStatement) → ReadingModel
statements_read opens site [] fault before = record { entries = before; end = end_by (option_map (fault_in site.file) fault) }
statements_read opens site (s ∷ others) fault before =
    and_then (statement_read opens (entry_at site s) before) (λ entries. statements_read opens site others fault entries)

-- what reading all statements of a text comes to
abbrev pub text_read : Opens → Site → (text : List ℕ) → (before : List ReadStatement) → ReadingModel
text_read opens site text before = statements_read opens site (parsed text).items (parsed text).fault before

-- the reading ends here, for the given cause
abbrev pub stopped : List ReadStatement → Place → Cause → ReadingModel
stopped before place cause = record { entries = before; end = Refused (record { place = Some place; cause = cause }) }

-- by the result of the table for a path that the statement at the given place names
abbrev pub outcome_read : (path : List ℕ) → Place → (before : List ReadStatement) → (List ℕ → ReadingModel)
    → Option table.Reading → ReadingModel
outcome_read path place before reads None = record { entries = before; end = Lacking path place }
outcome_read path place before reads (Some r) = option_map_or reads r.bytes (stopped before place (Missing path))

-- the reading of a file by the given files, where `left` more files may be open
unfoldable pub opened_in : (files : List table.Reading) → (left : ℕ) → Opens
opened_in files zero site place e before = stopped before place TooDeep
opened_in files (suc left) site place e before =
    if nat_lt (files_opened before) most_opened
    then outcome_read site.file place before (λ text. text_read (opened_in files left) site text (e ∷ before))
    (reading_of files site.file)
    else stopped before place TooManyOpenings

-- ---- a run

-- the site of the main file's statements
abbrev pub main_site : (main : List ℕ) → Site
main_site main = record { file = main; depth = 0; scope = 0; around = [] }

-- the place to which faults of opening the main file belong
abbrev pub main_place : (main : List ℕ) → Place
main_place main = record { file = main; spot = record { line = 1; column = 1 } }

-- the main file, and all that it includes
unfoldable pub main_read : (files : List table.Reading) → (main : List ℕ) → ReadingModel
main_read files main =
    outcome_read main (main_place main) [] (λ text. text_read (opened_in files most_within) (main_site main) text [])
    (reading_of files main)

-- ---- the paths that a reading reaches

-- the paths with others, each at its first occurrence
abbrev pub with_all_new : (before paths : List (List ℕ)) → List (List ℕ)
with_all_new before paths = before ++ filter (λ path. not (is_among before path)) (each_once bytes_eq paths)

-- the path at which a reading ends: of a file that is missing, or that the table does not have
abbrev pub path_at_end : End → List (List ℕ)
path_at_end Whole = []
path_at_end (Refused fault) = elim fault.cause [ Missing path ↦ path ∷ [] | other ↦ [] ]
path_at_end (Lacking path place) = path ∷ []

-- All paths that the reading reaches, each at its first occurrence: the main file, the files that the statements name,
-- and the path at its end.
abbrev pub paths_come_to : (main : List ℕ) → ReadingModel → List (List ℕ)
paths_come_to main r = each_once bytes_eq (main ∷ gathered path_named r.entries ++ path_at_end r.end)

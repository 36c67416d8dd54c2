-- The results of reading a statement, and how they are represented.
use Rattle.std.specs.Prelude.{false, ◌≡◌, ℕ, Option, Some, None, Result, Ok, Err}
use Rattle.std.specs.Prelude.{List, ◌∷◌, ◌<◌, length, slice_get, slice_index_or}
use Rattle.nj_manifest.specs.Statements.{StatementModel}
use Rattle.nj_scope.specs.Rules.{RuleModel}
use Rattle.nj_scope.specs.Readings.{IsPrefix}
use Rattle.nj_scope.specs.ReadingList.{ReadStatement, rules_read}
use Rattle.nj_edge_env.specs.Blocks.{bound_in, names_in}
use Rattle.nj_edges.specs.EdgeGraphs.{EdgeGraph}
use Rattle.nj_edges.specs.EdgeTables.{EdgeTable, no_files}
use Rattle.nj_faults.specs.declared.fault.GraphFault.{GraphFault}
use Rattle.nj_faults.specs.declared.fault.PlaceRef.{PlaceRef}
use Rattle.nj_faults.specs.Faults.{IsFault}
use Rattle.nj_edge_env.specs.ReferencesHeld.{ReferringKeyModel, TellsCycles}
use Rattle.nj_statements.specs.Built.{IsBuiltOf}
use Rattle.nj_statements.specs.Records.{RecordsModel, AreOfGraph, with_graph}

-- ---- faults

-- there is no fault, or it is returned
abbrev pub Checks : {A : Type 0} → Option GraphFault → Result A GraphFault → Type 0
Checks expected (Ok done) = expected ≡ None
Checks expected (Err fault) = IsFault expected fault

-- ---- the files of an edge

-- The edges that were read stay the same. Files may be added, without changing the numbers of the others, and nothing
-- is known of the edge that is being read.
pub record KeepsRead (before after : EdgeTable) : Type 0 where
  pub edges : after.edges ≡ before.edges
  pub files : IsPrefix before.files after.files

-- ---- the names of a rule

-- the references kept for rules are enough to find their cycles
abbrev pub HasReferences : (kept : List (Option (List ReferringKeyModel))) → List RuleModel → Type 0
HasReferences kept rules =
    (number : ℕ) (keys : List ReferringKeyModel) → slice_index_or kept number None ≡ Some keys
    → (rule : RuleModel) × (slice_get rules number ≡ Some rule) × TellsCycles rule.lines keys

-- ---- the fields

-- what reading has come to: edges, their records, and what is kept of rules
pub record BuildingModel : Type 0 where
  pub table : EdgeTable
  pub records : RecordsModel
  -- for each rule by number, which of its variables refer to which, once an edge has used it
  pub references : List (Option (List ReferringKeyModel))

-- the edges that were read
abbrev pub graph_read : EdgeTable → EdgeGraph
graph_read table = record { files = table.files; edges = table.edges }

-- It has the edges and defaults of the given statements, the last read first.
pub record HasEdges (held : BuildingModel) (entries : List ReadStatement) : Type 0 where
  pub none_open : held.table.«open» ≡ no_files
  pub fits : AreOfGraph (graph_read held.table) held.records
  pub built : IsBuiltOf (with_graph (graph_read held.table) held.records) entries
  pub references : HasReferences held.references (rules_read entries)

-- No edge or default is added: those that were read stay the same, with their blocks. Files may be added, without
-- changing the numbers of the others, and an edge may be read in part.
pub record AddsNothing (before after : BuildingModel) : Type 0 where
  pub edges : KeepsRead before.table after.table
  pub blocks : (number : ℕ) (name : List ℕ) → number < length before.records.details
      → bound_in after.records.blocks number name ≡ bound_in before.records.blocks number name
  pub block_names : (number : ℕ) → number < length before.records.details
      → names_in after.records.blocks number ≡ names_in before.records.blocks number
  pub names : IsPrefix before.records.names after.records.names
  pub details : after.records.details ≡ before.records.details
  pub defaults : after.records.defaults ≡ before.records.defaults
  pub dyndeps : after.records.dyndeps ≡ before.records.dyndeps

-- ---- a statement

-- a statement at a place, to which no dyndep file was joined
abbrev pub entry_at_place : PlaceRef → (scope : ℕ) → (around : List ℕ) → (depth : ℕ) → StatementModel → ReadStatement
entry_at_place place scope around depth item = record {
  file = place.file.now;
  spot = place.spot;
  depth = depth;
  scope = scope;
  around = around;
  item = item;
  was_joined = false;
  discovered = None;
}

-- the statement has no fault and is held, or its fault is answered
abbrev pub ReadsStatement : (after : BuildingModel) → Option GraphFault → ReadStatement → (before : List ReadStatement)
    → Result (Unit {0}) GraphFault → Type 0
ReadsStatement after expected e before (Ok done) = (expected ≡ None) × HasEdges after (e ∷ before)
ReadsStatement after expected e before (Err fault) = IsFault expected fault

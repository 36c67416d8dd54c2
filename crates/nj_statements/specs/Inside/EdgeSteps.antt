-- How the code reads an edge, step by step.
use Rattle.std.specs.Prelude.{◌≡◌, ℕ, Bool, true, false, if◌then◌else◌, Option, Some, None, option_map, unwrap_or}
use Rattle.std.specs.Prelude.{List, [], ◌∷◌, ◌++◌, ◌+◌, ◌≤◌, length, slice_get, slice_index_or, codes, bytes_eq}
use Rattle.std.specs.Option.{option_or}
use Rattle.std.specs.List.{AllByRecursion}
use Rattle.nj_text.specs.declared.spot.Spot.{Spot}
use Rattle.nj_text.specs.Paths.{clean_path_of}
use Rattle.nj_manifest.specs.Statements.{InputsModel}
use Rattle.nj_scope.specs.Rules.{RuleModel, RuleLineModel, phony}
use Rattle.nj_scope.specs.Readings.{IsPrefix}
use Rattle.nj_scope.specs.Scopes.{IsScope, parent_at}
use Rattle.nj_scope.specs.Declarations.{DeclarationsModel, DeclaredBy}
use Rattle.nj_scope.specs.ReadingList.{ReadStatement, value_after}
use Rattle.nj_edge_env.specs.Blocks.{bound_in}
use Rattle.nj_names.specs.declared.files.FileNo.{FileNo}
use Rattle.nj_edges.specs.declared.edges.EdgeNo.{EdgeNo}
use Rattle.nj_edges.specs.Edges.{EdgePaths, is_among}
use Rattle.nj_edges.specs.EdgeTables.{EdgeTable, no_files, with_output, with_input, with_validation}
use Rattle.nj_names.specs.Files.{AreFiles}
use Rattle.nj_edge_env.specs.declared.late_edge.LateEdge.{LateEdge}
use Rattle.nj_edge_env.specs.LateStrings.{LateNames, asked_text}
use Rattle.nj_edge_env.specs.LateEdges.{late_names}
use Rattle.nj_edge_env.specs.ReferencesHeld.{ReferringKeyModel}
use Rattle.nj_statements.specs.declared.context.Context.{Context}
use Rattle.nj_statements.specs.declared.edge_record.Assigned.{Assigned}
use Rattle.nj_statements.specs.declared.edge_record.Detail.{Detail}
use Rattle.nj_statements.specs.declared.records.DyndepEdge.{DyndepEdge}
use Rattle.nj_statements.specs.EdgeList.{Values, Block, AssignedModel, on_line, paths_given, name_given, file_given}
use Rattle.nj_faults.specs.declared.fault.GraphFault.{GraphFault}
use Rattle.nj_statements.specs.BuildFaults.{variable_cycle_fault, unknown_pool, dyndep_not_input}
use Rattle.nj_statements.specs.Answers.{KeepsRead}
use Rattle.nj_statements.specs.Records.{numbered, spot_of}

-- the faults of an edge's names in their order, where the given pools are declared and the edge has the given inputs
abbrev pub names_fault : (file : List ℕ) → Spot → (declared inputs : List (List ℕ)) → LateNames → Option GraphFault
names_fault file spot declared inputs n =
    option_or (variable_cycle_fault file spot n)
    (option_or (unknown_pool file spot declared (asked_text n (codes "pool")))
    (dyndep_not_input file spot inputs (asked_text n (codes "dyndep"))))

abbrev pub lines_of_rule : Option RuleModel → List RuleLineModel
lines_of_rule r = unwrap_or (option_map (λ r. r.lines) r) []

-- Names have the given values in a scope, by the declarations of the earlier statements and the bindings of the block.
pub record Sees (held : DeclarationsModel) (scope : ℕ) (block : Block) (values : Values) : Type 0 where
  pub entries : List ReadStatement
  pub around : List ℕ
  pub declared : DeclaredBy held entries
  pub within : IsScope (parent_at held.scopes) scope (scope ∷ around)
  pub are : (name : List ℕ) → values name ≡ on_line (value_after entries (scope ∷ around)) block name

abbrev pub bound_by : Context → Block
bound_by c = bound_in c.blocks.now c.edge

abbrev pub SeesNames : Context → Values → Type 0
SeesNames c values = Sees c.declarations.now c.scope.0 (bound_by c) values

abbrev pub with_outputs : EdgeTable → List (List ℕ) → EdgeTable
with_outputs t [] = t
with_outputs t (path ∷ paths) = with_outputs (with_output t path) paths

-- an input, which is left out if the edge makes it itself and loses its own outputs as inputs
abbrev pub with_input_unless : (loses_own : Bool) → EdgeTable → (path : List ℕ) → EdgeTable
with_input_unless false t path = with_input t path
with_input_unless true t path = if is_among t.«open».outputs path then t else with_input t path

abbrev pub with_inputs : (loses_own : Bool) → EdgeTable → List (List ℕ) → EdgeTable
with_inputs loses_own t [] = t
with_inputs loses_own t (path ∷ paths) = with_inputs loses_own (with_input_unless loses_own t path) paths

abbrev pub with_validations : EdgeTable → List (List ℕ) → EdgeTable
with_validations t [] = t
with_validations t (path ∷ paths) = with_validations (with_validation t path) paths

-- each of the given paths is its own clean path
abbrev pub AreClean : (files : List (List ℕ)) → Type 0
AreClean files = AllByRecursion (λ path. clean_path_of path ≡ path) files

-- the edges that were read stay the same, and if all paths were clean, they still are
pub record KeepsClean (before after : EdgeTable) : Type 0 where
  pub read : KeepsRead before after
  pub clean : AreClean before.files → AreClean after.files

-- the edge that is being read has the given number of additional outputs, and no fewer inputs
pub record Grows (outputs : ℕ) (before after : EdgeTable) : Type 0 where
  pub outputs_are : length after.«open».outputs ≡ length before.«open».outputs + outputs
  pub inputs : length before.«open».inputs ≤ length after.«open».inputs

-- the inputs and validations of a statement are appended; its explicit and its implicit inputs end at `ends`
pub record AddsInputs (loses_own : Bool) (values : Values) (inputs : InputsModel) (before after : EdgeTable) (ends : ℕ × ℕ)
    : Type 0 where
  pub explicit : EdgeTable
  pub explicit_is : explicit ≡ with_inputs loses_own before (paths_given values inputs.explicit)
  pub explicit_end : ends.0 ≡ length explicit.«open».inputs
  pub implicit : EdgeTable
  pub implicit_is : implicit ≡ with_inputs loses_own explicit (paths_given values inputs.implicit)
  pub implicit_end : ends.1 ≡ length implicit.«open».inputs
  pub after_is : after ≡ with_validations (with_inputs loses_own implicit (paths_given values inputs.order_only))
      (paths_given values inputs.validations)

-- one edge is added; files keep their numbers
pub record AddsEdge (before after : EdgeTable) (edge : EdgePaths) : Type 0 where
  pub edges : after.edges ≡ before.edges ++ edge ∷ []
  pub none_open : after.«open» ≡ no_files
  pub files : IsPrefix before.files after.files

-- the numbers of the files with the given paths are appended
pub record AddsTargets (files : List (List ℕ)) (before after : List FileNo) (paths : List (List ℕ)) : Type 0 where
  pub added : List FileNo
  pub after_is : after ≡ before ++ added
  pub are : AreFiles files added paths

-- the names of an edge with the given paths and block, where its file has the given values
abbrev pub names_read : EdgePaths → Block → RuleModel → (file : Values) → LateNames
names_read paths block rule file = record {
  inputs = paths.explicit_inputs;
  outputs = paths.explicit_outputs;
  block = block;
  lines = rule.lines;
  is_phony = bytes_eq rule.name phony;
  file = file;
}

-- `n` is what the names of an edge depend on, by the declarations of the earlier statements.
pub record SeesLate (edge : LateEdge) (entries : List ReadStatement) (n : LateNames) : Type 0 where
  pub around : List ℕ
  pub declared : DeclaredBy edge.declarations.now entries
  pub within : IsScope (parent_at edge.declarations.now.scopes) edge.scope.0 (edge.scope.0 ∷ around)
  pub are : n ≡ late_names edge (value_after entries (edge.scope.0 ∷ around))

-- the assignment of an edge, by what its names depend on
abbrev pub assigned_by : LateNames → AssignedModel
assigned_by n = record { pool = name_given (asked_text n (codes "pool")); dyndep = file_given (asked_text n (codes "dyndep")) }

-- the number of the file at the given path, if any
abbrev pub IsFileGiven : (files : List (List ℕ)) → Option FileNo → Option (List ℕ) → Type 0
IsFileGiven files number path = option_map (λ f. slice_get files f.0) number ≡ option_map Some path

-- the same references are kept for each rule
abbrev pub SameReferences : (kept others : List (Option (List ReferringKeyModel))) → Type 0
SameReferences kept others = (number : ℕ) → slice_index_or kept number None ≡ slice_index_or others number None

-- the detail of an edge at the given place, before anything is assigned to it and before a dyndep file is joined to it
pub record IsDetailOf (file : ℕ) (spot : Spot) (scope rule : ℕ) (d : Detail) : Type 0 where
  pub file_is : d.file ≡ file
  pub spot_is : spot_of d ≡ spot
  pub scope_is : d.scope ≡ scope
  pub rule_is : d.rule ≡ rule
  pub restat_is : d.restat ≡ false

-- the numbers of an assignment
pub record AreNumbersOf (names : List (List ℕ)) (a : Assigned) (meant : AssignedModel) : Type 0 where
  pub pool : slice_get (numbered names) a.pool ≡ Some meant.pool
  pub dyndep : slice_get (numbered names) a.dyndep ≡ Some meant.dyndep

-- with the given edge, if it is bound to a dyndep file
abbrev pub with_dyndep : EdgeNo → Option FileNo → List DyndepEdge → List DyndepEdge
with_dyndep edge None held = held
with_dyndep edge (Some file) held = held ++ record { edge = edge; file = file } ∷ []

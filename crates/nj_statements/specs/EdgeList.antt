-- The edges of a run: one for each build statement, in reading order.
use Rattle.std.specs.Prelude.{ℕ, ◌==◌, Bool, true, false, ◌&&◌, not, if◌then◌else◌, Option, option_map, unwrap_or, Some, None, List}
use Rattle.std.specs.Prelude.{[], ◌∷◌, ◌++◌, map, length, slice_get, slice_index_or, codes, bytes_eq}
use Rattle.std.specs.List.{filter}
use Rattle.nj_text.specs.declared.spot.Spot.{Spot}
use Rattle.nj_text.specs.Words.{WordModel}
use Rattle.nj_text.specs.Paths.{clean_path_of}
use Rattle.nj_text.specs.Calls.{is_empty}
use Rattle.nj_manifest.specs.LineSteps.{NameModel}
use Rattle.nj_manifest.specs.Statements.{LineModel, last_line, OutputsModel, InputsModel, StatementModel, BuildModel, DefaultModel}
use Rattle.nj_scope.specs.Scopes.{expanded}
use Rattle.nj_scope.specs.ReadingList.{Discovered, ReadStatement, scope_of, value_after, rule_in_force, rules_read, gathered}
use Rattle.nj_edges.specs.Edges.{EdgePaths, outputs_of, is_among}
use Rattle.nj_edges.specs.Repeats.{each_once}
use Rattle.nj_edge_env.specs.LateStrings.{LateNames, asked_text}

-- ---- names and paths

-- the values of names; an unknown name is empty
abbrev pub Values : Type 0
Values = (name : List ℕ) → List ℕ

-- the value that the block of a build statement binds to each name
abbrev pub Block : Type 0
Block = (name : List ℕ) → Option (List ℕ)

-- a block without lines
abbrev pub no_block : Block
no_block name = None

-- The last line of a name takes effect. Its value is expanded in the scope of the file, without the lines of the block
-- itself.
abbrev pub block_of : Values → List LineModel → Block
block_of values lines name = option_map (λ l. expanded values l.value.parts) (last_line (λ l. l.name) lines name)

-- the names that a block binds, without duplicates, in the order of their first lines
abbrev pub names_bound : List LineModel → List (List ℕ)
names_bound lines = each_once bytes_eq (map (λ l. l.name) lines)

-- A name on a build line is the block's, else the scope's.
abbrev pub on_line : Values → Block → Values
on_line values block name = unwrap_or (block name) (values name)

-- the path that a word expands to
abbrev pub path_given : Values → WordModel → List ℕ
path_given values word = clean_path_of (expanded values word.parts)

-- the paths that words expand to
abbrev pub paths_given : Values → List WordModel → List (List ℕ)
paths_given values words = map (path_given values) words

-- ---- edges

-- an edge
pub record EdgeModel : Type 0 where
  -- the file of the build statement, by the name under which it was opened, and the place of its first byte there
  pub file : List ℕ
  pub spot : Spot
  -- its scope, and the scopes around it, the nearest first, by their numbers
  pub scope : ℕ
  pub around : List ℕ
  -- the number of its rule, which is the one in force before the statement; `phony` is 0
  pub rule : ℕ
  pub block : Block
  -- the names that its block binds
  pub block_names : List (List ℕ)
  pub paths : EdgePaths

-- the files that a build statement names
abbrev pub stated_paths : Values → OutputsModel → InputsModel → (is_phony : Bool) → EdgePaths
stated_paths values outputs inputs is_phony = record {
  explicit_outputs = paths_given values outputs.explicit;
  implicit_outputs = paths_given values outputs.implicit;
  explicit_inputs = paths_given values inputs.explicit;
  implicit_inputs = paths_given values inputs.implicit;
  order_only_inputs = paths_given values inputs.order_only;
  validations = paths_given values inputs.validations;
  is_phony = is_phony;
}

-- A phony edge loses the inputs that are its own output where it has one explicit output, no implicit output and no implicit
-- input.
abbrev pub loses_own : EdgePaths → Bool
loses_own e = e.is_phony && length e.explicit_outputs == 1 && length e.implicit_outputs == 0 && length e.implicit_inputs == 0

-- the given paths without the edge's own outputs
abbrev pub of_others : EdgePaths → List (List ℕ) → List (List ℕ)
of_others e paths = filter (λ path. not (is_among (outputs_of e) path)) paths

-- the edge without its own outputs among its inputs
abbrev pub without_own : EdgePaths → EdgePaths
without_own e = record e { explicit_inputs = of_others e e.explicit_inputs; order_only_inputs = of_others e e.order_only_inputs }

-- the files of an edge once it has lost its own outputs as inputs
abbrev pub edge_paths : EdgePaths → EdgePaths
edge_paths e = if loses_own e then without_own e else e

-- the number of the rule in force under a name; 0 for an unknown name
abbrev pub rule_number : ReadStatement → (before : List ReadStatement) → NameModel → ℕ
rule_number e before rule = unwrap_or (rule_in_force before (scope_of e) rule.name) 0

-- the block of a build statement
abbrev pub build_block : ReadStatement → (before : List ReadStatement) → List LineModel → Block
build_block e before lines = block_of (value_after before (scope_of e)) lines

-- the values of the names on its line
abbrev pub line_values : ReadStatement → (before : List ReadStatement) → List LineModel → Values
line_values e before lines = on_line (value_after before (scope_of e)) (build_block e before lines)

-- Discovered files are implicit: they come after the implicit files of the statement itself, and the inputs before the
-- order-only inputs.
abbrev pub with_discovered : Option Discovered → EdgePaths → EdgePaths
with_discovered None e = e
with_discovered (Some found) e = record e {
  implicit_outputs = e.implicit_outputs ++ found.outputs;
  implicit_inputs = e.implicit_inputs ++ found.inputs;
}

-- whether a dyndep file binds `restat`
abbrev pub binds_restat : Option Discovered → Bool
binds_restat None = false
binds_restat (Some found) = found.restat

-- The edge of a build statement, by the statements before it, the last read first. It loses its own outputs as
-- inputs before discovered files are added.
abbrev pub edge_of_build : ReadStatement → (before : List ReadStatement) → OutputsModel → NameModel → InputsModel
    → List LineModel → EdgeModel
edge_of_build e before outputs rule inputs lines = record {
  file = e.file;
  spot = e.spot;
  scope = e.scope;
  around = e.around;
  rule = rule_number e before rule;
  block = build_block e before lines;
  block_names = names_bound lines;
  paths = with_discovered e.discovered
      (edge_paths (stated_paths (line_values e before lines) outputs inputs (rule_number e before rule == 0)));
}

-- the edge of a statement; only a build statement has an edge
abbrev pub edge_given : ReadStatement → (before : List ReadStatement) → StatementModel → Option EdgeModel
edge_given e before (BuildModel outputs rule inputs lines) = Some (edge_of_build e before outputs rule inputs lines)
edge_given e before item = None

-- the edges of the given statements
unfoldable pub edges_read : List ReadStatement → List EdgeModel
edges_read entries = gathered edge_given entries

-- the block of the edge with the given number; none past the last edge
abbrev pub block_of_edge : Option EdgeModel → Block
block_of_edge None = no_block
block_of_edge (Some e) = e.block

-- the block of the edge with the given number
abbrev pub block_at : List EdgeModel → (number : ℕ) → Block
block_at edges number = block_of_edge (slice_get edges number)

-- the names that the block of the edge with the given number binds; none past the last edge
abbrev pub block_names_at : List EdgeModel → (number : ℕ) → List (List ℕ)
block_names_at edges number = slice_index_or (map (λ e. e.block_names) edges) number []

-- the files of each edge
abbrev pub paths_of_edges : List EdgeModel → List EdgePaths
paths_of_edges edges = map (λ e. e.paths) edges

-- ---- defaults

-- the given paths with those of one more statement, if it is a `default` statement
abbrev pub with_defaults : ReadStatement → (before : List ReadStatement) → StatementModel → List (List ℕ) → List (List ℕ)
with_defaults e before (DefaultModel words) paths = paths ++ paths_given (value_after before (scope_of e)) words
with_defaults e before item paths = paths

-- the paths of all `default` lines
unfoldable pub defaults_read : List ReadStatement → List (List ℕ)
defaults_read [] = []
defaults_read (e ∷ before) = with_defaults e before e.item (defaults_read before)

-- ---- the names of rules

-- The dependencies of an edge's names, where its rule is used after the given statements: its block and its rule come
-- from its own statement, its paths those that it keeps, and a name of the file has the value that it has by then.
abbrev pub names_of_edge : List ReadStatement → EdgeModel → LateNames
names_of_edge entries e = record {
  inputs = e.paths.explicit_inputs;
  outputs = e.paths.explicit_outputs;
  block = e.block;
  lines = unwrap_or (option_map (λ r. r.lines) (slice_get (rules_read entries) e.rule)) [];
  is_phony = e.paths.is_phony;
  file = value_after entries (e.scope ∷ e.around);
}

-- ---- dyndep files

-- An edge and the dyndep file to which it is bound, by its clean path.
pub record Pending : Type 0 where
  pub edge : ℕ
  pub file : List ℕ

-- an empty text names no file
abbrev pub file_given : (text : List ℕ) → Option (List ℕ)
file_given text = if is_empty text then None else Some (clean_path_of text)

-- the dyndep file of an edge: the value of the variable at its build statement
abbrev pub dyndep_of : (before : List ReadStatement) → EdgeModel → Option (List ℕ)
dyndep_of before edge = file_given (asked_text (names_of_edge before edge) (codes "dyndep"))

-- an edge to which its dyndep file was not joined yet
abbrev pub pending_at : (edge : ℕ) → (was_joined : Bool) → (file : Option (List ℕ)) → List Pending
pending_at edge true file = []
pending_at edge false (Some file) = record { edge = edge; file = file } ∷ []
pending_at edge false None = []

-- the given pending edges with the edge of one more statement, if that edge is pending
abbrev pub with_pending : ReadStatement → (before : List ReadStatement) → StatementModel → List Pending → List Pending
with_pending e before (BuildModel outputs rule inputs lines) others =
    others ++ pending_at (length (edges_read before)) e.was_joined (dyndep_of before (edge_of_build e before outputs rule inputs lines))
with_pending e before item others = others

-- the edges that are pending on their dyndep files, by number
unfoldable pub pending_read : List ReadStatement → List Pending
pending_read [] = []
pending_read (e ∷ before) = with_pending e before e.item (pending_read before)

-- ---- pools and dyndep files

-- an empty text names no pool
abbrev pub name_given : (text : List ℕ) → Option (List ℕ)
name_given text = if is_empty text then None else Some text

-- the pool of an edge, by its name: the value of the variable at its build statement
abbrev pub pool_of : (before : List ReadStatement) → EdgeModel → Option (List ℕ)
pool_of before edge = name_given (asked_text (names_of_edge before edge) (codes "pool"))

-- The assignment of an edge at its build statement: a pool, by its name, and a dyndep file, by its clean path.
pub record AssignedModel : Type 0 where
  pub pool : Option (List ℕ)
  pub dyndep : Option (List ℕ)

-- the assignment of an edge
abbrev pub assigned_of : (before : List ReadStatement) → EdgeModel → AssignedModel
assigned_of before edge = record { pool = pool_of before edge; dyndep = dyndep_of before edge }

-- the assignment of the edge of a statement
abbrev pub assigned_given : ReadStatement → (before : List ReadStatement) → StatementModel → Option AssignedModel
assigned_given e before item = option_map (assigned_of before) (edge_given e before item)

-- the assignment of each edge, by number; joining a dyndep file to an edge does not change it
unfoldable pub assigned_read : List ReadStatement → List AssignedModel
assigned_read entries = gathered assigned_given entries

-- the assignment of the edge with the given number; past the last edge it is empty
abbrev pub assigned_at : List AssignedModel → (number : ℕ) → AssignedModel
assigned_at assigned number = slice_index_or assigned number (record { pool = None; dyndep = None })

-- ---- `restat`

-- whether the dyndep file of a statement's edge binds `restat`
abbrev pub restat_given : ReadStatement → (before : List ReadStatement) → StatementModel → Option Bool
restat_given e before item = option_map (λ edge. binds_restat e.discovered) (edge_given e before item)

-- for each edge, by number, whether its dyndep file binds `restat`
unfoldable pub restats_read : List ReadStatement → List Bool
restats_read entries = gathered restat_given entries

-- the same for the edge with the given number; past the last edge nothing is bound
abbrev pub restat_at : List Bool → (number : ℕ) → Bool
restat_at restats number = slice_index_or restats number false

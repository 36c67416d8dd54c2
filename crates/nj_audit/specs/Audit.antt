-- The findings about a manifest, kind by kind. Lists are in reading order.
use Rattle.std.specs.Prelude.{ℕ, ◌==◌, Bool, false, ◌&&◌, not, if◌then◌else◌}
use Rattle.std.specs.Prelude.{Option, Some, None, is_some, option_and_then, option_map, unwrap_or}
use Rattle.std.specs.Prelude.{List, [], ◌∷◌, ◌++◌, codes, find, length, map, take}
use Rattle.std.specs.Prelude.{slice_get, slice_index_or}
use Rattle.std.specs.List.{filter, filter_map, flat_map, list_any, range_with_len}
use Rattle.nj_text.specs.Words.{PartModel, Text, Name}
use Rattle.nj_scope.specs.ReadingList.{ReadStatement}
use Rattle.nj_scope.specs.Rules.{RuleModel, phony_rule}
use Rattle.nj_graph.specs.Edges.{EdgePaths, edge_at, first_output, inputs_of, is_among, maker_of}
use Rattle.nj_graph.specs.Edges.{outputs_of, users_of, validation_users_of}
use Rattle.nj_graph.specs.Built.{defaults_in_force, detail_at}
use Rattle.nj_statements.specs.EdgeList.{assigned_at, assigned_read, block_names_at, edges_read}
use Rattle.nj_graph.specs.Graph.{GraphModel, edges_of, files_of, late_text_of}
use Rattle.nj_graph.specs.Origins.{rule_place_at}
use Rattle.nj_audit.specs.Findings.{FindingModel, edge_finding}
use Rattle.nj_audit.specs.Kinds.{contains}
use Rattle.nj_audit.specs.declared.kinds.Kind.TheVariants.{UnusedOutput, MissingSource}
use Rattle.nj_audit.specs.declared.kinds.Kind.TheVariants.{UnusedRule, UnusedPool}
use Rattle.nj_audit.specs.declared.kinds.Kind.TheVariants.{UnusedVariable, RepeatedCommand}
use Rattle.nj_audit.specs.declared.kinds.Kind.TheVariants.{DepfileWithoutDeps, RepeatedInput}
use Rattle.nj_audit.specs.declared.kinds.Kinds.{Kinds}

-- the numbers below the given number
abbrev pub numbers : ℕ → List ℕ
numbers count = range_with_len 0 count

-- the numbers of the edges
abbrev pub edge_numbers : GraphModel → List ℕ
edge_numbers g = numbers (length (edges_of g))

-- the files of an edge
abbrev pub paths_at : GraphModel → (edge : ℕ) → EdgePaths
paths_at g edge = edge_at (edges_of g) edge

-- the first output of an edge
abbrev pub first_output_at : GraphModel → (edge : ℕ) → List ℕ
first_output_at g edge = unwrap_or (first_output (paths_at g edge)) []

-- ---- outputs that nothing uses

-- the defaults in force
abbrev pub defaults_of : GraphModel → List (List ℕ)
defaults_of g = defaults_in_force g.built.defaults (edges_of g)

-- an output is neither an input nor a validation of an edge, and is not among the defaults
abbrev pub is_unused_output : GraphModel → (path : List ℕ) → Bool
is_unused_output g path =
    length (users_of (edges_of g) path) == 0 && length (validation_users_of (edges_of g) path) == 0
    && not (is_among (defaults_of g) path)

-- the unused outputs of an edge
abbrev pub unused_outputs_at : GraphModel → (edge : ℕ) → List FindingModel
unused_outputs_at g edge =
    map (edge_finding g edge UnusedOutput)
    (filter (is_unused_output g) (outputs_of (paths_at g edge)))

-- the unused outputs of all edges
abbrev pub unused_outputs : GraphModel → List FindingModel
unused_outputs g = flat_map (unused_outputs_at g) (edge_numbers g)

-- ---- sources that are not on the disk

-- the path of a file
abbrev pub path_of : GraphModel → (file : ℕ) → List ℕ
path_of g file = unwrap_or (slice_get (files_of g) file) []

-- whether the flag at an index is set; past the last flag it is not
abbrev pub is_set : (flags : List Bool) → (index : ℕ) → Bool
is_set flags index = slice_index_or flags index false

-- The first edge that has a file as an input and serves a command, if no edge makes the file and it
-- is missing. `missing` has a flag for each file, and `serving` one for each edge.
abbrev pub user_of_missing : GraphModel → (missing serving : List Bool) → (file : ℕ) → Option ℕ
user_of_missing g missing serving file =
    if is_set missing file && not (is_some (maker_of (edges_of g) (path_of g file)))
    then find (is_set serving) (users_of (edges_of g) (path_of g file)) else None

-- the finding about a source, if it is missing
abbrev pub missing_source : GraphModel → (missing serving : List Bool) → (file : ℕ) → Option FindingModel
missing_source g missing serving file =
    option_map (λ edge. edge_finding g edge MissingSource (path_of g file))
    (user_of_missing g missing serving file)

-- in the order of the numbers of the files
abbrev pub missing_sources : GraphModel → (missing serving : List Bool) → List FindingModel
missing_sources g missing serving =
    filter_map (missing_source g missing serving) (numbers (length (files_of g)))

-- ---- rules that no edge uses

-- the number of the rule of an edge
abbrev pub rule_number : GraphModel → (edge : ℕ) → ℕ
rule_number g edge = (detail_at g.built.details edge).rule

-- some edge has the given rule
abbrev pub is_used_rule : GraphModel → (rule : ℕ) → Bool
is_used_rule g rule = list_any (λ edge. rule_number g edge == rule) (edge_numbers g)

-- the rule with the given number
abbrev pub rule_of_number : GraphModel → (rule : ℕ) → RuleModel
rule_of_number g rule = slice_index_or g.declarations.rules rule phony_rule

-- the finding about a rule, if no edge uses it; `phony` is not declared by a statement, so it has no place
abbrev pub unused_rule : GraphModel → (rule : ℕ) → Option FindingModel
unused_rule g rule =
    if is_used_rule g rule then None
    else option_map (λ place.
    record { place = place; kind = UnusedRule; name = (rule_of_number g rule).name })
    (rule_place_at g.origins.rules rule)

-- the rules that no edge has
abbrev pub unused_rules : GraphModel → List FindingModel
unused_rules g = filter_map (unused_rule g) (numbers (length g.declarations.rules))

-- ---- pools that no edge uses

-- the pools of all edges
abbrev pub pools_of_edges : GraphModel → List ReadStatement → List (List ℕ)
pools_of_edges g entries =
    filter_map (λ edge. (assigned_at (assigned_read entries) edge).pool) (edge_numbers g)

-- the finding about a pool, if no edge is in it
abbrev pub unused_pool : GraphModel → List ReadStatement → (pool : ℕ) → Option FindingModel
unused_pool g entries pool = option_and_then (λ name.
    if is_among (pools_of_edges g entries) name then None
    else option_map (λ p. record { place = p.place; kind = UnusedPool; name = name })
    (slice_get g.origins.pools pool))
    (slice_get g.declarations.pools pool)

-- the pools that no edge is in
abbrev pub unused_pools : GraphModel → List ReadStatement → List FindingModel
unused_pools g entries = filter_map (unused_pool g entries) (numbers (length g.declarations.pools))

-- ---- variables of edges that their rules do not refer to

-- the names that have a meaning to Ninja itself
abbrev pub known_names : List (List ℕ)
known_names =
    codes "command" ∷ codes "depfile" ∷ codes "deps" ∷ codes "description" ∷ codes "dyndep"
    ∷ codes "generator" ∷ codes "in" ∷ codes "in_newline" ∷ codes "msvc_deps_prefix" ∷ codes "out"
    ∷ codes "pool" ∷ codes "restat" ∷ codes "rspfile" ∷ codes "rspfile_content" ∷ []

-- a name has a meaning to Ninja itself
abbrev pub is_known : (name : List ℕ) → Bool
is_known name = is_among known_names name

-- the name that a part refers to, if it is a reference
abbrev pub name_in : PartModel → Option (List ℕ)
name_in (Text bytes) = None
name_in (Name name) = Some name

-- the names to which a value refers
abbrev pub names_in : List PartModel → List (List ℕ)
names_in value = filter_map name_in value

-- the names to which the lines of a rule refer
abbrev pub references_of : RuleModel → List (List ℕ)
references_of rule = flat_map (λ line. names_in line.value) rule.lines

-- the rule of an edge
abbrev pub rule_at : GraphModel → (edge : ℕ) → RuleModel
rule_at g edge = rule_of_number g (rule_number g edge)

-- the edge's rule does not refer to the name, and it has no meaning to Ninja itself
abbrev pub is_unused_variable : GraphModel → (edge : ℕ) → (name : List ℕ) → Bool
is_unused_variable g edge name =
    not (is_known name) && not (is_among (references_of (rule_at g edge)) name)

-- the findings about names that the block of an edge binds
abbrev pub unused_names : GraphModel → (edge : ℕ) → (names : List (List ℕ)) → List FindingModel
unused_names g edge names =
    map (edge_finding g edge UnusedVariable) (filter (is_unused_variable g edge) names)

-- the unused variables of an edge's block
abbrev pub unused_variables_at : GraphModel → List ReadStatement → (edge : ℕ) → List FindingModel
unused_variables_at g entries edge = unused_names g edge (block_names_at (edges_read entries) edge)

-- the unused variables of all blocks
abbrev pub unused_variables : GraphModel → List ReadStatement → List FindingModel
unused_variables g entries = flat_map (unused_variables_at g entries) (edge_numbers g)

-- ---- edges with the command of an earlier edge

-- the command of an edge
abbrev pub command_of : List ReadStatement → (edge : ℕ) → List ℕ
command_of entries edge = late_text_of entries edge (codes "command")

-- the edge runs a command
abbrev pub has_command : GraphModel → (edge : ℕ) → Bool
has_command g edge = not (paths_at g edge).is_phony

-- the value of `generator` for an edge, after all statements, is not empty
abbrev pub has_generator : List ReadStatement → (edge : ℕ) → Bool
has_generator entries edge = not (length (late_text_of entries edge (codes "generator")) == 0)

-- the command of an edge, if any
abbrev pub commands_at : GraphModel → List ReadStatement → (edge : ℕ) → List (List ℕ)
commands_at g entries edge = if has_command g edge then command_of entries edge ∷ [] else []

-- the commands of the edges before the given edge
abbrev pub commands_before : GraphModel → List ReadStatement → (edge : ℕ) → List (List ℕ)
commands_before g entries edge = flat_map (commands_at g entries) (numbers edge)

-- an earlier edge has the same command
abbrev pub repeats_command : GraphModel → List ReadStatement → (edge : ℕ) → Bool
repeats_command g entries edge =
    has_command g edge && is_among (commands_before g entries edge) (command_of entries edge)

-- the edges that repeat the command of an earlier edge
abbrev pub repeated_commands : GraphModel → List ReadStatement → List FindingModel
repeated_commands g entries =
    map (λ edge. edge_finding g edge RepeatedCommand (first_output_at g edge))
    (filter (repeats_command g entries) (edge_numbers g))

-- ---- edges with a depfile that stays on the disk

-- the edge has a depfile and no `deps`, so the depfile stays on disk
abbrev pub has_depfile_without_deps : List ReadStatement → (edge : ℕ) → Bool
has_depfile_without_deps entries edge =
    not (length (late_text_of entries edge (codes "depfile")) == 0)
    && length (late_text_of entries edge (codes "deps")) == 0

-- the edges whose depfiles stay on disk
abbrev pub depfiles_without_deps : GraphModel → List ReadStatement → List FindingModel
depfiles_without_deps g entries =
    map (λ edge. edge_finding g edge DepfileWithoutDeps (first_output_at g edge))
    (filter (has_depfile_without_deps entries) (edge_numbers g))

-- ---- inputs that an edge repeats

-- the path at an index, if it is among those before it
abbrev pub repeated_path : (paths : List (List ℕ)) → (index : ℕ) → Option (List ℕ)
repeated_path paths index =
    option_and_then (λ path. if is_among (take index paths) path then Some path else None)
    (slice_get paths index)

-- the paths that the given paths repeat
abbrev pub repeated_paths : (paths : List (List ℕ)) → List (List ℕ)
repeated_paths paths = filter_map (repeated_path paths) (numbers (length paths))

-- the inputs that an edge repeats
abbrev pub repeated_inputs_at : GraphModel → (edge : ℕ) → List FindingModel
repeated_inputs_at g edge =
    map (edge_finding g edge RepeatedInput) (repeated_paths (inputs_of (paths_at g edge)))

-- the inputs that edges repeat
abbrev pub repeated_inputs : GraphModel → List FindingModel
repeated_inputs g = flat_map (repeated_inputs_at g) (edge_numbers g)

-- ---- all findings

-- the findings of all kinds
abbrev pub all_findings : GraphModel → List ReadStatement → (missing serving : List Bool)
    → (undeclared : List FindingModel) → List FindingModel
all_findings g entries missing serving undeclared =
    unused_outputs g ++ missing_sources g missing serving ++ unused_rules g ++ unused_pools g entries
    ++ unused_variables g entries ++ repeated_commands g entries ++ depfiles_without_deps g entries
    ++ repeated_inputs g ++ undeclared

-- the findings of the requested kinds
abbrev pub findings_asked_for : Kinds → List FindingModel → List FindingModel
findings_asked_for kinds found = filter (λ f. contains kinds f.kind) found

-- The faults of a `build` or `default` statement, by the statements before it.
use Rattle.std.specs.Prelude.{ℕ, ◌||◌, not, Option, None, is_some, option_map, List, [], ◌∷◌, ◌++◌, codes}
use Rattle.std.specs.Option.{option_or}
use Rattle.std.specs.Bool.{then_some}
use Rattle.nj_text.specs.declared.spot.Spot.{Spot}
use Rattle.nj_text.specs.Words.{WordModel}
use Rattle.nj_text.specs.Paths.{clean_path_of}
use Rattle.nj_text.specs.Calls.{is_empty}
use Rattle.nj_manifest.specs.LineSteps.{NameModel}
use Rattle.nj_manifest.specs.Statements.{LineModel, OutputsModel, InputsModel}
use Rattle.nj_scope.specs.Scopes.{expanded, first_given}
use Rattle.nj_scope.specs.Pools.{is_pool}
use Rattle.nj_scope.specs.ReadingList.{ReadStatement, scope_of, value_after, rule_in_force, pools}
use Rattle.nj_faults.specs.declared.fault.GraphFault.{GraphFault}
use Rattle.nj_faults.specs.declared.fault.Cause.TheVariants.{EmptyPath, UnknownRule, TwoMakers, UnknownTarget}
use Rattle.nj_faults.specs.declared.fault.Cause.TheVariants.{RuleVariableCycle, UnknownPool, DyndepNotInput}
use Rattle.nj_faults.specs.Faults.{fault_at}
use Rattle.nj_edges.specs.Edges.{EdgePaths, inputs_of, maker_of, is_among, is_named}
use Rattle.nj_edge_env.specs.LateStrings.{LateNames, asked_text}
use Rattle.nj_edge_env.specs.VariableCycles.{variable_cycle_of}
use Rattle.nj_statements.specs.EdgeList.{Values, EdgeModel, path_given, line_values, edges_read, paths_of_edges, edge_of_build, names_of_edge}

-- the word is empty once it is expanded
abbrev pub empty_path : (file : List ℕ) → Values → WordModel → Option GraphFault
empty_path file values word = then_some (is_empty (expanded values word.parts)) (fault_at file word.spot EmptyPath)

-- ---- build statements

-- no rule with the given name is in force
abbrev pub unknown_rule : ReadStatement → (before : List ReadStatement) → NameModel → Option GraphFault
unknown_rule e before rule =
    then_some (not (is_some (rule_in_force before (scope_of e) rule.name))) (fault_at e.file rule.spot (UnknownRule rule.name))

-- An output is refused if an earlier edge makes it, or if it repeats an output to its left.
abbrev pub two_makers : (file : List ℕ) → Values → List EdgePaths → (left : List (List ℕ)) → WordModel → Option GraphFault
two_makers file values edges left word =
    then_some (is_some (maker_of edges (path_given values word)) || is_among left (path_given values word))
    (fault_at file word.spot (TwoMakers (path_given values word)))

-- the first fault of the outputs, from left to right: an empty path, or a second maker
abbrev pub outputs_fault : (file : List ℕ) → Values → List EdgePaths → (left : List (List ℕ)) → List WordModel → Option GraphFault
outputs_fault file values edges left [] = None
outputs_fault file values edges left (word ∷ words) =
    option_or (option_or (empty_path file values word) (two_makers file values edges left word))
    (outputs_fault file values edges (left ++ path_given values word ∷ []) words)

-- the first empty path among the inputs and validations
abbrev pub inputs_fault : (file : List ℕ) → Values → InputsModel → Option GraphFault
inputs_fault file values inputs =
    first_given (empty_path file values) (inputs.explicit ++ (inputs.implicit ++ (inputs.order_only ++ inputs.validations)))

-- the first fault of the paths: outputs before inputs
abbrev pub paths_fault : (file : List ℕ) → Values → List EdgePaths → OutputsModel → InputsModel → Option GraphFault
paths_fault file values edges outputs inputs =
    option_or (outputs_fault file values edges [] (outputs.explicit ++ outputs.implicit)) (inputs_fault file values inputs)

-- A variable of the rule refers back to itself, by variables that the block does not bind. It is a fault even if nothing uses it.
abbrev pub variable_cycle_fault : (file : List ℕ) → Spot → LateNames → Option GraphFault
variable_cycle_fault file spot n = option_map (λ key. fault_at file spot (RuleVariableCycle key)) (variable_cycle_of n.block n.lines)

-- A pool has to be declared earlier; an empty text names no pool.
abbrev pub unknown_pool : (file : List ℕ) → Spot → (declared : List (List ℕ)) → (pool : List ℕ) → Option GraphFault
unknown_pool file spot declared pool = then_some (not (is_empty pool || is_pool declared pool)) (fault_at file spot (UnknownPool pool))

-- A dyndep file has to be an input of the edge, of any kind, by its clean path; an empty text names no file.
abbrev pub dyndep_not_input : (file : List ℕ) → Spot → (inputs : List (List ℕ)) → (dyndep : List ℕ) → Option GraphFault
dyndep_not_input file spot inputs dyndep =
    then_some (not (is_empty dyndep || is_among inputs (clean_path_of dyndep))) (fault_at file spot (DyndepNotInput (clean_path_of dyndep)))

-- The first fault of the names. The edge is that of the statement, with its block and without the inputs that it loses.
-- A name of the file has the value that it has before the statement.
abbrev pub late_fault : (before : List ReadStatement) → EdgeModel → Option GraphFault
late_fault before edge =
    let n = names_of_edge before edge in
    option_or (variable_cycle_fault edge.file edge.spot n)
    (option_or (unknown_pool edge.file edge.spot (pools before) (asked_text n (codes "pool")))
    (dyndep_not_input edge.file edge.spot (inputs_of edge.paths) (asked_text n (codes "dyndep"))))

-- its rule, its outputs from left to right, its inputs, its validations; then the variables of the rule, the pool, the dyndep file
abbrev pub build_fault : ReadStatement → (before : List ReadStatement) → OutputsModel → NameModel → InputsModel
    → List LineModel → Option GraphFault
build_fault e before outputs rule inputs lines =
    option_or (unknown_rule e before rule)
    (option_or (paths_fault e.file (line_values e before lines) (paths_of_edges (edges_read before)) outputs inputs)
    (late_fault before (edge_of_build e before outputs rule inputs lines)))

-- ---- default statements

-- no earlier build statement names the file
abbrev pub unknown_target : (file : List ℕ) → Values → List EdgePaths → WordModel → Option GraphFault
unknown_target file values edges word =
    then_some (not (is_named edges (path_given values word))) (fault_at file word.spot (UnknownTarget (path_given values word)))

-- A default is a file that an earlier edge names.
abbrev pub target_fault : (file : List ℕ) → Values → List EdgePaths → WordModel → Option GraphFault
target_fault file values edges word = option_or (empty_path file values word) (unknown_target file values edges word)

-- the first fault of a `default` statement's words
abbrev pub default_fault : ReadStatement → (before : List ReadStatement) → List WordModel → Option GraphFault
default_fault e before words =
    first_given (target_fault e.file (value_after before (scope_of e)) (paths_of_edges (edges_read before))) words

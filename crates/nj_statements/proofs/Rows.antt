-- Worked rows, computed on the definitions: the edges of statements, and their faults.
use Rattle.std.proofs.Common.{false, ◌≡◌, ℕ, true, Some, None, List, [], ◌∷◌, map, refl}
use Rattle.std.specs.Prelude.{codes, Option}
use Rattle.nj_text.specs.declared.spot.Spot.{Spot}
use Rattle.nj_text.specs.Words.{PartModel, Text, Name, WordModel}
use Rattle.nj_text.specs.Paths.{clean_path_of, without_leftmost_pair}
use Rattle.nj_text.specs.Quotes.{quoted}
use Rattle.nj_manifest.specs.LineSteps.{NameModel}
use Rattle.nj_manifest.specs.Statements.{LineModel, OutputsModel, InputsModel, StatementModel, BindingModel}
use Rattle.nj_manifest.specs.Statements.{RuleModel, PoolModel, BuildModel, DefaultModel}
use Rattle.nj_scope.specs.ReadingList.{ReadStatement, bounds}
use Rattle.nj_edges.specs.Edges.{EdgePaths, inputs_of}
use Rattle.nj_faults.specs.declared.fault.GraphFault.{GraphFault}
use Rattle.nj_faults.specs.declared.fault.Cause.{Cause}
use Rattle.nj_faults.specs.declared.fault.Cause.TheVariants.{EmptyPath, UnknownRule, TwoMakers, UnknownTarget}
use Rattle.nj_faults.specs.declared.fault.Cause.TheVariants.{RuleVariableCycle, UnknownPool, DyndepNotInput}
use Rattle.nj_faults.specs.Faults.{fault_at}
use Rattle.nj_edge_env.specs.VariableCycles.{variable_cycle_of}
use Rattle.nj_statements.specs.EdgeList.{EdgeModel, Pending, edges_read, pending_read}
use Rattle.nj_statements.specs.BuildFaults.{build_fault, default_fault}

-- ---- statements of a main file

abbrev at : (column : ℕ) → Spot
at column = record { line = 1; column = column }

abbrev word : (column : ℕ) → PartModel → WordModel
word column part = record { spot = at column; parts = part ∷ [] }

abbrev path : (text : List ℕ) → WordModel
path text = word 7 (Text text)

abbrev to : List WordModel → OutputsModel
to words = record { explicit = words; implicit = [] }

abbrev no_inputs : InputsModel
no_inputs = record { explicit = []; implicit = []; order_only = []; validations = [] }

abbrev from : List WordModel → InputsModel
from words = record no_inputs { explicit = words }

abbrev by_rule : List ℕ → NameModel
by_rule name = record { spot = at 10; name = name }

abbrev phony : NameModel
phony = by_rule (codes "phony")

abbrev entry : StatementModel → ReadStatement
entry item = record {
  file = codes "build.ninja";
  spot = at 1;
  depth = 0;
  scope = 0;
  around = [];
  item = item;
  was_joined = false;
  discovered = None;
}

abbrev entries : List StatementModel → List ReadStatement
entries items = map entry items

abbrev line : (name value : List ℕ) → LineModel
line name value = record { spot = at 3; name = name; value = word 7 (Text value) }

-- the fault of a build statement after the given statements, the last statement first
abbrev wrong_with : List StatementModel → OutputsModel → NameModel → InputsModel → List LineModel
    → Option GraphFault
wrong_with before outputs rule inputs lines =
    build_fault (entry (BuildModel outputs rule inputs lines)) (entries before) outputs rule inputs lines

abbrev wrong_default : List StatementModel → List WordModel → Option GraphFault
wrong_default before words = default_fault (entry (DefaultModel words)) (entries before) words

abbrev wrong : (column : ℕ) → Cause → Option GraphFault
wrong column cause = Some (fault_at (codes "build.ninja") (at column) cause)

abbrev paths_of_entries : List StatementModel → List EdgePaths
paths_of_entries items = map (λ e. e.paths) (edges_read (entries items))

abbrev a : WordModel
a = path (codes "a")

abbrev build_a : StatementModel
build_a = BuildModel (to (a ∷ [])) phony no_inputs []

-- ---- rows

-- `build $e: phony`
pub row-empty_path : wrong_with [] (to (word 7 (Name (codes "e")) ∷ [])) phony no_inputs []
    ≡ wrong 7 EmptyPath
unfolding clean_path_of without_leftmost_pair edges_read bounds
row-empty_path = refl

-- `build a: phony`, and then `build ./a: phony`
pub row-two_makers : wrong_with (build_a ∷ []) (to (path (codes "./a") ∷ [])) phony no_inputs []
    ≡ wrong 7 (TwoMakers (codes "a"))
unfolding clean_path_of without_leftmost_pair edges_read bounds
row-two_makers = refl

-- `build a a: phony`
pub row-named_twice : wrong_with [] (to (a ∷ a ∷ [])) phony no_inputs [] ≡ wrong 7 (TwoMakers (codes "a"))
unfolding clean_path_of without_leftmost_pair edges_read bounds
row-named_twice = refl

-- `build a: zz`: the rule comes before the paths
pub row-unknown_rule : wrong_with (build_a ∷ []) (to (a ∷ [])) (by_rule (codes "zz")) no_inputs []
    ≡ wrong 10 (UnknownRule (codes "zz"))
unfolding clean_path_of without_leftmost_pair edges_read bounds
row-unknown_rule = refl

-- `default q`
pub row-unknown_target : wrong_default [] (path (codes "q") ∷ []) ≡ wrong 7 (UnknownTarget (codes "q"))
unfolding clean_path_of without_leftmost_pair edges_read bounds
row-unknown_target = refl

-- `build a: phony`, and then `default a`
pub row-known_target : wrong_default (build_a ∷ []) (a ∷ []) ≡ None
unfolding clean_path_of without_leftmost_pair edges_read bounds
row-known_target = refl

-- `build a: phony a` has no inputs
pub row-own_input : map (λ (e : EdgePaths). e.explicit_inputs)
    (paths_of_entries (BuildModel (to (a ∷ [])) phony (from (a ∷ [])) [] ∷ [])) ≡ [] ∷ []
unfolding clean_path_of without_leftmost_pair edges_read bounds
row-own_input = refl

-- `build a b: phony a` keeps it
pub row-two_outputs : map (λ (e : EdgePaths). e.explicit_inputs)
    (paths_of_entries (BuildModel (to (a ∷ path (codes "b") ∷ [])) phony (from (a ∷ [])) [] ∷ []))
    ≡ (codes "a" ∷ []) ∷ []
unfolding clean_path_of without_leftmost_pair edges_read bounds
row-two_outputs = refl

-- `x = a`, and then `build $x: phony` with `x = b` in its block: the block is seen on the line
pub row-block_on_line : map (λ (e : EdgePaths). e.explicit_outputs)
    (paths_of_entries (BuildModel (to (word 7 (Name (codes "x")) ∷ [])) phony no_inputs
    (line (codes "x") (codes "b") ∷ []) ∷ BindingModel (codes "x") (path (codes "a")) ∷ []))
    ≡ (codes "b" ∷ []) ∷ []
unfolding clean_path_of without_leftmost_pair edges_read bounds
row-block_on_line = refl

-- `x = a`, and then a block of `x = b` and `y = $x`: a line of a block sees no other
pub row-lines_apart : map (λ (e : EdgeModel). e.block (codes "y"))
    (edges_read (entries (BuildModel (to (a ∷ [])) phony no_inputs
    (line (codes "x") (codes "b") ∷ record
    { spot = at 3; name = codes "y"; value = word 7 (Name (codes "x")) } ∷ []) ∷ BindingModel (codes "x")
    (path (codes "a")) ∷ [])))
    ≡ Some (codes "a") ∷ []
unfolding clean_path_of without_leftmost_pair edges_read bounds
row-lines_apart = refl

-- ---- variables of the rule

abbrev by_r : NameModel
by_r = by_rule (codes "r")

-- a line of one reference
abbrev line_of_name : (name other : List ℕ) → LineModel
line_of_name name other = record { spot = at 3; name = name; value = word 7 (Name other) }

abbrev rule_r : List LineModel → StatementModel
rule_r lines = RuleModel (record { spot = at 6; name = codes "r" }) lines

-- `rule r` whose command is `$description`, and whose description is `$command`
abbrev circle : StatementModel
circle = rule_r (line_of_name (codes "command") (codes "description") ∷ line_of_name (codes "description")
    (codes "command") ∷ [])

-- `rule r` with a plain command
abbrev plain : StatementModel
plain = rule_r (line (codes "command") (codes "c") ∷ [])

-- `build a: r` after the rule
abbrev wrong_after : List StatementModel → InputsModel → List LineModel → Option GraphFault
wrong_after before inputs lines = wrong_with before (to (a ∷ [])) by_r inputs lines

-- `build a: r`: the least key is named
pub row-variable_cycle : wrong_after (circle ∷ []) no_inputs []
    ≡ wrong 1 (RuleVariableCycle (codes "command"))
unfolding clean_path_of without_leftmost_pair edges_read bounds variable_cycle_of
row-variable_cycle = refl

-- with `description = x` in its block
pub row-cycle_broken : wrong_after (circle ∷ []) no_inputs (line (codes "description") (codes "x") ∷ [])
    ≡ None
unfolding clean_path_of without_leftmost_pair edges_read bounds variable_cycle_of
row-cycle_broken = refl

-- with `pool = zz` in its block: the cycle comes first
pub row-cycle_before_pool : wrong_after (circle ∷ []) no_inputs (line (codes "pool") (codes "zz") ∷ [])
    ≡ wrong 1 (RuleVariableCycle (codes "command"))
unfolding clean_path_of without_leftmost_pair edges_read bounds variable_cycle_of
row-cycle_before_pool = refl

-- `build $e: r`: the paths come before the cycle
pub row-path_before_cycle : wrong_with (circle ∷ []) (to (word 7 (Name (codes "e")) ∷ [])) by_r no_inputs []
    ≡ wrong 7 EmptyPath
unfolding clean_path_of without_leftmost_pair edges_read bounds variable_cycle_of
row-path_before_cycle = refl

-- ---- pools

-- `pool = zz` in the block
pub row-unknown_pool : wrong_after (plain ∷ []) no_inputs (line (codes "pool") (codes "zz") ∷ [])
    ≡ wrong 1 (UnknownPool (codes "zz"))
unfolding clean_path_of without_leftmost_pair edges_read bounds variable_cycle_of
row-unknown_pool = refl

-- the same after `pool zz`
pub row-known_pool : wrong_after (PoolModel (by_rule (codes "zz")) (line (codes "depth") (codes "1") ∷ []) ∷
    plain ∷ []) no_inputs (line (codes "pool") (codes "zz") ∷ []) ≡ None
unfolding clean_path_of without_leftmost_pair edges_read bounds variable_cycle_of
row-known_pool = refl

-- `pool = console`, which is always there
pub row-console : wrong_after (plain ∷ []) no_inputs (line (codes "pool") (codes "console") ∷ []) ≡ None
unfolding clean_path_of without_leftmost_pair edges_read bounds variable_cycle_of
row-console = refl

-- `pool = $e`, which is empty
pub row-no_pool : wrong_after (plain ∷ []) no_inputs (line_of_name (codes "pool") (codes "e") ∷ []) ≡ None
unfolding clean_path_of without_leftmost_pair edges_read bounds variable_cycle_of
row-no_pool = refl

-- `pool = $in` in the rule, of an edge with the input `b c`: a path is quoted there
pub row-pool_in_quotes : wrong_after (rule_r (line_of_name (codes "pool") (codes "in") ∷ []) ∷ [])
    (from (path (codes "b c") ∷ [])) [] ≡ wrong 1 (UnknownPool (codes "'b c'"))
unfolding clean_path_of without_leftmost_pair edges_read bounds variable_cycle_of quoted
row-pool_in_quotes = refl

-- `pool = zz` and `dyndep = q` in the block: the pool comes first
pub row-pool_before_dyndep : wrong_after (plain ∷ []) no_inputs
    (line (codes "pool") (codes "zz") ∷ line (codes "dyndep") (codes "q") ∷ [])
    ≡ wrong 1 (UnknownPool (codes "zz"))
unfolding clean_path_of without_leftmost_pair edges_read bounds variable_cycle_of
row-pool_before_dyndep = refl

-- ---- dyndep files

-- `dyndep = q` in the block
pub row-dyndep_not_input : wrong_after (plain ∷ []) no_inputs (line (codes "dyndep") (codes "q") ∷ [])
    ≡ wrong 1 (DyndepNotInput (codes "q"))
unfolding clean_path_of without_leftmost_pair edges_read bounds variable_cycle_of
row-dyndep_not_input = refl

-- `build a: r || dd` with `dyndep = .//dd` in its block
pub row-dyndep_input : wrong_after (plain ∷ []) (record no_inputs { order_only = path (codes "dd") ∷ [] })
    (line (codes "dyndep") (codes ".//dd") ∷ []) ≡ None
unfolding clean_path_of without_leftmost_pair edges_read bounds variable_cycle_of
row-dyndep_input = refl

-- `build a: r |@ dd` with `dyndep = dd`: a validation is not an input
pub row-dyndep_validation : wrong_after (plain ∷ [])
    (record no_inputs { validations = path (codes "dd") ∷ [] }) (line (codes "dyndep") (codes "dd") ∷ [])
    ≡ wrong 1 (DyndepNotInput (codes "dd"))
unfolding clean_path_of without_leftmost_pair edges_read bounds variable_cycle_of
row-dyndep_validation = refl

-- `build a: phony a` with `dyndep = a`: the input was lost before
pub row-dyndep_lost : wrong_with [] (to (a ∷ [])) phony (from (a ∷ []))
    (line (codes "dyndep") (codes "a") ∷ []) ≡ wrong 1 (DyndepNotInput (codes "a"))
unfolding clean_path_of without_leftmost_pair edges_read bounds variable_cycle_of
row-dyndep_lost = refl

-- `dyndep = q` of the file, before the statement: it binds an edge that has no value of its own
pub row-dyndep_of_file : wrong_with (BindingModel (codes "dyndep") (path (codes "q")) ∷ []) (to (a ∷ []))
    phony no_inputs [] ≡ wrong 1 (DyndepNotInput (codes "q"))
unfolding clean_path_of without_leftmost_pair edges_read bounds variable_cycle_of
row-dyndep_of_file = refl

-- ---- edges that are pending on their dyndep files

-- an edge with the given number that is pending on `dd`
abbrev pends : (edge : ℕ) → Pending
pends edge = record { edge = edge; file = codes "dd" }

-- `build OUT: RULE || dd`
abbrev build_with_dd : (output : List ℕ) → NameModel → List LineModel → StatementModel
build_with_dd output rule lines = BuildModel (to (path output ∷ [])) rule
    (record no_inputs { order_only = path (codes "dd") ∷ [] }) lines

-- `build a: phony || dd` with `dyndep = .//dd` in its block: a clean path
pub row-pending_block : pending_read (entries
    (build_with_dd (codes "a") phony (line (codes "dyndep") (codes ".//dd") ∷ []) ∷ [])) ≡ pends 0 ∷ []
unfolding clean_path_of without_leftmost_pair edges_read pending_read bounds
row-pending_block = refl

-- `rule r` with `dyndep = dd`, then `build a: phony || dd`, and then `build b: r || dd`: the rule binds the
-- second edge
pub row-pending_rule : pending_read (entries
    (build_with_dd (codes "b") by_r [] ∷ build_with_dd (codes "a") phony [] ∷ rule_r
    (line (codes "dyndep") (codes "dd") ∷ []) ∷ [])) ≡ pends 1 ∷ []
unfolding clean_path_of without_leftmost_pair edges_read pending_read bounds
row-pending_rule = refl

-- the same, where the block of `b` has `dyndep = $e`, which is empty
pub row-pending_empty : pending_read (entries
    (build_with_dd (codes "b") by_r (line_of_name (codes "dyndep") (codes "e") ∷ []) ∷ rule_r
    (line (codes "dyndep") (codes "dd") ∷ []) ∷ [])) ≡ []
unfolding clean_path_of without_leftmost_pair edges_read pending_read bounds
row-pending_empty = refl

-- `build a: phony || dd` with `dyndep = dd`, joined to an output `x` and an input `y`
abbrev joined_a : ReadStatement
joined_a = record (entry (build_with_dd (codes "a") phony (line (codes "dyndep") (codes "dd") ∷ []))) {
  was_joined = true;
  discovered = Some
      (record { outputs = codes "x" ∷ []; inputs = codes "y" ∷ []; restat = false });
}

-- it is not pending, and `build b: phony || dd` with `dyndep = dd` is
pub row-pending_joined : pending_read (entry
    (build_with_dd (codes "b") phony (line (codes "dyndep") (codes "dd") ∷ [])) ∷ joined_a ∷ [])
    ≡ pends 1 ∷ []
unfolding clean_path_of without_leftmost_pair edges_read pending_read bounds
row-pending_joined = refl

-- its edge has them besides
pub row-discovered : map (λ e. e.paths) (edges_read (joined_a ∷ [])) ≡ record {
  explicit_outputs = codes "a" ∷ [];
  implicit_outputs = codes "x" ∷ [];
  explicit_inputs = [];
  implicit_inputs = codes "y" ∷ [];
  order_only_inputs = codes "dd" ∷ [];
  validations = [];
  is_phony = true;
} ∷ []
unfolding clean_path_of without_leftmost_pair edges_read bounds
row-discovered = refl

-- `build a: phony a` with an input that was discovered: it still loses `a`
pub row-discovered_own : map (λ (e : EdgePaths). inputs_of e)
    (map (λ e. e.paths) (edges_read (record (entry (BuildModel (to (a ∷ [])) phony (from (a ∷ [])) []))
    { discovered = Some (record { outputs = []; inputs = codes "y" ∷ []; restat = false }) } ∷ [])))
    ≡ (codes "y" ∷ []) ∷ []
unfolding clean_path_of without_leftmost_pair edges_read bounds
row-discovered_own = refl

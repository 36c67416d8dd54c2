-- Worked rows, computed on the definitions: the reading of files, and how it ends.
use Rattle.std.proofs.Common.{◌≡◌, ℕ, zero, suc, Some, None, List, [], ◌∷◌, ◌++◌, length, refl}
use Rattle.std.specs.Prelude.{⊤, codes}
use Rattle.std.specs.Char.{encode_utf8}
use Rattle.std.specs.Str.{chars, is_utf8}
use Rattle.nj_text.specs.declared.spot.Spot.{Spot}
use Rattle.nj_manifest.specs.declared.cause.SyntaxCause.TheVariants.{BadEscape, Expected, MissingCommand}
use Rattle.nj_manifest.specs.declared.cause.Wanted.TheVariants as wanted
use Rattle.nj_manifest.proofs.StatementRows.{on_strings, at}
use Rattle.nj_scope.specs.Readings.{Reading}
use Rattle.nj_scope.specs.ReadingList.{bounds}
use Rattle.nj_text.specs.Paths.{clean_path_of, without_leftmost_pair}
use Rattle.nj_edge_env.specs.VariableCycles.{variable_cycle_of}
use Rattle.nj_statements.specs.EdgeList.{edges_read}
use Rattle.nj_graph.specs.Parsed.{parsed_in}
use Rattle.nj_faults.specs.declared.fault.Cause.{Cause}
use Rattle.nj_faults.specs.declared.fault.Cause.TheVariants.{Syntax, EmptyPath, BadDepth, DuplicateRule}
use Rattle.nj_faults.specs.declared.fault.Cause.TheVariants.{DuplicatePool, VersionTooNew, Missing}
use Rattle.nj_faults.specs.declared.fault.Cause.TheVariants.{PathNotText, TooDeep, UnknownRule, TwoMakers}
use Rattle.nj_faults.specs.declared.fault.Cause.TheVariants.{UnknownTarget}
use Rattle.nj_faults.specs.Faults.{fault_at}
use Rattle.nj_graph.specs.Reading.{Whole, Refused, Lacking, ReadingModel, statements_read, opened_in}
use Rattle.nj_graph.specs.Reading.{main_read, paths_come_to}

-- the definitions that a row unfolds to compute on its files
unfoldable pub on_files : ⊤
unfolding on_strings is_utf8 chars encode_utf8 bounds clean_path_of without_leftmost_pair edges_read
    variable_cycle_of parsed_in statements_read opened_in main_read
on_files = tt

-- ---- the facts of a row

abbrev pub main_file : List ℕ
main_file = codes "build.ninja"

abbrev pub file : (path text : List ℕ) → Reading
file path text = record { path = path; bytes = Some text }

-- the file does not exist
abbrev pub missing : (path : List ℕ) → Reading
missing path = record { path = path; bytes = None }

-- the reading where the main file and the other files have the given texts
abbrev pub read_of : (text : List ℕ) → (others : List Reading) → ReadingModel
read_of text others = main_read (file main_file text ∷ others) main_file

abbrev pub reads_all : (text : List ℕ) → (others : List Reading) → Type 0
reads_all text others = (read_of text others).end ≡ Whole

abbrev pub refuses : (text : List ℕ) → (others : List Reading) → (place : List ℕ) → Spot → Cause → Type 0
refuses text others place spot cause = (read_of text others).end ≡ Refused (fault_at place spot cause)

-- refused in the main file, which is the only file
abbrev pub refuses_alone : (text : List ℕ) → Spot → Cause → Type 0
refuses_alone text spot cause = refuses text [] main_file spot cause

-- ---- the main file

empty : reads_all [] []
unfolding on_files
empty = refl

no_main_file : (main_read (missing main_file ∷ []) main_file).end
    ≡ Refused (fault_at main_file (at 1 1) (Missing main_file))
unfolding on_files
no_main_file = refl

main_file_not_reported : (main_read [] main_file).end
    ≡ Lacking main_file (record { file = main_file; spot = at 1 1 })
unfolding on_files
main_file_not_reported = refl

-- ---- versions

newer_version : refuses_alone (codes "ninja_required_version = 1.13\n") (at 1 1)
    (VersionTooNew (codes "1.13"))
unfolding on_files
newer_version = refl

older_version : reads_all (codes "ninja_required_version = 1.8.2\n") []
unfolding on_files
older_version = refl

same_version : reads_all (codes "ninja_required_version = 1.12\n") []
unfolding on_files
same_version = refl

-- in every file
version_of_included : refuses (codes "include s\n")
    (file (codes "s") (codes "v = 2\nninja_required_version = $v\n") ∷ []) (codes "s") (at 2 1)
    (VersionTooNew (codes "2"))
unfolding on_files
version_of_included = refl

-- ---- pools

great_depth : reads_all (codes "pool p\n  depth = 2147483647\n") []
unfolding on_files
great_depth = refl

too_great_depth : refuses_alone (codes "pool p\n  depth = 2147483648\n") (at 2 3) BadDepth
unfolding on_files
too_great_depth = refl

depth_with_more : reads_all (codes "pool p\n  depth = 2x\n") []
unfolding on_files
depth_with_more = refl

negative_depth : refuses_alone (codes "pool p\n  depth = -1\n") (at 2 3) BadDepth
unfolding on_files
negative_depth = refl

-- also a depth that a later line overrides
overridden_depth : refuses_alone (codes "pool p\n  depth = x\n  depth = 1\n") (at 2 3) BadDepth
unfolding on_files
overridden_depth = refl

depth_by_name : reads_all (codes "d = 3\npool p\n  depth = $d\n") []
unfolding on_files
depth_by_name = refl

unknown_depth : refuses_alone (codes "pool p\n  depth = $d\n") (at 2 3) BadDepth
unfolding on_files
unknown_depth = refl

console_pool : refuses_alone (codes "pool console\n  depth = 1\n") (at 1 6) (DuplicatePool (codes "console"))
unfolding on_files
console_pool = refl

-- the name comes before the depth
second_pool : refuses_alone (codes "pool p\n  depth = 1\npool p\n  depth = x\n") (at 3 6)
    (DuplicatePool (codes "p"))
unfolding on_files
second_pool = refl

-- a pool belongs to all scopes
pool_in_two_scopes : refuses (codes "subninja s\nsubninja s\n")
    (file (codes "s") (codes "pool p\n  depth = 1\n") ∷ []) (codes "s") (at 1 6) (DuplicatePool (codes "p"))
unfolding on_files
pool_in_two_scopes = refl

-- ---- rules

phony_rule : refuses_alone (codes "rule phony\n  command = x\n") (at 1 6) (DuplicateRule (codes "phony"))
unfolding on_files
phony_rule = refl

-- syntax comes first
rule_without_command : refuses_alone (codes "rule phony\n") (at 1 1) (Syntax MissingCommand)
unfolding on_files
rule_without_command = refl

abbrev a_rule : Reading
a_rule = file (codes "s") (codes "rule r\n  command = c\n")

-- each time in a scope of its own
rule_in_two_scopes : reads_all (codes "subninja s\nsubninja s\n") (a_rule ∷ [])
unfolding on_files
rule_in_two_scopes = refl

-- repeated in the same scope
rule_twice : refuses (codes "include s\ninclude s\n") (a_rule ∷ []) (codes "s") (at 1 6)
    (DuplicateRule (codes "r"))
unfolding on_files
rule_twice = refl

-- a rule of the scope around may be declared again
rule_hidden : reads_all (codes "rule r\n  command = d\nsubninja s\n") (a_rule ∷ [])
unfolding on_files
rule_hidden = refl

rule_after_included : refuses (codes "include s\nrule r\n  command = d\n") (a_rule ∷ []) main_file (at 2 6)
    (DuplicateRule (codes "r"))
unfolding on_files
rule_after_included = refl

-- ---- files

file_not_there : refuses (codes "include x\n") (missing (codes "x") ∷ []) main_file (at 1 9)
    (Missing (codes "x"))
unfolding on_files
file_not_there = refl

file_not_reported : (read_of (codes "include x\n") []).end
    ≡ Lacking (codes "x") (record { file = main_file; spot = at 1 9 })
unfolding on_files
file_not_reported = refl

empty_path : refuses_alone (codes "include $e\n") (at 1 9) EmptyPath
unfolding on_files
empty_path = refl

path_not_text : refuses_alone (codes "include " ++ 255 ∷ []) (at 1 9) PathNotText
unfolding on_files
path_not_text = refl

-- a file is opened again while it is open
within_itself : refuses_alone (codes "include build.ninja\n") (at 1 9) TooDeep
unfolding on_files
within_itself = refl

-- 31 files are open within the main file
openings_within_itself : length (read_of (codes "include build.ninja\n") []).entries ≡ 31
unfolding on_files
openings_within_itself = refl

-- the name of the file with a given number of others after it
abbrev name_remainder : ℕ → List ℕ
name_remainder zero = codes "x"
name_remainder (suc n) = codes "a" ++ name_remainder n

-- a given number of files, each including the next; the last file includes `x`, which is missing
abbrev chain : ℕ → List Reading
chain zero = missing (codes "x") ∷ []
chain (suc n) = file (name_remainder (suc n)) (codes "include " ++ name_remainder n) ∷ chain n

missing_in_capacity : refuses (codes "include " ++ name_remainder 30) (chain 30) (codes "ax") (at 1 9)
    (Missing (codes "x"))
unfolding on_files
missing_in_capacity = refl

-- where 32 files are open, no other is looked for
missing_without_capacity : refuses (codes "include " ++ name_remainder 31) (chain 31) (codes "ax") (at 1 9)
    TooDeep
unfolding on_files
missing_without_capacity = refl

-- ---- paths

-- the reading where the main file and the other files have the given texts, comes to the given paths after
-- the main file's
abbrev comes_to : (text : List ℕ) → (others : List Reading) → (paths : List (List ℕ)) → Type 0
comes_to text others paths = paths_come_to main_file (read_of text others) ≡ main_file ∷ paths

-- each path at its first occurrence
paths_once : comes_to (codes "subninja s\nsubninja s\n") (a_rule ∷ []) (codes "s" ∷ [])
unfolding on_files
paths_once = refl

-- the place of a missing file too
paths_to_missing : comes_to (codes "subninja s\ninclude x\ninclude y\n") (a_rule ∷ missing (codes "x") ∷ [])
    (codes "s" ∷ codes "x" ∷ [])
unfolding on_files
paths_to_missing = refl

paths_to_lacking : comes_to (codes "subninja s\ninclude x\ninclude y\n") (a_rule ∷ [])
    (codes "s" ∷ codes "x" ∷ [])
unfolding on_files
paths_to_lacking = refl

-- no paths after a fault
paths_before_fault : comes_to (codes "subninja s\ninclude $e\ninclude y\n") (a_rule ∷ []) (codes "s" ∷ [])
unfolding on_files
paths_before_fault = refl

paths_within_itself : comes_to (codes "include build.ninja\n") [] []
unfolding on_files
paths_within_itself = refl

-- ---- values

path_by_name : refuses (codes "v = s\ninclude $v\n") (missing (codes "s") ∷ []) main_file (at 2 9)
    (Missing (codes "s"))
unfolding on_files
path_by_name = refl

-- a child sees the values of the scope around
path_by_outer_name : refuses (codes "v = a\nsubninja s\n")
    (file (codes "s") (codes "include $v\n") ∷ missing (codes "a") ∷ []) (codes "s") (at 1 9)
    (Missing (codes "a"))
unfolding on_files
path_by_outer_name = refl

abbrev binds_b : List Reading
binds_b = file (codes "s") (codes "v = b\n") ∷ missing (codes "a") ∷ missing (codes "b") ∷ []

-- the file after `subninja` binds in its own scope
bound_within : refuses (codes "v = a\nsubninja s\ninclude $v\n") binds_b main_file (at 3 9)
    (Missing (codes "a"))
unfolding on_files
bound_within = refl

-- an included file binds in the same scope
bound_by_included : refuses (codes "v = a\ninclude s\ninclude $v\n") binds_b main_file (at 3 9)
    (Missing (codes "b"))
unfolding on_files
bound_by_included = refl

-- a value is expanded where it is read
bound_before : refuses (codes "v = a\nw = $v\nv = b\ninclude $w\n")
    (missing (codes "a") ∷ missing (codes "b") ∷ []) main_file (at 4 9) (Missing (codes "a"))
unfolding on_files
bound_before = refl

-- ---- statements

build_statement : reads_all (codes "build a: phony\n") []
unfolding on_files
build_statement = refl

-- a value of the scope, which is empty
build_of_nothing : refuses_alone (codes "build $e: phony\n") (at 1 7) EmptyPath
unfolding on_files
build_of_nothing = refl

rule_not_declared : refuses_alone (codes "build a: zz\nx = $!\n") (at 1 10) (UnknownRule (codes "zz"))
unfolding on_files
rule_not_declared = refl

made_twice : refuses_alone (codes "build a: phony\nbuild ./a: phony\n") (at 2 7) (TwoMakers (codes "a"))
unfolding on_files
made_twice = refl

made_in_another_file : refuses (codes "build a: phony\nsubninja s\n")
    (file (codes "s") (codes "build a: phony\n") ∷ []) (codes "s") (at 1 7) (TwoMakers (codes "a"))
unfolding on_files
made_in_another_file = refl

default_statement : reads_all (codes "build a: phony s\ndefault s a\n") []
unfolding on_files
default_statement = refl

default_of_nothing : refuses_alone (codes "default $e\n") (at 1 9) EmptyPath
unfolding on_files
default_of_nothing = refl

-- that a statement after it makes it does not count
default_not_known : refuses_alone (codes "default q\nbuild q: phony\n") (at 1 9) (UnknownTarget (codes "q"))
unfolding on_files
default_not_known = refl

-- its syntax comes first
build_without_colon : refuses_alone (codes "build a\n") (at 1 8) (Syntax (Expected wanted.Colon))
unfolding on_files
build_without_colon = refl

-- under the name of the file that contains it
fault_in_included : refuses (codes "include s\n") (file (codes "s") (codes "x = 1\ny = $!\n") ∷ [])
    (codes "s") (at 2 5) (Syntax BadEscape)
unfolding on_files
fault_in_included = refl

-- Worked rows of command lines, computed on the definitions.
use Rattle.std.proofs.Common.{◌≡◌, ℕ, Bool, List, [], ◌∷◌, true, false, Option, Some, None, Result, Ok, Err}
use Rattle.std.proofs.Common.{refl}
use Rattle.std.specs.Prelude.{codes}
use Rattle.clap.proofs.OnLiterals.{clap_on_literals}
use Rattle.nj_questions.specs.CommandLine.{command}
use Rattle.nj_questions.specs.QuestionOf.{RefusalModel, question_of, old_option, shows_help, unparsed}
use Rattle.nj_questions.specs.Questions.{AskedGraph, AffectedModel, AuditModel, DrawModel, KeysModel}
use Rattle.nj_questions.specs.Questions.{StaleModel, TestsModel, TimesModel, WhyModel}
use Rattle.nj_questions.specs.Questions.{QuestionModel, SubjectModel, affected, audit, draw, json, keys}
use Rattle.nj_questions.specs.Questions.{stale, tests, timings, why}

-- the graph without options
abbrev plain : AskedGraph
plain = record { file = codes "build.ninja"; dyndep = false; deps = false; log = None }

abbrev asks : SubjectModel → Result QuestionModel RefusalModel
asks subject = Ok (record { folder = None; graph = plain; subject = subject })

-- `affected` without options
abbrev changed : AffectedModel
changed = record {
  source_dirs = [];
  zero_ended = false;
  ignored = [];
  rules = [];
  prefix = [];
  no_phony = false;
  ignore_unknown = false;
  allow_empty = false;
  since = None;
  bases = [];
}

abbrev findings : (only except : List (List ℕ)) (as_json lists : Bool) → AuditModel
findings only except as_json lists =
    record { all = false; only = only; except = except; json = as_json; list = lists }

abbrev drawn : (targets : List (List ℕ)) (of_affected folds : Bool) (limit inputs : Option ℕ) → DrawModel
drawn targets of_affected folds limit inputs =
    record { targets = targets; affected = of_affected; fold = folds; limit = limit; inputs = inputs }

abbrev keyed : (bases : List (List ℕ)) (take : Option ℕ) (resume : Option (List ℕ)) (targets : List (List ℕ))
    → KeysModel
keyed bases take resume targets = record {
  bases = bases;
  additions = [];
  files = [];
  take = take;
  resume = resume;
  all = false;
  json = false;
  targets = targets;
}

-- `stale`, which joins what builds discovered
abbrev judges : (targets : List (List ℕ)) (reasons objects no_manifest : Bool)
    → Result QuestionModel RefusalModel
judges targets reasons objects no_manifest = Ok (record {
  folder = None;
  graph = record plain { deps = true };
  subject = stale (record { targets = targets; why = reasons; json = objects; no_manifest = no_manifest });
})

-- `times`, which joins it too
abbrev timed : TimesModel → Result QuestionModel RefusalModel
timed options = Ok (record { folder = None; graph = record plain { deps = true }; subject = timings options })

abbrev chain : (start end : List ℕ) (validations no_order_only : Bool) → WhyModel
chain start end validations no_order_only =
    record { start = start; end = end; validations = validations; no_order_only = no_order_only }

-- `tests` without options
abbrev reached : TestsModel
reached = record {
  change = changed;
  ctest = None;
  meson = None;
  format = None;
  why = false;
  json = false;
  unnamed = None;
}

-- by the list in a file
abbrev listed : TestsModel
listed = record reached { ctest = Some (codes "list") }

-- ---- each subcommand

affected_row : question_of (codes "affected" ∷ []) ≡ asks (affected changed)
unfolding question_of command clap_on_literals
affected_row = refl

audit_row : question_of (codes "audit" ∷ []) ≡ asks (audit (findings [] [] false false))
unfolding question_of command clap_on_literals
audit_row = refl

draw_row : question_of (codes "draw" ∷ []) ≡ asks (draw (drawn [] false false None None))
unfolding question_of command clap_on_literals
draw_row = refl

json_row : question_of (codes "json" ∷ []) ≡ asks json
unfolding question_of command clap_on_literals
json_row = refl

keys_row : question_of (codes "keys" ∷ []) ≡ asks (keys (keyed [] None None []))
unfolding question_of command clap_on_literals
keys_row = refl

stale_row : question_of (codes "stale" ∷ []) ≡ judges [] false false false
unfolding question_of command clap_on_literals
stale_row = refl

stale_options_row : question_of (codes "stale" ∷ codes "app" ∷ codes "--no-manifest" ∷ codes "--why" ∷ codes
    "lib" ∷ [])
    ≡ judges (codes "app" ∷ codes "lib" ∷ []) true false true
unfolding question_of command clap_on_literals
stale_options_row = refl

stale_json_row : question_of (codes "stale" ∷ codes "--json" ∷ []) ≡ judges [] false true false
unfolding question_of command clap_on_literals
stale_json_row = refl

times_row : question_of (codes "times" ∷ [])
    ≡ timed (record { targets = []; top = None; by_rule = false; dead = false; json = false })
unfolding question_of command clap_on_literals
times_row = refl

times_options_row : question_of (codes "times" ∷ codes "app" ∷ codes "--json" ∷ codes "--top" ∷ codes "9" ∷
    codes
    "lib" ∷ [])
    ≡ timed (record {
      targets = codes "app" ∷ codes "lib" ∷ [];
      top = Some 9;
      by_rule = false;
      dead = false;
      json = true;
    })
unfolding question_of command clap_on_literals
times_options_row = refl

times_by_rule_row : question_of (codes "times" ∷ codes "--by-rule" ∷ [])
    ≡ timed (record { targets = []; top = None; by_rule = true; dead = false; json = false })
unfolding question_of command clap_on_literals
times_by_rule_row = refl

-- what the manifest itself has, without the inputs that builds discovered
times_dead_row : question_of (codes "times" ∷ codes "--dead" ∷ [])
    ≡ Ok (record {
      folder = None;
      graph = plain;
      subject = timings (record { targets = []; top = None; by_rule = false; dead = true; json = false });
    })
unfolding question_of command clap_on_literals
times_dead_row = refl

-- ---- a directory before the subcommand

folder_first_row : question_of (codes "-C" ∷ codes "build" ∷ codes "json" ∷ [])
    ≡ Ok (record { folder = Some (codes "build"); graph = plain; subject = json })
unfolding question_of command clap_on_literals
folder_first_row = refl

folder_joined_row : question_of (codes "-Cbuild" ∷ codes "json" ∷ [])
    ≡ Ok (record { folder = Some (codes "build"); graph = plain; subject = json })
unfolding question_of command clap_on_literals
folder_joined_row = refl

folder_twice_row : question_of (codes "-C" ∷ codes "a" ∷ codes "json" ∷ codes "-C" ∷ codes "b" ∷ [])
    ≡ Err unparsed
unfolding question_of command clap_on_literals
folder_twice_row = refl

folder_alone_row : question_of (codes "-C" ∷ codes "build" ∷ []) ≡ Err unparsed
unfolding question_of command clap_on_literals
folder_alone_row = refl

folder_before_help_row : question_of (codes "-C" ∷ codes "build" ∷ codes "--help" ∷ []) ≡ Err shows_help
unfolding question_of command clap_on_literals
folder_before_help_row = refl

-- ---- `tests`

tests_row : question_of (codes "tests" ∷ codes "--ctest" ∷ codes "list" ∷ [])
    ≡ asks (tests listed)
unfolding question_of command clap_on_literals
tests_row = refl

tests_meson_row : question_of (codes "tests" ∷ codes "--meson=build" ∷ codes "--format" ∷ codes "meson" ∷ [])
    ≡ asks (tests (record reached { meson = Some (codes "build"); format = Some (codes "meson") }))
unfolding question_of command clap_on_literals
tests_meson_row = refl

tests_listless_row : question_of (codes "tests" ∷ []) ≡ asks (tests reached)
unfolding question_of command clap_on_literals
tests_listless_row = refl

tests_two_lists_row : question_of (codes "tests" ∷ codes "--meson" ∷ codes "build" ∷ codes "--ctest" ∷ codes
    "list" ∷ [])
    ≡ asks (tests (record listed { meson = Some (codes "build") }))
unfolding question_of command clap_on_literals
tests_two_lists_row = refl

tests_list_twice_row : question_of (codes "tests" ∷ codes "--meson=a" ∷ codes "--meson=b" ∷ []) ≡ Err unparsed
unfolding question_of command clap_on_literals
tests_list_twice_row = refl

why_row : question_of (codes "why" ∷ codes "a" ∷ codes "b" ∷ [])
    ≡ asks (why (chain (codes "a") (codes "b") false false))
unfolding question_of command clap_on_literals
why_row = refl

-- ---- their options

affected_options_row : question_of (codes "affected" ∷ codes "--source-dir" ∷ codes ".." ∷ codes "--rule" ∷
    codes "cc" ∷ codes "--prefix" ∷ codes "bin/" ∷ codes "--rule=ld" ∷ codes "--no-phony" ∷ codes
    "--ignore-unknown" ∷ codes "--source-dir=/s" ∷ codes "--allow-empty" ∷ []) ≡ asks (affected (record {
      source_dirs = codes ".." ∷ codes "/s" ∷ [];
      zero_ended = false;
      ignored = [];
      rules = codes "cc" ∷ codes "ld" ∷ [];
      prefix = codes "bin/";
      no_phony = true;
      ignore_unknown = true;
      allow_empty = true;
      since = None;
      bases = [];
    }))
unfolding question_of command clap_on_literals
affected_options_row = refl

since_row : question_of (codes "affected" ∷ codes "--since" ∷ codes "old.keys" ∷ codes "--base=/b" ∷ codes
    "--base" ∷ codes "/s" ∷ []) ≡ asks (affected
    (record changed { since = Some (codes "old.keys"); bases = codes "/b" ∷ codes "/s" ∷ [] }))
unfolding question_of command clap_on_literals
since_row = refl

since_tests_row : question_of (codes "tests" ∷ codes "--since=old.keys" ∷ codes "--base" ∷ codes "/b" ∷ [])
    ≡ asks (tests (record reached
    { change = record changed { since = Some (codes "old.keys"); bases = codes "/b" ∷ [] } }))
unfolding question_of command clap_on_literals
since_tests_row = refl

paths_options_row : question_of (codes "affected" ∷ codes "--ignore" ∷ codes "docs/**" ∷ codes "-z" ∷
    codes "--ignore=*.md" ∷ []) ≡ asks (affected
    (record changed { zero_ended = true; ignored = codes "docs/**" ∷ codes "*.md" ∷ [] }))
unfolding question_of command clap_on_literals
paths_options_row = refl

kinds_row : question_of (codes "audit" ∷ codes "--only" ∷ codes "unused-rule" ∷ codes "--except" ∷ codes
    "unused-pool" ∷ codes "--only" ∷ codes "x" ∷ [])
    ≡ asks (audit (findings (codes "unused-rule" ∷ codes "x" ∷ []) (codes "unused-pool" ∷ []) false false))
unfolding question_of command clap_on_literals
kinds_row = refl

audit_all_row : question_of (codes "audit" ∷ codes "--all" ∷ [])
    ≡ asks (audit (record { all = true; only = []; except = []; json = false; list = false }))
unfolding question_of command clap_on_literals
audit_all_row = refl

audit_flags_row : question_of (codes "audit" ∷ codes "--json" ∷ codes "--list" ∷ [])
    ≡ asks (audit (findings [] [] true true))
unfolding question_of command clap_on_literals
audit_flags_row = refl

draw_options_row : question_of (codes "draw" ∷ codes "app" ∷ codes "--limit" ∷ codes "40" ∷ codes "--inputs" ∷
    codes "3" ∷ codes "--fold" ∷ codes "--affected" ∷ codes "lib" ∷ [])
    ≡ asks (draw (drawn (codes "app" ∷ codes "lib" ∷ []) true true (Some 40) (Some 3)))
unfolding question_of command clap_on_literals
draw_options_row = refl

bases_row : question_of (codes "keys" ∷ codes "--base" ∷ codes "/b" ∷ codes "--base=/a" ∷ codes "--base" ∷
    codes "/b" ∷ []) ≡ asks (keys (keyed (codes "/b" ∷ codes "/a" ∷ codes "/b" ∷ []) None None []))
unfolding question_of command clap_on_literals
bases_row = refl

additions_row : question_of (codes "keys" ∷ codes "--with" ∷ codes "gcc 13" ∷ codes "--with=x=y" ∷ codes
    "--with" ∷
    [] ∷ []) ≡ asks (keys (record (keyed [] None None [])
    { additions = codes "gcc 13" ∷ codes "x=y" ∷ [] ∷ [] }))
unfolding question_of command clap_on_literals
additions_row = refl

addition_files_row : question_of (codes "keys" ∷ codes "--with-file" ∷ codes "cc" ∷ codes "--with=x" ∷ codes
    "--with-file=a=b" ∷ []) ≡ asks (keys (record (keyed [] None None [])
    { additions = codes "x" ∷ []; files = codes "cc" ∷ codes "a=b" ∷ [] }))
unfolding question_of command clap_on_literals
addition_files_row = refl

keys_options_row : question_of (codes "keys" ∷ codes "--take" ∷ codes "5" ∷ codes "--resume" ∷ codes "0.1" ∷
    codes "app" ∷ []) ≡ asks (keys (keyed [] (Some 5) (Some (codes "0.1")) (codes "app" ∷ [])))
unfolding question_of command clap_on_literals
keys_options_row = refl

all_keys_row : question_of (codes "keys" ∷ codes "--all" ∷ codes "--base" ∷ codes "/b" ∷ [])
    ≡ asks (keys (record (keyed (codes "/b" ∷ []) None None []) { all = true }))
unfolding question_of command clap_on_literals
all_keys_row = refl

key_objects_row : question_of (codes "keys" ∷ codes "--json" ∷ codes "app" ∷ [])
    ≡ asks (keys (record (keyed [] None None (codes "app" ∷ [])) { json = true }))
unfolding question_of command clap_on_literals
key_objects_row = refl

tests_options_row : question_of (codes "tests" ∷ codes "--source-dir" ∷ codes ".." ∷ codes "-z" ∷ codes
    "--ctest=list" ∷ codes "--ignore=*.md" ∷ codes "--format=ctest" ∷ codes "--unnamed" ∷ codes "skip" ∷ codes
    "--ignore-unknown" ∷ codes "--allow-empty" ∷ codes "--source-dir=/s" ∷ [])
    ≡ asks (tests (record listed {
      change = record changed {
        source_dirs = codes ".." ∷ codes "/s" ∷ [];
        zero_ended = true;
        ignored = codes "*.md" ∷ [];
        ignore_unknown = true;
        allow_empty = true;
      };
      format = Some (codes "ctest");
      unnamed = Some (codes "skip");
    }))
unfolding question_of command clap_on_literals
tests_options_row = refl

tests_texts_row : question_of (codes "tests" ∷ codes "--ctest" ∷ codes "list" ∷ codes "--why" ∷ codes "--json"
    ∷ [])
    ≡ asks (tests (record listed { why = true; json = true }))
unfolding question_of command clap_on_literals
tests_texts_row = refl

why_options_row : question_of (codes "why" ∷ codes "--validations" ∷ codes "a" ∷ codes "--no-order-only" ∷
    codes "b" ∷ []) ≡ asks (why (chain (codes "a") (codes "b") true true))
unfolding question_of command clap_on_literals
why_options_row = refl

validations_row : question_of (codes "why" ∷ codes "--validations" ∷ codes "a" ∷ codes "b" ∷ [])
    ≡ asks (why (chain (codes "a") (codes "b") true false))
unfolding question_of command clap_on_literals
validations_row = refl

empty_target_row : question_of (codes "keys" ∷ [] ∷ []) ≡ asks (keys (keyed [] None None ([] ∷ [])))
unfolding question_of command clap_on_literals
empty_target_row = refl

-- ---- the graph

graph_row : question_of (codes "json" ∷ codes "-C" ∷ codes "build" ∷ codes "-f" ∷ codes "a.ninja" ∷ codes
    "--dyndep" ∷ codes "--deps" ∷ codes "--deps-log-file" ∷ codes "log" ∷ []) ≡ Ok (record {
      folder = Some (codes "build");
      graph = record { file = codes "a.ninja"; dyndep = true; deps = true; log = Some (codes "log") };
      subject = json;
    })
unfolding question_of command clap_on_literals
graph_row = refl

attached_row : question_of (codes "json" ∷ codes "-Cbuild" ∷ codes "-f=a.ninja" ∷ []) ≡ Ok (record {
  folder = Some (codes "build");
  graph = record plain { file = codes "a.ninja" };
  subject = json;
})
unfolding question_of command clap_on_literals
attached_row = refl

-- ---- numbers

zeros_row : question_of (codes "keys" ∷ codes "--take=007" ∷ []) ≡ asks (keys (keyed [] (Some 7) None []))
unfolding question_of command clap_on_literals
zeros_row = refl

plus_row : question_of (codes "keys" ∷ codes "--take=+5" ∷ []) ≡ asks (keys (keyed [] (Some 5) None []))
unfolding question_of command clap_on_literals
plus_row = refl

greatest_row : question_of (codes "keys" ∷ codes "--take=18446744073709551615" ∷ [])
    ≡ asks (keys (keyed [] (Some 18446744073709551615) None []))
unfolding question_of command clap_on_literals
greatest_row = refl

too_great_row : question_of (codes "draw" ∷ codes "--limit=18446744073709551616" ∷ []) ≡ Err unparsed
unfolding question_of command clap_on_literals
too_great_row = refl

no_number_row : question_of (codes "keys" ∷ codes "--take" ∷ codes "x" ∷ []) ≡ Err unparsed
unfolding question_of command clap_on_literals
no_number_row = refl

no_digits_row : question_of (codes "draw" ∷ codes "--inputs=" ∷ []) ≡ Err unparsed
unfolding question_of command clap_on_literals
no_digits_row = refl

-- ---- words after `--`

ended_row : question_of (codes "why" ∷ codes "--" ∷ codes "-h" ∷ codes "--help" ∷ [])
    ≡ asks (why (chain (codes "-h") (codes "--help") false false))
unfolding question_of command clap_on_literals
ended_row = refl

ended_twice_row : question_of (codes "draw" ∷ codes "--" ∷ codes "--" ∷ codes "json" ∷ [])
    ≡ asks (draw (drawn (codes "--" ∷ codes "json" ∷ []) false false None None))
unfolding question_of command clap_on_literals
ended_twice_row = refl

-- ---- the old option

old_value_row : question_of (codes "json" ∷ codes "--deps-log=x" ∷ []) ≡ Err old_option
unfolding question_of command clap_on_literals
old_value_row = refl

old_row : question_of (codes "--deps-log" ∷ []) ≡ Err old_option
unfolding question_of command clap_on_literals
old_row = refl

old_first_row : question_of (codes "json" ∷ codes "--help" ∷ codes "--deps-log" ∷ []) ≡ Err old_option
unfolding question_of command clap_on_literals
old_first_row = refl

old_ended_row : question_of (codes "draw" ∷ codes "--" ∷ codes "--deps-log" ∷ [])
    ≡ asks (draw (drawn (codes "--deps-log" ∷ []) false false None None))
unfolding question_of command clap_on_literals
old_ended_row = refl

-- ---- help and the version

help_row : question_of (codes "--help" ∷ []) ≡ Err shows_help
unfolding question_of command clap_on_literals
help_row = refl

short_help_row : question_of (codes "-h" ∷ []) ≡ Err shows_help
unfolding question_of command clap_on_literals
short_help_row = refl

version_row : question_of (codes "--version" ∷ []) ≡ Err shows_help
unfolding question_of command clap_on_literals
version_row = refl

short_version_row : question_of (codes "-V" ∷ []) ≡ Err shows_help
unfolding question_of command clap_on_literals
short_version_row = refl

subcommand_help_row : question_of (codes "why" ∷ codes "-h" ∷ []) ≡ Err shows_help
unfolding question_of command clap_on_literals
subcommand_help_row = refl

help_first_row : question_of (codes "json" ∷ codes "--help" ∷ codes "--base" ∷ []) ≡ Err shows_help
unfolding question_of command clap_on_literals
help_first_row = refl

help_later_row : question_of (codes "json" ∷ codes "--base" ∷ codes "--help" ∷ []) ≡ Err unparsed
unfolding question_of command clap_on_literals
help_later_row = refl

subcommand_version_row : question_of (codes "json" ∷ codes "--version" ∷ []) ≡ Err unparsed
unfolding question_of command clap_on_literals
subcommand_version_row = refl

help_word_row : question_of (codes "help" ∷ codes "json" ∷ []) ≡ Err unparsed
unfolding question_of command clap_on_literals
help_word_row = refl

-- ---- other arguments

wordless_row : question_of ([]) ≡ Err unparsed
unfolding question_of command clap_on_literals
wordless_row = refl

no_subcommand_row : question_of (codes "graph" ∷ []) ≡ Err unparsed
unfolding question_of command clap_on_literals
no_subcommand_row = refl

early_option_row : question_of (codes "--deps" ∷ codes "json" ∷ []) ≡ Err unparsed
unfolding question_of command clap_on_literals
early_option_row = refl

unknown_row : question_of (codes "json" ∷ codes "--base" ∷ codes "/a" ∷ []) ≡ Err unparsed
unfolding question_of command clap_on_literals
unknown_row = refl

no_value_row : question_of (codes "json" ∷ codes "-f" ∷ []) ≡ Err unparsed
unfolding question_of command clap_on_literals
no_value_row = refl

twice_row : question_of (codes "json" ∷ codes "--deps" ∷ codes "--deps" ∷ []) ≡ Err unparsed
unfolding question_of command clap_on_literals
twice_row = refl

stray_row : question_of (codes "json" ∷ codes "a" ∷ []) ≡ Err unparsed
unfolding question_of command clap_on_literals
stray_row = refl

ruled_row : question_of (codes "tests" ∷ codes "--ctest" ∷ codes "list" ∷ codes "--rule=cc" ∷ [])
    ≡ Err unparsed
unfolding question_of command clap_on_literals
ruled_row = refl

fileless_row : question_of (codes "why" ∷ []) ≡ Err unparsed
unfolding question_of command clap_on_literals
fileless_row = refl

one_file_row : question_of (codes "why" ∷ codes "a" ∷ []) ≡ Err unparsed
unfolding question_of command clap_on_literals
one_file_row = refl

three_files_row : question_of (codes "why" ∷ codes "a" ∷ codes "b" ∷ codes "c" ∷ []) ≡ Err unparsed
unfolding question_of command clap_on_literals
three_files_row = refl

-- The kinds that small command lines select, worked out on the definitions.
use Rattle.std.proofs.Common.{◌≡◌, ℕ, true, false, Some, None, List, [], ◌∷◌, codes, refl}
use Rattle.std.specs.List.{filter}
use Rattle.nj_faults.specs.declared.fault.Place.{Place}
use Rattle.nj_audit.specs.declared.kinds.Kind.{Kind}
use Rattle.nj_audit.specs.declared.kinds.Kind.TheVariants.{UnusedOutput, MissingSource, UnusedRule}
use Rattle.nj_audit.specs.declared.kinds.Kind.TheVariants.{UnusedPool, UnusedVariable, RepeatedCommand}
use Rattle.nj_audit.specs.declared.kinds.Kind.TheVariants.{DepfileWithoutDeps, RepeatedInput, UndeclaredInput}
use Rattle.nj_audit.specs.declared.kinds.Kinds.{Kinds}
use Rattle.nj_audit.specs.Audit.{findings_asked_for}
use Rattle.nj_audit.specs.Findings.{FindingModel}
use Rattle.nj_audit.specs.Kinds.{Selection, all_kinds, first_unknown, is_asked_for}

-- the options with the given values, without `--all`
abbrev values : (only except : List (List ℕ)) → Selection
values only except = record { all = false; only = only; except = except }

-- the kinds that the given values select
abbrev asked : (only except : List (List ℕ)) → List Kind
asked only except = filter (is_asked_for (values only except)) all_kinds

no_options : asked [] [] ≡ UndeclaredInput ∷ []
no_options = refl

all : filter (is_asked_for (record { all = true; only = codes "unused-rule" ∷ []; except = [] })) all_kinds
    ≡ all_kinds
all = refl

all_but_one : filter (is_asked_for (record { all = true; only = []; except = codes "undeclared-input" ∷ [] }))
    all_kinds
    ≡ UnusedOutput ∷ MissingSource ∷ UnusedRule ∷ UnusedPool ∷ UnusedVariable ∷ RepeatedCommand
    ∷ DepfileWithoutDeps ∷ RepeatedInput ∷ []
all_but_one = refl

only_one : asked (codes "unused-rule" ∷ []) [] ≡ UnusedRule ∷ []
only_one = refl

-- in the order of the kinds, and once each
only_three : asked (codes "repeated-input" ∷ codes "missing-source" ∷ codes "repeated-input" ∷ codes
    "unused-output" ∷ []) []
    ≡ UnusedOutput ∷ MissingSource ∷ RepeatedInput ∷ []
only_three = refl

only_except_itself : asked (codes "unused-rule" ∷ []) (codes "unused-rule" ∷ []) ≡ []
only_except_itself = refl

except_one : asked [] (codes "undeclared-input" ∷ []) ≡ []
except_one = refl

-- a kind that is not selected need not be excepted
except_others : asked [] (codes "unused-pool" ∷ codes "unused-variable" ∷ []) ≡ asked [] []
except_others = refl

only_and_except : asked (codes "unused-pool" ∷ codes "unused-rule" ∷ [])
    (codes "unused-pool" ∷ codes "missing-source" ∷ []) ≡ UnusedRule ∷ []
only_and_except = refl

-- ---- words that do not name a kind

known : first_unknown (values (codes "unused-output" ∷ codes "unused-variable" ∷ [])
    (codes "depfile-without-deps" ∷ [])) ≡ None
known = refl

first_of_two : first_unknown (values (codes "unused-rule" ∷ []) (codes "unused rule" ∷ codes "unused" ∷ []))
    ≡ Some (codes "unused rule")
first_of_two = refl

only_before_except : first_unknown (values ([] ∷ []) (codes "unused" ∷ [])) ≡ Some []
only_before_except = refl

-- ---- findings

abbrev only_rules : Kinds
only_rules = record {
  unused_output = false;
  missing_source = false;
  unused_rule = true;
  unused_pool = false;
  unused_variable = false;
  repeated_command = false;
  depfile_without_deps = false;
  repeated_input = false;
  undeclared_input = false;
}

abbrev finding : Place → Kind → FindingModel
finding place kind = record { place = place; kind = kind; name = codes "a" }

filtered : (p q : Place) → findings_asked_for only_rules
    (finding p UnusedOutput ∷ finding p UnusedRule ∷ finding q UnusedPool ∷ finding q UnusedRule ∷ [])
    ≡ finding p UnusedRule ∷ finding q UnusedRule ∷ []
filtered p q = refl

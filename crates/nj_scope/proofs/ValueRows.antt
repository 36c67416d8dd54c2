-- Small lists of statements, worked out on the definitions.
use Rattle.std.proofs.Common.{false, ◌≡◌, ℕ, List, [], ◌∷◌, Some, None, true, refl}
use Rattle.std.specs.Prelude.{codes, reverse, Option, option_and_then, slice_get}
use Rattle.nj_text.specs.Units.{first_spot}
use Rattle.nj_text.specs.Words.{PartModel, Text, Name, WordModel}
use Rattle.nj_manifest.specs.Statements.{BindingModel, RuleModel, PoolModel, DefaultModel, SubninjaModel}
use Rattle.nj_scope.specs.ReadingList.{ReadStatement, bounds, value_after, rules, rule_in_force, rules_read}
use Rattle.nj_scope.specs.ReadingList.{pools, scopes_opened, files_opened}
use Rattle.nj_scope.specs.Pools.{is_pool}
use Rattle.nj_scope.specs.Rules as kept
use Rattle.nj_scope.specs.Rules.{phony_rule, rule_names}

-- the rule that is in force under a name
abbrev rule_text_in_force : List ReadStatement → (scope name : List ℕ) → Option kept.RuleModel
rule_text_in_force entries scope name =
    option_and_then (slice_get (rules_read entries)) (rule_in_force entries scope name)

abbrev main : List ℕ
main = 0 ∷ []

abbrev child : List ℕ
child = 1 ∷ 0 ∷ []

-- a word, whose place does not matter here
abbrev word : List PartModel → WordModel
word parts = record { spot = first_spot; parts = parts }

-- where the statements are; their spots do not matter here
abbrev at_main : ReadStatement
at_main = record {
  file = codes "build.ninja";
  spot = first_spot;
  depth = 0;
  scope = 0;
  around = [];
  item =
      DefaultModel [];
  was_joined = false;
  discovered = None;
}

abbrev at_child : ReadStatement
at_child = record {
  file = codes "s";
  spot = first_spot;
  depth = 1;
  scope = 1;
  around = 0 ∷ [];
  item =
      DefaultModel [];
  was_joined = false;
  discovered = None;
}

-- x = 1, y = a$x, x = 2: a value expands at once
abbrev at_once : List ReadStatement
at_once =
    reverse
    (record at_main { item = BindingModel (codes "x") (word (Text (codes "1") ∷ [])) }
    ∷ record at_main { item = BindingModel (codes "y") (word (Text (codes "a") ∷ Name (codes "x") ∷ [])) }
    ∷ record at_main { item = BindingModel (codes "x") (word (Text (codes "2") ∷ [])) } ∷ [])

early : value_after at_once main (codes "y") ≡ codes "a1"
unfolding bounds
early = refl

late : value_after at_once main (codes "x") ≡ codes "2"
unfolding bounds
late = refl

unknown : value_after at_once main (codes "z") ≡ []
unfolding bounds
unknown = refl

-- x = p, subninja s, and there x = c$x: the child shadows, and its parent stays
abbrev shadowed : List ReadStatement
shadowed =
    reverse
    (record at_main { item = BindingModel (codes "x") (word (Text (codes "p") ∷ [])) }
    ∷ record at_main { item = SubninjaModel (word (Text (codes "s") ∷ [])) }
    ∷ record at_child { item = BindingModel (codes "x") (word (Text (codes "c") ∷ Name (codes "x") ∷ [])) }
    ∷ record at_child { item = RuleModel (record { spot = first_spot; name = codes "r" }) [] }
    ∷ record at_child { item = PoolModel (record { spot = first_spot; name = codes "p" }) [] } ∷ [])

in_child : value_after shadowed child (codes "x") ≡ codes "cp"
unfolding bounds
in_child = refl

in_parent : value_after shadowed main (codes "x") ≡ codes "p"
unfolding bounds
in_parent = refl

opened : scopes_opened shadowed ≡ 2
opened = refl

files : files_opened shadowed ≡ 2
files = refl

rule_of_child : rules shadowed 1 (codes "r") ≡ Some 1
rule_of_child = refl

rule_of_parent : rules shadowed 0 (codes "r") ≡ None
rule_of_parent = refl

in_force_in_child : rule_in_force shadowed child (codes "r") ≡ Some 1
in_force_in_child = refl

in_force_in_parent : rule_in_force shadowed main (codes "r") ≡ None
in_force_in_parent = refl

phony_in_child : rule_text_in_force shadowed child (codes "phony") ≡ Some phony_rule
phony_in_child = refl

all_rules : rules_read shadowed ≡ phony_rule ∷ record { scope = 1; name = codes "r"; lines = [] } ∷ []
all_rules = refl

names_of_child : rule_names (rules_read shadowed) 1 ≡ codes "r" ∷ []
names_of_child = refl

names_of_parent : rule_names (rules_read shadowed) 0 ≡ codes "phony" ∷ []
names_of_parent = refl

pool_of_all : is_pool (pools shadowed) (codes "p") ≡ true
pool_of_all = refl

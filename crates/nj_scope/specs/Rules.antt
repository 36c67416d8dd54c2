-- Rules as they were declared.
use Rattle.std.specs.Prelude.{ℕ, ◌==◌, Option, List, [], map, option_map, codes}
use Rattle.std.specs.List.{filter}
use Rattle.nj_text.specs.Words.{PartModel}
use Rattle.nj_manifest.specs.Statements.{LineModel, last_line}

-- a line of a rule's block, without its place
pub record RuleLineModel : Type 0 where
  pub key : List ℕ
  pub value : List PartModel

-- a rule: the number of the scope that declares it, its name, and its lines
pub record RuleModel : Type 0 where
  pub scope : ℕ
  pub name : List ℕ
  pub lines : List RuleLineModel

-- the line as the manifest has it
abbrev pub line_kept : LineModel → RuleLineModel
line_kept l = record { key = l.name; value = l.value.parts }

-- the rule `phony`, which always exists; it has no lines
abbrev pub phony : List ℕ
phony = codes "phony"

-- the built-in rule `phony`
abbrev pub phony_rule : RuleModel
phony_rule = record { scope = 0; name = phony; lines = [] }

-- the rules of a scope itself; `phony` is of the main file's
abbrev pub rules_in : List RuleModel → (scope : ℕ) → List RuleModel
rules_in rules scope = filter (λ r. scope == r.scope) rules

-- their names
abbrev pub rule_names : List RuleModel → (scope : ℕ) → List (List ℕ)
rule_names rules scope = map (λ r. r.name) (rules_in rules scope)

-- the value of the last line of this key
abbrev pub given : List RuleLineModel → (key : List ℕ) → Option (List PartModel)
given lines key = option_map (λ l. l.value) (last_line (λ l. l.key) lines key)

-- The output of `rules`.
use Rattle.std.specs.Prelude.{ℕ, Bool, ◌&&◌, if◌then◌else◌, List, [], ◌++◌, flat_map, codes}
use Rattle.nj_scope.specs.Rules.{RuleModel}
use Rattle.nj_scope.specs.ReadingList.{ReadStatement, rules_read}
use Rattle.nj_graph.specs.Graph.{main_rules_of, has_description, description_text}
use Rattle.nj_tools.specs.Lines.{line}

-- `NAME`, or `NAME: TEXT` if descriptions are requested and the rule has a description; the text is not expanded
abbrev pub rule_line : (descriptions : Bool) → RuleModel → List ℕ
rule_line descriptions rule =
    line (rule.name ++ (if descriptions && has_description rule then codes ": " ++ description_text rule else []))

-- the rules of the main file's scope, by name
abbrev pub rules_text : List ReadStatement → (descriptions : Bool) → List ℕ
rules_text entries descriptions = flat_map (rule_line descriptions) (main_rules_of (rules_read entries))

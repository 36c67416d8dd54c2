-- Rules that are new where they are declared.
use Rattle.std.specs.Prelude.{◌≡◌, ℕ, false, List, [], ◌∷◌}
use Rattle.nj_manifest.specs.Statements.{StatementModel, RuleModel}
use Rattle.nj_scope.specs.ReadingList.{ReadStatement, rules, is_declared}

-- A rule is new if its scope does not declare a rule of its name yet; a rule called `phony` is never new.
abbrev pub RuleIsNew : List ReadStatement → (number : ℕ) → StatementModel → Type 0
RuleIsNew before number (RuleModel name lines) = is_declared (rules before number name.name) name.name ≡ false
RuleIsNew before number item = Unit {0}

-- each rule was new as it was declared
abbrev pub EachRuleIsNew : List ReadStatement → Type 0
EachRuleIsNew [] = Unit {0}
EachRuleIsNew (e ∷ before) = RuleIsNew before e.scope e.item × EachRuleIsNew before

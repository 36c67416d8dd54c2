-- The references of rules in memory. Nothing here has to be believed.
use Rattle.std.specs.Prelude.{◌≡◌, ℕ, List}
use Rattle.nj_scope.specs.Rules.{RuleModel}
use Rattle.nj_graph.specs.Edges.{is_among}
use Rattle.nj_audit.specs.Audit.{references_of}

-- names are those to which the lines of a rule refer, in any order
abbrev pub HasReferences : (names : List (List ℕ)) → RuleModel → Type 0
HasReferences names rule =
    (name : List ℕ) → is_among names name ≡ is_among (references_of rule) name

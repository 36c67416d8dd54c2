-- All findings, kind by kind. Nothing here has to be believed.
use Rattle.std.specs.Prelude.{Bool, if◌then◌else◌, List, []}
use Rattle.nj_scope.specs.ReadingList.{ReadStatement}
use Rattle.nj_graph.specs.Graph.{GraphModel}
use Rattle.nj_audit.specs.Findings.{FindingModel}
use Rattle.nj_audit.specs.Audit.{unused_outputs, missing_sources, unused_rules}
use Rattle.nj_audit.specs.Audit.{unused_pools, unused_variables, repeated_commands}
use Rattle.nj_audit.specs.Audit.{depfiles_without_deps, repeated_inputs}
use Rattle.nj_audit.specs.Kinds.{contains}
use Rattle.nj_audit.specs.declared.kinds.Kinds.{Kinds}
use Rattle.nj_audit.specs.declared.kinds.Kind.{Kind}
use Rattle.nj_audit.specs.declared.kinds.Kind.TheVariants.{UnusedOutput, MissingSource}
use Rattle.nj_audit.specs.declared.kinds.Kind.TheVariants.{UnusedRule, UnusedPool}
use Rattle.nj_audit.specs.declared.kinds.Kind.TheVariants.{UnusedVariable, RepeatedCommand}
use Rattle.nj_audit.specs.declared.kinds.Kind.TheVariants.{DepfileWithoutDeps, RepeatedInput, UndeclaredInput}

-- the findings of a kind
abbrev pub findings_of : GraphModel → List ReadStatement → (missing serving : List Bool)
    → (undeclared : List FindingModel) → Kind → List FindingModel
findings_of g entries missing serving undeclared UnusedOutput = unused_outputs g
findings_of g entries missing serving undeclared MissingSource = missing_sources g missing serving
findings_of g entries missing serving undeclared UnusedRule = unused_rules g
findings_of g entries missing serving undeclared UnusedPool = unused_pools g entries
findings_of g entries missing serving undeclared UnusedVariable = unused_variables g entries
findings_of g entries missing serving undeclared RepeatedCommand = repeated_commands g entries
findings_of g entries missing serving undeclared DepfileWithoutDeps = depfiles_without_deps g entries
findings_of g entries missing serving undeclared RepeatedInput = repeated_inputs g
findings_of g entries missing serving undeclared UndeclaredInput = undeclared

-- the findings of a kind, if it is requested
abbrev pub asked_of : Kinds → (Kind → List FindingModel) → Kind → List FindingModel
asked_of kinds of kind = if contains kinds kind then of kind else []

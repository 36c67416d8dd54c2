-- The findings of an audit.
use Rattle.std.specs.Prelude.{◌≡◌, ℕ, Bool, List}
use Rattle.nj_scope.specs.ReadingList.{ReadStatement}
use Rattle.nj_graph.specs.Graph.{GraphModel, edges_of}
use Rattle.nj_graph.specs.Undeclared.{InputOfEdge}
use Rattle.nj_audit.specs.Audit.{all_findings, findings_asked_for}
use Rattle.nj_audit.specs.Findings.{FindingModel}
use Rattle.nj_audit.specs.Kinds.{contains}
use Rattle.nj_audit.specs.LoggedInputs.{AreFoundIf}
use Rattle.nj_audit.specs.Serving.{AreServing}
use Rattle.nj_audit.specs.declared.kinds.Kind.TheVariants.{UndeclaredInput}
use Rattle.nj_audit.specs.declared.kinds.Kinds.{Kinds}

-- The findings of the given kinds about a manifest. `missing` has for each file whether it is missing, commands name files as seen from the
-- directory, and a deps log names the given inputs that edges do not declare.
pub record IsAudit (g : GraphModel) (entries : List ReadStatement) (missing : List Bool) (folder : List ℕ) (logged : List InputOfEdge)
    (kinds : Kinds) (found : List FindingModel) : Type 0 where
  pub serving : List Bool
  pub are_serving : AreServing (edges_of g) serving
  pub undeclared : List FindingModel
  pub are_undeclared : AreFoundIf (contains kinds UndeclaredInput) g entries folder logged undeclared
  pub finds : found ≡ findings_asked_for kinds (all_findings g entries missing serving undeclared)

-- How the inputs that a deps log names are found besides those that commands name. Nothing here has to be believed.
use Rattle.std.specs.Prelude.{◌≡◌, ℕ, List, ◌++◌, map}
use Rattle.nj_scope.specs.ReadingList.{ReadStatement}
use Rattle.nj_graph.specs.Graph.{GraphModel}
use Rattle.nj_graph.specs.Undeclared.{AreThose, InputOfEdge}
use Rattle.nj_audit.specs.Findings.{FindingModel}
use Rattle.nj_audit.specs.LoggedInputs.{IsLoggedAlone, finding_of_input}

-- the findings about the given inputs that a log alone names come after the other findings
pub record AddsLogged (g : GraphModel) (entries : List ReadStatement) (folder : List ℕ) (logged : List InputOfEdge)
    (old new : List FindingModel) : Type 0 where
  pub others : List InputOfEdge
  pub are_others : AreThose (IsLoggedAlone g entries folder) logged others
  pub found : new ≡ old ++ map (finding_of_input g) others

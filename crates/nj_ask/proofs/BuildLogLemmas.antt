-- What a file at a path says of a build log, and what a question is answered by.
use Rattle.std.specs.Prelude.{◌≡◌, ℕ, List}
use Rattle.std.proofs.Common.{sym, subst}
use Rattle.nj_scope.specs.ReadingList.{ReadStatement}
use Rattle.nj_scope.specs.Sources.{SourceState}
use Rattle.nj_ask.specs.declared.failure.Failure.{Failure}
use Rattle.nj_ask.specs.declared.status.Status.TheVariants.{Fault}
use Rattle.nj_ask.specs.BuildLogs.{LacksBuildLog, build_log_path}
use Rattle.nj_ask.specs.BuildLogs.LacksBuildLog.{unreadable as cannot_be_read, no_log as no_lines}
use Rattle.nj_ask.specs.Inside.BuildLogSteps.{LacksBuildLogAt}
use Rattle.nj_ask.specs.Inside.BuildLogSteps.LacksBuildLogAt.{unreadable, no_log}
use Rattle.nj_ask.specs.Inside.Failures.{FailsBy}
use Rattle.nj_ask.proofs.FailureLemmas.{fails-as}

module _ (entries : List ReadStatement) (before after : SourceState) where
  lacks-lines : (said : List ℕ) → LacksBuildLogAt (build_log_path entries) before after said
      → LacksBuildLog entries before after said
  lacks-lines said (unreadable u) =
      subst (λ l. LacksBuildLog entries before after l) (sym u.line_is) (cannot_be_read u.read u.rises)
  lacks-lines said (no_log reads is line_is) =
      subst (λ l. LacksBuildLog entries before after l) (sym line_is) (no_lines reads is)

  pub fails-lines : (failure : Failure) (path : List ℕ) → path ≡ build_log_path entries
      → FailsBy Fault (LacksBuildLogAt path before after) failure
      → FailsBy Fault (LacksBuildLog entries before after) failure
  fails-lines failure path path_is fails =
      fails-as Fault (LacksBuildLogAt path before after) (LacksBuildLog entries before after) failure
      (λ said lacking. lacks-lines said (subst (λ p. LacksBuildLogAt p before after said) path_is lacking))
      fails

-- The graph of a run that was answered is kept: if the run was not refused, keeping nothing or the graph of
-- other edges
-- violates the contract.
use Rattle.std.proofs.Common.{◌≡◌, inl, inr, Some, None, List}
use Rattle.nj_scope.specs.Readings.{Reading}
use Rattle.nj_graph.specs.Graph.{edges_of}
use Rattle.nj_graph.specs.Loads.{LoadedModel}
use Rattle.nj_requests.specs.Actions.{RequestModel}
use Rattle.nj_cli.specs.Runs.{Around, IsRefused, IsAnswered, RunsAsAndKeeps}
use Rattle.nj_cli.specs.Targets.{edges_by_path}
use Rattle.nj_cli.specs.declared.status.Status.{Status}

module _ (request : RequestModel) (old new : Around) (status : Status)
    (unrefused : (files : List Reading) → ¬ IsRefused request files old new status) where
  pub not_nothing : ¬ RunsAsAndKeeps request old new status None
  not_nothing (files, read, inl (refused, none)) = unrefused files refused
  not_nothing (files, read, inr (answered, keeps)) = keeps

  pub its_edges : (loaded : LoadedModel) → RunsAsAndKeeps request old new status (Some loaded)
      → (files : List Reading) × (answered : IsAnswered request files old new status) × (loaded.files ≡ files)
      × (edges_of loaded.graph ≡ edges_by_path answered.entries)
  its_edges loaded (files, read, inl (refused, none)) = absurd (unrefused files refused)
  its_edges loaded (files, read, inr (answered, (files_are, graph_is))) =
      (files, answered, files_are, graph_is.built.paths)

-- Where an edge of the statements of the main file and of all that it includes needs itself, no other file is
-- read:
-- nothing is joined, and the only fault is that of loading.
use Rattle.std.proofs.Common.{◌≡◌, inl, inr, ℕ, true, Err, List, sym, ap, subst, ◌∙◌}
use Rattle.nj_scope.specs.Readings.{Reading}
use Rattle.nj_scope.specs.Sources.{SourceState}
use Rattle.nj_scope.specs.ReadingList.{ReadStatement}
use Rattle.nj_faults.specs.declared.fault.GraphFault.{GraphFault}
use Rattle.nj_graph.specs.Loads.{LoadedOr, main_reached}
use Rattle.nj_graph.specs.Reading.{ReadingModel, Whole, main_read}
use Rattle.nj_graph.specs.Runs.{IsLacking}
use Rattle.nj_graph.proofs.OtherFiles.{others_are_not_read}
use Rattle.nj_cli.specs.Runs.{ReadsMore, AreStatements, HaveFault}
use Rattle.nj_cli.specs.Targets.{edges_by_path, NoEdgeNeedsItself}

module _ (main : List ℕ) (before after : SourceState) (files : List Reading) (stated : List ReadStatement)
    (read : main_read files main ≡ record { entries = stated; end = Whole })
    (cyclic : ¬ NoEdgeNeedsItself (edges_by_path stated)) where
  -- the statements read first are the given ones: further files make no difference
  stated-are : (more : ReadsMore main before after files) → more.stated ≡ stated
  stated-are more =
      let whole = subst (λ (r : ReadingModel). IsLacking r.end files) (sym more.whole.read) tt in
      let same = others_are_not_read more.read files main (more.adds.readings, more.adds.added) whole in
      ap (λ (r : ReadingModel). r.entries) (sym more.whole.read ∙ sym same ∙ read)

  pub no_more_is_read : ¬ ReadsMore main before after files
  no_more_is_read more = cyclic (subst (λ (es : List ReadStatement). NoEdgeNeedsItself (edges_by_path es))
      (stated-are more) more.acyclic)

  pub nothing_is_joined : (entries : List ReadStatement)
      → ¬ AreStatements main true before after files entries
  nothing_is_joined entries (more, joined) = no_more_is_read more

  pub fault_of_loading : (fault : GraphFault) → HaveFault main true before after files fault
      → LoadedOr before after files (main_reached main) (Err fault)
  fault_of_loading fault (inl loading) = loading
  fault_of_loading fault (inr (more, joining)) = absurd (no_more_is_read more)

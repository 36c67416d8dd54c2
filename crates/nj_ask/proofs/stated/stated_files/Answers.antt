use Rattle.std.proofs.Common.{◌++◌, ap, ◌∙◌}
use Rattle.nj_ask.specs.MissingSources.{stated_edge}
use Rattle.nj_ask.specs.Inside.StaleParts.{named_paths}
use Rattle.nj_ask.proofs.StatedLemmas.{edges-more}
use Rattle.nj_ask.proofs.stated.stated_files.Goals as goal

pub edges-preserved : goal.edges-preserved
edges-preserved c =
    let edge = stated_edge c.args.graph.now.edges c.args.stated.now in
    let n = c.edges.number in
    record {
      paths = c.in_ok-push_stated.ensures.paths
          ∙ ap (λ ps. ps ++ named_paths (edge n)) c.edges.invariant.paths
          ∙ edges-more edge n;
      known = c.in_ok-push_stated.ensures.known;
    }

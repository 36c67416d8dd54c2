use Rattle.nj_changes.specs.FullPaths.{all_sought}
use Rattle.nj_ask.specs.Inside.Lent.{change_model}
use Rattle.nj_ask.specs.Inside.Reached.{sought_by}
use Rattle.nj_ask.specs.Manifest.{opened_paths}
use Rattle.nj_ask.proofs.MeantLemmas.{at-same}
use Rattle.nj_ask.proofs.report.reach_of.Goals as goal

pub reached_by-requires-clause-files : goal.reached_by-requires-clause-files
reached_by-requires-clause-files c =
    let g = c.args.known.now.graph in
    let q = change_model c.args.change in
    record {
      changed = at-same g q.working c.in_ok-sought.sought (all_sought q.working q.folders q.paths)
          c.in_ok-sought.ensures _ c.in_ok-files.ensures.changed;
      opened = at-same g q.working c.in_ok-opened.opened (opened_paths g q.working) c.in_ok-opened.ensures _
          c.in_ok-files.ensures.opened;
    }

pub returns-clause-reach : goal.returns-clause-reach
returns-clause-reach c =
    let g = c.args.known.now.graph in
    let q = change_model c.args.change in
    record {
      sought = c.in_ok-sought.ensures;
      files = at-same g q.working c.in_ok-sought.sought (sought_by q) c.in_ok-sought.ensures _
          c.in_ok-files.ensures.changed;
      touched = c.in_ok-edges.ensures.touched;
    }

use Rattle.nj_ask.specs.Manifest.{opened_paths}
use Rattle.nj_ask.proofs.MeantLemmas.{at-same}
use Rattle.nj_ask.proofs.opened.opened_files.Goals as goal

pub returns : goal.returns
returns c =
    let g = c.args.graph.now in
    let working = c.args.working.now in
    at-same g working c.in_ok-paths.paths (opened_paths g working) c.in_ok-paths.ensures _
    c.in_ok-opened.ensures.opened

use Rattle.nj_audit.proofs.logged_inputs.find_undeclared_inputs.Goals as goal

pub returns : goal.returns
returns c entries graph =
    let adds = c.in_ok-push_logged.ensures entries graph in
    record {
      named = c.in_ok-found.found;
      are_named = c.in_ok-found.ensures entries graph;
      others = adds.others;
      are_others = adds.are_others;
      finds = adds.found;
    }

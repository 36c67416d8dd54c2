use Rattle.nj_keys.specs.Pages.{leads}
use Rattle.nj_ask.proofs.PartLemmas.{lost-mark}
use Rattle.nj_ask.proofs.keys.page_of.Goals as goal

pub returns-in-Ok-clause-page : goal.returns-in-Ok-clause-page
returns-in-Ok-clause-page c entries graph = record {
  valid = c.in-Ok.ensures.valid;
  keys = c.in-Ok.ensures.keys entries graph;
  walk = c.in-Ok.ensures.mark.0;
  begins = c.in-Ok.ensures.mark.1;
  stops = c.in-Ok.ensures.mark.2;
}

pub returns-in-Err-clause-refused : goal.returns-in-Err-clause-refused
returns-in-Err-clause-refused c =
    lost-mark (leads c.args.targets.now c.args.asked.now.mark) c.in-Err.fault c.in-Err.ensures.refused
    c.mark_failure.result c.mark_failure.ensures

use Rattle.nj_deps.proofs.LawLemmas.{each_once}
use Rattle.nj_deps.proofs.laws.each_output_once.Goals as goal

pub returns : goal.returns
returns c = each_once
